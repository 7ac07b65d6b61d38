-- The releases of a name: their versions rise, so a version is that of one release.
use Rattle.std.proofs.Common.{◌≡◌, ℕ, zero, suc, ◌<◌, Bool, true, false, cond, List, [], ◌∷◌, length, map, get_or, slice_get, find, option_map, Option, Some, None, Contains, Less, arith, ap, refl, sym, subst, ◌∙◌, inl, inr, true≢false}
use Rattle.std.proofs.lemmas.Map.Keys.{Less-from_sorted, sorted_head, sorted_tail}
use Rattle.std.proofs.lemmas.Option.{none-some, same_Some, slice_get-map, slice_get_within, get_or_from_slice_get}
use Rattle.std.proofs.lemmas.List.{length-map}
use Rattle.std.specs.List.{AllByRecursion}
use Rattle.std.specs.List.Sorted.{IsStrictlySortedBy}
use Rattle.version_rules.specs.declared.versions.Version.{Version}
use Rattle.version_rules.specs.Order.{IsBelow, version_cmp}
use Rattle.dep_solver.specs.declared.universe.Cookbook.{Cookbook}
use Rattle.dep_solver.specs.declared.universe.Release.{Release}
use Rattle.dep_solver.specs.declared.universe.Universe.{Universe}
use Rattle.dep_solver.specs.Names.{CookbookName}
use Rattle.dep_solver.specs.Universes.{cookbook_in, needs_in, needs_of, releases_in, releases_of, same_version}
use Rattle.dep_solver.proofs.ListLemmas.{at_contains, map_contains}
use Rattle.dep_solver.proofs.OrderLemmas.{three}
use Rattle.dep_solver.proofs.VersionLemmas.{below_both, below_from_less, not_below_itself, same_version_itself, version_from_same}

rises_of : (found : Option Cookbook) → IsStrictlySortedBy version_cmp (map (λ (r : Release). r.version) (releases_of found))
unfolding IsStrictlySortedBy
rises_of None = tt
rises_of (Some cookbook) = cookbook.rising

-- the versions of a name's releases rise
pub rises : (universe : Universe) (name : CookbookName) → IsStrictlySortedBy version_cmp (map (λ (r : Release). r.version) (releases_in universe name))
rises universe name = rises_of (cookbook_in universe name)

-- two versions of which one is below the other aren't the same
apart_from_less : (v w : Version) → version_cmp v w ≡ Less → same_version v w ≡ true → ⊥
apart_from_less v w less same = not_below_itself w (subst (λ z. IsBelow z w) (version_from_same v w same) (below_from_less v w less))

all_at : (P : Release → Type 0) (releases : List Release) (k : ℕ) (release : Release) → AllByRecursion P releases → slice_get releases k ≡ Some release → P release
all_at P [] k release h e = absurd (none-some release e)
all_at P (r ∷ releases) zero release h e = subst P (same_Some r release e) h.0
all_at P (r ∷ releases) (suc k) release h e = all_at P releases k release h.1 e

all_mapped : (P : Version → Type 0) (releases : List Release) → AllByRecursion P (map (λ (r : Release). r.version) releases) → AllByRecursion (λ (r : Release). P r.version) releases
all_mapped P [] h = tt
all_mapped P (r ∷ releases) h = (h.0, all_mapped P releases h.1)

find_step : (r release : Release) (rest : Option Release) (b : Bool) → b ≡ false → rest ≡ Some release → cond b (Some r) rest ≡ Some release
find_step r release rest true off e = absurd (true≢false off)
find_step r release rest false off e = e

-- where versions rise, a release is found by its version
pub found_version : (releases : List Release) (k : ℕ) (release : Release) → IsStrictlySortedBy version_cmp (map (λ (r : Release). r.version) releases)
    → slice_get releases k ≡ Some release → find (λ (r : Release). same_version r.version release.version) releases ≡ Some release
found_version [] k release up e = absurd (none-some release e)
found_version (r ∷ releases) zero release up e =
    let same : r ≡ release = same_Some r release e in
    ap (λ b. cond b (Some r) (find (λ (x : Release). same_version x.version release.version) releases))
    (subst (λ (z : Release). same_version r.version z.version ≡ true) same (same_version_itself r.version))
    ∙ ap Some same
found_version (r ∷ releases) (suc k) release up e =
    let less = all_at (λ (x : Release). version_cmp r.version x.version ≡ Less) releases k release
    (all_mapped (λ v. version_cmp r.version v ≡ Less) releases (sorted_head version_cmp r.version (map (λ (x : Release). x.version) releases) up)) e in
    let rest = found_version releases k release (sorted_tail version_cmp r.version (map (λ (x : Release). x.version) releases) up) e in
    by (same_version r.version release.version) refl less rest
  where
    by : (b : Bool) → same_version r.version release.version ≡ b → version_cmp r.version release.version ≡ Less
        → find (λ (x : Release). same_version x.version release.version) releases ≡ Some release
        → cond (same_version r.version release.version) (Some r) (find (λ (x : Release). same_version x.version release.version) releases) ≡ Some release
    by true is less rest = absurd (apart_from_less r.version release.version less is)
    by false is less rest = find_step r release _ _ is rest

-- what a release needs is what its version needs
pub needs_at : (universe : Universe) (name : CookbookName) (k : ℕ) (release : Release) → slice_get (releases_in universe name) k ≡ Some release → needs_in universe name release.version ≡ release.needs
needs_at universe name k release e = ap needs_of (found_version (releases_in universe name) k release (rises universe name) e)

-- earlier releases have lower versions
pub stands_before : (universe : Universe) (name : CookbookName) (i j : ℕ) (one other : Release) → slice_get (releases_in universe name) i ≡ Some one → slice_get (releases_in universe name) j ≡ Some other
    → i < j → IsBelow one.version other.version
stands_before universe name i j one other a b h =
    let releases = releases_in universe name in
    let versions = map (λ (r : Release). r.version) releases in
    let within : j < length versions = omega (arith, length-map releases (λ (r : Release). r.version), slice_get_within releases j other b) in
    let at : (k : ℕ) (r : Release) → slice_get releases k ≡ Some r → get_or versions k one.version ≡ r.version =
    λ k r e. get_or_from_slice_get versions k r.version one.version (slice_get-map (λ (x : Release). x.version) releases k ∙ ap (option_map (λ (x : Release). x.version)) e) in
    below_from_less one.version other.version
    (sym (ap (λ v. version_cmp v other.version) (at i one a)) ∙ sym (ap (λ w. version_cmp (get_or versions i one.version) w) (at j other b))
    ∙ Less-from_sorted version_cmp versions i j one.version (rises universe name) h within)

-- a release of a lower version stands earlier
pub before_from_below : (universe : Universe) (name : CookbookName) (i j : ℕ) (one other : Release) → slice_get (releases_in universe name) i ≡ Some one → slice_get (releases_in universe name) j ≡ Some other
    → IsBelow one.version other.version → i < j
before_from_below universe name i j one other a b below = elim (three i j) [
  | inl h ↦ h
  | inr h ↦ elim h [
    | inl e ↦ absurd (not_below_itself other.version (subst (λ (z : Release). IsBelow z.version other.version) (same_Some one other (sym a ∙ ap (slice_get (releases_in universe name)) e ∙ b)) below))
    | inr g ↦ absurd (below_both one.version other.version below (stands_before universe name j i other one b a g))
  ]
]

-- a release of a name at an index
pub record IsReleaseAt (universe : Universe) (name : CookbookName) (index : ℕ) (version : Version) : Type 0 where
  pub release : Release
  pub stands : slice_get (releases_in universe name) index ≡ Some release
  pub is : release.version ≡ version

pub released_at : (universe : Universe) (name : CookbookName) (version : Version) → Contains (map (λ (r : Release). r.version) (releases_in universe name)) version → (index : ℕ) × IsReleaseAt universe name index version
released_at universe name version h =
    let found = map_contains (λ (r : Release). r.version) (releases_in universe name) version h in
    let at = at_contains (releases_in universe name) found.0 found.1 in
    (at.0, record { release = found.0; stands = at.1; is = found.2 })
