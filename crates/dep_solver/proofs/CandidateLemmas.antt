-- The releases that can be chosen, and the greatest of them.
use Rattle.std.proofs.Common.{◌≡◌, MatchBool, Bor, ℕ, suc, ◌+◌, ◌-◌, ◌<◌, ◌≤◌, List, [], ◌∷◌, length, map, get_or, slice_get, Some, Contains, arith, ap, refl, sym, subst, ◌∙◌, inl, inr, Bool, true, false}
use Rattle.std.proofs.lemmas.Option.{same_Some, slice_get_read}
use Rattle.doc_tree.specs.declared.name.Name.{Name}
use Rattle.version_rules.specs.declared.needs.Need.{Need}
use Rattle.version_rules.specs.declared.versions.Version.{Version}
use Rattle.dep_solver.specs.declared.roots.Roots.{Roots}
use Rattle.dep_solver.specs.declared.rules.EnvRules.{EnvRules}
use Rattle.dep_solver.specs.declared.search.Place.{Place}
use Rattle.dep_solver.specs.declared.universe.Release.{Release}
use Rattle.dep_solver.specs.declared.universe.Universe.{Universe}
use Rattle.dep_solver.specs.Names.{CookbookName}
use Rattle.dep_solver.specs.Search.{CanMeet, Fits, Flags, GoesOn, IsChoosable, IsGreatest, MeetsAll, flags_of, is_set, seen}
use Rattle.dep_solver.specs.Solutions.{IsAllowed}
use Rattle.dep_solver.specs.Universes.{releases_in}
use Rattle.dep_solver.proofs.ListLemmas.{contains_map, map_contains}
use Rattle.dep_solver.proofs.OrderLemmas.{three}

module _ (universe : Universe) (rules : EnvRules) (roots : Roots) where
  -- a release that meets the pins and the rules is an allowed version
  pub as_allowed : (name : CookbookName) (releases : List Release) (r : Release) → releases ≡ releases_in universe name → Contains releases r → MeetsAll rules roots name r.version
      → IsAllowed universe rules roots name r.version
  as_allowed name releases r are h all = record {
    released = subst (λ rs. Contains (map (λ (r : Release). r.version) rs) r.version) are (contains_map (λ (r : Release). r.version) releases r h);
    meets_pins = all.meets_pins;
    meets_rules = all.meets_rules;
  }

  pub none_allowed : (name : CookbookName) (releases : List Release) → releases ≡ releases_in universe name → ((r : Release) → Contains releases r → MeetsAll rules roots name r.version → ⊥)
      → (version : Version) → IsAllowed universe rules roots name version → ⊥
  none_allowed name releases are none version allowed =
      let found = map_contains (λ (r : Release). r.version) releases version (subst (λ rs. Contains (map (λ (r : Release). r.version) rs) version) (sym are) allowed.released) in
      none found.0 found.1 (subst (λ v. MeetsAll rules roots name v) (sym found.2) (record { meets_pins = allowed.meets_pins; meets_rules = allowed.meets_rules }))

  pub can_meet : (dead : Flags) (need : Need) (releases : List Release) (flags : List Bool) (k : ℕ) (r : Release) → releases ≡ releases_in universe need.name → flags ≡ flags_of universe.cookbooks dead need.name
      → slice_get releases k ≡ Some r → (is_set flags k ≡ false) × IsChoosable rules roots need r.version → CanMeet universe rules roots dead need
  can_meet dead need releases flags k r are set stands open' = record {
    index = k;
    release = r;
    stands = ap (λ rs. slice_get rs k) (sym are) ∙ stands;
    alive = ap (λ fs. is_set fs k) (sym set) ∙ open'.0;
    choosable = open'.1;
  }

  pub cannot_meet : (dead : Flags) (need : Need) (releases : List Release) (flags : List Bool) → releases ≡ releases_in universe need.name → flags ≡ flags_of universe.cookbooks dead need.name
      → ((k : ℕ) (r : Release) → slice_get releases k ≡ Some r → (is_set flags k ≡ false) × IsChoosable rules roots need r.version → ⊥) → CanMeet universe rules roots dead need → ⊥
  cannot_meet dead need releases flags are set none can =
      none can.index can.release (ap (λ rs. slice_get rs can.index) are ∙ can.stands) (ap (λ fs. is_set fs can.index) set ∙ can.alive, can.choosable)

module _ {A : Type 0} (P : A → Type 0) (xs : List A) (given_up : ℕ) where
  -- of the last so many, P holds of none but of those that were given up
  pub record HasTried (tried : ℕ) : Type 0 where
    pub low : given_up ≤ tried
    pub none : (index : ℕ) (x : A) → index + given_up < length xs → length xs ≤ index + tried → slice_get xs index ≡ Some x → P x → ⊥

  pub tried_none : HasTried given_up
  tried_none = record { low = omega arith; none = λ index x below above e p. absurd (omega arith) }

  pub tried_more : (tried index : ℕ) (x : A) → HasTried tried → index + (tried + 1) ≡ length xs → slice_get xs index ≡ Some x → (P x → ⊥) → HasTried (tried + 1)
  tried_more tried index x before at stands not = record {
    low = omega (arith, before.low);
    none = λ i y below above e p. elim (three i index) [
      | inl h ↦ absurd (omega arith)
      | inr h ↦ elim h [
        | inl same ↦ not (subst P (same_Some y x (sym e ∙ ap (slice_get xs) same ∙ stands)) p)
        | inr g ↦ before.none i y below (omega arith) e p
      ]
    ];
  }

-- what is said of both cases of a test, where it is known which it is
pub yes_says : (P Q : Type 0) (b : Bool) → b ≡ true → MatchBool b P Q → P
yes_says P Q b e m = subst (λ b. MatchBool b P Q) e m

pub no_says : (P Q : Type 0) (b : Bool) → b ≡ false → MatchBool b P Q → Q
no_says P Q b e m = subst (λ b. MatchBool b P Q) e m

pub seen_long : (names : List (Bor Name)) → length names ≡ length (seen names)
seen_long [] = refl
seen_long (n ∷ names) = ap suc (seen_long names)

-- of those that were not tried, the last one
module _ (universe : Universe) (rules : EnvRules) (roots : Roots) (dead : Flags) (places : List Place) (name : CookbookName) where
  pub greatest_here : (releases own : List Release) (given_up reached tried : ℕ) (place : Place) → HasTried (GoesOn universe rules roots dead places name) releases given_up tried → tried < length releases → releases ≡ own
      → place.release.now ≡ get_or releases (length releases - 1 - tried) place.release.now → Fits universe rules roots dead places name place.release.now → place.name.now ≡ name → place.tried ≡ tried + 1 → place.reached ≡ reached
      → IsGreatest universe rules roots dead places name own given_up reached place
  greatest_here releases own given_up reached tried place before within are is fits named counted at =
      subst (λ (rs : List Release). IsGreatest universe rules roots dead places name rs given_up reached place) are
      (record {
        of_name = named;
        before = at;
        fits = fits;
        index = length releases - 1 - tried;
        stands = slice_get_read releases (length releases) (length releases - 1 - tried) place.release.now refl (omega (arith, within)) is;
        counted = omega (arith, within, counted);
        left = omega (arith, within, before.low);
        greater = λ other r after below e. before.none other r below (omega (arith, within, after)) e;
      })
