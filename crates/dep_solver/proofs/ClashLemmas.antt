-- The conflicts that are known from the start.
use Rattle.std.proofs.Common.{◌≡◌, ℕ, suc, ◌-◌, ◌^◌, ◌<◌, min, Bool, true, false, cond, List, [], ◌∷◌, length, map, get_or, slice_get, Option, Some, None, Contains, arith, ap, refl, sym, subst, ◌∙◌, inl, inr, true≢false, bit_and, bit_or}
use Rattle.std.proofs.lemmas.Option.{slice_get-get_or, slice_get_within}
use Rattle.std.specs.Int.{bit_at}
use Rattle.std.specs.FinMap as finite
use Rattle.version_rules.specs.declared.needs.Need.{Need}
use Rattle.version_rules.specs.declared.versions.Version.{Version}
use Rattle.version_rules.specs.Meets.{Meets}
use Rattle.dep_solver.specs.declared.conflicts.Term.{Term}
use Rattle.dep_solver.specs.declared.roots.Roots.{Roots}
use Rattle.dep_solver.specs.declared.rules.EnvRules.{EnvRules}
use Rattle.dep_solver.specs.declared.universe.Cookbook.{Cookbook}
use Rattle.dep_solver.specs.declared.universe.Release.{Release}
use Rattle.dep_solver.specs.declared.universe.Universe.{Universe}
use Rattle.dep_solver.specs.Conflicts.{AreClash, AreFitting, AreReleased, Clashes, HasAll, IsAt, IsConflict, IsMask, IsRuledOut, Leaves, MeetsAt}
use Rattle.dep_solver.specs.Names.{CookbookName}
use Rattle.dep_solver.specs.Search.{AreNeverChosen, Fits, Flags, Zips}
use Rattle.dep_solver.specs.Solutions.{Choice, IsSolution}
use Rattle.dep_solver.specs.Universes.{releases_in, same_version}
use Rattle.dep_solver.specs.Values.{index_of, value_at, value_in, value_of}
use Rattle.std.proofs.lemmas.Nat.Bits.{bit_at-pow_other, bit_at-zero, bit_at_and, bit_at_not, bit_at_ones}
use Rattle.std.specs.Int.{bit_not, w64}
use Rattle.dep_solver.specs.Universes.{releases_of}
use Rattle.dep_solver.proofs.FindLemmas.{find_at}
use Rattle.dep_solver.proofs.ConflictLemmas.{either_bit, value_at-below}
use Rattle.dep_solver.proofs.ListLemmas.{here, in_tail, map_contains, nowhere, there}
use Rattle.dep_solver.proofs.ReleaseLemmas.{needs_at}
use Rattle.dep_solver.proofs.SearchLemmas.{solution_fits, some_of}
use Rattle.dep_solver.proofs.VersionLemmas.{same_version_itself, version_from_same}

-- ---- the index of a version

-- a release of the version stands at its index
pub record IsFound (releases : List Release) (version : Version) : Type 0 where
  pub release : Release
  pub stands : slice_get releases (index_of releases version) ≡ Some release
  pub is : release.version ≡ version

pub index_found : (releases : List Release) (r : Release) → Contains releases r → IsFound releases r.version
index_found [] r h = absurd (nowhere r h)
index_found (x ∷ releases) r h = by (same_version x.version r.version) refl (index_found releases r)
  where
    at : ℕ → (b : Bool) → Option Release
    at n b = slice_get (x ∷ releases) (cond b 0 (suc n))

    by : (b : Bool) → same_version x.version r.version ≡ b → (Contains releases r → IsFound releases r.version) → IsFound (x ∷ releases) r.version
    by true is rest = record { release = x; stands = ap (at (index_of releases r.version)) is; is = version_from_same x.version r.version is }
    by false is rest = elim (in_tail x releases r h) [
      | inl e ↦ absurd (true≢false (sym (subst (λ (z : Release). same_version x.version z.version ≡ true) e (same_version_itself x.version)) ∙ is))
      | inr t ↦
          let found = rest t in
          record { release = found.release; stands = ap (at (index_of releases r.version)) is ∙ found.stands; is = found.is }
    ]

-- ---- the value that a choice has

module _ (universe : Universe) where
  own_releases : (index : ℕ) (cookbook : Cookbook) → slice_get universe.cookbooks index ≡ Some cookbook → releases_in universe cookbook.name ≡ cookbook.releases
  own_releases index cookbook at = ap releases_of (find_at universe.cookbooks index cookbook universe.in_order at)

  chosen_value : (choice : Choice) (index : ℕ) (cookbook : Cookbook) (version : Version) → slice_get universe.cookbooks index ≡ Some cookbook → finite.get choice cookbook.name ≡ Some version
      → value_at universe choice index ≡ min (length cookbook.releases - index_of cookbook.releases version) 63
  chosen_value choice index cookbook version at is = ap (value_in choice) at ∙ ap (value_of cookbook.releases) is

  absent_value : (choice : Choice) (index : ℕ) (cookbook : Cookbook) → slice_get universe.cookbooks index ≡ Some cookbook → finite.get choice cookbook.name ≡ None → value_at universe choice index ≡ 0
  absent_value choice index cookbook at is = ap (value_in choice) at ∙ ap (value_of cookbook.releases) is

  -- a release of the cookbook is chosen
  pub record IsChosenAt (choice : Choice) (index : ℕ) (cookbook : Cookbook) (version : Version) : Type 0 where
    pub found : IsFound cookbook.releases version
    pub has : finite.get choice cookbook.name ≡ Some found.release.version
    pub value : value_at universe choice index ≡ min (length cookbook.releases - index_of cookbook.releases version) 63

  chosen_at : (choice : Choice) (index : ℕ) (cookbook : Cookbook) (version : Version) → slice_get universe.cookbooks index ≡ Some cookbook → AreReleased universe choice → finite.get choice cookbook.name ≡ Some version
      → IsChosenAt choice index cookbook version
  chosen_at choice index cookbook version at released is =
      let in' : Contains (map (λ (r : Release). r.version) cookbook.releases) version =
      subst (λ (rs : List Release). Contains (map (λ (r : Release). r.version) rs) version) (own_releases index cookbook at) (released cookbook.name version is) in
      let one = map_contains (λ (r : Release). r.version) cookbook.releases version in' in
      let found : IsFound cookbook.releases version = subst (λ v. IsFound cookbook.releases v) one.2 (index_found cookbook.releases one.0 one.1) in
      record { found = found; has = is ∙ ap Some (sym found.is); value = chosen_value choice index cookbook version at is }

  -- the values of a cookbook where it isn't chosen, and where each release of it has one of them
  value_cases : (choice : Choice) (index : ℕ) (cookbook : Cookbook) (P : ℕ → Type 0) → slice_get universe.cookbooks index ≡ Some cookbook → P 0
      → ((version : Version) → finite.get choice cookbook.name ≡ Some version → P (min (length cookbook.releases - index_of cookbook.releases version) 63)) → P (value_at universe choice index)
  value_cases choice index cookbook P at none some = by (finite.get choice cookbook.name) refl
    where
      by : (o : Option Version) → finite.get choice cookbook.name ≡ o → P (value_at universe choice index)
      by None is = subst P (sym (absent_value choice index cookbook at is)) none
      by (Some version) is = subst P (sym (chosen_value choice index cookbook version at is)) (some version is)

  -- ---- masks

  pub all_ones : (choice : Choice) (index : ℕ) → bit_at 18446744073709551615 (value_at universe choice index) ≡ 1
  all_ones choice index = bit_at_ones 64 (value_at universe choice index) (value_at-below universe choice index)

  pub met_mask : (other : ℕ) (cookbook : Cookbook) (release : Release) (need : Need) (values : ℕ) → slice_get universe.cookbooks other ≡ Some cookbook → Contains release.needs need → need.name ≡ cookbook.name
      → MeetsAt cookbook.releases need values → IsMask universe other release values
  met_mask other cookbook release need values at among named meets choice released met =
      let own = met need among in
      let chosen = chosen_at choice other cookbook own.0 at released (ap (finite.get choice) (sym named) ∙ own.1) in
      ap (bit_at values) chosen.value ∙ meets (index_of cookbook.releases own.0) chosen.found.release chosen.found.stands (subst (λ v. Meets v need.constraint) (sym chosen.found.is) own.2)

  pub full_mask : (other : ℕ) (release : Release) → IsMask universe other release 18446744073709551615
  full_mask other release choice released met = all_ones choice other

  module _ (rules : EnvRules) (roots : Roots) where
    are_released : (choice : Choice) → IsSolution universe rules roots choice → AreReleased universe choice
    are_released choice solution name version is = (solution.allowed name version is).released

    -- a root is chosen
    pub root_conflict : (index : ℕ) (root : CookbookName) → IsAt universe index root → Contains roots.names root → IsConflict universe rules roots (record { cookbook = index; values = 1 } ∷ [])
    root_conflict index root at h choice solution all =
        let cookbook = at.0 in
        let has = some_of (finite.get choice root) (solution.holds_roots root h) in
        let chosen = chosen_at choice index cookbook has.0 at.1 (are_released choice solution) (ap (finite.get choice) at.2 ∙ has.1) in
        let within = slice_get_within cookbook.releases (index_of cookbook.releases has.0) chosen.found.release chosen.found.stands in
        let bit : bit_at 1 (min (length cookbook.releases - index_of cookbook.releases has.0) 63) ≡ 1 = ap (bit_at 1) (sym chosen.value) ∙ all (record { cookbook = index; values = 1 }) (here (record { cookbook = index; values = 1 }) []) in
        let off : bit_at 1 (min (length cookbook.releases - index_of cookbook.releases has.0) 63) ≡ 0 = bit_at-pow_other 0 (min (length cookbook.releases - index_of cookbook.releases has.0) 63) (λ e. absurd (omega (arith, e, within))) in
        absurd (omega (arith, bit, off))

    pub one_conflict : (index values : ℕ) → IsRuledOut universe rules roots index values → IsConflict universe rules roots (record { cookbook = index; values = values } ∷ [])
    one_conflict index values out choice solution all = out choice solution (all (record { cookbook = index; values = values }) (here (record { cookbook = index; values = values }) []))

    -- a solution has no release that doesn't go alone
    alone : (dead : Flags) → AreNeverChosen universe rules roots dead → (index : ℕ) (cookbook : Cookbook) (k : ℕ) (release : Release) → slice_get universe.cookbooks index ≡ Some cookbook → slice_get cookbook.releases k ≡ Some release
        → (choice : Choice) → IsSolution universe rules roots choice → finite.get choice cookbook.name ≡ Some release.version → Fits universe rules roots dead [] cookbook.name release
    alone dead never index cookbook k release at stands choice solution has =
        let goes = solution_fits universe rules roots dead never choice [] cookbook.name release k solution (λ p h. absurd (nowhere p h)) has (ap (λ rs. slice_get rs k) (own_releases index cookbook at) ∙ stands) in
        record {
          meets_pins = goes.goes_with_pins;
          meets_rules = goes.goes_with_rules;
          meets_places = λ p h need n e. absurd (nowhere p h);
          meets_itself = goes.goes_with_itself;
          places_meet = λ need n p h e. absurd (nowhere p h);
          needs_can_be_met = goes.can_be_met;
        }

    pub fitting_out : (dead : Flags) → AreNeverChosen universe rules roots dead → (index : ℕ) (cookbook : Cookbook) (values : ℕ) → slice_get universe.cookbooks index ≡ Some cookbook → values < 2 ^ 64 → bit_at values 0 ≡ 1
        → AreFitting universe rules roots dead cookbook values → IsRuledOut universe rules roots index (bit_not w64 values)
    fitting_out dead never index cookbook values at small zero' fit choice solution out =
        let in' : bit_at values (value_at universe choice index) ≡ 1 =
        value_cases choice index cookbook (λ n. bit_at values n ≡ 1) at zero'
        (λ version is.
        let chosen = chosen_at choice index cookbook version at (are_released choice solution) is in
        fit (index_of cookbook.releases version) chosen.found.release chosen.found.stands
        (alone dead never index cookbook (index_of cookbook.releases version) chosen.found.release at chosen.found.stands choice solution chosen.has)) in
        let off = bit_at_not w64 values (value_at universe choice index) small (value_at-below universe choice index) in
        absurd (omega (arith, in', off, out))

    pub nothing_out : (index : ℕ) → IsRuledOut universe rules roots index 0
    nothing_out index choice solution out = absurd (omega (arith, out))

    -- what a cookbook needs of another
    pub clash_conflict : (index other : ℕ) (cookbook : Cookbook) (masks : List ℕ) (values : ℕ) (terms : List Term) → slice_get universe.cookbooks index ≡ Some cookbook → length masks ≡ length cookbook.releases
        → Zips (IsMask universe other) cookbook.releases masks → AreClash masks index other values terms → IsConflict universe rules roots terms
    clash_conflict index other cookbook masks values terms at long zips clash choice solution all =
        let one : Term = record { cookbook = index; values = clash.0 } in
        let two : Term = record { cookbook = other; values = values } in
        let own : HasAll (value_at universe choice) (one ∷ two ∷ []) = subst (HasAll (value_at universe choice)) clash.2 all in
        let first : bit_at clash.0 (value_at universe choice index) ≡ 1 = own one (here one (two ∷ [])) in
        let second : bit_at values (value_at universe choice other) ≡ 1 = own two (there one (two ∷ []) two (here two [])) in
        value_cases choice index cookbook (λ n. bit_at clash.0 n ≡ 1 → ⊥) at clash.1.chosen
        (λ version is bit.
        let k = index_of cookbook.releases version in
        let chosen = chosen_at choice index cookbook version at (are_released choice solution) is in
        let release = chosen.found.release in
        let within : k < length masks = omega (arith, long, slice_get_within cookbook.releases k release chosen.found.stands) in
        let mask = get_or masks k 0 in
        let stands : slice_get masks k ≡ Some mask = slice_get-get_or masks k 0 within in
        let needs = needs_at universe cookbook.name k release (ap (λ rs. slice_get rs k) (own_releases index cookbook at) ∙ chosen.found.stands) in
        let left : bit_at mask (value_at universe choice other) ≡ 1 =
        zips k release mask chosen.found.stands stands choice (are_released choice solution)
        (λ need n. solution.meets_needs cookbook.name release.version chosen.has need (subst (λ ns. Contains ns need) (sym needs) n)) in
        clash.1.clash k mask (value_at universe choice other) stands (subst (λ (n : ℕ). bit_at clash.0 (min (n - k) 63) ≡ 1) (sym long) bit) (value_at-below universe choice other) left second)
        first

-- a mask leaves one of the values
abbrev pub LeavesOne : ℕ → ℕ → ℕ → Type 0
LeavesOne values k mask = (value : ℕ) × (value < 64) × (bit_at mask value ≡ 1) × (bit_at values value ≡ 1)

pub leaves_none : (mask values k : ℕ) → bit_and mask values ≡ 0 → LeavesOne values k mask → ⊥
leaves_none mask values k none one =
    let bit = bit_at_and mask values one.0 in
    let off : bit_at (bit_and mask values) one.0 ≡ 0 = ap (λ n. bit_at n one.0) none ∙ bit_at-zero one.0 in
    absurd (omega (arith, bit, off, one.2, one.3))

-- ---- bits that are put to others

pub or_keeps : (old more new n : ℕ) → new ≡ bit_or old more → bit_at old n ≡ 1 → bit_at new n ≡ 1
or_keeps old more new n e bit = ap (λ m. bit_at m n) e ∙ either_bit old more n (inl bit)

pub or_adds : (old more new value place : ℕ) → new ≡ bit_or old more → bit_at more value ≡ 1 → value ≡ place → bit_at new place ≡ 1
or_adds old more new value place e bit same = ap (λ m. bit_at m place) e ∙ either_bit old more place (inr (subst (λ n. bit_at more n ≡ 1) same bit))

pub same_bits : (old new n : ℕ) → new ≡ old → bit_at old n ≡ 1 → bit_at new n ≡ 1
same_bits old new n e bit = ap (λ m. bit_at m n) e ∙ bit

pub clashes_not : (masks : List ℕ) (values found : ℕ) → found < 2 ^ 64 → bit_at found 0 ≡ 1 → Leaves masks values found → Clashes masks values (bit_not w64 found)
clashes_not masks values found small zero' leaves = record {
  chosen = λ e. absurd (omega (arith, zero', bit_at_not w64 found 0 small (omega arith), e));
  clash = λ index mask value stands bit below has one.
      let on = leaves index mask value stands below has one in
      let off = bit_at_not w64 found (min (length masks - index) 63) small (omega arith) in
      absurd (omega (arith, on, off, bit));
}
