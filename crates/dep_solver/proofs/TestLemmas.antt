-- Tests: what each of them says.
use Rattle.std.proofs.Common.{◌≡◌, ◌⊎◌, ◌&&◌, ◌||◌, Bool, true, false, not, ℕ, List, [], ◌∷◌, map, Option, Some, None, Contains, ap, refl, sym, subst, ◌∙◌, inl, inr, true≢false, filter, cond, option_map, unwrap_or}
use Rattle.std.specs.FinMap as finite
use Rattle.std.specs.List.{list_all, list_any}
use Rattle.version_rules.specs.declared.constraints.Sign.{Sign}
use Rattle.version_rules.specs.declared.constraints.Sign.TheVariants.{Equal, Less, Greater, AtMost, AtLeast, Close}
use Rattle.version_rules.specs.declared.needs.Need.{Need}
use Rattle.version_rules.specs.declared.versions.Version.{Version}
use Rattle.version_rules.specs.Meets.{Meets, MeetsSign, end_of}
use Rattle.version_rules.specs.Terms.{Terms}
use Rattle.dep_solver.specs.declared.roots.Pin.{Pin}
use Rattle.dep_solver.specs.declared.roots.Roots.{Roots}
use Rattle.dep_solver.specs.declared.rules.EnvRules.{EnvRules}
use Rattle.dep_solver.specs.declared.universe.Release.{Release}
use Rattle.dep_solver.specs.declared.universe.Universe.{Universe}
use Rattle.dep_solver.specs.Chosen.{is_allowed, is_at_most, is_below, is_met, meets, meets_pins, meets_rules, meets_sign}
use Rattle.dep_solver.specs.Laws.{TestOfAllowed}
use Rattle.dep_solver.specs.Names.{CookbookName, same_name}
use Rattle.dep_solver.specs.Solutions.{Choice, IsAllowed, IsMet}
use Rattle.dep_solver.specs.Universes.{releases_in, same_version}
use Rattle.dep_solver.proofs.ListLemmas.{contains_map, here, in_tail, map_contains, nowhere, there}
use Rattle.dep_solver.proofs.VersionLemmas.{at_most_from_test, below_from_test, same_version_itself, test_from_at_most, test_from_below, version_from_same}
use Rattle.dep_solver.proofs.WalkLemmas.{name_from_same, same_from_name}

-- ---- what `&&`, `||` and `not` say

pub both_from : (a b : Bool) → (a && b) ≡ true → (a ≡ true) × (b ≡ true)
both_from true b e = (refl, e)
both_from false b e = absurd (true≢false (sym e))

pub both_to : (a b : Bool) → a ≡ true → b ≡ true → (a && b) ≡ true
both_to true b e f = f
both_to false b e f = absurd (true≢false (sym e))

pub then_from : (a b : Bool) → (not a || b) ≡ true → a ≡ true → b ≡ true
then_from true b e h = e
then_from false b e h = absurd (true≢false (sym h))

pub then_to : (a b : Bool) → (a ≡ true → b ≡ true) → (not a || b) ≡ true
then_to true b h = h refl
then_to false b h = refl

pub off_from : (b : Bool) → not b ≡ true → b ≡ true → ⊥
off_from true e h = true≢false (sym e)
off_from false e h = true≢false (sym h)

pub off_to : (b : Bool) → (b ≡ true → ⊥) → not b ≡ true
off_to true h = absurd (h refl)
off_to false h = refl

-- ---- all, any and those of a list

module _ {A : Type 0} (p : A → Bool) where
  pub all_from : (xs : List A) → list_all p xs ≡ true → (x : A) → Contains xs x → p x ≡ true
  all_from [] e x h = absurd (nowhere x h)
  all_from (y ∷ ys) e x h = elim (in_tail y ys x h) [
    | inl same ↦ ap p (sym same) ∙ (both_from (p y) (list_all p ys) e).0
    | inr t ↦ all_from ys (both_from (p y) (list_all p ys) e).1 x t
  ]

  pub all_to : (xs : List A) → ((x : A) → Contains xs x → p x ≡ true) → list_all p xs ≡ true
  all_to [] h = refl
  all_to (y ∷ ys) h = both_to (p y) (list_all p ys) (h y (here y ys)) (all_to ys (λ x k. h x (there y ys x k)))

  pub any_from : (xs : List A) → list_any p xs ≡ true → (x : A) × Contains xs x × (p x ≡ true)
  any_from [] e = absurd (true≢false (sym e))
  any_from (y ∷ ys) e = by (p y) refl e (any_from ys)
    where
      by : (b : Bool) → p y ≡ b → (b || list_any p ys) ≡ true → (list_any p ys ≡ true → (x : A) × Contains ys x × (p x ≡ true)) → (x : A) × Contains (y ∷ ys) x × (p x ≡ true)
      by true is e rest = (y, here y ys, is)
      by false is e rest = let more = rest e in (more.0, there y ys more.0 more.1, more.2)

  or_left : (a b : Bool) → a ≡ true → (a || b) ≡ true
  or_left true b e = refl
  or_left false b e = absurd (true≢false (sym e))

  or_right : (a b : Bool) → b ≡ true → (a || b) ≡ true
  or_right true b e = refl
  or_right false b e = e

  pub any_to : (xs : List A) (x : A) → Contains xs x → p x ≡ true → list_any p xs ≡ true
  any_to [] x h e = absurd (nowhere x h)
  any_to (y ∷ ys) x h e = elim (in_tail y ys x h) [
    | inl same ↦ or_left (p y) (list_any p ys) (ap p same ∙ e)
    | inr t ↦ or_right (p y) (list_any p ys) (any_to ys x t e)
  ]

  pub filter_from : (xs : List A) (x : A) → Contains (filter p xs) x → Contains xs x × (p x ≡ true)
  filter_from [] x h = absurd (nowhere x h)
  filter_from (y ∷ ys) x h = by (p y) refl h (filter_from ys x)
    where
      by : (b : Bool) → p y ≡ b → Contains (cond b (y ∷ filter p ys) (filter p ys)) x → (Contains (filter p ys) x → Contains ys x × (p x ≡ true)) → Contains (y ∷ ys) x × (p x ≡ true)
      by true is h rest = elim (in_tail y (filter p ys) x h) [
        | inl same ↦ (subst (λ z. Contains (y ∷ ys) z) same (here y ys), ap p (sym same) ∙ is)
        | inr t ↦ let more = rest t in (there y ys x more.0, more.1)
      ]
      by false is h rest = let more = rest h in (there y ys x more.0, more.1)

  pub filter_to : (xs : List A) (x : A) → Contains xs x → p x ≡ true → Contains (filter p xs) x
  filter_to [] x h e = absurd (nowhere x h)
  filter_to (y ∷ ys) x h e = by (p y) refl (in_tail y ys x h) (λ t. filter_to ys x t e)
    where
      by : (b : Bool) → p y ≡ b → (y ≡ x) ⊎ Contains ys x → (Contains ys x → Contains (filter p ys) x) → Contains (cond b (y ∷ filter p ys) (filter p ys)) x
      by true is (inl same) rest = subst (λ z. Contains (y ∷ filter p ys) z) same (here y (filter p ys))
      by true is (inr t) rest = there y (filter p ys) x (rest t)
      by false is (inl same) rest = absurd (true≢false (sym (ap p same ∙ e) ∙ is))
      by false is (inr t) rest = rest t

-- ---- versions and constraints

sign_from : (s : Sign) (v w : Version) (parts : ℕ) → meets_sign s v w parts ≡ true → MeetsSign s v w parts
sign_from Equal v w parts e = version_from_same v w e
sign_from Less v w parts e = below_from_test v w e
sign_from Greater v w parts e = below_from_test w v e
sign_from AtMost v w parts e = at_most_from_test v w e
sign_from AtLeast v w parts e = at_most_from_test w v e
sign_from Close v w parts e =
    let h = both_from (is_at_most w v) (is_below v (end_of w parts)) e in
    (at_most_from_test w v h.0, below_from_test v (end_of w parts) h.1)

sign_to : (s : Sign) (v w : Version) (parts : ℕ) → MeetsSign s v w parts → meets_sign s v w parts ≡ true
sign_to Equal v w parts h = ap (same_version v) (sym h) ∙ same_version_itself v
sign_to Less v w parts h = test_from_below v w h
sign_to Greater v w parts h = test_from_below w v h
sign_to AtMost v w parts h = test_from_at_most v w h
sign_to AtLeast v w parts h = test_from_at_most w v h
sign_to Close v w parts h = both_to (is_at_most w v) (is_below v (end_of w parts)) (test_from_at_most w v h.0) (test_from_below v (end_of w parts) h.1)

pub meets_from : (v : Version) (c : Terms) → meets v c ≡ true → Meets v c
meets_from v c e = sign_from c.sign v c.version c.parts e

pub meets_to : (v : Version) (c : Terms) → Meets v c → meets v c ≡ true
meets_to v c h = sign_to c.sign v c.version c.parts h

same_from_version : (v w : Version) → v ≡ w → same_version v w ≡ true
same_from_version v w e = ap (same_version v) (sym e) ∙ same_version_itself v

-- ---- what is allowed and what is met

module _ (universe : Universe) (rules : EnvRules) (roots : Roots) (name : CookbookName) (version : Version) where
  abbrev released_test : Release → Bool
  released_test release = same_version release.version version

  abbrev pin_test : Pin → Bool
  pin_test pin = not (same_name pin.name name) || same_version version pin.version

  abbrev rule_test : Need → Bool
  rule_test rule = not (same_name rule.name name) || meets version rule.constraint

  pub allowed_from : is_allowed universe rules roots name version ≡ true → IsAllowed universe rules roots name version
  unfolding is_allowed
  allowed_from e =
      let first = both_from (list_any released_test (releases_in universe name)) (meets_pins roots name version && meets_rules rules name version) e in
      let rest = both_from (meets_pins roots name version) (meets_rules rules name version) first.1 in
      let found = any_from released_test (releases_in universe name) first.0 in
      record {
        released = subst (λ v. Contains (map (λ (r : Release). r.version) (releases_in universe name)) v) (version_from_same found.0.version version found.2)
            (contains_map (λ (r : Release). r.version) (releases_in universe name) found.0 found.1);
        meets_pins = λ pin h same. version_from_same version pin.version
            (then_from (same_name pin.name name) (same_version version pin.version) (all_from pin_test roots.pins rest.0 pin h) (same_from_name pin.name name same));
        meets_rules = λ rule h same. meets_from version rule.constraint
            (then_from (same_name rule.name name) (meets version rule.constraint) (all_from rule_test rules.rules rest.1 rule h) (same_from_name rule.name name same));
      }

  pub allowed_to : IsAllowed universe rules roots name version → is_allowed universe rules roots name version ≡ true
  unfolding is_allowed
  allowed_to h =
      let found = map_contains (λ (r : Release). r.version) (releases_in universe name) version h.released in
      both_to (list_any released_test (releases_in universe name)) (meets_pins roots name version && meets_rules rules name version)
      (any_to released_test (releases_in universe name) found.0 found.1 (same_from_version found.0.version version found.2))
      (both_to (meets_pins roots name version) (meets_rules rules name version)
      (all_to pin_test roots.pins (λ pin k. then_to (same_name pin.name name) (same_version version pin.version)
      (λ same. same_from_version version pin.version (h.meets_pins pin k (name_from_same pin.name name same)))))
      (all_to rule_test rules.rules (λ rule k. then_to (same_name rule.name name) (meets version rule.constraint)
      (λ same. meets_to version rule.constraint (h.meets_rules rule k (name_from_same rule.name name same))))))

pub tells_allowed : TestOfAllowed
tells_allowed universe rules roots name version = (allowed_from universe rules roots name version, allowed_to universe rules roots name version)

pub met_from : (choice : Choice) (need : Need) → is_met choice need ≡ true → IsMet choice need
met_from choice need e = by (finite.get choice need.name) refl e
  where
    by : (o : Option Version) → finite.get choice need.name ≡ o → unwrap_or (option_map (λ version. meets version need.constraint) o) false ≡ true → IsMet choice need
    by None is e = absurd (true≢false (sym e))
    by (Some v) is e = (v, is, meets_from v need.constraint e)

pub met_to : (choice : Choice) (need : Need) → IsMet choice need → is_met choice need ≡ true
met_to choice need met =
    ap (λ (o : Option Version). unwrap_or (option_map (λ version. meets version need.constraint) o) false) met.1 ∙ meets_to met.0 need.constraint met.2
