-- The chosen versions in byte order: they are the same choice, and each name stands once.
use Rattle.std.proofs.Common.{◌≡◌, ℕ, ◌+◌, ◌<◌, ◌≤◌, false, List, [], ◌∷◌, ◌++◌, length, map, take, get_or, Option, Some, None, IsPermutation, IsSorted, Less, Equal, Greater, Ordering, is_lt, arith, ap, sym, refl, subst, ◌∙◌, take_all, true≢false}
use Rattle.std.proofs.lemmas.List.{get_or-map, length-map, map_push, take_more}
use Rattle.std.proofs.lemmas.List.Sorted.{Contains-permutation, IsPermutation-map, IsPermutation-sym}
use Rattle.std.proofs.lemmas.Map.Keys.{IsDistinct-IsPermutation, apart_from_distinct}
use Rattle.std.proofs.lemmas.Option.{none-some}
use Rattle.std.specs.Cmp.Lexicographic.{nat_list_cmp_total, nat_list_eq_equiv}
use Rattle.std.specs.FinMap as finite
use Rattle.std.specs.List.{IsDistinct}
use Rattle.std.specs.List.Sorted.{IsStrictlySortedBy}
use Rattle.std.specs.Ordering.{ordering_reverse, ordering_then}
use Rattle.doc_tree.specs.Text.{text_cmp}
use Rattle.version_rules.specs.declared.versions.Version.{Version}
use Rattle.version_rules.specs.Order.{version_cmp}
use Rattle.dep_solver.specs.declared.roots.Pin.{Pin}
use Rattle.dep_solver.specs.declared.roots.Roots.{Roots}
use Rattle.dep_solver.specs.declared.rules.EnvRules.{EnvRules}
use Rattle.dep_solver.specs.declared.search.Place.{Place}
use Rattle.dep_solver.specs.declared.universe.Universe.{Universe}
use Rattle.dep_solver.specs.Best.{IsBest}
use Rattle.dep_solver.specs.Names.{CookbookName, same_name}
use Rattle.dep_solver.specs.Search.{FindsBest, pin_cmp, pin_of}
use Rattle.dep_solver.specs.Solutions.{choice_of}
use Rattle.dep_solver.proofs.ChoiceLemmas.{choice_found, choice_has, names_apart}
use Rattle.dep_solver.proofs.OrderLemmas.{sorted_from_rises}
use Rattle.dep_solver.proofs.WalkLemmas.{names_distinct, same_from_name}

pub pin_added : (pins more : List Pin) (places : List Place) (i : ℕ) (place : Place) (pin : Pin) → i < length places → place ≡ get_or places i place → pins ≡ map pin_of (take i places) → pin ≡ pin_of place → more ≡ pins ++ pin ∷ []
    → more ≡ map pin_of (take (i + 1) places)
pin_added pins more places i place pin within is before same e =
    e ∙ ap (λ ps. ps ++ pin ∷ []) before ∙ ap (λ p. map pin_of (take i places) ++ p ∷ []) (same ∙ ap pin_of is)
    ∙ sym (map_push pin_of (take i places) (get_or places i place)) ∙ ap (map pin_of) (sym (take_more places i place within))

pub pins_moved : (pins sorted : List Pin) (places : List Place) (i : ℕ) → length places ≤ i → pins ≡ map pin_of (take i places) → IsPermutation pins sorted → IsPermutation (map pin_of places) sorted
pins_moved pins sorted places i past before moved = subst (λ ps. IsPermutation ps sorted) (before ∙ ap (map pin_of) (take_all i places past)) moved

moved_distinct : (xs ys : List Pin) → IsDistinct same_name (map (λ (p : Pin). p.name) xs) → IsPermutation xs ys → IsDistinct same_name (map (λ (p : Pin). p.name) ys)
moved_distinct xs ys d moved = IsDistinct-IsPermutation same_name nat_list_eq_equiv.symm (map (λ (p : Pin). p.name) xs) (map (λ (p : Pin). p.name) ys) (IsPermutation-map (λ (p : Pin). p.name) xs ys moved) d

-- the order of the places doesn't matter to the choice
same_moved : (xs ys : List Pin) → IsDistinct same_name (map (λ (p : Pin). p.name) xs) → IsPermutation xs ys → choice_of xs ≡ choice_of ys
same_moved xs ys d moved = finite.same_map nat_list_cmp_total names_apart (choice_of xs) (choice_of ys) (λ q. at q (finite.get (choice_of xs) q) (finite.get (choice_of ys) q) refl refl)
  where
    at : (q : CookbookName) (a b : Option Version) → finite.get (choice_of xs) q ≡ a → finite.get (choice_of ys) q ≡ b → finite.get (choice_of xs) q ≡ finite.get (choice_of ys) q
    at q None None e f = e ∙ sym f
    at q None (Some w) e f =
        let found = choice_found ys q w f in
        let has = choice_has xs found.place d (Contains-permutation ys xs found.place (IsPermutation-sym xs ys moved) found.among) in
        absurd (none-some found.place.version (sym e ∙ ap (finite.get (choice_of xs)) (sym found.named) ∙ has))
    at q (Some v) b e f =
        let found = choice_found xs q v e in
        let has = choice_has ys found.place (moved_distinct xs ys d moved) (Contains-permutation xs ys found.place moved found.among) in
        e ∙ ap Some (sym found.at_version) ∙ sym (ap (finite.get (choice_of ys)) (sym found.named) ∙ has)

pub best_moved : (universe copy : Universe) (rules own : EnvRules) (roots same : Roots) (places pins : List Pin) → copy ≡ universe → own ≡ rules → same ≡ roots → FindsBest universe rules roots places → IsPermutation places pins
    → IsBest copy own same (choice_of pins)
best_moved universe copy rules own roots same places pins a b c finds moved =
    subst (λ u. IsBest u own same (choice_of pins)) (sym a) (subst (λ r. IsBest universe r same (choice_of pins)) (sym b) (subst (λ r. IsBest universe rules r (choice_of pins)) (sym c)
    (subst (λ choice. IsBest universe rules roots choice) (same_moved places pins (names_distinct universe roots.names places roots.distinct finds.follow) moved) finds.best)))

-- ---- the order

less_name : (o : Ordering) (rest back : Ordering) → (o ≡ Equal → ⊥) → is_lt (ordering_then (ordering_reverse o) back) ≡ false → o ≡ Less
less_name Less rest back apart up = refl
less_name Equal rest back apart up = absurd (apart refl)
less_name Greater rest back apart up = absurd (true≢false up)

pub in_order : (universe : Universe) (rules : EnvRules) (roots : Roots) (places pins : List Pin) → FindsBest universe rules roots places → IsPermutation places pins → IsSorted pin_cmp pins → IsStrictlySortedBy text_cmp (map (λ (p : Pin). p.name) pins)
in_order universe rules roots places pins finds moved sorted =
    let distinct = moved_distinct places pins (names_distinct universe roots.names places roots.distinct finds.follow) moved in
    sorted_from_rises (λ (p : Pin). p.name) text_cmp nat_list_cmp_total pins (length pins) (omega arith)
    (λ k d below.
    let a = get_or pins k d in
    let b = get_or pins (k + 1) d in
    let names = map (λ (p : Pin). p.name) pins in
    let first : get_or names k d.name ≡ a.name = get_or-map (λ (p : Pin). p.name) pins k d d.name (omega arith) in
    let second : get_or names (k + 1) d.name ≡ b.name = get_or-map (λ (p : Pin). p.name) pins (k + 1) d d.name below in
    let within : k + 1 < length names = omega (arith, length-map pins (λ (p : Pin). p.name)) in
    let apart : same_name a.name b.name ≡ false =
    subst (λ z. same_name a.name z ≡ false) second (subst (λ z. same_name z (get_or names (k + 1) d.name) ≡ false) first (apart_from_distinct same_name names k (k + 1) d.name distinct (omega arith) within)) in
    less_name (text_cmp a.name b.name) Less (version_cmp b.version a.version)
    (λ e. true≢false (sym (same_from_name a.name b.name (names_apart a.name b.name e)) ∙ apart))
    (subst (λ o. is_lt (ordering_then o (version_cmp b.version a.version)) ≡ false) (nat_list_cmp_total.antisymm b.name a.name) (sorted k d (omega arith) below)))
