-- The best solution and the lists of a refusal, as functions.
use Rattle.std.proofs.Common.{◌≡◌, ◌+◌, Bool, true, not, List, [], length, map, find, filter, Option, Some, None, is_none, is_some, option_map, arith, ap, refl, sym, subst, ◌∙◌, inl, inr, true≢false}
use Rattle.std.proofs.lemmas.Option.{none-some, same_Some}
use Rattle.std.specs.List.{list_any}
use Rattle.std.specs.List.Sorted.{IsStrictlySortedBy}
use Rattle.doc_tree.specs.Text.{text_cmp}
use Rattle.dep_solver.specs.declared.roots.Pin.{Pin}
use Rattle.dep_solver.specs.declared.roots.Roots.{Roots}
use Rattle.dep_solver.specs.declared.rules.EnvRules.{EnvRules}
use Rattle.dep_solver.specs.declared.universe.Cookbook.{Cookbook}
use Rattle.dep_solver.specs.declared.universe.Release.{Release}
use Rattle.dep_solver.specs.declared.universe.Universe.{Universe}
use Rattle.dep_solver.specs.Best.{IsBest}
use Rattle.dep_solver.specs.Chosen.{all_walks, best_of, has_no_version, in_order, is_allowed, is_solution, lacking, pins_of, without_version}
use Rattle.dep_solver.specs.Laws.{AreBest, BestOfIsTheBest, ListsOfARefusal}
use Rattle.dep_solver.specs.Names.{CookbookName}
use Rattle.dep_solver.specs.Refusals.{AreThose, HasNoVersion, IsLacking, IsRefusal, TellsWhy}
use Rattle.dep_solver.specs.Solutions.{Choice, IsSolution, choice_of}
use Rattle.dep_solver.specs.Universes.{cookbook_in, releases_in}
use Rattle.dep_solver.proofs.EntryLemmas.{choice_back, from_in_order, in_order_rises, pins_of_rising, pins_rise, same_in_order, to_in_order}
use Rattle.dep_solver.proofs.FirstLemmas.{Finds, IsFound, Starts, first_of, solution_from}
use Rattle.dep_solver.proofs.LawLemmas.{not_both}
use Rattle.dep_solver.proofs.ListLemmas.{map_contains, nowhere}
use Rattle.dep_solver.proofs.TestLemmas.{allowed_from, allowed_to, any_from, any_to, both_from, both_to, filter_from, filter_to, off_from, off_to}

module _ (universe : Universe) (rules : EnvRules) (roots : Roots) where
  -- ---- the best solution

  -- there is one best solution
  one_best : (one other : Choice) → IsBest universe rules roots one → IsBest universe rules roots other → one ≡ other
  one_best one other a b = elim (b.best one a.solution) [
    | inl same ↦ same
    | inr better ↦ elim (a.best other b.solution) [
      | inl same ↦ sym same
      | inr worse ↦ absurd (not_both universe roots other one better worse)
    ]
  ]

  abbrev starts : (choice : Choice) → Starts universe rules roots [] choice
  starts choice = record { names = tt; versions = λ p h. absurd (nowhere p h) }

  pub best_found : (walk : List Pin) → IsFound universe rules roots (Starts universe rules roots []) [] walk → IsBest universe rules roots (choice_of walk)
  best_found walk found = record {
    solution = solution_from universe rules roots walk found.follow found.ends found.passes;
    best = λ other solution. found.beats other solution (starts other);
  }

  abbrev chosen_from : Option (List Pin) → Option (List Pin)
  chosen_from found = option_map (λ places. pins_of (choice_of places)) found

  -- what the function says of what was found first
  best_from : (found : Option (List Pin)) → Finds universe rules roots (Starts universe rules roots []) [] found → (pins : List Pin) → chosen_from found ≡ Some pins → AreBest universe rules roots pins
  best_from None none pins e = absurd (none-some pins e)
  best_from (Some walk) found pins e =
      let same : pins_of (choice_of walk) ≡ pins = same_Some (pins_of (choice_of walk)) pins e in (
        subst (IsBest universe rules roots) (sym (choice_back (choice_of walk)) ∙ ap choice_of same) (best_found walk found),
        subst (λ (ps : List Pin). IsStrictlySortedBy text_cmp (map (λ (p : Pin). p.name) ps)) same (pins_rise (choice_of walk)),
      )

  best_to : (found : Option (List Pin)) → Finds universe rules roots (Starts universe rules roots []) [] found → (pins : List Pin) → AreBest universe rules roots pins → chosen_from found ≡ Some pins
  best_to None none pins best = absurd (none (choice_of pins) best.0.solution (starts (choice_of pins)))
  best_to (Some walk) found pins best =
      ap Some (ap pins_of (one_best (choice_of walk) (choice_of pins) (best_found walk found) best.0) ∙ pins_of_rising pins best.1)

  none_from : (found : Option (List Pin)) → Finds universe rules roots (Starts universe rules roots []) [] found → chosen_from found ≡ None → (choice : Choice) → IsSolution universe rules roots choice → ⊥
  none_from None none e choice solution = none choice solution (starts choice)
  none_from (Some walk) found e choice solution = none-some (pins_of (choice_of walk)) (sym e)

  none_to : (found : Option (List Pin)) → Finds universe rules roots (Starts universe rules roots []) [] found → ((choice : Choice) → IsSolution universe rules roots choice → ⊥) → chosen_from found ≡ None
  none_to None none h = refl
  none_to (Some walk) found h = absurd (h (choice_of walk) (best_found walk found).solution)

  first_walk : Finds universe rules roots (Starts universe rules roots []) [] (find (is_solution universe rules roots) (all_walks universe roots))
  unfolding all_walks
  first_walk = first_of universe rules roots (length universe.cookbooks + 1) [] tt (omega arith)

  pub best_of_from : (pins : List Pin) → best_of universe rules roots ≡ Some pins → AreBest universe rules roots pins
  unfolding best_of
  best_of_from = best_from (find (is_solution universe rules roots) (all_walks universe roots)) first_walk

  pub best_of_to : (pins : List Pin) → AreBest universe rules roots pins → best_of universe rules roots ≡ Some pins
  unfolding best_of
  best_of_to = best_to (find (is_solution universe rules roots) (all_walks universe roots)) first_walk

  pub none_of_from : best_of universe rules roots ≡ None → (choice : Choice) → IsSolution universe rules roots choice → ⊥
  unfolding best_of
  none_of_from = none_from (find (is_solution universe rules roots) (all_walks universe roots)) first_walk

  pub none_of_to : ((choice : Choice) → IsSolution universe rules roots choice → ⊥) → best_of universe rules roots ≡ None
  unfolding best_of
  none_of_to = none_to (find (is_solution universe rules roots) (all_walks universe roots)) first_walk

  -- ---- the lists of a refusal

  -- names that pass a test, in order, are those of which P holds
  those_from : (P : CookbookName → Type 0) (test : CookbookName → Bool) → ((n : CookbookName) → test n ≡ true → P n) → ((n : CookbookName) → P n → test n ≡ true) → (names : List CookbookName)
      → AreThose P names (in_order (filter test names))
  those_from P test from to names = record {
    in_order = in_order_rises (filter test names);
    those = λ n. (
      λ h. let kept = filter_from test names n (from_in_order (filter test names) n h) in (kept.0, from n kept.1),
      λ h. to_in_order (filter test names) n (filter_to test names n h.0 (to n h.1)),
    );
  }

  -- and a list of those is that one
  those_are : (P : CookbookName → Type 0) (test : CookbookName → Bool) → ((n : CookbookName) → test n ≡ true → P n) → ((n : CookbookName) → P n → test n ≡ true) → (names these : List CookbookName)
      → AreThose P names these → these ≡ in_order (filter test names)
  those_are P test from to names these are =
      same_in_order these (filter test names) are.in_order
      (λ n h. let p = (are.those n).0 h in filter_to test names n p.0 (to n p.1))
      (λ n h. let kept = filter_from test names n h in (are.those n).1 (kept.0, from n kept.1))

  none_is : (o : Option Cookbook) → is_none o ≡ true → o ≡ None
  none_is None e = refl
  none_is (Some x) e = absurd (true≢false (sym e))

  some_is : (o : Option Cookbook) → is_some o ≡ true → o ≡ None → ⊥
  some_is o e none = true≢false (sym e ∙ ap is_some none)

  some_not : (o : Option Cookbook) → (o ≡ None → ⊥) → is_some o ≡ true
  some_not None h = absurd (h refl)
  some_not (Some x) h = refl

  lacks_from : (n : CookbookName) → is_none (cookbook_in universe n) ≡ true → IsLacking universe n
  lacks_from n e = none_is (cookbook_in universe n) e

  lacks_to : (n : CookbookName) → IsLacking universe n → is_none (cookbook_in universe n) ≡ true
  lacks_to n h = ap is_none h

  abbrev release_test : CookbookName → Release → Bool
  release_test n release = is_allowed universe rules roots n release.version

  no_version_from : (n : CookbookName) → has_no_version universe rules roots n ≡ true → HasNoVersion universe rules roots n
  no_version_from n e =
      let h = both_from (is_some (cookbook_in universe n)) (not (list_any (release_test n) (releases_in universe n))) e in
      record {
        there = some_is (cookbook_in universe n) h.0;
        none = λ version allowed.
            let found = map_contains (λ (r : Release). r.version) (releases_in universe n) version allowed.released in
            off_from (list_any (release_test n) (releases_in universe n)) h.1
            (any_to (release_test n) (releases_in universe n) found.0 found.1 (ap (is_allowed universe rules roots n) found.2 ∙ allowed_to universe rules roots n version allowed));
      }

  no_version_to : (n : CookbookName) → HasNoVersion universe rules roots n → has_no_version universe rules roots n ≡ true
  no_version_to n h =
      both_to (is_some (cookbook_in universe n)) (not (list_any (release_test n) (releases_in universe n)))
      (some_not (cookbook_in universe n) h.there)
      (off_to (list_any (release_test n) (releases_in universe n)) (λ on.
      let found = any_from (release_test n) (releases_in universe n) on in
      h.none found.0.version (allowed_from universe rules roots n found.0.version found.2)))

  lacking_are : AreThose (IsLacking universe) roots.names (lacking universe roots)
  unfolding lacking
  lacking_are = those_from (IsLacking universe) (λ n. is_none (cookbook_in universe n)) lacks_from lacks_to roots.names

  without_are : AreThose (HasNoVersion universe rules roots) roots.names (without_version universe rules roots)
  unfolding without_version
  without_are = those_from (HasNoVersion universe rules roots) (has_no_version universe rules roots) no_version_from no_version_to roots.names

  is_lacking : (these : List CookbookName) → AreThose (IsLacking universe) roots.names these → these ≡ lacking universe roots
  unfolding lacking
  is_lacking these are = those_are (IsLacking universe) (λ n. is_none (cookbook_in universe n)) lacks_from lacks_to roots.names these are

  is_without : (these : List CookbookName) → AreThose (HasNoVersion universe rules roots) roots.names these → these ≡ without_version universe rules roots
  unfolding without_version
  is_without these are = those_are (HasNoVersion universe rules roots) (has_no_version universe rules roots) no_version_from no_version_to roots.names these are

  pub is_refusal : (no_cookbook no_version : List CookbookName) → TellsWhy universe rules roots no_cookbook no_version → IsRefusal universe rules roots no_cookbook no_version
  is_refusal no_cookbook no_version why = record {
    no_best = none_of_to why.none;
    no_cookbook_are = is_lacking no_cookbook why.no_cookbook_is;
    no_version_are = is_without no_version why.no_version_is;
  }

pub best_of_best : BestOfIsTheBest
best_of_best universe rules roots = (
  λ pins. (best_of_from universe rules roots pins, best_of_to universe rules roots pins),
  (none_of_from universe rules roots, none_of_to universe rules roots),
)

pub refusal_lists : ListsOfARefusal
refusal_lists universe rules roots = (lacking_are universe rules roots, without_are universe rules roots)
