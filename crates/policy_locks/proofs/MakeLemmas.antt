-- A lock that is made: the best versions and their identifiers, or what is told where there are none.
use Rattle.std.proofs.Common.{◌≡◌, ◌<◌, ◌+◌, ℕ, Bool, cond, List, [], ◌∷◌, ◌++◌, map, length, drop, get_or, Option, Some, None, option_map, option_and_then, refl, sym, ap, subst, ◌∙◌, append_assoc}
use Rattle.std.proofs.lemmas.List.{drop_more}
use Rattle.std.specs.List.{find}
use Rattle.std.specs.List.Sorted.{IsStrictlySortedBy}
use Rattle.doc_tree.specs.Text.{text_cmp}
use Rattle.doc_tree.specs.Doc.{Doc}
use Rattle.dep_solver.specs.Best.{IsBest}
use Rattle.dep_solver.specs.Solutions.{choice_of}
use Rattle.dep_solver.specs.declared.roots.Pin.{Pin}
use Rattle.dep_solver.specs.declared.roots.Roots.{Roots}
use Rattle.dep_solver.specs.declared.rules.EnvRules.{EnvRules}
use Rattle.dep_solver.specs.declared.universe.Universe.{Universe}
use Rattle.doc_tree.specs.declared.tree.Tree.TheVariants as tree
use Rattle.doc_tree.specs.declared.tree.Tree.{Tree}
use Rattle.cookbook_meta.specs.Stored.{with_pairs}
use Rattle.policy_locks.specs.Digests.{digest_text}
use Rattle.policy_locks.specs.Making.{AreBest, AreRootsOf, IsMadeWith, is_unidentified, locked, source_fields, source_lines}
use Rattle.run_lists.specs.Reading.{each_of}
use Rattle.policy_locks.specs.declared.identifiers.Identified.{Identified}
use Rattle.policy_locks.specs.declared.lock.CookbookLock.{CookbookLock}
use Rattle.policy_locks.specs.declared.lock.Lock.{Lock}
use Rattle.policy_locks.specs.declared.source.PolicySource.{PolicySource}

abbrev Dict : Type 0
Dict = List (List ℕ × Doc)

-- ---- the best versions

-- the best solution of copies is that of what was copied
pub best_of : (source : PolicySource) (universe own : Universe) (rules : EnvRules) (roots kept : Roots) (chosen : List Pin) → own ≡ universe → rules ≡ source.cookbooks → kept ≡ roots → AreRootsOf source roots
    → ∥ IsBest own rules kept (choice_of chosen) ∥₁ → IsStrictlySortedBy text_cmp (map (λ (pin : Pin). pin.name) chosen) → AreBest source universe chosen
best_of source universe own rules roots kept chosen same_universe same_rules same_roots of_source best order =
    let first = subst (λ (u : Universe). ∥ IsBest u rules kept (choice_of chosen) ∥₁) same_universe best in
    let second = subst (λ (r : EnvRules). ∥ IsBest universe r kept (choice_of chosen) ∥₁) same_rules first in
    let third = subst (λ (r : Roots). ∥ IsBest universe source.cookbooks r (choice_of chosen) ∥₁) same_roots second in
    record { roots = roots; of_source = of_source; best = third; in_order = order }

-- ---- identifiers

-- one more chosen version that has its identifier
pub locked_more : (ids : List Identified) (all : Option (List CookbookLock)) (pins : List Pin) (i : ℕ) (pin : Pin) (locks after : List CookbookLock) (lock : CookbookLock) → i < length pins → pin ≡ get_or pins i pin → locked ids pin ≡ Some lock
    → after ≡ locks ++ lock ∷ [] → all ≡ option_map (λ later. locks ++ later) (each_of (locked ids) (drop i pins)) → all ≡ option_map (λ later. after ++ later) (each_of (locked ids) (drop (i + 1) pins))
locked_more ids all pins i pin locks after lock within is has pushed so_far =
    let rest = each_of (locked ids) (drop (i + 1) pins) in
    let here : each_of (locked ids) (drop i pins) ≡ option_map (λ later. lock ∷ later) rest =
    ap (each_of (locked ids)) (drop_more pins i pin within)
    ∙ ap (λ p. option_and_then (λ first. option_map (λ later. first ∷ later) rest) (locked ids p)) (sym is)
    ∙ ap (option_and_then (λ first. option_map (λ later. first ∷ later) rest)) has in
    so_far ∙ ap (option_map (λ later. locks ++ later)) here ∙ gone_on rest ∙ ap (λ ls. option_map (λ later. ls ++ later) rest) (sym pushed)
  where
    gone_on : (left : Option (List CookbookLock)) → option_map (λ later. locks ++ later) (option_map (λ later. lock ∷ later) left) ≡ option_map (λ later. (locks ++ lock ∷ []) ++ later) left
    gone_on None = refl
    gone_on (Some later) = ap Some (sym (append_assoc locks (lock ∷ []) later))

-- the first without an identifier isn't before it
pub found_more : (ids : List Identified) (all : Option Pin) (pins : List Pin) (i : ℕ) (pin : Pin) (b : Bool) → i < length pins → pin ≡ get_or pins i pin → is_unidentified ids pin ≡ b → all ≡ find (is_unidentified ids) (drop i pins)
    → all ≡ cond b (Some pin) (find (is_unidentified ids) (drop (i + 1) pins))
found_more ids all pins i pin b within is test so_far =
    so_far ∙ ap (find (is_unidentified ids)) (drop_more pins i pin within ∙ ap (λ p. p ∷ drop (i + 1) pins) (sym is))
    ∙ ap (λ b. cond b (Some pin) (find (is_unidentified ids) (drop (i + 1) pins))) test

-- ---- the lock

-- the lock of a copy is the lock of what was copied
abbrev lock_of : PolicySource → List CookbookLock → Dict → List ℕ → Tree → Lock
lock_of own cookbooks solution revision whole = record {
  revision_id = revision;
  name = own.name;
  run_list = own.run_list;
  named_run_lists = own.named_run_lists;
  cookbook_locks = cookbooks;
  default_attributes = own.default_attributes;
  override_attributes = own.override_attributes;
  solution_dependencies = solution;
  whole = whole;
}

pub made_with : (source own : PolicySource) (cookbooks : List CookbookLock) (solution : Dict) (revision : List ℕ) (whole : Tree) → own ≡ source → revision ≡ digest_text (source_lines source cookbooks)
    → whole ≡ tree.Dict (with_pairs (source_fields revision source cookbooks solution) []) → IsMadeWith source cookbooks solution (lock_of own cookbooks solution revision whole)
made_with source own cookbooks solution revision whole same revision_is whole_is =
    subst (λ (o : PolicySource). IsMadeWith source cookbooks solution (lock_of o cookbooks solution revision whole)) (sym same) (record {
      cookbooks_are = refl;
      solution_is = refl;
      name_is = refl;
      run_list_is = refl;
      lists_are = refl;
      default_is = refl;
      override_is = refl;
      revision_is = revision_is;
      whole_is = whole_is;
    })
