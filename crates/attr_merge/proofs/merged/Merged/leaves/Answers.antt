use Rattle.std.proofs.Common.{◌≡◌, ◌++◌, ℕ, List, map, sym, ap, subst, ◌∙◌}
use Rattle.std.proofs.lemmas.List.{append-nil}
use Rattle.std.specs.BTreeMap.{keys}
use Rattle.std.specs.List.Sorted.{IsStrictlySortedBy}
use Rattle.attr_merge.specs.Merged.{Effective, path_cmp}
use Rattle.attr_merge.specs.Nodes.{key_path}
use Rattle.attr_merge.proofs.EntryLemmas.{paths-entries, paths-order}
use Rattle.attr_merge.proofs.merged.Merged.leaves.Goals as goal

pub loop-path-init : goal.loop-path-init
loop-path-init c =
    ap (λ (l : List (List (List ℕ))). l ++ map key_path c.into_iter-path-iterator.result) c.in_ok-paths.ensures.items
    ∙ ap (map key_path) (c.into_iter-path-iterator.ensures.into_iter_gives ∙ c.keys-path-items.ensures.rest)
    ∙ paths-entries c.self.inside.leaves.entries
    ∙ ap (λ (e : Effective). map (λ (leaf : List (List ℕ) × List ℕ). leaf.0) e.leaves) c.self.view_is

pub returns-clause-order : goal.returns-clause-order
returns-clause-order c =
    let all : c.of.result ≡ map key_path (keys c.self.inside.leaves)
    = c.of.ensures
    ∙ sym (append-nil c.loop-path.paths.items)
    ∙ ap (λ l. c.loop-path.paths.items ++ map key_path l) (sym c.in-None.ensures.steps.0)
    ∙ c.loop-path.invariant
    ∙ ap (λ (e : Effective). map (λ (leaf : List (List ℕ) × List ℕ). leaf.0) e.leaves) (sym c.self.view_is)
    ∙ sym (paths-entries c.self.inside.leaves.entries) in
    subst (λ (paths : List (List (List ℕ))). IsStrictlySortedBy path_cmp paths) (sym all) (paths-order (keys c.self.inside.leaves) c.keys-path-items.ensures.ordered)
