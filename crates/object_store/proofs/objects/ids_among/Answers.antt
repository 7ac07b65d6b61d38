-- The ids come in the order of the names.
use Rattle.std.proofs.Common.{◌≡◌, ◌++◌, List, ℕ, [], drop, sym, ap, subst, ◌∙◌, arith, append-nil}
use Rattle.std.proofs.lemmas.List.{drop_all}
use Rattle.std.specs.List.{filter_map}
use Rattle.doc_tree.specs.Valid.{InOrder}
use Rattle.object_store.specs.Items.{behind_front, item_front}
use Rattle.object_store.proofs.ItemsLemmas.{rests-order}
use Rattle.object_store.proofs.objects.ids_among.Goals as goal

pub returns-clause-order : goal.returns-clause-order
returns-clause-order c =
    let front = item_front c.args.bag.now in
    let names = c.args.names.now in
    let none : drop c.loop-name.name-index names ≡ [] = drop_all c.loop-name.name-index names (omega (arith, c.loop-name-test.false)) in
    let all : c.loop-name.ids ≡ filter_map (behind_front front) names =
    sym (append-nil c.loop-name.ids)
    ∙ ap (λ (left : List (List ℕ)). c.loop-name.ids ++ filter_map (behind_front front) left) (sym none)
    ∙ c.loop-name.invariant in
    subst InOrder (sym all) (rests-order front names c.requires)
