use Rattle.std.proofs.Common.{◌≡◌, ◌++◌, List, ℕ, drop, map}
use Rattle.doc_tree.specs.declared.kind.Kind.TheVariants as kinds
use Rattle.object_store.specs.Items.{item_name}
use Rattle.object_store.specs.Objects.{key}
use Rattle.org_core.specs.declared.moves.Move.TheVariants as move
use Rattle.object_routes.proofs.data_bags.add_bag_removal.Given as goal

abbrev pub invariant-loop-id : goal.invariant-loop-id
invariant-loop-id l =
    l.moves ++ map (λ (id : List ℕ). move.TakeOut (key kinds.Item (item_name l.bag id))) (drop l.id-index l.ids)
    ≡ map (λ (id : List ℕ). move.TakeOut (key kinds.Item (item_name l.bag id))) l.ids
