use Rattle.std.proofs.Common.{is_some, ap}
use Rattle.doc_tree.specs.declared.kind.Kind.TheVariants as kind
use Rattle.object_store.specs.Keys.{key}
use Rattle.object_store.specs.Kept.{has, settled, item_among}
use Rattle.object_store.proofs.FoundLemmas.{item-found, all-added}
use Rattle.object_store.proofs.items.add_items.Goals as goal

-- no shelf is left, and each item is on one of them
pub returns : goal.returns
returns c = λ name.
    let shelves = c.args.shelves.now in
    all-added (has c.loop-word.names name) (has c.args.names.now name) (item_among name shelves.entries) (is_some (settled shelves (key kind.Item name))) (item_among name c.loop-word.word-iterator)
    (ap (item_among name) c.in-None.ensures.steps.0)
    (c.loop-word.invariant name)
    (item-found shelves name)
