use Rattle.std.proofs.Common.{◌&&◌, bytes_eq, sym, ap, ◌∙◌}
use Rattle.doc_tree.specs.declared.kind.Kind.TheVariants as kind
use Rattle.object_store.specs.Items.{item_name}
use Rattle.object_store.proofs.KeysLemmas.{same_key-key}
use Rattle.object_store.proofs.key.Key.is_item.Goals as goal

pub returns-then-is_of : goal.returns-then-is_of
returns-then-is_of c =
    c.is_item.ensures
    ∙ ap (bytes_eq (item_name c.args.bag.now c.args.id.now)) c.as_str.ensures.value
    ∙ ap (λ b. b && bytes_eq (item_name c.args.bag.now c.args.id.now) c.args.self.now.name) (sym c.if-is_of.true ∙ c.is_of.ensures)
    ∙ sym (same_key-key kind.Item (item_name c.args.bag.now c.args.id.now) c.args.self.now)
