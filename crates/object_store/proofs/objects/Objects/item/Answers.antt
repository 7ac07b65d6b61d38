use Rattle.std.proofs.Common.{option_map, sym, ap, ◌∙◌}
use Rattle.std.specs.FinMap as finite
use Rattle.doc_tree.specs.declared.kind.Kind.TheVariants as kind
use Rattle.object_store.specs.Items.{item_name}
use Rattle.object_store.specs.Keys.{key}
use Rattle.object_store.specs.Objects.{Store}
use Rattle.object_store.proofs.ViewLemmas.{get-objects_in}
use Rattle.object_store.proofs.objects.Objects.item.Goals as goal

-- the map that is seen has the document of the object that is found
pub returns-clause-object : goal.returns-clause-object
returns-clause-object g c =
    c.look_item.ensures
    ∙ sym (get-objects_in c.self.inside.late c.self.inside.shelves (key kind.Item (item_name c.args.bag.now c.args.id.now)))
    ∙ ap (λ (v : Store). finite.get v.objects (key kind.Item (item_name c.args.bag.now c.args.id.now))) c.self.view_is
