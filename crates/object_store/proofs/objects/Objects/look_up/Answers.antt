use Rattle.std.proofs.Common.{option_map, sym, ap, ◌∙◌}
use Rattle.std.specs.FinMap as finite
use Rattle.object_store.specs.Keys.{key}
use Rattle.object_store.specs.Objects.{Store}
use Rattle.object_store.proofs.ViewLemmas.{get-objects_in}
use Rattle.object_store.proofs.objects.Objects.look_up.Goals as goal

-- the map that is seen has the document of the object that is found
pub returns-clause-object : goal.returns-clause-object
returns-clause-object g c =
    c.look.ensures
    ∙ sym (get-objects_in c.self.inside.late c.self.inside.shelves (key c.args.kind c.args.name.now))
    ∙ ap (λ (v : Store). finite.get v.objects (key c.args.kind c.args.name.now)) c.self.view_is
