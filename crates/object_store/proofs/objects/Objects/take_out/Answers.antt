use Rattle.std.proofs.Common.{option_map, sym, ap, ◌∙◌}
use Rattle.std.specs.FinMap as finite
use Rattle.object_store.specs.Objects.{Store}
use Rattle.object_store.proofs.ViewLemmas.{objects_in-remove, get-objects_in}
use Rattle.object_store.proofs.objects.Objects.take_out.Goals as goal

-- the map that is seen has nothing of this key
pub returns-clause-objects : goal.returns-clause-objects
returns-clause-objects c =
    objects_in-remove c.self.inside.late c.take_from.new.late c.self.inside.shelves c.take_from.new.shelves c.args.key.now c.take_from.ensures.left
    ∙ ap (λ (v : Store). finite.remove v.objects c.args.key.now) c.self.view_is

-- the object that was kept is given back
pub returns-clause-taken : goal.returns-clause-taken
returns-clause-taken c =
    c.take_from.ensures.taken
    ∙ sym (get-objects_in c.self.inside.late c.self.inside.shelves c.args.key.now)
    ∙ ap (λ (v : Store). finite.get v.objects c.args.key.now) c.self.view_is
