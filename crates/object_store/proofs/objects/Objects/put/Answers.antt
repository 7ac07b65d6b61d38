use Rattle.std.proofs.Common.{◌<◌, option_map, sym, ap, subst, ◌∙◌, arith}
use Rattle.std.specs.FinMap as finite
use Rattle.indexmap.specs.IndexMap.{spare}
use Rattle.object_store.specs.Objects.{Store, smaller}
use Rattle.object_store.proofs.ObjectsLemmas.{of_ok}
use Rattle.object_store.proofs.ListsLemmas.{room_left}
use Rattle.object_store.proofs.MovesLemmas.{found-put}
use Rattle.object_store.proofs.ViewLemmas.{objects_in-insert, get-objects_in}
use Rattle.object_store.proofs.objects.Objects.put.Goals as goal

-- with room the insertion succeeds, so the map that is seen has the document
pub returns-clause-objects : goal.returns-clause-objects
returns-clause-objects c =
    let late = c.self.inside.late in
    let shelves = c.self.inside.shelves in
    let both : 0 < smaller (spare late) c.self.inside.lists.spare = subst (λ (v : Store). 0 < v.spare) (sym c.self.view_is) c.requires in
    let had : 0 < spare late = room_left (spare late) c.self.inside.lists.spare both in
    let room : 0 < spare c.take_from-before.new.late = omega (arith, had, c.take_from-before.ensures.spare) in
    objects_in-insert late c.insert.new.self shelves c.take_from-before.new.shelves c.args.key c.args.object
    (found-put late c.take_from-before.new.late c.insert.new.self shelves c.take_from-before.new.shelves c.args.key c.args.object
    c.take_from-before.ensures.left
    (of_ok c.insert.result (c.insert.ensures.succeeds room) c.insert.ensures.updates).0)
    ∙ ap (λ (v : Store). finite.insert v.objects c.args.key c.args.object) c.self.view_is

-- and the object that was kept is given back
pub returns-clause-before : goal.returns-clause-before
returns-clause-before c =
    c.take_from-before.ensures.taken
    ∙ sym (get-objects_in c.self.inside.late c.self.inside.shelves c.args.key)
    ∙ ap (λ (v : Store). finite.get v.objects c.args.key) c.self.view_is
