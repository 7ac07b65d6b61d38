use Rattle.std.proofs.Common.{is_some, sym, ap, ◌∙◌}
use Rattle.std.specs.FinMap as finite
use Rattle.object_store.specs.Keys.{key}
use Rattle.object_store.specs.Objects.{Store}
use Rattle.object_store.specs.Kept.{found}
use Rattle.object_store.proofs.ObjectsLemmas.{is_found}
use Rattle.object_store.proofs.ViewLemmas.{get-objects_in}
use Rattle.object_store.proofs.objects.Objects.has.Goals as goal

-- the map that is seen has a document where an object is found
pub returns : goal.returns
returns c =
    let late = c.self.inside.late in
    let shelves = c.self.inside.shelves in
    c.is_some.ensures
    ∙ is_found c.look.result (found late shelves (key c.args.kind c.args.name.now)) c.look.ensures
    ∙ ap is_some (sym (get-objects_in late shelves (key c.args.kind c.args.name.now)))
    ∙ ap (λ (v : Store). is_some (finite.get v.objects (key c.args.kind c.args.name.now))) c.self.view_is
