use Rattle.std.proofs.Common.{ap, ◌∙◌}
use Rattle.std.specs.Map.{lookup}
use Rattle.std.specs.Option.{option_or}
use Rattle.object_store.specs.Keys.{same_key}
use Rattle.object_store.specs.Objects.{Store}
use Rattle.object_store.specs.Shelving.{shelf_of, name_on}
use Rattle.object_store.proofs.ViewLemmas.{objects_in-same}
use Rattle.object_store.proofs.objects.Objects.copy.Goals as goal

-- what is found is copied, of those that came late and on the shelves
pub returns-clause-objects : goal.returns-clause-objects
returns-clause-objects c =
    let late = c.self.inside.late in
    let shelves = c.self.inside.shelves in
    objects_in-same late c.in_ok-copy_late.field-0 shelves c.in_ok-copy_shelves.field-0
    (λ k. (λ i. option_or (lookup (same_key k) (c.in_ok-copy_late.ensures i)) (c.in_ok-copy_shelves.ensures (shelf_of k) (name_on k) i)))
    ∙ ap (λ (v : Store). v.objects) c.self.view_is
