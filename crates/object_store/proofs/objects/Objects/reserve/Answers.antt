use Rattle.std.proofs.Common.{ap, ◌∙◌}
use Rattle.std.specs.Map.{lookup}
use Rattle.std.specs.Option.{option_or}
use Rattle.object_store.specs.Keys.{same_key}
use Rattle.object_store.specs.Objects.{Store}
use Rattle.object_store.specs.Kept.{settled}
use Rattle.object_store.proofs.ViewLemmas.{objects_in-same}
use Rattle.object_store.proofs.objects.Objects.reserve.Goals as goal

-- where it stops, the same is seen
pub returns-in_err-settle-clause-objects : goal.returns-in_err-settle-clause-objects
returns-in_err-settle-clause-objects c =
    objects_in-same c.self.inside.late c.settle.new.late c.self.inside.shelves c.settle.new.shelves c.settle.ensures.same
    ∙ ap (λ (v : Store). v.objects) c.self.view_is

pub returns-in_err-reserve-clause-objects : goal.returns-in_err-reserve-clause-objects
returns-in_err-reserve-clause-objects c =
    objects_in-same c.self.inside.late c.reserve.new.self c.self.inside.shelves c.settle.new.shelves
    (λ k. ap (λ es. option_or (lookup (same_key k) es) (settled c.settle.new.shelves k)) c.reserve.ensures.entries ∙ c.settle.ensures.same k)
    ∙ ap (λ (v : Store). v.objects) c.self.view_is

-- and where there is room
pub returns-clause-objects : goal.returns-clause-objects
returns-clause-objects c =
    objects_in-same c.self.inside.late c.reserve.new.self c.self.inside.shelves c.settle.new.shelves
    (λ k. ap (λ es. option_or (lookup (same_key k) es) (settled c.settle.new.shelves k)) c.reserve.ensures.entries ∙ c.settle.ensures.same k)
    ∙ ap (λ (v : Store). v.objects) c.self.view_is

pub returns-in_err-reserve-2-clause-objects : goal.returns-in_err-reserve-2-clause-objects
returns-in_err-reserve-2-clause-objects c =
    objects_in-same c.self.inside.late c.reserve.new.self c.self.inside.shelves c.settle.new.shelves
    (λ k. ap (λ es. option_or (lookup (same_key k) es) (settled c.settle.new.shelves k)) c.reserve.ensures.entries ∙ c.settle.ensures.same k)
    ∙ ap (λ (v : Store). v.objects) c.self.view_is
