-- The notifications that are left decide.
use Rattle.std.proofs.Common.{◌≡◌, drop}
use Rattle.std.specs.List.{list_any}
use Rattle.converge.specs.Needs as spec
use Rattle.converge.proofs.needs.any_fires_link.Given as goal

abbrev pub invariant-loop-fires : goal.invariant-loop-fires
invariant-loop-fires l = list_any (list_any (spec.fires_link l.resources)) l.fn.fires ≡ list_any (list_any (spec.fires_link l.resources)) (drop l.fires-index l.fn.fires)
