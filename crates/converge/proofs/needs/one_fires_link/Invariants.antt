-- The notifications that are left decide.
use Rattle.std.proofs.Common.{◌≡◌, drop}
use Rattle.std.specs.List.{list_any}
use Rattle.converge.specs.Needs as spec
use Rattle.converge.proofs.needs.one_fires_link.Given as goal

abbrev pub invariant-loop-fire : goal.invariant-loop-fire
invariant-loop-fire l = list_any (spec.fires_link l.resources) l.fires ≡ list_any (spec.fires_link l.resources) (drop l.fire-index l.fires)
