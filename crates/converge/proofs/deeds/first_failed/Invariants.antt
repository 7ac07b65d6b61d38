-- The acts that are left decide.
use Rattle.std.proofs.Common.{◌≡◌, drop}
use Rattle.converge.specs.Runs as spec
use Rattle.converge.proofs.deeds.first_failed.Given as goal

abbrev pub invariant-loop-act : goal.invariant-loop-act
invariant-loop-act l = spec.first_failed l.acts ≡ spec.first_failed (drop l.act-index l.acts)
