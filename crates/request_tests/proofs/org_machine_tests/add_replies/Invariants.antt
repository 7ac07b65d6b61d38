use Rattle.std.specs.Prelude.{◌≡◌, codes}
use Rattle.org_core.specs.FullStates.{full_in, MeetsFileConditions}
use Rattle.request_tests.proofs.org_machine_tests.add_replies.Given as goal

-- the state is always that of `acme`, and its files meet their conditions
abbrev pub invariant-loop-verb : goal.invariant-loop-verb
invariant-loop-verb g l = (l.state.name ≡ codes "acme") × MeetsFileConditions (full_in l.state l.files)
