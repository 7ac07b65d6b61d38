-- Where none came late, none is found and nothing changes.
use Rattle.std.proofs.Common.{sym, rules}
use Rattle.object_store.proofs.MovesLemmas.{none_waits, none_taken}
use Rattle.object_store.proofs.objects.take_late.Goals as goal

pub returns-then-is_empty-clause-taken : goal.returns-then-is_empty-clause-taken
returns-then-is_empty-clause-taken c = sym (none_waits c.args.late.now (search rules) c.args.key.now)

pub returns-then-is_empty-clause-left : goal.returns-then-is_empty-clause-left
returns-then-is_empty-clause-left c = λ k. none_taken c.args.late.now (search rules) c.args.key.now k
