-- Failures as pairs, for the private clauses.
use Rattle.host_acts.specs.declared.cause.Cause.{Cause}
use Rattle.notify_queue.specs.declared.pair.Pair.{Pair}
use Rattle.converge.specs.declared.deeds.Failure.{Failure}

-- a failure as its pair and its cause
abbrev pub failed_of : Failure → Pair × Cause
failed_of failure = (failure.pair, failure.cause)
