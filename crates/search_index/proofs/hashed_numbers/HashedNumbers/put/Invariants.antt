-- No slot so far is free.
use Rattle.std.proofs.Common.{◌≡◌}
use Rattle.search_index.proofs.HashedLemmas.{NoneFree}
use Rattle.search_index.proofs.hashed_numbers.HashedNumbers.put.Given as goal

abbrev pub invariant-loop-step : goal.invariant-loop-step
invariant-loop-step l = (l.self ≡ l.initial.self) × NoneFree l.self l.hash l.step
