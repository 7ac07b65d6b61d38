-- No number so far is the one.
use Rattle.search_index.proofs.HashedLemmas.{NoneMeant}
use Rattle.search_index.proofs.hashed_numbers.HashedNumbers.find.Given as goal

abbrev pub invariant-loop-step : goal.invariant-loop-step
invariant-loop-step g l = NoneMeant (g.M.Meant.meant l.sought) l.self l.hash l.step
