-- The numbers so far are met.
use Rattle.search_index.proofs.HashedLemmas.{AreMetBefore}
use Rattle.search_index.proofs.hashed_numbers.HashedNumbers.begin_anew.Given as goal

abbrev pub invariant-loop-number : goal.invariant-loop-number
invariant-loop-number g l = AreMetBefore (g.H.Hashes.hash l.things) l.self l.number
