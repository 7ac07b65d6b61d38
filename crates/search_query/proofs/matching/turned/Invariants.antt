use Rattle.std.proofs.Common.{◌≡◌}
use Rattle.search_query.specs.Matching.{turned}
use Rattle.search_query.proofs.matching.turned.Given as goal

-- turned round once for each NOT so far
abbrev pub invariant-loop : goal.invariant-loop
invariant-loop l = l.answer ≡ turned l.counter l.met
