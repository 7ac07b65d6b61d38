use Rattle.std.proofs.Common.{◌≡◌, ℕ}
use Rattle.search_query.specs.Matching.{turned}
use Rattle.search_index.specs.Found.{has}
use Rattle.search_index.proofs.seek.turned.Given as goal

-- turned round once for each NOT so far
abbrev pub invariant-loop : goal.invariant-loop
invariant-loop l = (x : ℕ) → has l.answer x ≡ turned l.counter (has l.fn.found x)
