-- What is settled stays, and fewer postings are left.
use Rattle.std.proofs.Common.{ℕ, List}
use Rattle.search_query.specs.Pair.{Pair}
use Rattle.search_index.specs.Merge.{Merges, Start}
use Rattle.search_index.specs.Net.{used}
use Rattle.search_index.proofs.merge.drop_less.Given as goal

abbrev pub invariant-loop-place : goal.invariant-loop-place
invariant-loop-place l = (was : Start) (scope : ℕ) (left : List Pair) → Merges was l.initial.terms l.initial.postings scope l.object left l.before → Merges was l.terms l.postings scope l.object left l.before

abbrev pub decreases-loop-place : goal.decreases-loop-place
decreases-loop-place l = used l.postings
