-- First occurrences, one list after another.
use Rattle.std.proofs.Common.{◌≡◌, List, [], ◌∷◌, ◌++◌, refl}
use Rattle.notify_queue.specs.Queue.{with_pair, with_pairs, OneMoreFirst}
use Rattle.notify_queue.specs.declared.pair.Pair.{Pair}

-- the pairs of two lists in order, behind those before
pub with_pairs-append : (before one other : List Pair) → with_pairs before (one ++ other) ≡ with_pairs (with_pairs before one) other
with_pairs-append before [] other = refl
with_pairs-append before (pair ∷ more) other = with_pairs-append (with_pair before pair) more other

pub one_more_first : OneMoreFirst
one_more_first list pair = with_pairs-append [] list (pair ∷ [])
