-- Pairs that are queued once at most, in order.
use Rattle.std.specs.Prelude.{◌≡◌, ℕ, ◌+◌, ◌<◌, ◌==◌, ◌&&◌, Bool, List, [], ◌∷◌, ◌++◌, length, min, if◌then◌else◌}
use Rattle.std.specs.List.{list_any}
use Rattle.notify_queue.specs.declared.pair.Pair.{Pair}

-- the same resource and the same action
abbrev pub same_pair : Pair → Pair → Bool
same_pair one other = one.resource == other.resource && one.action == other.action

-- the pair is among these
abbrev pub has_pair : List Pair → Pair → Bool
has_pair pairs pair = list_any (same_pair pair) pairs

-- these pairs, and behind them this one, unless it is among them
abbrev pub with_pair : List Pair → Pair → List Pair
with_pair pairs pair = if has_pair pairs pair then pairs else pairs ++ pair ∷ []

-- these pairs, and behind them in order those of a list that are not among those before
abbrev pub with_pairs : List Pair → List Pair → List Pair
with_pairs pairs [] = pairs
with_pairs pairs (pair ∷ more) = with_pairs (with_pair pairs pair) more

-- the first occurrences in a list, in order
abbrev pub firsts : List Pair → List Pair
firsts list = with_pairs [] list

-- a queue: the pairs that were ever queued, in order, how many of them were taken, and how many resources there are
pub record Queued : Type 0 where
  pub ever : List Pair
  pub taken : ℕ
  pub resources : ℕ

-- the queue to which nothing was queued
abbrev pub empty : ℕ → Queued
empty resources = record { ever = []; taken = 0; resources = resources }

-- this queue, once a pair was queued
abbrev pub queue : Pair → Queued → Queued
queue pair q = record { ever = with_pair q.ever pair; taken = q.taken; resources = q.resources }

-- this queue, once the next pair was taken, if one waits
abbrev pub next : Queued → Queued
next q = record { ever = q.ever; taken = min (q.taken + 1) (length q.ever); resources = q.resources }

-- a pair of these resources
pub record IsWithin (resources : ℕ) (pair : Pair) : Type 0 where
  pub resource : pair.resource < resources
  pub action : pair.action < 4

-- the first occurrences in a list and one more pair
abbrev pub OneMoreFirst : Type 0
OneMoreFirst = (list : List Pair) (pair : Pair) → firsts (list ++ pair ∷ []) ≡ with_pair (firsts list) pair
