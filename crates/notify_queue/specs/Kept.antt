-- What contracts see of a queue, and what it keeps.
use Rattle.std.specs.Prelude.{◌≡◌, ℕ, zero, suc, ◌*◌, List, [], ◌∷◌, length, map, slice_index_or, Option, Some, None}
use Rattle.notify_queue.specs.Linked.{IsLinked, next_in, pair_at}
use Rattle.notify_queue.specs.Queue.{Queued}
use Rattle.notify_queue.specs.declared.links.Link.{Link}
use Rattle.notify_queue.specs.declared.links.Link.TheVariants.{Never}
use Rattle.notify_queue.specs.declared.links.Links.{Links}

-- the places to which the table leads from one on, of which there are so many at most
abbrev pub walk : List Link → ℕ → Option ℕ → List ℕ
walk table zero start = []
walk table (suc fuel) None = []
walk table (suc fuel) (Some place) = place ∷ walk table fuel (next_in (slice_index_or table place Never))

-- what contracts see
abbrev pub queued_in : Links → ℕ → ℕ → Queued
queued_in links taken resources = record { ever = map pair_at (walk links.table.items (length links.table.items) links.first); taken = taken; resources = resources }

-- some places are linked in the table, which has four for each resource
abbrev pub IsKept : Links → ℕ → ℕ → Type 0
IsKept links taken resources = (ever : List ℕ) × IsLinked links ever taken × (length links.table.items ≡ 4 * resources)
