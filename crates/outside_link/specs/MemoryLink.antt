-- What a link in memory holds.
use Rattle.std.specs.Prelude.{ℕ, List, ◌∷◌, ◌++◌, length, drop}
use Rattle.outside_core.specs.MemorySink.{RoomyBytes}

-- all that the peer sends, how many bytes of it were read, the most that a read gives, and what was written, with its room and the plan of the calls that fail
pub record LinkedBytes : Type 0 where
  pub input : List ℕ
  pub taken : ℕ
  pub piece : ℕ
  pub sent : RoomyBytes

-- the bytes that are left to read
abbrev pub left_of : LinkedBytes → List ℕ
left_of link = drop link.taken link.input

-- what a read leaves: what was written and the input, as one text from which both can be told
abbrev pub kept_by_reads : LinkedBytes → List ℕ
kept_by_reads link = length link.sent.gained ∷ link.sent.gained ++ link.input

-- what a write leaves: how much was read, and the input
abbrev pub kept_by_writes : LinkedBytes → List ℕ
kept_by_writes link = link.taken ∷ link.input
