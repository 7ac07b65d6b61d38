-- What a sink in memory holds.
use Rattle.std.specs.Prelude.{ℕ, ◌-◌, Bool, ◌||◌, List, ◌++◌, length, take, [], if◌then◌else◌, nat_lt}
use Rattle.outside_core.specs.Failures.{Plan, is_due, after_call, after_fault}

-- the bytes gained so far, the room for all that is gained, and which writes fail
pub record RoomyBytes : Type 0 where
  pub gained : List ℕ
  pub room : ℕ
  pub failures : Plan

-- the room that is left
abbrev pub free_room : RoomyBytes → ℕ
free_room sink = sink.room - length sink.gained

-- the next write is to fail, or the bytes are more than the room that is left
abbrev pub refuses_write : RoomyBytes → List ℕ → Bool
refuses_write sink bytes = is_due sink.failures || nat_lt (free_room sink) (length bytes)

-- the bytes that a write gains: none where it is to fail, else those that have room
abbrev pub gained_by_write : RoomyBytes → List ℕ → List ℕ
gained_by_write sink bytes = if is_due sink.failures then [] else take (free_room sink) bytes

-- the failures after a write: a fault is counted where it is planned, or else where room is wanting
abbrev pub failures_after_write : RoomyBytes → List ℕ → Plan
failures_after_write sink bytes =
    let counted = after_call sink.failures in
    if is_due sink.failures then counted
    else if nat_lt (free_room sink) (length bytes) then after_fault counted else counted

-- the sink after a write of these bytes
abbrev pub after_write : RoomyBytes → List ℕ → RoomyBytes
after_write sink bytes =
    record sink { gained = sink.gained ++ gained_by_write sink bytes; failures = failures_after_write sink bytes }
