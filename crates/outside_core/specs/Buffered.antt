-- What a buffer before a sink holds.
use Rattle.std.specs.Prelude.{ℕ, List}

-- the bytes that wait to be written, and the most that may wait
pub record WaitingBytes : Type 0 where
  pub waiting : List ℕ
  pub capacity : ℕ
