-- What a source over bytes in memory holds.
use Rattle.std.specs.Prelude.{ℕ, List}
use Rattle.outside_core.specs.Failures.{Plan}

-- the bytes that are left, and the most bytes that a read gives
pub record BytesInPieces : Type 0 where
  pub left : List ℕ
  pub piece : ℕ

-- the same, and which reads fail
pub record FailingBytes : Type 0 where
  pub left : List ℕ
  pub piece : ℕ
  pub failures : Plan
