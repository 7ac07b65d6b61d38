-- What a room holds of a stream.
use Rattle.std.specs.Prelude.{ℕ, List}

-- the bytes that were read and not yet used, and the place of their message in the stream
pub record Held : Type 0 where
  pub held : List ℕ
  pub place : ℕ
