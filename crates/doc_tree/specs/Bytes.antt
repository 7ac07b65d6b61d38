-- The bytes that a `Bytes` holds, a constant's or a vector's.
use Rattle.std.specs.Prelude.{ℕ, List}
use Rattle.doc_tree.specs.declared.bytes.Held.{Held}
use Rattle.doc_tree.specs.declared.bytes.Held.TheVariants.{Constant, Owned}

-- the bytes that are held
abbrev pub held_bytes : Held → List ℕ
held_bytes (Constant bytes) = bytes.now
held_bytes (Owned bytes) = bytes.items
