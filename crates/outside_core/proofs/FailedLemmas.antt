-- What follows from a count that rose.
use Rattle.std.proofs.Common.{ℕ, ◌≤◌, inl, inr, arith}
use Rattle.outside_core.specs.Failed.{Rose}

-- a count that rose later rose from an earlier value too
pub Rose-from : (a b c : ℕ) → a ≤ b → Rose b c → Rose a c
Rose-from a b c le (inl lt) = inl (omega arith)
Rose-from a b c le (inr last) = inr last

-- a count that rose earlier rose up to a later value that fits
pub Rose-until : (a b c : ℕ) → Rose a b → b ≤ c → c ≤ 18446744073709551615 → Rose a c
Rose-until a b c (inl lt) le fits = inl (omega arith)
Rose-until a b c (inr last) le fits = inr (omega arith)
