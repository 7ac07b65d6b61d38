-- The room that two maps have in common.
use Rattle.std.specs.Prelude.{ℕ, nat_le, if◌then◌else◌}

-- the smaller of two numbers
abbrev pub smaller : ℕ → ℕ → ℕ
smaller a b = if nat_le a b then a else b
