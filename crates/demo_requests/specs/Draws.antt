-- The numbers that a demo draws: the high halves of the states of a linear congruential generator modulo 2^64, which begins at the demo's size.
use Rattle.std.specs.Prelude.{ℕ, zero, suc, ◌+◌, ◌*◌, ◌/◌, ◌%◌, ◌^◌}

-- the state after a draw
unfoldable pub next_state : ℕ → ℕ
next_state x = (x * 6364136223846793005 + 1442695040888963407) % 2 ^ 64

-- the number that a draw gives: the high 32 bits of the state after it
abbrev pub drawn : ℕ → ℕ
drawn x = next_state x / 2 ^ 32

-- the state of a demo of this size after so many draws
abbrev pub state_after : ℕ → ℕ → ℕ
state_after size zero = size
state_after size (suc n) = next_state (state_after size n)

-- the number that a demo of this size draws behind so many others
abbrev pub draw : ℕ → ℕ → ℕ
draw size n = drawn (state_after size n)
