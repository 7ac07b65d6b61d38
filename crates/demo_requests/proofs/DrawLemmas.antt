-- A state modulo 2^64, made in two steps.
use Rattle.std.proofs.Common.{◌≡◌, ℕ, suc, ◌+◌, ◌*◌, ◌/◌, ◌%◌, ◌^◌, sym, ap, ◌∙◌, arith}
use Rattle.std.proofs.Math.Nat.{add-mul-mod_self_left, mod-add-div}
use Rattle.demo_requests.specs.Draws.{next_state, state_after}

-- a sum modulo c doesn't change where a summand is taken modulo c
mod_more : (s x c : ℕ) → (s % c + x) % c ≡ (s + x) % c
mod_more s x c =
    let e : (s % c + x) + c * (s / c) ≡ s + x = omega (arith, mod-add-div s c) in
    sym (add-mul-mod_self_left (s % c + x) c (s / c)) ∙ ap (λ n. n % c) e

-- a product modulo 2^64, and then a sum modulo 2^64
pub follows : (x product result : ℕ) → product ≡ (x * 6364136223846793005) % 2 ^ 64 → result ≡ (product + 1442695040888963407) % 2 ^ 64 → result ≡ next_state x
unfolding next_state
follows x product result multiplied added =
    added ∙ ap (λ n. (n + 1442695040888963407) % 2 ^ 64) multiplied ∙ mod_more (x * 6364136223846793005) 1442695040888963407 (2 ^ 64)

-- four draws more are the draws of one turn more
pub four_more : (size number : ℕ) → state_after size (4 * (number + 1)) ≡ next_state (next_state (next_state (next_state (state_after size (4 * number)))))
four_more size number =
    let four : 4 * (number + 1) ≡ suc (suc (suc (suc (4 * number)))) = omega arith in
    ap (state_after size) four
