-- The remainder of the sum goes on with each byte.
use Rattle.std.proofs.Common.{◌≡◌, ℕ, ◌+◌, ◌*◌, ◌/◌, ◌%◌, sum, take, sym, ap, ◌∙◌, arith}
use Rattle.std.proofs.Math.Nat.{add-mul-mod_self_left, mod-add-div}
use Rattle.std.proofs.lemmas.Nat.{mod_below}
use Rattle.std.proofs.lemmas.List.Sums.{sum_by_more}
use Rattle.shard_core.proofs.numbers.shard_of.Goals as goal

mod_more : (s x c : ℕ) → (s % c + x) % c ≡ (s + x) % c
mod_more s x c =
    let e : (s % c + x) + c * (s / c) ≡ s + x = omega (arith, mod-add-div s c) in
    sym (add-mul-mod_self_left (s % c + x) c (s / c)) ∙ ap (λ n. n % c) e

pub loop-byte-preserved : goal.loop-byte-preserved
loop-byte-preserved c =
    let i = c.loop-byte.byte-index in
    let so_far = sum (take i c.args.name.now) in (
      ap (λ n. (n + c.from.result) % c.args.count) c.loop-byte.invariant.0
          ∙ mod_more so_far c.from.result c.args.count
          ∙ ap (λ n. (so_far + n) % c.args.count) c.from.ensures
          ∙ ap (λ n. n % c.args.count) (sym (sum_by_more (λ (x : ℕ). x) c.args.name.now i 0 c.loop-byte-test.true)),
      mod_below _ _ c.requires.some,
    )
