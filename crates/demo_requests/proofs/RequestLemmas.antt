-- How many requests there are, which is the first of them, and which come behind it.
use Rattle.std.proofs.Common.{◌≡◌, ℕ, zero, suc, ◌+◌, ◌-◌, length, drop, slice_get, Some, refl, ap, arith}
use Rattle.std.proofs.lemmas.List.FromFn.{length-map-range_with_len}
use Rattle.demo_requests.specs.DemoRequests.{request, requests}

-- so many requests are so many
pub so_many : (size number count : ℕ) → length (requests size number count) ≡ count
so_many size number count = length-map-range_with_len (request size) number count

-- the first of some
pub first_of : (size number count : ℕ) → (count ≡ 0 → ⊥) → slice_get (requests size number count) 0 ≡ Some (request size number)
first_of size number zero some = absurd (some refl)
first_of size number (suc count) some = refl

-- those behind it
pub rest_of : (size number count : ℕ) → (count ≡ 0 → ⊥) → requests size (number + 1) (count - 1) ≡ drop 1 (requests size number count)
rest_of size number zero some = absurd (some refl)
rest_of size number (suc count) some =
    let less : suc count - 1 ≡ count = omega arith in
    ap (requests size (number + 1)) less
