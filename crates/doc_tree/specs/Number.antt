-- The whole numbers of a document: those that an i64 or a u64 can hold, and their two words.
use Rattle.std.specs.Prelude.{ℕ, ◌≡◌, ◌^◌, ◌-◌, ◌<◌, ◌≤◌, ℤ, pos, negsuc, ◌≤ℤ◌, refl}
use Rattle.std.proofs.Common.{arith, sym, ap}

-- from -2^63 to 2^64 - 1
abbrev pub IsWhole : ℤ → Type 0
IsWhole z = (negsuc (2 ^ 63 - 1) ≤ℤ z) × (z ≤ℤ pos (2 ^ 64 - 1))

-- the number of two words: the lower one, less 2^64 where the higher is below 0
abbrev pub of_words : ℤ → ℕ → ℤ
of_words (pos _) low = pos low
of_words (negsuc _) low = negsuc (2 ^ 64 - 1 - low)

-- the higher word is 0 or -1, and with -1 the lower one is at least 2^63
abbrev pub AreWords : ℤ → ℕ → Type 0
AreWords (pos n) low = (n ≡ 0) × (low < 2 ^ 64)
AreWords (negsuc n) low = (n ≡ 0) × (low < 2 ^ 64) × (2 ^ 63 ≤ low)

-- the higher word of a number
abbrev pub high_word : ℤ → ℤ
high_word (pos n) = pos 0
high_word (negsuc n) = negsuc 0

-- the lower word of a number
abbrev pub low_word : ℤ → ℕ
low_word (pos n) = n
low_word (negsuc n) = 2 ^ 64 - 1 - n

-- words give the number that has them
pub same_high : (high : ℤ) (low : ℕ) → AreWords high low → high_word (of_words high low) ≡ high
same_high (pos n) low h = ap pos (sym h.0)
same_high (negsuc n) low h = ap negsuc (sym h.0)

pub same_low : (high : ℤ) (low : ℕ) → AreWords high low → low_word (of_words high low) ≡ low
same_low (pos n) low h = refl
same_low (negsuc n) low h = let below = h.1 in omega arith
