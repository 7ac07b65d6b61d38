-- Deposits, and what a list of them leaves.
use Rattle.std.specs.Prelude.{◌≡◌, ◌⊎◌, ℕ, ◌+◌, min, List, [], ◌∷◌, ◌++◌, Bool, true, ◌&&◌, ◌==◌}
use Rattle.turn_tests.specs.declared.accounts.Deposit.{Deposit}

-- so much was paid in, and this was answered
abbrev pub deposit : ℕ → ℕ → Deposit
deposit amount reply = record { amount = amount; reply = reply }

-- the sum after a deposit
abbrev pub after : ℕ → Deposit → ℕ
after sum d = min (sum + d.amount) 18446744073709551615

-- each reply is the sum before the deposit
abbrev pub is_legal : ℕ → List Deposit → Bool
is_legal sum [] = true
is_legal sum (d ∷ ds) = (d.reply == sum) && is_legal (after sum d) ds

-- the sum that the deposits leave
abbrev pub sum_after : ℕ → List Deposit → ℕ
sum_after sum [] = sum
sum_after sum (d ∷ ds) = sum_after (after sum d) ds

-- the deposit is the last of the journal, or the journal had no room and is empty
abbrev pub Journals : List Deposit → Deposit → List Deposit → Type 0
Journals old d new = (new ≡ old ++ d ∷ []) ⊎ (new ≡ [])

-- the history ends with the journal
abbrev pub EndsWith : List Deposit → List Deposit → Type 0
EndsWith history journal = (before : List Deposit) × (history ≡ before ++ journal)
