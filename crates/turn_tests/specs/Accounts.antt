-- What an account stands for, and what deposits in turn tell of the one history.
use Rattle.std.specs.Prelude.{◌≡◌, ℕ, List, [], ◌∷◌, ◌++◌, length, Some, true, slice_get}
use Rattle.turn_book.specs.Counts.{times, below}
use Rattle.turn_book.specs.Histories.{StartsWith}
use Rattle.turn_book.specs.Callers.{Known, gone_out, given_back}
use Rattle.turn_tests.specs.declared.accounts.Deposit.{Deposit}
use Rattle.turn_tests.specs.declared.accounts.Account.{Account}
use Rattle.turn_tests.specs.Deposits.{deposit, is_legal, sum_after, EndsWith}

-- the history is legal from the first sum on, the account has the sum that it leaves, and the journal is its end
pub record StandsFor (opened : ℕ) (history : List Deposit) (account : Account) : Type 0 where
  pub legal : is_legal opened history ≡ true
  pub sum_is : account.sum ≡ sum_after opened history
  pub journal_is : EndsWith history account.journal.items

-- the deposit is the last of one legal history, which begins with all that was seen before, at a place of its own
pub record Answers (before : Known Deposit ℕ) (amount reply : ℕ) (after : Known Deposit ℕ) : Type 0 where
  pub history : List Deposit
  pub begins : StartsWith history before.seen
  pub legal : (opened : ℕ) × (before.opened ≡ Some opened) × (is_legal opened (history ++ deposit amount reply ∷ []) ≡ true)
  pub after_is : after ≡ given_back (deposit amount reply) (gone_out history before)

-- each reply is that of the deposit of this amount at its place of the history
abbrev pub AtPlaces : List Deposit → ℕ → List ℕ → List ℕ → Type 0
AtPlaces history amount [] [] = Unit {0}
AtPlaces history amount (place ∷ places) (reply ∷ replies) = (slice_get history place ≡ Some (deposit amount reply)) × AtPlaces history amount places replies
AtPlaces history amount [] (reply ∷ replies) = ⊥
AtPlaces history amount (place ∷ places) [] = ⊥

-- the account stands for one history, in which each reply of either thread has a place, and each place is that of one reply
pub record DepositedByTwo (opened first second : ℕ) (replies others : List ℕ) (account : Account) : Type 0 where
  pub history : List Deposit
  pub stands : StandsFor opened history account
  pub places : List ℕ
  pub other_places : List ℕ
  pub first_placed : AtPlaces history first places replies
  pub second_placed : AtPlaces history second other_places others
  pub each_once : (place : ℕ) → times place (places ++ other_places) ≡ below place (length history)
