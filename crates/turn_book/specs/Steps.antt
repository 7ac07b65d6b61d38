-- What each step tells the seat that makes it.
use Rattle.std.specs.Prelude.{◌≡◌, ◌≢◌, ℕ, List, ◌∷◌, length, if◌then◌else◌, Option, Some, None, ◌==◌}
use Rattle.atomic_table.specs.Table.{Me, Step, rest}
use Rattle.turn_book.specs.declared.views.View.{View}
use Rattle.turn_book.specs.Histories.{StartsWith, longer, Stood}
use Rattle.turn_book.specs.Views.{filling, started, noted, holding, seeing, going_out, advanced, learned}

-- the view of a seat, and what it has in its hand
abbrev pub SeatOf : Type 0 → Type 0 → Type 0 → Type 0
SeatOf S E O = Me (Option S) (View E O)

module _ {S E O : Type 0} where
  -- the slot without a value went into its hand
  abbrev pub took_empty : Step (Option S) → SeatOf S E O → ℕ → SeatOf S E O → Type 0
  took_empty st m n m' = m' ≡ (filling m.0, (0, None) ∷ m.1)

  -- the slot went home with the first value
  abbrev pub began : Step (Option S) → SeatOf S E O → ℕ → SeatOf S E O → Type 0
  began st m n m' = m' ≡ (started m.0, rest m.1)

  -- so many tickets were drawn, or all
  abbrev pub read : Step (Option S) → SeatOf S E O → ℕ → SeatOf S E O → Type 0
  read st m n m' = m' ≡ (noted (n == 18446744073709551615) m.0, m.1)

  -- the ticket was drawn, where no other was drawn since
  abbrev pub drew : Step (Option S) → SeatOf S E O → ℕ → SeatOf S E O → Type 0
  drew st m n m' = m' ≡ ((if n == st.first then holding n m.0 else m.0), m.1)

  -- the history has so many entries, and was seen; where that is the seat's ticket, the value that stands for it went into its hand
  abbrev pub looked : (O → List E → S → Type 0) → Step (Option S) → SeatOf S E O → ℕ → SeatOf S E O → Type 0
  looked stands st m n m' = (h : List E) × StartsWith h m.0.seen × (length h ≡ n)
      × ((m.0.ticket ≡ Some n → (x : S) × (m' ≡ (going_out h m.0, (0, Some x) ∷ m.1)) × Stood stands m.0.opened h x) × (m.0.ticket ≢ Some n → m' ≡ (seeing h m.0, m.1)))

  -- the value went home, and the entry joined the history
  abbrev pub gave : Option E → Step (Option S) → SeatOf S E O → ℕ → SeatOf S E O → Type 0
  gave (Some e) st m n m' = m' ≡ (advanced e m.0, rest m.1)
  gave None st m n m' = Unit {0}

  -- the longer of what both had seen was kept, and it begins with either
  abbrev pub learned_both : Step (Option S) → SeatOf S E O → ℕ → SeatOf S E O → Type 0
  learned_both st m n m' = (m' ≡ (learned m.0, m.1)) × StartsWith (longer m.0.seen m.0.told) m.0.seen × StartsWith (longer m.0.seen m.0.told) m.0.told
