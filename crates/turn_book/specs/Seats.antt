-- What the steps of one call do to a seat.
use Rattle.std.specs.Prelude.{◌≡◌, ◌⊎◌, ℕ, ◌<◌, List, [], ◌∷◌, ◌++◌, length, Option, Some, None, true, false, Bool}
use Rattle.turn_book.specs.declared.views.Stage.TheVariants.{Idle, Out}
use Rattle.turn_book.specs.Counts.{times, below}
use Rattle.turn_book.specs.Histories.{StartsWith, Stood}
use Rattle.turn_book.specs.Views.{noted, holding, seeing, going_out}
use Rattle.turn_book.specs.Steps.{SeatOf}

module _ {S E O : Type 0} where
  -- the seat has a part and no ticket, and nothing is in its hand
  pub record IsIdle (m : SeatOf S E O) : Type 0 where
    pub has_part : 0 < m.0.parts
    pub no_ticket : m.0.ticket ≡ None
    pub stage_is : m.0.stage ≡ Idle
    pub told_none : m.0.told ≡ []
    pub hand_is : m.1 ≡ []

  -- the seat has a part, and the value is out with it
  pub record IsOut (m : SeatOf S E O) : Type 0 where
    pub has_part : 0 < m.0.parts
    pub stage_is : m.0.stage ≡ Out
    pub told_none : m.0.told ≡ []
    pub hand_is : m.1 ≡ (0, None) ∷ []

  -- between two calls a seat is one of both
  abbrev pub IsSettled : SeatOf S E O → Type 0
  IsSettled m = IsIdle m ⊎ IsOut m

  -- the tickets were at their end, and nothing else changed
  abbrev pub AtEnd : SeatOf S E O → SeatOf S E O → Type 0
  AtEnd m m' = m' ≡ (noted true m.0, m.1)

  -- it has the ticket; the tickets weren't at their end
  abbrev pub Drew : SeatOf S E O → ℕ → SeatOf S E O → Type 0
  Drew m n m' = m' ≡ (holding n (noted false m.0), m.1)

  -- it waits with the ticket
  abbrev pub Waits : ℕ → SeatOf S E O → Type 0
  Waits n m = (m.0.ticket ≡ Some n) × (m.0.stage ≡ Idle) × (m.1 ≡ [])

  -- its turn has come, and the slot is in its hand with the value
  abbrev pub Called : (O → List E → S → Type 0) → ℕ → SeatOf S E O → SeatOf S E O → Type 0
  Called stands n m m' = (h : List E) × StartsWith h m.0.seen × (length h ≡ n) × (x : S) × (m' ≡ (going_out h m.0, (0, Some x) ∷ [])) × Stood stands m.0.opened h x

  -- its turn has not come, and it saw more
  abbrev pub Seeing : SeatOf S E O → SeatOf S E O → Type 0
  Seeing m m' = (h : List E) × StartsWith h m.0.seen × (m' ≡ (seeing h m.0, []))

  -- its turn has come, or not
  abbrev pub Looked : (O → List E → S → Type 0) → ℕ → SeatOf S E O → SeatOf S E O → Bool → Type 0
  Looked stands n m m' true = Called stands n m m'
  Looked stands n m m' false = Seeing m m'

  -- the value is out; it stands for the whole history, which was seen
  abbrev pub TookValue : (O → List E → S → Type 0) → SeatOf S E O → S → SeatOf S E O → Type 0
  TookValue stands m x m' = (h : List E) × StartsWith h m.0.seen × (m' ≡ (going_out h (holding (length h) (noted false m.0)), (0, None) ∷ [])) × Stood stands m.0.opened h x

  -- the value stands for what was seen with the entry behind it
  abbrev pub AddsTo : (O → List E → S → Type 0) → Option O → List E → Option E → S → Type 0
  AddsTo stands opened seen entry x = (e : E) × (entry ≡ Some e) × Stood stands opened (seen ++ e ∷ []) x

  -- at the end the value stands for the whole history, which has the seat's calls and no others
  abbrev pub ClosesSeat : (O → List E → S → Type 0) → SeatOf S E O → S → Type 0
  ClosesSeat stands m x = (h : List E) × StartsWith h m.0.seen × (length h ≡ length m.0.mine) × ((k : ℕ) → times k m.0.mine ≡ below k (length h)) × Stood stands m.0.opened h x
