-- The rule of a book, which holds between any two steps.
-- Word 0 is the number of tickets that were drawn, and word 1 that of the calls that are done, which is the length of the history. The one slot has the value.
use Rattle.std.specs.Prelude.{◌≡◌, ℕ, ◌+◌, ◌<◌, ◌⊎◌, List, [], ◌∷◌, length, Option, Some, None, true}
use mathlib.Core.Option.{some, none}
use lib.ListN.{get_elem?}
use Rattle.atomic_table.specs.Table.{State}
use Rattle.turn_book.specs.declared.views.View.{View}
use Rattle.turn_book.specs.declared.views.Stage.{Stage}
use Rattle.turn_book.specs.declared.views.Stage.TheVariants.{Empty, Filling, Out}
use Rattle.turn_book.specs.Counts.{total, times, is_ticket, below}
use Rattle.turn_book.specs.Histories.{StartsWith}
use Rattle.turn_book.specs.Views.{out, is_live, first_view}

module _ {E O : Type 0} where
  -- what a seat knows is true of the history, of which so many tickets were drawn
  pub record Agrees (opened : O) (history : List E) (drawn : ℕ) (v : View E O) : Type 0 where
    pub opened_is : 0 < v.parts → v.opened ≡ Some opened
    pub begins : StartsWith history v.seen
    pub begins_told : StartsWith history v.told
    -- a seat with no part has no ticket and no place
    pub without : v.parts ≡ 0 → (v.ticket ≡ None) × (v.mine ≡ []) × (out v.stage ≡ 0)
    -- only a seat whose turn it is has the value, and it has seen the whole history
    pub turn : v.stage ≡ Out → (v.ticket ≡ Some (length history)) × (v.seen ≡ history)
    pub live : is_live v.stage ≡ true
    -- no ticket is drawn any more once one seat has read that they are at their end
    pub ended : v.at_end ≡ true → drawn ≡ 18446744073709551615

  -- how many seats have the ticket
  abbrev pub tickets : ℕ → List (View E O) → ℕ
  tickets k views = total (λ v. is_ticket k v.ticket) views

  -- how often the place is one of a seat's own
  abbrev pub places : ℕ → List (View E O) → ℕ
  places k views = total (λ v. times k v.mine) views

  -- how many calls all seats have made
  abbrev pub calls : List (View E O) → ℕ
  calls views = total (λ v. length v.mine) views

  -- the parts of all seats
  abbrev pub parts : List (View E O) → ℕ
  parts views = total (λ v. v.parts) views

  -- how many seats have the value
  abbrev pub outs : List (View E O) → ℕ
  outs views = total (λ v. out v.stage) views

  -- it is true of the view of each seat
  abbrev pub EachSeat : (View E O → Type 0) → List (View E O) → Type 0
  EachSeat P views = (j : ℕ) (v : View E O) → get_elem? views j ≡ some v → P v

  module _ {S : Type 0} (stands : O → List E → S → Type 0) where
    -- a book that has its value
    pub record Turning (opened : O) (s : State (Option S) (View E O)) : Type 0 where
      -- the one history
      pub history : List E
      pub drawn : ℕ
      pub drawn_fits : drawn < 18446744073709551616
      pub words_are : s.words ≡ drawn ∷ length history ∷ []
      pub one_slot : length s.homes ≡ 1
      -- each number from the length of the history on, up to the tickets drawn, is the ticket of one seat
      pub tickets_are : (k : ℕ) → tickets k s.views + below k (length history) ≡ below k drawn
      -- each place of the history is one seat's
      pub places_are : (k : ℕ) → places k s.views ≡ below k (length history)
      pub calls_are : calls s.views ≡ length history
      pub parts_are : parts s.views ≡ 4294967296
      pub each : EachSeat (Agrees opened history drawn) s.views
      -- where no seat has the value it is in the slot, and stands for the history
      pub home : outs s.views ≡ 0 → (x : S) × (s.homes ≡ some (Some x) ∷ []) × stands opened history x
      pub away : 0 < outs s.views → s.homes ≡ none ∷ []

    -- a book that has no value yet
    abbrev pub Opening : O → State (Option S) (View E O) → Type 0
    Opening o s = (stage : Stage) × ((stage ≡ Empty) × (s.homes ≡ some None ∷ []) ⊎ (stage ≡ Filling) × (s.homes ≡ none ∷ []))
        × (s.views ≡ first_view o stage ∷ []) × (s.words ≡ 0 ∷ 0 ∷ [])

    -- the rule of a book that was made with a value
    abbrev pub Kept : (S → O) → S → State (Option S) (View E O) → Type 0
    Kept opened key s = Turning (opened key) s ⊎ Opening (opened key) s
