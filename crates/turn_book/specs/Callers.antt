-- What a caller knows of a book, and how each call changes it.
use Rattle.std.specs.Prelude.{◌≡◌, ℕ, ◌+◌, ◌-◌, List, [], ◌∷◌, ◌++◌, length, Option, Some, Bool, true, false, refl}
use Rattle.std.specs.Coded.{Coded, code_by, coded×, coded_ℕ, coded_list, coded_option, coded_bool}
use Rattle.atomic_table.specs.Seated.{TableId, table_id_coded}
use Rattle.turn_book.specs.declared.views.View.{View}
use Rattle.turn_book.specs.Counts.{times, below}
use Rattle.turn_book.specs.Histories.{StartsWith, longer, Stood}
use Rattle.turn_book.specs.Views.{is_out}

-- what a caller knows of a book, and what he has done with it
pub record Known (E O : Type 0) : Type 0 where
  -- the book that it is of
  pub book : TableId
  -- what the value was when the book was made
  pub opened : Option O
  -- the parts of the right to close the book
  pub parts : ℕ
  -- the beginning of the history that he has seen
  pub seen : List E
  -- the places of his own calls in the history
  pub mine : List ℕ
  -- whether the value is out with him
  pub is_out : Bool
  -- whether the tickets were at their end when he last read them
  pub at_end : Bool

-- how the logic stores it
abbrev pub known_code : {E O : Type 0} → Coded E → Coded O → Coded (Known E O)
known_code {E} {O} entry opened = code_by ((TableId × Option O) × ((ℕ × (List E × List ℕ)) × (Bool × Bool)))
    (coded× (coded× table_id_coded (coded_option opened)) (coded× (coded× coded_ℕ (coded× (coded_list entry) (coded_list coded_ℕ))) (coded× coded_bool coded_bool)))
    (λ k. ((k.book, k.opened), ((k.parts, (k.seen, k.mine)), (k.is_out, k.at_end))))
    (λ p. record { book = p.0.0; opened = p.0.1; parts = p.1.0.0; seen = p.1.0.1.0; mine = p.1.0.1.1; is_out = p.1.1.0; at_end = p.1.1.1 }) (λ _. refl)

-- all parts that turns of one book have
abbrev pub all_parts : ℕ
all_parts = 4294967296

module _ {E O : Type 0} where
  -- what the view of a seat shows of it
  abbrev pub known : TableId → View E O → Known E O
  known book v = record { book = book; opened = v.opened; parts = v.parts; seen = v.seen; mine = v.mine; is_out = is_out v.stage; at_end = v.at_end }

  -- what is known when the book is made: all parts, and no call
  abbrev pub starting : TableId → O → Known E O
  starting book opened = record { book = book; opened = Some opened; parts = all_parts; seen = []; mine = []; is_out = false; at_end = false }

  -- the tickets were at their end, and nothing else changed
  abbrev pub ended : Known E O → Known E O
  ended k = record { book = k.book; opened = k.opened; parts = k.parts; seen = k.seen; mine = k.mine; is_out = k.is_out; at_end = true }

  -- the value is out, and the whole history was seen
  abbrev pub gone_out : List E → Known E O → Known E O
  gone_out history k = record { book = k.book; opened = k.opened; parts = k.parts; seen = history; mine = k.mine; is_out = true; at_end = false }

  -- the value was given back: the entry is the last that was seen, and its place is one of his own
  abbrev pub given_back : E → Known E O → Known E O
  given_back entry k = record { book = k.book; opened = k.opened; parts = k.parts; seen = k.seen ++ entry ∷ []; mine = k.mine ++ length k.seen ∷ []; is_out = false; at_end = k.at_end }

  -- one part was given away
  abbrev pub one_less : Known E O → Known E O
  one_less k = record { book = k.book; opened = k.opened; parts = k.parts - 1; seen = k.seen; mine = k.mine; is_out = k.is_out; at_end = k.at_end }

  -- who got the part has seen the same and made no call
  abbrev pub one_of : Known E O → Known E O
  one_of k = record { book = k.book; opened = k.opened; parts = 1; seen = k.seen; mine = []; is_out = false; at_end = false }

  -- the parts and the places of both, and the longer of what they had seen
  abbrev pub both_of : Known E O → Known E O → Known E O
  both_of k other = record { book = k.book; opened = k.opened; parts = k.parts + other.parts; seen = longer k.seen other.seen; mine = k.mine ++ other.mine; is_out = k.is_out; at_end = k.at_end }

  module _ {S : Type 0} (stands : O → List E → S → Type 0) where
    -- the value stands for the one history, which begins with all that was seen
    pub record HasOneHistory (before : Known E O) (history : List E) (value : S) : Type 0 where
      pub begins : StartsWith history before.seen
      pub stood : Stood stands before.opened history value

    -- the value is out: it stands for the one history, which begins with all that was seen before and is all seen now
    pub record TookOut (before : Known E O) (value : S) (after : Known E O) : Type 0 where
      pub history : List E
      pub one_history : HasOneHistory before history value
      pub after_is : after ≡ gone_out history before

    -- the value stands for what was seen with the picked entry behind it
    pub record AddsEntry (before : Known E O) (picked : Option E) (value : S) : Type 0 where
      pub entry : E
      pub picked_is : picked ≡ Some entry
      pub stood : Stood stands before.opened (before.seen ++ entry ∷ []) value

    -- the value stands for the one history, which begins with all that was seen and has each of his calls once and no other
    pub record Closes (last : Known E O) (value : S) : Type 0 where
      pub history : List E
      pub one_history : HasOneHistory last history value
      pub calls_are : length history ≡ length last.mine
      pub places_are : (place : ℕ) → times place last.mine ≡ below place (length history)
