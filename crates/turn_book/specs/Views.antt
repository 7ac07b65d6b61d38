-- How the view of a seat changes.
use Rattle.std.specs.Prelude.{ℕ, ◌+◌, ◌-◌, List, [], ◌∷◌, ◌++◌, length, Option, Some, None, Bool, true, false}
use Rattle.turn_book.specs.declared.views.View.{View}
use Rattle.turn_book.specs.declared.views.Stage.{Stage}
use Rattle.turn_book.specs.declared.views.Stage.TheVariants.{Empty, Filling, Idle, Out}
use Rattle.turn_book.specs.Histories.{longer}

-- 1 where the value is out
abbrev pub out : Stage → ℕ
out Empty = 0
out Filling = 0
out Idle = 0
out Out = 1

-- whether the value is out
abbrev pub is_out : Stage → Bool
is_out Empty = false
is_out Filling = false
is_out Idle = false
is_out Out = true

-- whether the book has its value
abbrev pub is_live : Stage → Bool
is_live Empty = false
is_live Filling = false
is_live Idle = true
is_live Out = true

module _ {E O : Type 0} where
  -- a view with these fields
  abbrev pub view : Option O → ℕ → List E → List E → List ℕ → Option ℕ → Stage → Bool → View E O
  view o n seen told mine ticket stage ended = record { opened = o; parts = n; seen = seen; told = told; mine = mine; ticket = ticket; stage = stage; at_end = ended }

  -- the view of the first seat, which has all parts
  abbrev pub first_view : O → Stage → View E O
  first_view o stage = view (Some o) 4294967296 [] [] [] None stage false

  -- the slot without a value is in its hand
  abbrev pub filling : View E O → View E O
  filling v = view v.opened v.parts v.seen v.told v.mine v.ticket Filling v.at_end

  -- the first value is in the slot
  abbrev pub started : View E O → View E O
  started v = view v.opened v.parts v.seen v.told v.mine v.ticket Idle v.at_end

  -- the tickets were read, and were at their end or weren't
  abbrev pub noted : Bool → View E O → View E O
  noted ended v = view v.opened v.parts v.seen v.told v.mine v.ticket v.stage ended

  -- it has a ticket
  abbrev pub holding : ℕ → View E O → View E O
  holding n v = view v.opened v.parts v.seen v.told v.mine (Some n) v.stage v.at_end

  -- it has seen so much of the history
  abbrev pub seeing : List E → View E O → View E O
  seeing h v = view v.opened v.parts h v.told v.mine v.ticket v.stage v.at_end

  -- its turn has come: it has seen the whole history, and the value is out with it
  abbrev pub going_out : List E → View E O → View E O
  going_out h v = view v.opened v.parts h v.told v.mine v.ticket Out v.at_end

  -- its call is done: the entry is the last of the history, at a place of its own
  abbrev pub advanced : E → View E O → View E O
  advanced e v = view v.opened v.parts (v.seen ++ e ∷ []) v.told (v.mine ++ length v.seen ∷ []) None Idle v.at_end

  -- it keeps the longer of what it had seen and what it was told
  abbrev pub learned : View E O → View E O
  learned v = view v.opened v.parts (longer v.seen v.told) [] v.mine v.ticket v.stage v.at_end

  -- it gave one part away
  abbrev pub less_one : View E O → View E O
  less_one v = view v.opened (v.parts - 1) v.seen v.told v.mine v.ticket v.stage v.at_end

  -- the view of the seat that got the part, which has seen the same and made no call
  abbrev pub one_part : View E O → View E O
  one_part v = view v.opened 1 v.seen [] [] None Idle false

  -- both parts and the places of both; what the other had seen is told
  abbrev pub joined : View E O → View E O → View E O
  joined v w = view v.opened (v.parts + w.parts) v.seen w.seen (v.mine ++ w.mine) v.ticket v.stage v.at_end

  -- what is left of the other
  abbrev pub spent : View E O
  spent = view None 0 [] [] [] None Idle false
