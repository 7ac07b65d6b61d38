-- An open group, or the query itself: what was read of it.
use Rattle.std.specs.Prelude.{ℕ, List}
use Rattle.query_text.specs.Query.{Ands, Item}

-- how deep parentheses and NOTs may nest in it; what OR joins, but for the last; of the last, what AND joins; and of the item that is due, the NOTs before it and how deep it may nest
pub record Frame : Type 0 where
  pub room : ℕ
  pub ors : List Ands
  pub ands : List Item
  pub nots : ℕ
  pub left : ℕ
