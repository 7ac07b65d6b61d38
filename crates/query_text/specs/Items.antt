-- Items as the code holds them: a count of NOTs, and a term or a group.
use Rattle.std.specs.Prelude.{ℕ}
use Rattle.query_text.specs.Query.{Item, term, group, under}
use Rattle.query_text.specs.declared.query.What.{What}
use Rattle.query_text.specs.declared.query.What.TheVariants as what

-- a term or a group
abbrev pub what_of : What → Item
what_of (what.Term t) = term t
what_of (what.Group q) = group q

-- it under so many NOTs
abbrev pub item_with : ℕ → What → Item
item_with nots x = under nots (what_of x)
