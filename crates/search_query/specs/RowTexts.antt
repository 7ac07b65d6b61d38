-- The texts of rows, for the private clauses.
use Rattle.std.specs.Prelude.{ℕ, List}
use Rattle.doc_tree.specs.Written.{text}
use Rattle.search_query.specs.declared.pages.HeldText.{HeldText}
use Rattle.search_query.specs.declared.pages.HeldText.TheVariants.{Kept, Made}

-- the text that is lent or was made
abbrev pub held_text : HeldText → List ℕ
held_text (Kept object) = text object.now
held_text (Made written) = written
