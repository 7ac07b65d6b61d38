-- The page that shows some of the rows of a search.
use Rattle.std.specs.Prelude.{ℕ, pos, List, [], ◌∷◌, ◌++◌, take, drop, codes}
use Rattle.doc_tree.specs.Doc.{Doc, words, whole, list, dict, docs_of, pairs_of}
use Rattle.doc_tree.specs.Written.{text}

-- the page that shows these rows, from this place on, of so many in all
abbrev pub page_doc : List Doc → ℕ → ℕ → Doc
page_doc rows start total = dict (pairs_of ((codes "rows", list (docs_of rows)) ∷ (codes "start", whole (pos start)) ∷ (codes "total", whole (pos total)) ∷ []))

-- the text of a key with a number
abbrev pub counted : List ℕ → ℕ → List ℕ
counted key count = text (words key) ++ (codes ":" ++ text (whole (pos count)))

-- texts behind another, each with a comma before it
abbrev pub behind : List (List ℕ) → List ℕ
behind [] = []
behind (row ∷ rows) = codes "," ++ (row ++ behind rows)

-- texts with commas between
abbrev pub with_commas : List (List ℕ) → List ℕ
with_commas [] = []
with_commas (row ∷ rows) = row ++ behind rows

-- of what was found, that which a page shows: from this place on, at most so many
abbrev pub shown : {T : Type 0} → ℕ → ℕ → List T → List T
shown start rows found = take rows (drop start found)
