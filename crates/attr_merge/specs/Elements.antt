-- Elements that are joined: each once, at its first occurrence.
use Rattle.std.specs.Prelude.{ℕ, List, [], ◌∷◌, ◌++◌, Bool, bytes_eq, if◌then◌else◌}
use Rattle.std.specs.List.{list_any}
use Rattle.doc_tree.specs.Doc.{Doc}
use Rattle.doc_tree.specs.Written.{text}

-- whether one of these documents has this compact text
abbrev pub has_text : List ℕ → List Doc → Bool
has_text bytes ds = list_any (λ (e : Doc). bytes_eq bytes (text e)) ds

-- a document behind these, unless one of them is the same: documents are the same where their compact texts are
abbrev pub with_element : List Doc → Doc → List Doc
with_element ds d = if has_text (text d) ds then ds else ds ++ d ∷ []

-- more documents behind these, one by one
abbrev pub with_elements : List Doc → List Doc → List Doc
with_elements ds [] = ds
with_elements ds (d ∷ more) = with_elements (with_element ds d) more
