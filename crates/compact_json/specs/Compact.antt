-- The compact texts of documents, and the document that each spells (RFC 8259), however deep it nests.
use Rattle.std.specs.Prelude.{◌≡◌, ℕ, List, length, unwrap_or, option_and_then, option_map}
use Rattle.json.specs.Json.{value}
use Rattle.json.specs.Lex.{tokens}
use Rattle.json.specs.Token.{Token}
use Rattle.serde_json.specs.Read.{of_json}
use Rattle.doc_tree.specs.Data.{doc_in}
use Rattle.doc_tree.specs.Doc.{Doc, null}
use Rattle.doc_tree.specs.Valid.{IsDoc}
use Rattle.doc_tree.specs.Written.{text}

-- The document that these tokens begin with, and `null` where they begin with none. It nests at most as deep as there
-- are tokens.
abbrev pub first_doc : List Token → Doc
first_doc ts = unwrap_or (option_and_then doc_in (option_and_then of_json (option_map (λ p. p.0) (value (length ts) ts)))) null

-- the document that bytes begin with, which is all that a compact text spells
abbrev pub spelled : List ℕ → Doc
spelled bytes = first_doc (tokens bytes)

-- these bytes are the compact text of a document that a tree can be
pub record IsCompact (bytes : List ℕ) : Type 0 where
  pub doc : IsDoc (spelled bytes)
  pub is : text (spelled bytes) ≡ bytes
