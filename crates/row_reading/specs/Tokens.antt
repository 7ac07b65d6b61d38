-- What is taken of the tokens of a body, for the private clauses of reading. A clause holds where what is next is what a
-- tree can be: of other tokens it says nothing.
use Rattle.std.specs.Prelude.{◌≡◌, ◌++◌, ℕ, List, Option, Some, None, ℤ}
use Rattle.std.specs.Fmt.{signed_decimal}
use Rattle.json.specs.Token.{Token}
use Rattle.doc_tree.specs.Doc.{Doc, docs_of, pairs_of}
use Rattle.doc_tree.specs.Tokens.{doc_tokens, docs_tokens, pairs_tokens}

-- the document was taken, and these tokens are left
abbrev pub TookDoc : Option Doc → List Token → List Token → Type 0
TookDoc None all left = ⊥
TookDoc (Some d) all left = all ≡ doc_tokens d ++ left

-- the documents of a list were taken, with the bracket that closes it
abbrev pub TookDocs : Option (List Doc) → List Token → List Token → Type 0
TookDocs None all left = ⊥
TookDocs (Some ds) all left = all ≡ docs_tokens (docs_of ds) ++ left

-- the pairs of a dict were taken, with the brace that closes it
abbrev pub TookPairs : Option (List (List ℕ × Doc)) → List Token → List Token → Type 0
TookPairs None all left = ⊥
TookPairs (Some ps) all left = all ≡ pairs_tokens (pairs_of ps) ++ left

-- the number was read of its digits
abbrev pub IsReadOf : List ℕ → Option ℤ → Type 0
IsReadOf digits None = ⊥
IsReadOf digits (Some z) = digits ≡ signed_decimal z
