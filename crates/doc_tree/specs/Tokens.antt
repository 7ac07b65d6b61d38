-- The tokens of a document's text, for the private clauses of writing.
use Rattle.std.specs.Prelude.{List}
use Rattle.json.specs.Token.{Token}
use Rattle.json.specs.Tree as tokens
use Rattle.serde_json.specs.Written.{outline, items_outline, members_outline}
use Rattle.doc_tree.specs.Data.{data_of, items_of, members_of}
use Rattle.doc_tree.specs.Doc.{Doc, Docs, Pairs}

-- the tokens of a document
abbrev pub doc_tokens : Doc → List Token
doc_tokens d = tokens.json_tokens (outline (data_of d))

-- the tokens of a list's documents, with the bracket that closes it
abbrev pub docs_tokens : Docs → List Token
docs_tokens ds = tokens.items_tokens (items_outline (items_of ds))

-- the tokens of a dict's pairs, with the brace that closes it
abbrev pub pairs_tokens : Pairs → List Token
pairs_tokens ps = tokens.members_tokens (members_outline (members_of ps))
