-- The requests that errands of one request make.
use Rattle.std.specs.Prelude.{ℕ, List, [], ◌∷◌, codes}
use Rattle.doc_tree.specs.Doc.{Doc, words, dict, pairs_of}
use Rattle.doc_tree.specs.Written.{text}
use Rattle.peer_wire.specs.declared.asks.Ask.{Ask}
use Rattle.peer_wire.specs.declared.asks.Verb.{Verb}
use Rattle.peer_wire.specs.declared.asks.Verb.TheVariants.{Get, Post, Delete as Deletes}
use Rattle.peer_wire.specs.declared.asks.Whom.{Whom}
use Rattle.knife_errands.specs.declared.errands.Step.{Step}
use Rattle.knife_errands.specs.declared.errands.Step.TheVariants.{List as Lists, Show, Create, Delete, Search, Raw}
use Rattle.knife_errands.specs.Kinds.{collection}
use Rattle.knife_errands.specs.Targets.{target, place_of, place_of_listing, search_target, raw_target}

-- a request without a body
abbrev pub bare : Verb → List ℕ → Ask
bare verb at = record { verb = verb; target = at; body = [] }

-- a request with a document
abbrev pub sends : Verb → List ℕ → Doc → Ask
sends verb at document = record { verb = verb; target = at; body = text document }

-- the document `{"name":N}`
abbrev pub named : List ℕ → Doc
named name = dict (pairs_of ((codes "name", words name) ∷ []))

-- the request of a step
abbrev pub request_of : Step → Whom → Ask
request_of (Lists listing) whom = bare Get (target whom (place_of_listing listing))
request_of (Show thing) whom = bare Get (target whom (place_of thing))
request_of (Create kind name) whom = sends Post (target whom (collection kind ∷ [])) (named name)
request_of (Delete thing) whom = bare Deletes (target whom (place_of thing))
request_of (Search index query) whom = bare Get (search_target whom index query)
request_of (Raw path) whom = bare Get (raw_target whom path)
