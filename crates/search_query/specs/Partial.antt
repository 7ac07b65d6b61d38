-- Partial searches: the body that asks for keys, each with the path at which its value is looked up, and the rows that show them.
use Rattle.std.specs.Prelude.{ℕ, List, [], ◌∷◌, map, Option, Some, None, option_map, option_and_then, Result, Ok, Err, ok_or, codes}
use Rattle.doc_tree.specs.Text.{text_of}
use Rattle.doc_tree.specs.Doc.{Doc, words, list, dict, docs_list, pairs_list, pairs_of}
use Rattle.doc_tree.specs.declared.kind.Kind.{Kind}
use Rattle.search_query.specs.Parts.{value_at}

-- a key of a row, with the path of its value
abbrev pub Wanted : Type 0
Wanted = List ℕ × List (List ℕ)

-- what is made of each of these, if something is of each
abbrev pub each_of : {X Y : Type 0} → (X → Option Y) → List X → Option (List Y)
each_of make [] = Some []
each_of make (x ∷ xs) = option_and_then (λ y. option_map (λ ys. y ∷ ys) (each_of make xs)) (make x)

-- what the next step makes of what was made, or the fault
abbrev pub then_do : {A B F : Type 0} → Result A F → (A → Result B F) → Result B F
then_do (Ok x) next = next x
then_do (Err f) next = Err f

-- what is made of each of these, or the first fault among them
abbrev pub each_or_fault : {X Y F : Type 0} → (X → Result Y F) → List X → Result (List Y) F
each_or_fault make [] = Ok []
each_or_fault make (x ∷ xs) = then_do (make x) (λ y. then_do (each_or_fault make xs) (λ ys. Ok (y ∷ ys)))

-- the path that a document is: a list of texts
abbrev pub path_of : Doc → Option (List (List ℕ))
path_of (list ds) = each_of text_of (docs_list ds)
path_of d = None

-- a key with the path that its document is, and the key as the fault where that is no path
abbrev pub wanted_of : List ℕ × Doc → Result Wanted (List ℕ)
wanted_of pair = ok_or (option_map (λ path. (pair.0, path)) (path_of pair.1)) pair.0

-- the keys that a body asks for, each with its path, or the field that hasn't its form: the first key whose document is no path, or `body` where it is no dict
abbrev pub partial_of : Doc → Result (List Wanted) (List ℕ)
partial_of (dict pairs) = each_or_fault wanted_of (pairs_list pairs)
partial_of d = Err (codes "body")

-- a key with the value that an object of a kind shows at its path
abbrev pub shown_at : Kind → Doc → Wanted → List ℕ × Doc
shown_at kind object wanted = (wanted.0, value_at kind wanted.1 object)

-- the data of a partial row: each key with its value
abbrev pub data_of : Kind → List Wanted → Doc → List (List ℕ × Doc)
data_of kind partial object = map (shown_at kind object) partial

-- the row that a partial search shows of an object: its data and its URL
abbrev pub partial_row : Kind → List Wanted → List ℕ → Doc → Doc
partial_row kind partial url object = dict (pairs_of ((codes "data", dict (pairs_of (data_of kind partial object))) ∷ (codes "url", words url) ∷ []))
