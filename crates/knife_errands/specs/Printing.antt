-- What is printed of a reply.
use Rattle.std.specs.Prelude.{ℕ, List, ◌++◌, Option, Some, option_map, option_and_then, codes, decimal}
use Rattle.std.specs.List.{flat_map}
use Rattle.doc_tree.specs.Doc.{Doc}
use Rattle.yaml_subset.specs.Written.{written}
use Rattle.knife_errands.specs.declared.errands.Step.{Step}
use Rattle.knife_errands.specs.declared.errands.Step.TheVariants.{List as Lists, Show, Create, Delete, Search, Raw}
use Rattle.knife_errands.specs.declared.errands.Thing.{Thing}
use Rattle.knife_errands.specs.declared.errands.Thing.TheVariants.{Named, Item, Cookbook}
use Rattle.knife_errands.specs.Bodies.{document_in, names_in, total_in, rows_in}
use Rattle.knife_errands.specs.Kinds.{word_of}

-- a text and the end of its line
abbrev pub line : List ℕ → List ℕ
line text = text ++ codes "\n"

-- a line of each text
abbrev pub lines : List (List ℕ) → List ℕ
lines texts = flat_map line texts

-- a kind, and in brackets a name
abbrev pub bracketed : List ℕ → List ℕ → List ℕ
bracketed kind name = kind ++ codes "[" ++ name ++ codes "]"

-- what a thing is called
abbrev pub called : Thing → List ℕ
called (Named kind name) = bracketed (word_of kind) name
called (Item bag id) = bracketed (codes "data_bag_item") (bag ++ codes "::" ++ id)
called (Cookbook name version) = bracketed (codes "cookbook") (name ++ codes " version " ++ version)

-- the line that tells what was done to a thing
abbrev pub done_to : List ℕ → Thing → List ℕ
done_to word thing = line (word ++ codes " " ++ called thing)

-- how many were found, and their names, a line each
abbrev pub found : ℕ → List (List ℕ) → List ℕ
found total names = line (decimal total ++ codes " items found") ++ lines names

-- the lines of what a search found
abbrev pub search_lines : List ℕ → Doc → Option (List ℕ)
search_lines index d = option_and_then (λ total. option_map (found total) (rows_in index d)) (total_in d)

-- what a step prints of the body of its reply; nothing where the body hasn't the form of such a reply
abbrev pub printed : Step → List ℕ → Option (List ℕ)
printed (Lists listing) body = option_map lines (option_and_then (names_in listing) (document_in body))
printed (Show thing) body = option_map written (document_in body)
printed (Create kind name) body = Some (done_to (codes "Created") (Named kind name))
printed (Delete thing) body = Some (done_to (codes "Deleted") thing)
printed (Search index query) body = option_and_then (search_lines index) (document_in body)
printed (Raw path) body = Some (line body)
