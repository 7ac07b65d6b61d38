-- The part of a document at a path, and the change of one key of a dict.
use Rattle.std.specs.Prelude.{ℕ, List, [], ◌∷◌, Option, Some, None, option_and_then, bytes_eq, if◌then◌else◌}
use Rattle.std.specs.BTreeMap.{insert_entry}
use Rattle.std.specs.Cmp.Lexicographic.{slice_cmp}
use Rattle.std.specs.Ordering.{nat_cmp}
use Rattle.doc_tree.specs.Doc.{Doc, null, boolean, whole, words, list, dict, Pairs, no_pairs, then_pair}

-- the document of a dict at a key
abbrev pub pair_at : List ℕ → Pairs → Option Doc
pair_at key no_pairs = None
pair_at key (then_pair k d ps) = if bytes_eq k key then Some d else pair_at key ps

-- what a document has at a key: only a dict has anything
abbrev pub part_at : List ℕ → Doc → Option Doc
part_at key null = None
part_at key (boolean b) = None
part_at key (whole z) = None
part_at key (words s) = None
part_at key (list ds) = None
part_at key (dict ps) = pair_at key ps

-- the part of a document at a path, key by key
abbrev pub at : List (List ℕ) → Doc → Option Doc
at [] d = Some d
at (key ∷ path) d = option_and_then (at path) (part_at key d)

-- the pairs with this document at this key: an equal key takes it, and a new one goes to its place in the order
abbrev pub with_pair : List ℕ → Doc → List (List ℕ × Doc) → List (List ℕ × Doc)
with_pair key d ps = insert_entry (slice_cmp nat_cmp) ps key d
