-- What the document of a stored manifest says, and what is kept beside its tree.
use Rattle.std.specs.Prelude.{◌≡◌, ℕ, Bool, false, List, [], map, Option, Some, option_and_then, unwrap_or, Result, Ok, Err, codes}
use Rattle.std.specs.List.{flat_map}
use Rattle.doc_tree.specs.Doc.{Doc, words, list, dict, docs_list, no_pairs}
use Rattle.doc_tree.specs.Part.{part_at}
use Rattle.version_rules.specs.declared.needs.Need.{Need}
use Rattle.sandboxes.specs.Sums.{lists}
use Rattle.cookbook_meta.specs.Metadata.{needs_of}
use Rattle.cookbook_meta.specs.Parts.{truth_of}
use Rattle.cookbook_meta.specs.Segments.{segments}

-- what was read, or this where it wasn't readable
abbrev pub read_or : {A F : Type 0} → A → Result A F → A
read_or default (Ok x) = x
read_or default (Err fault) = default

-- what stands under `dependencies` in the metadata
abbrev pub dependencies_at : Doc → Option Doc
dependencies_at doc = option_and_then (part_at (codes "dependencies")) (part_at (codes "metadata") doc)

-- the part `dependencies` of the metadata, an empty dict where there is none
abbrev pub dependencies_in : Doc → Doc
dependencies_in doc = unwrap_or (dependencies_at doc) (dict no_pairs)

-- the cookbooks that it needs, none where they aren't readable
abbrev pub needs_in : Doc → List Need
needs_in doc = read_or [] (needs_of (dependencies_at doc))

-- its `frozen?` is true
abbrev pub is_frozen : Doc → Bool
is_frozen doc = read_or false (truth_of (part_at (codes "frozen?") doc))

-- the documents of a list, none where there is no list
abbrev pub docs_in : Option Doc → List Doc
docs_in (Some (list docs)) = docs_list docs
docs_in found = []

-- a text, and the empty one where there is none
abbrev pub text_in : Option Doc → List ℕ
text_in (Some (words text)) = text
text_in found = []

-- the checksum that an entry names its file by
abbrev pub sum_in : Doc → List ℕ
sum_in entry = text_in (part_at (codes "checksum") entry)

-- the entries of a segment
abbrev pub entries_at : Doc → List ℕ → List Doc
entries_at doc segment = docs_in (part_at segment doc)

-- the entries of the nine segments, one segment after another
abbrev pub entries_in : Doc → List Doc
entries_in doc = flat_map (entries_at doc) segments

-- the checksums of the entries of the nine segments
abbrev pub sums_in : Doc → List (List ℕ)
sums_in doc = map sum_in (entries_in doc)

-- one of the entries names its file by this checksum
abbrev pub names_sum : Doc → List ℕ → Bool
names_sum doc sum = lists (sums_in doc) sum

-- these are the needs, the freezing and the checksums of the document
pub record ArePartsOf (doc : Doc) (needs : List Need) (frozen : Bool) (sums : List (List ℕ)) : Type 0 where
  pub needs_are : needs ≡ needs_in doc
  pub frozen_is : frozen ≡ is_frozen doc
  pub sums_are : (sum : List ℕ) → lists sums sum ≡ names_sum doc sum
