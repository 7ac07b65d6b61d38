-- The nine segments of a manifest.
use Rattle.std.specs.Prelude.{ℕ, Bool, List, [], ◌∷◌, map, Option, Some, None, Result, Ok, Err, codes, bytes_eq}
use Rattle.std.specs.List.{filter}
use Rattle.doc_tree.specs.Doc.{Doc, list, Pairs}
use Rattle.doc_tree.specs.Part.{pair_at}
use Rattle.cookbook_meta.specs.Entries.{with_entries, entry_doc}
use Rattle.cookbook_meta.specs.Faults.{then_do, in_field}
use Rattle.cookbook_meta.specs.declared.entries.Entry.{Entry}
use Rattle.cookbook_meta.specs.declared.fault.Flaw.{Flaw}
use Rattle.cookbook_meta.specs.declared.fault.Flaw.TheVariants.{WrongKind}
use Rattle.cookbook_meta.specs.declared.fault.MetaFault.{MetaFault}

-- the segments, in the order in which they are looked at
abbrev pub segments : List (List ℕ)
segments =
    codes "recipes"
    ∷ codes "definitions"
    ∷ codes "libraries"
    ∷ codes "attributes"
    ∷ codes "files"
    ∷ codes "templates"
    ∷ codes "resources"
    ∷ codes "providers"
    ∷ codes "root_files"
    ∷ []

-- these entries and behind them those of a segment's list
abbrev pub with_list : List ℕ → Doc → List Entry → Result (List Entry) Flaw
with_list segment (list ds) files = with_entries segment ds files
with_list segment d files = Err WrongKind

-- these entries and behind them those of a segment, if it is there
abbrev pub with_segment : List ℕ → Option Doc → List Entry → Result (List Entry) Flaw
with_segment segment None files = Ok files
with_segment segment (Some d) files = with_list segment d files

-- these entries and behind them those of all these segments, or the first segment at fault
abbrev pub with_segments : List (List ℕ) → Pairs → List Entry → Result (List Entry) MetaFault
with_segments [] body files = Ok files
with_segments (segment ∷ later) body files = then_do (in_field segment (with_segment segment (pair_at segment body) files)) (with_segments later body)

-- the entry is one of this segment
abbrev pub is_in : List ℕ → Entry → Bool
is_in segment e = bytes_eq segment e.segment

-- the entries of a segment, as they are stored
abbrev pub segment_docs : List ℕ → List Entry → List Doc
segment_docs segment files = map entry_doc (filter (is_in segment) files)
