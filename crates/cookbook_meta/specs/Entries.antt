-- The files that a manifest names.
use Rattle.std.specs.Prelude.{ℕ, Bool, not, List, [], ◌∷◌, ◌++◌, Option, Some, None, Result, Ok, Err, codes, bytes_eq}
use Rattle.std.specs.List.{list_any}
use Rattle.doc_tree.specs.Doc.{Doc, words, dict, Docs, no_docs, then_doc, Pairs, pairs_of}
use Rattle.doc_tree.specs.Part.{pair_at}
use Rattle.cookbook_meta.specs.Faults.{then_do, keep_if}
use Rattle.cookbook_meta.specs.Parts.{needed, text_of, checksum_of}
use Rattle.cookbook_meta.specs.declared.entries.Entry.{Entry}
use Rattle.cookbook_meta.specs.declared.fault.Flaw.{Flaw}
use Rattle.cookbook_meta.specs.declared.fault.Flaw.TheVariants.{WrongKind, DoublePath}

-- a text, or this one where none is given
abbrev pub text_or : List ℕ → Option Doc → Result (List ℕ) Flaw
text_or default None = Ok default
text_or default (Some d) = text_of d

-- the entry of a segment that a Dict gives: name, path, checksum and specificity, looked at in this order
abbrev pub entry_in : List ℕ → Pairs → Result Entry Flaw
entry_in segment body =
    then_do (then_do (needed (codes "name") body) text_of) (λ name.
    then_do (then_do (needed (codes "path") body) text_of) (λ path.
    then_do (then_do (needed (codes "checksum") body) checksum_of) (λ checksum.
    then_do (text_or (codes "default") (pair_at (codes "specificity") body)) (λ specificity.
    Ok (record { segment = segment; name = name; path = path; checksum = checksum; specificity = specificity })))))

-- the entry of a segment that a document gives
abbrev pub entry_of : List ℕ → Doc → Result Entry Flaw
entry_of segment (dict body) = entry_in segment body
entry_of segment d = Err WrongKind

-- one of these entries has the path
abbrev pub has_path : List Entry → List ℕ → Bool
has_path files path = list_any (λ (e : Entry). bytes_eq path e.path) files

-- these entries and behind them one more, whose path none of them has
abbrev pub with_entry : List Entry → Entry → Result (List Entry) Flaw
with_entry files e = keep_if (not (has_path files e.path)) (files ++ e ∷ []) DoublePath

-- these entries and behind them those of a segment, or the flaw of the first that is none or has a path that stands before
abbrev pub with_entries : List ℕ → Docs → List Entry → Result (List Entry) Flaw
with_entries segment no_docs files = Ok files
with_entries segment (then_doc d ds) files = then_do (then_do (entry_of segment d) (with_entry files)) (with_entries segment ds)

-- an entry as it is stored
abbrev pub entry_doc : Entry → Doc
entry_doc e =
    dict (pairs_of (
    (codes "checksum", words e.checksum)
    ∷ (codes "name", words e.name)
    ∷ (codes "path", words e.path)
    ∷ (codes "specificity", words e.specificity)
    ∷ []))
