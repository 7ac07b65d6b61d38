-- The routes of sandboxes.
use Rattle.std.specs.Prelude.{ℕ, Bool, true, false, not, List, [], ◌∷◌, ◌++◌, map, Option, Some, None, option_and_then, codes, Result, Ok, Err, if◌then◌else◌}
use Rattle.std.specs.List.{list_all}
use Rattle.std.specs.Map.{keys_of}
use Rattle.doc_tree.specs.Doc.{Doc, null, boolean, whole, words, list, dict, docs_of, pairs_of, pairs_list}
use Rattle.doc_tree.specs.Part.{part_at}
use Rattle.sandboxes.specs.Checksums.{is_checksum}
use Rattle.sandboxes.specs.Sandboxes.{Holding, is_at_end, missing, next_id, sums_of}
use Rattle.sandboxes.specs.Sums.{Sums}
use Rattle.org_core.specs.Contexts.{Context}
use Rattle.org_shelves.specs.Files.{is_committed}
use Rattle.org_core.specs.Manifests.{missing_told}
use Rattle.org_core.specs.Outcomes.{Decided, makes, shows, does_by, refuse}
use Rattle.org_requests.specs.Refusals.{refuses}
use Rattle.org_requests.specs.Replies.{org_uri}
use Rattle.org_core.specs.declared.file_moves.FileMove.TheVariants as files
use Rattle.org_core.specs.declared.moves.Move.TheVariants as move
use Rattle.org_requests.specs.declared.refusals.Refusal.{Refusal}
use Rattle.org_requests.specs.declared.refusals.Refusal.TheVariants.{BadField, SandboxesAtEnd}

-- the path of the sandbox of this id
abbrev pub sandbox_path : List ℕ → List ℕ → List ℕ
sandbox_path org id = (org_uri org ++ codes "/sandboxes/") ++ id

-- the path of the file of this checksum
abbrev pub file_path : List ℕ → List ℕ → List ℕ
file_path org sum = (org_uri org ++ codes "/files/") ++ sum

-- the keys of a dict
abbrev pub dict_keys : Doc → Option (List (List ℕ))
dict_keys null = None
dict_keys (boolean b) = None
dict_keys (whole z) = None
dict_keys (words text) = None
dict_keys (list docs) = None
dict_keys (dict pairs) = Some (keys_of (pairs_list pairs))

-- these texts, where each is a checksum
abbrev pub all_checksums : List (List ℕ) → Option Sums
all_checksums texts = if list_all is_checksum texts then Some texts else None

-- the checksums that are the keys of the dict at the key `checksums`
abbrev pub sums_at : Doc → Option Sums
sums_at doc = option_and_then all_checksums (option_and_then dict_keys (part_at (codes "checksums") doc))

-- what was found, or the bad field
abbrev pub or_bad_checksums : Option Sums → Result Sums Refusal
or_bad_checksums None = Err (BadField (codes "checksums"))
or_bad_checksums (Some sums) = Ok sums

-- the checksums of the sandbox that a document asks for
abbrev pub sums_in : Result Doc Refusal → Result Sums Refusal
sums_in (Ok doc) = or_bad_checksums (sums_at doc)
sums_in (Err refusal) = Err refusal

-- the document is the truth value true
abbrev pub is_true : Doc → Bool
is_true null = false
is_true (boolean b) = b
is_true (whole z) = false
is_true (words text) = false
is_true (list docs) = false
is_true (dict pairs) = false

abbrev pub is_true_part : Option Doc → Bool
is_true_part None = false
is_true_part (Some doc) = is_true doc

-- why a document doesn't say that the sandbox is completed
abbrev pub completion_refusal : Result Doc Refusal → Option Refusal
completion_refusal (Ok doc) = refuses (BadField (codes "is_completed")) (not (is_true_part (part_at (codes "is_completed") doc)))
completion_refusal (Err refusal) = Some refusal

-- whether a file is still to be uploaded: where the organisation itself has no committed file of the checksum
abbrev pub upload_doc : List ℕ → Holding → List ℕ → Doc
upload_doc org holding sum = dict (pairs_of ((codes "needs_upload", boolean (not (is_committed holding sum))) ∷ (codes "url", words (file_path org sum)) ∷ []))

-- what is still to be uploaded, by checksum
abbrev pub uploads_doc : List ℕ → Holding → Sums → Doc
uploads_doc org holding sums = dict (pairs_of (map (λ sum. (sum, upload_doc org holding sum)) sums))

-- the reply to a new sandbox of this id
abbrev pub begun_doc : List ℕ → Holding → List ℕ → Sums → Doc
begun_doc org holding id sums =
    dict (pairs_of ((codes "checksums", uploads_doc org holding sums) ∷ (codes "sandbox_id", words id) ∷ (codes "uri", words (sandbox_path org id)) ∷ []))

-- a sandbox begins as this id: 201 with it, and with what is still to be uploaded
abbrev pub begun_as : Context → List ℕ → Sums → Decided
begun_as context id sums = does_by (makes (begun_doc context.org context.files id sums)) (move.OnFiles (files.Begin sums) ∷ []) 0

-- the id of the next sandbox, unless the count is at its end
abbrev pub id_of_next : List ℕ → Holding → Option (List ℕ)
id_of_next org holding = if is_at_end holding then None else Some (next_id org holding)

-- a sandbox begins, or the count is at its end
abbrev pub begun_if : Context → Sums → Option (List ℕ) → Decided
begun_if context sums None = refuse SandboxesAtEnd
begun_if context sums (Some id) = begun_as context id sums

-- a sandbox begins
abbrev pub sandbox_begun : Context → Sums → Decided
sandbox_begun context sums = begun_if context sums (id_of_next context.org context.files)

-- checksums in a list
abbrev pub sums_doc : Sums → Doc
sums_doc sums = list (docs_of (map words sums))

-- the reply to a sandbox that was committed, by its id and the list of its checksums
abbrev pub committed_doc : List ℕ → Doc → Doc
committed_doc id sums =
    dict (pairs_of (
    (codes "checksums", sums)
    ∷ (codes "guid", words id)
    ∷ (codes "is_completed", boolean true)
    ∷ (codes "name", words id)
    ∷ []))

-- a sandbox is committed: 200 with its checksums
abbrev pub sandbox_committed : Context → List ℕ → Decided
sandbox_committed context id = does_by (shows (committed_doc id (sums_doc (sums_of context.files id)))) (move.OnFiles (files.Commit id) ∷ []) 0

-- files of a sandbox are missing
abbrev pub missing_refusal : Holding → List ℕ → Option Refusal
missing_refusal holding id = missing_told (missing holding (sums_of holding id))
