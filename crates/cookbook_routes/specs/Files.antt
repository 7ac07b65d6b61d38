-- The routes of files.
use Rattle.std.specs.Prelude.{ℕ, not, List, [], ◌∷◌, Option, Some, None, bytes_eq, Result, Ok, Err}
use Rattle.std.specs.FinMap as finite
use Rattle.doc_tree.specs.Doc.{dict, no_pairs}
use Rattle.sandboxes.specs.Checksums.{checksum_of}
use Rattle.sandboxes.specs.declared.stored.Stored.{Stored}
use Rattle.org_core.specs.Contexts.{Context}
use Rattle.org_core.specs.Outcomes.{Decided, shows, gives, tells, does_by}
use Rattle.org_requests.specs.Refusals.{refuses}
use Rattle.org_core.specs.declared.file_moves.FileMove.TheVariants as files
use Rattle.org_core.specs.declared.moves.Move.TheVariants as move
use Rattle.org_requests.specs.declared.refusals.Refusal.{Refusal}
use Rattle.org_requests.specs.declared.refusals.Refusal.TheVariants.{NotJson, TooLarge, DigestDiffers}
use Rattle.org_requests.specs.declared.requests.Body.{Body}
use Rattle.org_requests.specs.declared.requests.Body.TheVariants.{Empty, Doc as Read, Bad, Raw, TooLong}

-- the file that a body is: no body is the empty file, and one that was read as JSON is none
abbrev pub file_in : Body → Result (List ℕ) Refusal
file_in Empty = Ok []
file_in (Read tree) = Err NotJson
file_in (Bad fault) = Err NotJson
file_in (Raw file) = Ok file
file_in TooLong = Err TooLarge

-- 400 where a file hasn't the checksum that was asked for
abbrev pub digest_refusal : List ℕ → List ℕ → Option Refusal
digest_refusal asked file = refuses (DigestDiffers (checksum_of file) asked) (not (bytes_eq (checksum_of file) asked))

-- a file is uploaded: 200 with an empty dict
abbrev pub file_uploaded : List ℕ → List ℕ → Decided
file_uploaded asked file = does_by (shows (dict no_pairs)) (move.OnFiles (files.Upload asked file) ∷ []) 0

-- the bytes of a file, if it is there
abbrev pub bytes_of : Option Stored → List ℕ
bytes_of None = []
bytes_of (Some stored) = stored.file

-- a file is shown: 200 with its bytes
abbrev pub file_shown : Context → List ℕ → Decided
file_shown context sum = tells (gives (bytes_of (finite.get context.files.files sum)))
