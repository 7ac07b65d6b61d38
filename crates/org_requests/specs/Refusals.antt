-- What each refusal is answered with, and the first of several refusals.
use Rattle.std.specs.List.{join_by}
use Rattle.std.specs.Prelude.{◌≡◌, Bool, cond, ℕ, List, [], ◌∷◌, ◌++◌, map, Option, Some, None, Result, Ok, Err, codes, decimal}
use Rattle.doc_tree.specs.Doc.{Doc, words, list, dict, docs_of, no_docs, pairs_of, then_doc}
use Rattle.access_lists.specs.Acls.{word_of}
use Rattle.org_requests.specs.declared.refusals.Refusal.{Refusal}
use Rattle.org_requests.specs.declared.refusals.Refusal.TheVariants.{TooLarge, VersionNotTaken, NotImplemented, NotFound, NotAllowed, UnknownCaller, NotJson, TooDeep, NotWhole, BadField, Forbidden, AlreadyExists, MissingChecksums, DigestDiffers, SandboxesAtEnd, BadParameter, BadQuery, Frozen, RevisionDiffers, MissingArtifact, Unsolvable}
use Rattle.org_requests.specs.declared.refusals.Stop.{Stop}
use Rattle.org_requests.specs.declared.refusals.Stop.TheVariants.{Refused, NoMemory}
use Rattle.org_requests.specs.declared.replies.Reply.{Reply}
use Rattle.org_requests.specs.Replies.{with_body, one_key}

-- the status of a refusal
abbrev pub status_of : Refusal → ℕ
status_of TooLarge = 413
status_of VersionNotTaken = 406
status_of NotImplemented = 501
status_of NotFound = 404
status_of NotAllowed = 405
status_of UnknownCaller = 401
status_of NotJson = 400
status_of TooDeep = 400
status_of NotWhole = 400
status_of (BadField field) = 400
status_of (Forbidden permission) = 403
status_of AlreadyExists = 409
status_of (MissingChecksums sums) = 400
status_of (DigestDiffers found asked) = 400
status_of SandboxesAtEnd = 409
status_of (BadParameter name) = 400
status_of (BadQuery place) = 400
status_of Frozen = 409
status_of RevisionDiffers = 409
status_of (MissingArtifact cookbook identifier) = 400
status_of (Unsolvable no_cookbook no_version) = 412

-- {"error":[DOC]}
abbrev pub error_of : Doc → Doc
error_of doc = one_key (codes "error") (list (then_doc doc no_docs))

-- {"error":["WORDS"]}
abbrev pub error_body : List ℕ → Doc
error_body message = error_of (words message)

-- names in a list
abbrev pub names_doc : List (List ℕ) → Doc
names_doc names = list (docs_of (map words names))

-- what is told where no set of cookbook versions meets a run list: the roots that no cookbook has, and those of which no
-- version may be chosen
abbrev pub unsolvable_doc : List (List ℕ) → List (List ℕ) → Doc
unsolvable_doc no_cookbook no_version =
    dict (pairs_of (
    (codes "cookbooks_with_no_versions", names_doc no_version)
    ∷ (codes "message", words (codes "no set of cookbook versions meets the run list"))
    ∷ (codes "non_existent_cookbooks", names_doc no_cookbook)
    ∷ []))

-- the body of the reply to a refusal
abbrev pub body_of : Refusal → Doc
body_of TooLarge = error_body (codes "body is too large")
body_of VersionNotTaken = error_body (codes "api version is not taken")
body_of NotImplemented = error_body (codes "not implemented")
body_of NotFound = error_body (codes "not found")
body_of NotAllowed = error_body (codes "not allowed")
body_of UnknownCaller = error_body (codes "caller is not known")
body_of NotJson = error_body (codes "body is not JSON")
body_of TooDeep = error_body (codes "body is too deep")
body_of NotWhole = error_body (codes "number is not whole")
body_of (BadField field) = error_body (codes "bad field " ++ field)
body_of (Forbidden permission) = error_body (codes "missing " ++ (word_of permission ++ codes " permission"))
body_of AlreadyExists = error_body (codes "already exists")
body_of (MissingChecksums sums) = error_body (codes "missing checksums: " ++ join_by (λ sum. sum) (codes ", ") sums)
body_of (DigestDiffers found asked) = error_body (codes "digest is " ++ (found ++ (codes ", not " ++ asked)))
body_of SandboxesAtEnd = error_body (codes "sandbox count is at its end")
body_of (BadParameter name) = error_body (codes "bad parameter " ++ name)
body_of (BadQuery place) = error_body (codes "bad query at " ++ decimal place)
body_of Frozen = error_body (codes "frozen")
body_of RevisionDiffers = error_body (codes "revision differs")
body_of (MissingArtifact cookbook identifier) = error_body (codes "missing artifact " ++ (cookbook ++ (codes "/" ++ identifier)))
body_of (Unsolvable no_cookbook no_version) = error_of (unsolvable_doc no_cookbook no_version)

-- the reply that tells of a refusal
abbrev pub reply_to : Refusal → Reply
reply_to refusal = with_body (status_of refusal) (body_of refusal)

-- the reply to want of memory
abbrev pub out_of_memory : Reply
out_of_memory = with_body 500 (error_body (codes "out of memory"))

-- a refusal that stands where the test holds
abbrev pub refuses : Refusal → Bool → Option Refusal
refuses refusal stands = cond stands (Some refusal) None

-- the first refusal that stands
abbrev pub first_some : List (Option Refusal) → Option Refusal
first_some [] = None
first_some (None ∷ rest) = first_some rest
first_some (Some refusal ∷ rest) = Some refusal

-- an answer tells what is due; want of memory tells nothing
abbrev pub Tells : {T : Type 0} → Result T Stop → Result T Refusal → Type 0
Tells (Ok value) due = due ≡ Ok value
Tells (Err (Refused refusal)) due = due ≡ Err refusal
Tells (Err NoMemory) due = Unit {0}
