-- Manifests of cookbook versions and artifacts: what refuses one, and how a reply shows one.
use Rattle.std.specs.Prelude.{◌≡◌, ℕ, not, List, [], ◌∷◌, ◌++◌, filter, codes, Option, Some, None, option_map, unwrap_or, Result, Ok, Err}
use Rattle.membership.specs.TextSets.{in_order}
use Rattle.cookbook_meta.specs.Faults.{field_of}
use Rattle.cookbook_meta.specs.declared.fault.MetaFault.{MetaFault}
use Rattle.doc_tree.specs.Doc.{Doc, null}
use Rattle.sandboxes.specs.Sandboxes.{Holding}
use Rattle.sandboxes.specs.Sums.{Sums}
use Rattle.org_shelves.specs.Editions.{sums_in}
use Rattle.org_shelves.specs.Files.{is_committed}
use Rattle.org_shelves.specs.Showing.{shown_doc}
use Rattle.org_requests.specs.Replies.{org_uri}
use Rattle.org_requests.specs.declared.refusals.Refusal.{Refusal}
use Rattle.org_requests.specs.declared.refusals.Refusal.TheVariants.{BadField, MissingChecksums}
use Rattle.org_requests.specs.declared.refusals.Stop.{Stop}
use Rattle.org_requests.specs.declared.refusals.Stop.TheVariants.{Refused, NoMemory}

-- the refusal of a body that gives no manifest, by its first field that hasn't its form
abbrev pub bad_manifest : MetaFault → Refusal
bad_manifest fault = BadField (unwrap_or (field_of fault) [])

-- a stop tells of a fault by the field that it names, or of want of memory
abbrev pub IsToldAs : Stop → MetaFault → Type 0
IsToldAs NoMemory fault = Unit {0}
IsToldAs (Refused refusal) fault = option_map BadField (field_of fault) ≡ Some refusal

-- what is to be stored, or the refusal of a body that gives no manifest
abbrev pub or_bad_manifest : Result Doc MetaFault → Result Doc Refusal
or_bad_manifest (Ok manifest) = Ok manifest
or_bad_manifest (Err fault) = Err (bad_manifest fault)

-- the checksums that a manifest names and of which the organisation has no committed file, in the order of their bytes
abbrev pub missing_sums : Holding → Doc → Sums
missing_sums files manifest = filter (λ sum. not (is_committed files sum)) (in_order (sums_in manifest))

-- 400 where some of these are missing
abbrev pub missing_told : Sums → Option Refusal
missing_told [] = None
missing_told (sum ∷ sums) = Some (MissingChecksums (sum ∷ sums))

-- the front of the paths of files
abbrev pub files_front : List ℕ → List ℕ
files_front org = org_uri org ++ codes "/files/"

-- a manifest as a reply shows it, where one was found
abbrev pub shown_found : List ℕ → Option Doc → Doc
shown_found org None = null
shown_found org (Some manifest) = shown_doc (files_front org) manifest
