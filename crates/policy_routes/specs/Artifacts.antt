-- The routes of artifacts.
use Rattle.std.specs.Prelude.{ℕ, Bool, not, ◌&&◌, cond, List, [], ◌∷◌, ◌++◌, map, codes, Option, is_some, Result, Ok, Err}
use Rattle.std.specs.FinMap as finite
use Rattle.doc_tree.specs.Text.{text_cmp}
use Rattle.access_lists.specs.declared.perm.Perm.TheVariants as permission
use Rattle.access_lists.specs.declared.starting.Container.TheVariants as container
use Rattle.org_shelves.specs.StoredManifests.{artifact_stored_from}
use Rattle.org_shelves.specs.Showing.{shown_doc}
use Rattle.cookbook_meta.specs.Parts.{is_identifier}
use Rattle.cookbook_meta.specs.Stored.{with_pairs}
use Rattle.doc_tree.specs.Doc.{Doc, words, list, dict, docs_of, pairs_of}
use Rattle.doc_tree.specs.Name.{is_name}
use Rattle.doc_tree.specs.declared.kind.Kind.TheVariants as kinds
use Rattle.object_store.specs.Objects.{key}
use Rattle.shelves.specs.Shelves.{has_shelf, value_at, without}
use Rattle.org_core.specs.Contexts.{Context}
use Rattle.org_core.specs.Creating.{created_list}
use Rattle.org_core.specs.Manifests.{files_front, missing_sums, missing_told, or_bad_manifest, shown_found}
use Rattle.org_core.specs.Outcomes.{Decided, does_by, makes, reads, shows, tells}
use Rattle.org_requests.specs.Refusals.{first_some, refuses}
use Rattle.org_requests.specs.Replies.{org_uri}
use Rattle.org_core.specs.States.{shelved_of}
use Rattle.org_core.specs.declared.moves.Move.{Move}
use Rattle.org_core.specs.declared.moves.Move.TheVariants as move
use Rattle.org_core.specs.declared.needs.Need.{Need}
use Rattle.org_core.specs.declared.needs.Need.TheVariants.{Listed}
use Rattle.org_requests.specs.declared.refusals.Refusal.{Refusal}
use Rattle.org_requests.specs.declared.refusals.Refusal.TheVariants.{AlreadyExists}
use Rattle.org_shelves.specs.Shelved.{Artifacts}
use Rattle.org_shelves.specs.declared.shelf_moves.ShelfMove.TheVariants as shelf

-- the artifacts of an organisation
abbrev pub artifacts_of : Context → Artifacts
artifacts_of context = (shelved_of context.state).artifacts

-- what an organisation stores of this cookbook under this identifier
abbrev pub artifact_at : Context → List ℕ → List ℕ → Option Doc
artifact_at context name id = value_at (artifacts_of context) name id

-- a name and an identifier have their forms
abbrev pub is_artifact_name : List ℕ → List ℕ → Bool
is_artifact_name name id = is_name name && is_identifier id

-- there is no such artifact, or its name and identifier haven't their forms
abbrev pub lacks_artifact : Context → List ℕ → List ℕ → Bool
lacks_artifact context name id = not (is_artifact_name name id && is_some (artifact_at context name id))

-- what is stored of the artifact that a document gives
abbrev pub artifact_said : List ℕ → List ℕ → Result Doc Refusal → Result Doc Refusal
artifact_said name id (Ok doc) = or_bad_manifest (artifact_stored_from name id doc)
artifact_said name id (Err refusal) = Err refusal

-- the path of the artifacts of a cookbook
abbrev pub artifacts_path : List ℕ → List ℕ → List ℕ
artifacts_path org name = (org_uri org ++ codes "/cookbook_artifacts/") ++ name

-- the path of an artifact
abbrev pub artifact_path : List ℕ → List ℕ → List ℕ → List ℕ
artifact_path org name id = (artifacts_path org name ++ codes "/") ++ id

-- an artifact in a listing: its identifier and its path
abbrev pub artifact_doc : List ℕ → List ℕ → List ℕ → Doc
artifact_doc org name id = dict (pairs_of ((codes "identifier", words id) ∷ (codes "url", words (artifact_path org name id)) ∷ []))

-- those of these entries
abbrev pub identifiers_doc : List ℕ → List ℕ → List (List ℕ × Doc) → Doc
identifiers_doc org name entries = list (docs_of (map (λ (entry : List ℕ × Doc). artifact_doc org name entry.0) entries))

-- the artifacts of a cookbook in a listing
abbrev pub artifacts_doc : List ℕ → List ℕ → finite.FinMap text_cmp Doc → Doc
artifacts_doc org name shelf =
    dict (pairs_of (
    (codes "artifacts", identifiers_doc org name (finite.entries shelf))
    ∷ (codes "url", words (artifacts_path org name))
    ∷ []))

-- the artifacts of a cookbook, by its name
abbrev pub artifacts_pair : List ℕ → List ℕ × finite.FinMap text_cmp Doc → List ℕ × Doc
artifacts_pair org shelf = (shelf.0, artifacts_doc org shelf.0 shelf.1)

-- each cookbook's
abbrev pub artifact_listing : List ℕ → Artifacts → Doc
artifact_listing org artifacts = dict (pairs_of (with_pairs (map (artifacts_pair org) (finite.entries artifacts)) []))

-- the artifacts are listed: 200
abbrev pub artifacts_listed : Context → Decided
artifacts_listed context = tells (shows (artifact_listing context.org (artifacts_of context)))

-- an artifact is shown: 200 with its manifest
abbrev pub artifact_shown : Context → List ℕ → List ℕ → Decided
artifact_shown context name id = reads (shows (shown_found context.org (artifact_at context name id)))

-- why an artifact isn't put: there is one under this identifier, or files are missing
abbrev pub put_artifact_refusal : Context → List ℕ → List ℕ → Doc → Option Refusal
put_artifact_refusal context name id manifest =
    first_some (
    refuses AlreadyExists (is_some (artifact_at context name id))
    ∷ missing_told (missing_sums context.files manifest)
    ∷ [])

-- the permission to put an artifact: to update the cookbook's artifacts, or to create in the container where there are none
abbrev pub put_artifact_need : Context → List ℕ → Need
put_artifact_need context name = cond (has_shelf (artifacts_of context) name) (Listed permission.Update (key kinds.Artifact name)) (Listed permission.Create (key kinds.Container (codes "cookbook_artifacts")))

-- the access list of a cookbook's artifacts comes with the first
abbrev pub first_artifact_list : Context → List ℕ → List Move
first_artifact_list context name = cond (has_shelf (artifacts_of context) name) [] (move.PutList (key kinds.Artifact name) (created_list container.CookbookArtifacts context) ∷ [])

-- an artifact is put: 201 with its manifest
abbrev pub artifact_put : Context → List ℕ → List ℕ → Doc → Decided
artifact_put context name id manifest =
    does_by (makes (shown_doc (files_front context.org) manifest)) (move.OnShelves (shelf.PutArtifact name id manifest) ∷ first_artifact_list context name) 0

-- the cookbook has other artifacts once this one is gone
abbrev pub keeps_artifacts : Artifacts → List ℕ → List ℕ → Bool
keeps_artifacts artifacts name id = has_shelf (without name id artifacts) name

-- and the list goes with the last
abbrev pub last_artifact_list : Artifacts → List ℕ → List ℕ → List Move
last_artifact_list artifacts name id = cond (keeps_artifacts artifacts name id) [] (move.TakeList (key kinds.Artifact name) ∷ [])

-- an artifact goes: 200 with its manifest as it was
abbrev pub artifact_removed : Context → List ℕ → List ℕ → Decided
artifact_removed context name id =
    does_by (shows (shown_found context.org (artifact_at context name id)))
    (move.OnShelves (shelf.TakeArtifact name id) ∷ last_artifact_list (artifacts_of context) name id) 1
