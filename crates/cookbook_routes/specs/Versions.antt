-- The routes of cookbook versions.
use Rattle.std.specs.Prelude.{ℕ, Bool, false, not, ◌&&◌, cond, List, [], ◌∷◌, bytes_eq, codes, if◌then◌else◌, Option, Some, None, is_some, option_map, Result, Ok, Err}
use Rattle.membership.specs.TextSets.{in_order}
use Rattle.access_lists.specs.declared.perm.Perm.TheVariants as permission
use Rattle.access_lists.specs.declared.starting.Container.TheVariants as container
use Rattle.org_shelves.specs.Editions.{is_frozen}
use Rattle.org_shelves.specs.Frozen.{freeze}
use Rattle.org_shelves.specs.StoredManifests.{stored_from}
use Rattle.org_shelves.specs.Showing.{shown_doc}
use Rattle.doc_tree.specs.Doc.{Doc}
use Rattle.doc_tree.specs.declared.kind.Kind.TheVariants as kinds
use Rattle.object_store.specs.Objects.{key}
use Rattle.shelves.specs.Shelves.{has_shelf, shelf_of, value_at, without}
use Rattle.shelves.specs.SortedMap.{last_entry}
use Rattle.version_rules.specs.Versions.{reads_version}
use Rattle.version_rules.specs.declared.fault.VersionFault.{VersionFault}
use Rattle.version_rules.specs.declared.versions.Version.{Version}
use Rattle.org_core.specs.Contexts.{Context}
use Rattle.org_core.specs.Creating.{created_list}
use Rattle.org_core.specs.Manifests.{files_front, missing_sums, missing_told, or_bad_manifest, shown_found}
use Rattle.org_core.specs.Outcomes.{Decided, shows, makes_or_shows, does_by, reads}
use Rattle.org_requests.specs.Parameters.{asked_for}
use Rattle.org_requests.specs.Refusals.{refuses, first_some}
use Rattle.org_shelves.specs.Shelved.{Cookbooks}
use Rattle.org_core.specs.States.{cookbooks_of}
use Rattle.org_shelves.specs.declared.shelf_moves.ShelfMove.TheVariants as shelf
use Rattle.org_core.specs.declared.moves.Move.{Move}
use Rattle.org_core.specs.declared.moves.Move.TheVariants as move
use Rattle.org_core.specs.declared.needs.Need.{Need}
use Rattle.org_core.specs.declared.needs.Need.TheVariants.{Listed}
use Rattle.org_requests.specs.declared.refusals.Refusal.{Refusal}
use Rattle.org_requests.specs.declared.refusals.Refusal.TheVariants.{Frozen}
use Rattle.org_requests.specs.declared.requests.Parameter.{Parameter}
use Rattle.cookbook_routes.specs.declared.operations.Wanted.{Wanted}
use Rattle.cookbook_routes.specs.declared.operations.Wanted.TheVariants.{Latest, Exactly}

-- the version that was read, if one was
abbrev pub version_read : Result Version VersionFault → Option Version
version_read (Ok version) = Some version
version_read (Err fault) = None

-- the version that a text spells
abbrev pub version_in : List ℕ → Option Version
version_in text = version_read (reads_version text)

-- the version that a segment of a path asks for: the greatest, or that which it spells
abbrev pub wanted_in : List ℕ → Option Wanted
wanted_in text = if bytes_eq text (codes "_latest") then Some Latest else option_map Exactly (version_in text)

-- `force=true` is among the parameters
abbrev pub is_true_text : Option (List ℕ) → Bool
is_true_text None = false
is_true_text (Some text) = bytes_eq text (codes "true")

abbrev pub is_forced : List Parameter → Bool
is_forced parameters = is_true_text (asked_for (codes "force") parameters)

-- what is stored of the manifest of this name and version that a document gives
abbrev pub manifest_said : List ℕ → Version → Result Doc Refusal → Result Doc Refusal
manifest_said name version (Ok doc) = or_bad_manifest (stored_from name version doc)
manifest_said name version (Err refusal) = Err refusal

-- what an organisation stores under a name and a version
abbrev pub stored_at : Context → List ℕ → Version → Option Doc
stored_at context name version = value_at (cookbooks_of context.state) name version

-- the manifest of the greatest version of a cookbook
abbrev pub latest_of : Cookbooks → List ℕ → Option Doc
latest_of versions name = option_map (λ entry. entry.1) (last_entry (shelf_of versions name))

-- the manifest that is wanted of a cookbook
abbrev pub wanted_of : Context → List ℕ → Wanted → Option Doc
wanted_of context name Latest = latest_of (cookbooks_of context.state) name
wanted_of context name (Exactly version) = stored_at context name version

-- a version is shown: 200 with its manifest
abbrev pub version_shown : Context → List ℕ → Wanted → Decided
version_shown context name wanted = reads (shows (shown_found context.org (wanted_of context name wanted)))

-- the manifest that was found is frozen
abbrev pub is_frozen_found : Option Doc → Bool
is_frozen_found None = false
is_frozen_found (Some manifest) = is_frozen manifest

-- why a version isn't put: the one in its place is frozen and the request isn't forced, or files are missing
abbrev pub put_refusal : Context → List ℕ → Version → Doc → Bool → Option Refusal
put_refusal context name version manifest forced =
    first_some (
    refuses Frozen (is_frozen_found (stored_at context name version) && not forced)
    ∷ missing_told (missing_sums context.files manifest)
    ∷ [])

-- what is stored in the place of what was found: what was frozen stays frozen
abbrev pub stored_over : Option Doc → Doc → Doc
stored_over found manifest = cond (is_frozen_found found) (freeze manifest) manifest

-- a cookbook's access list comes with its first version
abbrev pub first_list : Context → List ℕ → List Move
first_list context name = cond (has_shelf (cookbooks_of context.state) name) [] (move.PutList (key kinds.Cookbook name) (created_list container.Cookbooks context) ∷ [])

-- a version is put in, with the cookbook's list where it is the first
abbrev pub put_moves : Context → List ℕ → Version → Doc → List Move
put_moves context name version manifest = move.OnShelves (shelf.PutVersion name version manifest) ∷ first_list context name

-- a version is put: 201 where nothing stood there, and else 200. What stood there was looked at
abbrev pub version_put : Context → List ℕ → Version → Doc → Decided
version_put context name version manifest =
    does_by (makes_or_shows (stored_at context name version) (shown_doc (files_front context.org) (stored_over (stored_at context name version) manifest)))
    (put_moves context name version (stored_over (stored_at context name version) manifest))
    (cond (is_some (stored_at context name version)) 1 0)

-- the cookbook is still there once this version is gone
abbrev pub keeps_others : Cookbooks → List ℕ → Version → Bool
keeps_others versions name version = has_shelf (without name version versions) name

-- and goes with its last
abbrev pub last_list : Cookbooks → List ℕ → Version → List Move
last_list versions name version = cond (keeps_others versions name version) [] (move.TakeList (key kinds.Cookbook name) ∷ [])

-- a version goes, with the cookbook's list where it is the last
abbrev pub removal : Context → List ℕ → Version → List Move
removal context name version = move.OnShelves (shelf.TakeVersion name version) ∷ last_list (cookbooks_of context.state) name version

-- a version goes: 200 with its manifest as it was
abbrev pub version_removed : Context → List ℕ → Version → Decided
version_removed context name version =
    does_by (shows (shown_found context.org (stored_at context name version)))
    (removal context name version) 1

-- the permission to put a version: to update the cookbook, or to create in the container where there is none of this name
abbrev pub put_need : Context → List ℕ → Need
put_need context name = cond (has_shelf (cookbooks_of context.state) name) (Listed permission.Update (key kinds.Cookbook name)) (Listed permission.Create (key kinds.Container (codes "cookbooks")))
