-- These routes refuse for want of a permission by their needs alone.
use Rattle.std.proofs.Common.{Bool, true, false, not, ◌&&◌, List, [], ◌∷◌, ℕ, bytes_eq, codes, IfSome, Option, Some, None, option_and_then, Result, Ok, Err}
use Rattle.org_shelves.specs.Universes.{universe_of}
use Rattle.dep_solver.specs.Chosen.{best_of}
use Rattle.dep_solver.specs.declared.roots.Pin.{Pin}
use Rattle.dep_solver.specs.declared.roots.Roots.{Roots}
use Rattle.dep_solver.specs.declared.rules.EnvRules.{EnvRules}
use Rattle.dep_solver.specs.declared.universe.Universe.{Universe as Versions}
use Rattle.doc_tree.specs.Doc.{Doc}
use Rattle.doc_tree.specs.declared.kind.Kind.TheVariants as kinds
use Rattle.run_lists.specs.Stored.{Stored}
use Rattle.run_lists.specs.Reading.{recipes_of}
use Rattle.doc_tree.specs.Name.{is_name}
use Rattle.doc_tree.specs.Part.{part_at}
use Rattle.org_shelves.specs.StoredManifests.{stored_from}
use Rattle.cookbook_meta.specs.declared.fault.MetaFault.{MetaFault}
use Rattle.version_rules.specs.declared.versions.Version.{Version as VersionNumber}
use Rattle.org_requests.specs.declared.verbs.Verb.{Verb}
use Rattle.org_requests.specs.declared.verbs.Verb.TheVariants.{Get, Post, Put, Delete, Other}
use Rattle.sandboxes.specs.Checksums.{checksum_in, checksum_of}
use Rattle.sandboxes.specs.Sandboxes.{missing, sums_of}
use Rattle.sandboxes.specs.Sums.{Sums}
use Rattle.org_core.proofs.PlainLemmas.{document_plain, refuses_plain}
use Rattle.org_requests.specs.declared.refusals.Refusal.{Refusal}
use Rattle.org_requests.specs.declared.refusals.Refusal.TheVariants.{BadField, DigestDiffers, Frozen}
use Rattle.org_requests.specs.declared.requests.Body.{Body}
use Rattle.org_requests.specs.declared.requests.Body.TheVariants.{Empty, Doc as Read, Bad, Raw, TooLong}
use Rattle.org_requests.specs.Routes.{CookbookRoute}
use Rattle.org_requests.specs.declared.routes.CookbookRouteOf.TheVariants.{Sandboxes, Sandbox, File, Cookbooks, Cookbook, Version, Universe, SolvedVersions}
use Rattle.org_requests.specs.Documents.{absent, document_in}
use Rattle.org_requests.specs.Parameters.{asked_for}
use Rattle.org_core.specs.Manifests.{missing_sums, missing_told, or_bad_manifest}
use Rattle.org_requests.specs.Refusals.{first_some, refuses}
use Rattle.org_requests.specs.declared.requests.Parameter.{Parameter}
use Rattle.org_core.specs.Contexts.{Context}
use Rattle.org_core.specs.States.{cookbooks_of, object_in}
use Rattle.org_core.specs.Plain.{IsPlain, RefusesPlainly, NeverForbids}
use Rattle.cookbook_routes.specs.declared.operations.CookbookOperation.{CookbookOperation}
use Rattle.cookbook_routes.specs.declared.operations.CookbookOperation.TheVariants as operation
use Rattle.cookbook_routes.specs.declared.operations.Count.{Count}
use Rattle.cookbook_routes.specs.declared.operations.Wanted.{Wanted}
use Rattle.cookbook_routes.specs.CookbookRules.{beginning, committing, uploading, put_file, showing_file, listing, put_version, putting, removing_version, showing_version, solving, solving_for, cookbook_asked, cookbook_refusal, cookbook_does, cookbook_rules}
use Rattle.cookbook_routes.specs.Files.{file_in}
use Rattle.cookbook_routes.specs.Listings.{count_given, count_or_bad}
use Rattle.cookbook_routes.specs.Solving.{best_or_none, or_bad_run_list, roots_asked, rules_of, solved_as}
use Rattle.cookbook_routes.specs.Versions.{is_forced, is_frozen_found, manifest_said, stored_at, version_in, wanted_in}
use Rattle.cookbook_routes.specs.Sandboxes.{sums_at, or_bad_checksums, sums_in, is_true_part, completion_refusal, id_of_next, begun_if}

or_bad_plain : (found : Option Sums) → RefusesPlainly (or_bad_checksums found)
or_bad_plain None = tt
or_bad_plain (Some sums) = tt

sums_in_plain : (document : Result Doc Refusal) → RefusesPlainly document → RefusesPlainly (sums_in document)
sums_in_plain (Ok doc) plain = or_bad_plain (sums_at doc)
sums_in_plain (Err refusal) plain = plain

beginning_plain : (read : Result Sums Refusal) → RefusesPlainly read → RefusesPlainly (beginning read)
beginning_plain (Ok sums) plain = tt
beginning_plain (Err refusal) plain = plain

completion_plain : (document : Result Doc Refusal) → RefusesPlainly document → IfSome (completion_refusal document) IsPlain
completion_plain (Ok doc) plain = refuses_plain (BadField (codes "is_completed")) (not (is_true_part (part_at (codes "is_completed") doc))) tt
completion_plain (Err refusal) plain = plain

committing_plain : (id : Option (List ℕ)) (refusal : Option Refusal) → IfSome refusal IsPlain → RefusesPlainly (committing id refusal)
committing_plain id (Some refusal) plain = plain
committing_plain None None plain = tt
committing_plain (Some id) None plain = tt

file_in_plain : (body : Body) → RefusesPlainly (file_in body)
file_in_plain Empty = tt
file_in_plain (Read tree) = tt
file_in_plain (Bad fault) = tt
file_in_plain (Raw file) = tt
file_in_plain TooLong = tt

uploading_plain : (sum : List ℕ) (read : Result (List ℕ) Refusal) → RefusesPlainly read → RefusesPlainly (uploading sum read)
uploading_plain sum (Ok file) plain = tt
uploading_plain sum (Err refusal) plain = plain

put_plain : (sum : Option (List ℕ)) (body : Body) → RefusesPlainly (put_file sum body)
put_plain None body = tt
put_plain (Some sum) body = uploading_plain sum (file_in body) (file_in_plain body)

showing_plain : (sum : Option (List ℕ)) → RefusesPlainly (showing_file sum)
showing_plain None = tt
showing_plain (Some sum) = tt

listing_plain : (count : Option Count) → RefusesPlainly (listing (count_or_bad count))
listing_plain None = tt
listing_plain (Some count) = tt

showing_version_plain : (name : List ℕ) (wanted : Option Wanted) → RefusesPlainly (showing_version name wanted)
showing_version_plain name None = tt
showing_version_plain name (Some wanted) = tt

removing_plain : (name : List ℕ) (version : Option VersionNumber) → RefusesPlainly (removing_version name version)
removing_plain name None = tt
removing_plain name (Some version) = tt

putting_plain : (name : List ℕ) (version : VersionNumber) (forced : Bool) (said : Result Doc Refusal) → RefusesPlainly said → RefusesPlainly (putting name version forced said)
putting_plain name version forced (Ok manifest) plain = tt
putting_plain name version forced (Err refusal) plain = plain

bad_manifest_plain : (read : Result Doc MetaFault) → RefusesPlainly (or_bad_manifest read)
bad_manifest_plain (Ok manifest) = tt
bad_manifest_plain (Err fault) = tt

said_plain : (name : List ℕ) (version : VersionNumber) (document : Result Doc Refusal) → RefusesPlainly document → RefusesPlainly (manifest_said name version document)
said_plain name version (Ok doc) plain = bad_manifest_plain (stored_from name version doc)
said_plain name version (Err refusal) plain = plain

absent_plain : (document : Result Doc Refusal) → RefusesPlainly document → IsPlain (absent document)
absent_plain (Ok doc) plain = tt
absent_plain (Err refusal) plain = plain

put_version_plain : (b : Bool) (name : List ℕ) (version : Option VersionNumber) (parameters : List Parameter) (body : Body) → RefusesPlainly (put_version b name version parameters body)
put_version_plain true name (Some version) parameters body =
    putting_plain name version (is_forced parameters) (manifest_said name version (document_in body)) (said_plain name version (document_in body) (document_plain body))
put_version_plain true name None parameters body = absent_plain (document_in body) (document_plain body)
put_version_plain false name version parameters body = absent_plain (document_in body) (document_plain body)

or_bad_run_list_plain : (items : Option (List Stored)) → RefusesPlainly (or_bad_run_list items)
or_bad_run_list_plain None = tt
or_bad_run_list_plain (Some items) = tt

roots_plain : (document : Result Doc Refusal) → RefusesPlainly document → RefusesPlainly (roots_asked document)
roots_plain (Ok doc) plain = or_bad_run_list_plain (option_and_then recipes_of (part_at (codes "run_list") doc))
roots_plain (Err refusal) plain = plain

solving_plain : (environment : List ℕ) (roots : Result Roots Refusal) → RefusesPlainly roots → RefusesPlainly (solving environment roots)
solving_plain environment (Ok roots) plain = tt
solving_plain environment (Err refusal) plain = plain

solving_for_plain : (b : Bool) (environment : List ℕ) (document : Result Doc Refusal) → RefusesPlainly document → RefusesPlainly (solving_for b environment document)
solving_for_plain true environment document plain = solving_plain environment (roots_asked document) (roots_plain document plain)
solving_for_plain false environment document plain = absent_plain document plain

asked_plain : (route : CookbookRoute) (verb : Verb) (parameters : List Parameter) (body : Body) → RefusesPlainly (cookbook_asked route verb parameters body)
asked_plain Sandboxes Get parameters body = tt
asked_plain Sandboxes Post parameters body = beginning_plain (sums_in (document_in body)) (sums_in_plain (document_in body) (document_plain body))
asked_plain Sandboxes Put parameters body = tt
asked_plain Sandboxes Delete parameters body = tt
asked_plain Sandboxes Other parameters body = tt
asked_plain (Sandbox id) Get parameters body = tt
asked_plain (Sandbox id) Post parameters body = tt
asked_plain (Sandbox id) Put parameters body = committing_plain (checksum_in id) (completion_refusal (document_in body)) (completion_plain (document_in body) (document_plain body))
asked_plain (Sandbox id) Delete parameters body = tt
asked_plain (Sandbox id) Other parameters body = tt
asked_plain (File sum) Get parameters body = showing_plain (checksum_in sum)
asked_plain (File sum) Post parameters body = tt
asked_plain (File sum) Put parameters body = put_plain (checksum_in sum) body
asked_plain (File sum) Delete parameters body = tt
asked_plain (File sum) Other parameters body = tt
asked_plain Cookbooks Get parameters body = listing_plain (count_given (asked_for (codes "num_versions") parameters))
asked_plain Cookbooks Post parameters body = tt
asked_plain Cookbooks Put parameters body = tt
asked_plain Cookbooks Delete parameters body = tt
asked_plain Cookbooks Other parameters body = tt
asked_plain (Cookbook name) Get parameters body = tt
asked_plain (Cookbook name) Post parameters body = tt
asked_plain (Cookbook name) Put parameters body = tt
asked_plain (Cookbook name) Delete parameters body = tt
asked_plain (Cookbook name) Other parameters body = tt
asked_plain (Version name version) Get parameters body = showing_version_plain name (wanted_in version)
asked_plain (Version name version) Post parameters body = tt
asked_plain (Version name version) Put parameters body = put_version_plain (is_name name) name (version_in version) parameters body
asked_plain (Version name version) Delete parameters body = removing_plain name (version_in version)
asked_plain (Version name version) Other parameters body = tt
asked_plain Universe Get parameters body = tt
asked_plain Universe Post parameters body = tt
asked_plain Universe Put parameters body = tt
asked_plain Universe Delete parameters body = tt
asked_plain Universe Other parameters body = tt
asked_plain (SolvedVersions environment) Get parameters body = tt
asked_plain (SolvedVersions environment) Post parameters body = solving_for_plain (is_name environment) environment (document_in body) (document_plain body)
asked_plain (SolvedVersions environment) Put parameters body = tt
asked_plain (SolvedVersions environment) Delete parameters body = tt
asked_plain (SolvedVersions environment) Other parameters body = tt

missing_plain : (sums : Sums) → IfSome (missing_told sums) IsPlain
missing_plain [] = tt
missing_plain (sum ∷ sums) = tt

put_plain_if : (frozen : Bool) (missing : Option Refusal) → IfSome missing IsPlain → IfSome (first_some (refuses Frozen frozen ∷ missing ∷ [])) IsPlain
put_plain_if true missing plain = tt
put_plain_if false None plain = tt
put_plain_if false (Some refusal) plain = plain

refusal_plain : (context : Context) (asked : CookbookOperation) → IfSome (cookbook_refusal context asked) IsPlain
refusal_plain context (operation.BeginSandbox sums) = tt
refusal_plain context (operation.CommitSandbox id) = missing_plain (missing context.files (sums_of context.files id))
refusal_plain context (operation.Upload sum file) = refuses_plain (DigestDiffers (checksum_of file) sum) (not (bytes_eq (checksum_of file) sum)) tt
refusal_plain context (operation.ShowFile sum) = tt
refusal_plain context (operation.ListCookbooks count) = tt
refusal_plain context (operation.ListVersions name) = tt
refusal_plain context (operation.ShowVersion name wanted) = tt
refusal_plain context (operation.PutVersion name version manifest forced) =
    put_plain_if (is_frozen_found (stored_at context name version) && not forced) (missing_told (missing_sums context.files manifest)) (missing_plain (missing_sums context.files manifest))
refusal_plain context (operation.RemoveVersion name version) = tt
refusal_plain context operation.ShowUniverse = tt
refusal_plain context (operation.SolveVersions environment roots) = tt

begun_plain : (context : Context) (sums : Sums) (id : Option (List ℕ)) → RefusesPlainly (begun_if context sums id).answer
begun_plain context sums None = tt
begun_plain context sums (Some id) = tt

best_plain : (universe : Versions) (rules : EnvRules) (roots : Roots) (best : Option (List Pin)) (context : Context) → RefusesPlainly (solved_as context (best_or_none universe rules roots best)).answer
best_plain universe rules roots (Some pins) context = tt
best_plain universe rules roots None context = tt

does_plain : (context : Context) (asked : CookbookOperation) → RefusesPlainly (cookbook_does context asked).answer
does_plain context (operation.BeginSandbox sums) = begun_plain context sums (id_of_next context.org context.files)
does_plain context (operation.CommitSandbox id) = tt
does_plain context (operation.Upload sum file) = tt
does_plain context (operation.ShowFile sum) = tt
does_plain context (operation.ListCookbooks count) = tt
does_plain context (operation.ListVersions name) = tt
does_plain context (operation.ShowVersion name wanted) = tt
does_plain context (operation.PutVersion name version manifest forced) = tt
does_plain context (operation.RemoveVersion name version) = tt
does_plain context operation.ShowUniverse = tt
does_plain context (operation.SolveVersions environment roots) =
    let universe = universe_of (cookbooks_of context.state) in
    let rules = rules_of (object_in context.state kinds.Environment environment) in
    best_plain universe rules roots (best_of universe rules roots) context

pub cookbooks_never_forbid : NeverForbids cookbook_rules
cookbooks_never_forbid = record {
  operation = λ context route request. asked_plain route request.verb request.parameters request.body;
  own_refusal = refusal_plain;
  does = does_plain;
}
