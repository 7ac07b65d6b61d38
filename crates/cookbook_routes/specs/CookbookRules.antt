-- The rules of cookbooks, sandboxes and files.
use Rattle.std.specs.Prelude.{ℕ, Bool, true, false, not, ◌&&◌, List, [], ◌∷◌, Option, Some, None, is_none, is_some, codes, Result, Ok, Err}
use Rattle.std.specs.FinMap as finite
use Rattle.access_lists.specs.declared.perm.Perm.TheVariants as permission
use Rattle.dep_solver.specs.declared.roots.Roots.{Roots}
use Rattle.doc_tree.specs.Doc.{Doc}
use Rattle.doc_tree.specs.Name.{is_name}
use Rattle.doc_tree.specs.declared.kind.Kind.TheVariants as kinds
use Rattle.object_store.specs.Objects.{key}
use Rattle.org_requests.specs.declared.verbs.Verb.{Verb}
use Rattle.org_requests.specs.declared.verbs.Verb.TheVariants.{Get, Post, Put, Delete, Other}
use Rattle.sandboxes.specs.Checksums.{checksum_in}
use Rattle.sandboxes.specs.Sandboxes.{awaits}
use Rattle.sandboxes.specs.Sums.{Sums}
use Rattle.shelves.specs.Shelves.{has_shelf}
use Rattle.version_rules.specs.declared.versions.Version.{Version as VersionNumber}
use Rattle.org_requests.specs.Documents.{absent, document_in}
use Rattle.org_core.specs.Contexts.{Context}
use Rattle.org_shelves.specs.Files.{is_committed}
use Rattle.org_core.specs.Outcomes.{Decided}
use Rattle.org_core.specs.Rules.{Rules}
use Rattle.org_core.specs.States.{cookbooks_of, has_object}
use Rattle.org_core.specs.declared.needs.Need.{Need}
use Rattle.org_core.specs.declared.needs.Need.TheVariants.{Listed}
use Rattle.org_requests.specs.declared.refusals.Refusal.{Refusal}
use Rattle.org_requests.specs.declared.refusals.Refusal.TheVariants.{NotFound, NotAllowed}
use Rattle.org_requests.specs.declared.requests.Body.{Body}
use Rattle.org_requests.specs.declared.requests.Parameter.{Parameter}
use Rattle.org_requests.specs.Routes.{CookbookRoute}
use Rattle.org_requests.specs.declared.routes.CookbookRouteOf.TheVariants.{Sandboxes, Sandbox, File, Cookbooks, Cookbook, Version, Universe, SolvedVersions}
use Rattle.cookbook_routes.specs.declared.operations.CookbookOperation.{CookbookOperation}
use Rattle.cookbook_routes.specs.declared.operations.CookbookOperation.TheVariants as operation
use Rattle.cookbook_routes.specs.declared.operations.Count.{Count}
use Rattle.cookbook_routes.specs.declared.operations.Wanted.{Wanted}
use Rattle.cookbook_routes.specs.Files.{file_in, digest_refusal, file_uploaded, file_shown}
use Rattle.cookbook_routes.specs.Listings.{count_asked, cookbooks_listed, cookbook_listed}
use Rattle.cookbook_routes.specs.Sandboxes.{sums_in, completion_refusal, missing_refusal, sandbox_begun, sandbox_committed}
use Rattle.cookbook_routes.specs.Solving.{roots_asked, versions_solved}
use Rattle.cookbook_routes.specs.Universes.{universe_shown}
use Rattle.cookbook_routes.specs.Versions.{is_forced, manifest_said, put_need, put_refusal, stored_at, version_in, version_put, version_removed, version_shown, wanted_in, wanted_of}

-- to begin a sandbox of the checksums that were read
abbrev pub beginning : Result Sums Refusal → Result CookbookOperation Refusal
beginning (Ok sums) = Ok (operation.BeginSandbox sums)
beginning (Err refusal) = Err refusal

-- to commit a sandbox, where nothing is wrong with the body. Where the id in the path has no checksum's form, no sandbox has
-- it, and the body is looked at in full all the same
abbrev pub committing : Option (List ℕ) → Option Refusal → Result CookbookOperation Refusal
committing id (Some refusal) = Err refusal
committing None None = Err NotFound
committing (Some id) None = Ok (operation.CommitSandbox id)

-- to upload the file that was read
abbrev pub uploading : List ℕ → Result (List ℕ) Refusal → Result CookbookOperation Refusal
uploading sum (Ok file) = Ok (operation.Upload sum file)
uploading sum (Err refusal) = Err refusal

-- a PUT of a file. Where the path has no checksum's form, no sandbox lists it
abbrev pub put_file : Option (List ℕ) → Body → Result CookbookOperation Refusal
put_file None body = Err NotFound
put_file (Some sum) body = uploading sum (file_in body)

-- a GET of a file. Where the path has no checksum's form, there is none
abbrev pub showing_file : Option (List ℕ) → Result CookbookOperation Refusal
showing_file None = Err NotFound
showing_file (Some sum) = Ok (operation.ShowFile sum)

-- what is asked of all sandboxes
abbrev pub sandboxes_asked : Verb → Body → Result CookbookOperation Refusal
sandboxes_asked Get body = Err NotAllowed
sandboxes_asked Post body = beginning (sums_in (document_in body))
sandboxes_asked Put body = Err NotAllowed
sandboxes_asked Delete body = Err NotAllowed
sandboxes_asked Other body = Err NotAllowed

-- what is asked of a sandbox
abbrev pub sandbox_asked : List ℕ → Verb → Body → Result CookbookOperation Refusal
sandbox_asked id Get body = Err NotAllowed
sandbox_asked id Post body = Err NotAllowed
sandbox_asked id Put body = committing (checksum_in id) (completion_refusal (document_in body))
sandbox_asked id Delete body = Err NotAllowed
sandbox_asked id Other body = Err NotAllowed

-- what is asked of a file
abbrev pub file_asked : List ℕ → Verb → Body → Result CookbookOperation Refusal
file_asked sum Get body = showing_file (checksum_in sum)
file_asked sum Post body = Err NotAllowed
file_asked sum Put body = put_file (checksum_in sum) body
file_asked sum Delete body = Err NotAllowed
file_asked sum Other body = Err NotAllowed

-- to list the cookbooks, with the count that was read
abbrev pub listing : Result Count Refusal → Result CookbookOperation Refusal
listing (Ok count) = Ok (operation.ListCookbooks count)
listing (Err refusal) = Err refusal

-- to show a version. Where the path asks for none, there is none
abbrev pub showing_version : List ℕ → Option Wanted → Result CookbookOperation Refusal
showing_version name None = Err NotFound
showing_version name (Some wanted) = Ok (operation.ShowVersion name wanted)

-- to put the manifest that was read
abbrev pub putting : List ℕ → VersionNumber → Bool → Result Doc Refusal → Result CookbookOperation Refusal
putting name version forced (Ok manifest) = Ok (operation.PutVersion name version manifest forced)
putting name version forced (Err refusal) = Err refusal

-- a PUT of a version. Where the path has a name or a version that hasn't its form, nobody can have made it
abbrev pub put_version : Bool → List ℕ → Option VersionNumber → List Parameter → Body → Result CookbookOperation Refusal
put_version true name (Some version) parameters body = putting name version (is_forced parameters) (manifest_said name version (document_in body))
put_version true name None parameters body = Err (absent (document_in body))
put_version false name version parameters body = Err (absent (document_in body))

-- to remove a version. Where the path spells none, there is none
abbrev pub removing_version : List ℕ → Option VersionNumber → Result CookbookOperation Refusal
removing_version name None = Err NotFound
removing_version name (Some version) = Ok (operation.RemoveVersion name version)

-- what is asked of all cookbooks
abbrev pub cookbooks_asked : Verb → List Parameter → Result CookbookOperation Refusal
cookbooks_asked Get parameters = listing (count_asked parameters)
cookbooks_asked Post parameters = Err NotAllowed
cookbooks_asked Put parameters = Err NotAllowed
cookbooks_asked Delete parameters = Err NotAllowed
cookbooks_asked Other parameters = Err NotAllowed

-- what is asked of a cookbook
abbrev pub cookbook_by_name : List ℕ → Verb → Result CookbookOperation Refusal
cookbook_by_name name Get = Ok (operation.ListVersions name)
cookbook_by_name name Post = Err NotAllowed
cookbook_by_name name Put = Err NotAllowed
cookbook_by_name name Delete = Err NotAllowed
cookbook_by_name name Other = Err NotAllowed

-- what is asked of a version of a cookbook
abbrev pub version_asked : List ℕ → List ℕ → Verb → List Parameter → Body → Result CookbookOperation Refusal
version_asked name version Get parameters body = showing_version name (wanted_in version)
version_asked name version Post parameters body = Err NotAllowed
version_asked name version Put parameters body = put_version (is_name name) name (version_in version) parameters body
version_asked name version Delete parameters body = removing_version name (version_in version)
version_asked name version Other parameters body = Err NotAllowed

-- what is asked of the universe
abbrev pub universe_asked : Verb → Result CookbookOperation Refusal
universe_asked Get = Ok operation.ShowUniverse
universe_asked Post = Err NotAllowed
universe_asked Put = Err NotAllowed
universe_asked Delete = Err NotAllowed
universe_asked Other = Err NotAllowed

-- to choose the versions that were asked for
abbrev pub solving : List ℕ → Result Roots Refusal → Result CookbookOperation Refusal
solving environment (Ok roots) = Ok (operation.SolveVersions environment roots)
solving environment (Err refusal) = Err refusal

-- a POST of a run list. Where the path has a name that hasn't its form, no environment has it
abbrev pub solving_for : Bool → List ℕ → Result Doc Refusal → Result CookbookOperation Refusal
solving_for true environment said = solving environment (roots_asked said)
solving_for false environment said = Err (absent said)

-- what is asked of the versions for a run list
abbrev pub solving_asked : List ℕ → Verb → Body → Result CookbookOperation Refusal
solving_asked environment Get body = Err NotAllowed
solving_asked environment Post body = solving_for (is_name environment) environment (document_in body)
solving_asked environment Put body = Err NotAllowed
solving_asked environment Delete body = Err NotAllowed
solving_asked environment Other body = Err NotAllowed

-- what is asked
abbrev pub cookbook_asked : CookbookRoute → Verb → List Parameter → Body → Result CookbookOperation Refusal
cookbook_asked Sandboxes verb parameters body = sandboxes_asked verb body
cookbook_asked (Sandbox id) verb parameters body = sandbox_asked id verb body
cookbook_asked (File sum) verb parameters body = file_asked sum verb body
cookbook_asked Cookbooks verb parameters body = cookbooks_asked verb parameters
cookbook_asked (Cookbook name) verb parameters body = cookbook_by_name name verb
cookbook_asked (Version name version) verb parameters body = version_asked name version verb parameters body
cookbook_asked Universe verb parameters body = universe_asked verb
cookbook_asked (SolvedVersions environment) verb parameters body = solving_asked environment verb body

-- no environment has the name
abbrev pub lacks_environment : Context → List ℕ → Bool
lacks_environment context name = not (has_object context.state kinds.Environment name)

-- no cookbook has the name
abbrev pub lacks_cookbook : Context → List ℕ → Bool
lacks_cookbook context name = not (is_name name && has_shelf (cookbooks_of context.state) name)

-- the cookbook has no version that is wanted
abbrev pub lacks_wanted : Context → List ℕ → Wanted → Bool
lacks_wanted context name wanted = not (is_name name && is_some (wanted_of context name wanted))

-- the cookbook hasn't this version
abbrev pub lacks_version : Context → List ℕ → VersionNumber → Bool
lacks_version context name version = not (is_name name && is_some (stored_at context name version))

-- what the path names isn't there: a sandbox that is not yet committed, one that lists the checksum, a committed file, a
-- cookbook or a version of one. What is put needn't be there
abbrev pub cookbook_lacks : Context → CookbookOperation → Bool
cookbook_lacks context (operation.BeginSandbox sums) = false
cookbook_lacks context (operation.CommitSandbox id) = is_none (finite.get context.files.sandboxes id)
cookbook_lacks context (operation.Upload sum file) = not (awaits context.files sum)
cookbook_lacks context (operation.ShowFile sum) = not (is_committed context.files sum)
cookbook_lacks context (operation.ListCookbooks count) = false
cookbook_lacks context (operation.ListVersions name) = lacks_cookbook context name
cookbook_lacks context (operation.ShowVersion name wanted) = lacks_wanted context name wanted
cookbook_lacks context (operation.PutVersion name version manifest forced) = false
cookbook_lacks context (operation.RemoveVersion name version) = lacks_version context name version
cookbook_lacks context operation.ShowUniverse = false
cookbook_lacks context (operation.SolveVersions environment roots) = lacks_environment context environment

-- the permission: in the list of the container `sandboxes`; to read a file, to list cookbooks and to choose among their
-- versions in that of `cookbooks`; and else in the cookbook's own
abbrev pub cookbook_need : Context → CookbookOperation → Need
cookbook_need context (operation.BeginSandbox sums) = Listed permission.Create (key kinds.Container (codes "sandboxes"))
cookbook_need context (operation.CommitSandbox id) = Listed permission.Update (key kinds.Container (codes "sandboxes"))
cookbook_need context (operation.Upload sum file) = Listed permission.Create (key kinds.Container (codes "sandboxes"))
cookbook_need context (operation.ShowFile sum) = Listed permission.Read (key kinds.Container (codes "cookbooks"))
cookbook_need context (operation.ListCookbooks count) = Listed permission.Read (key kinds.Container (codes "cookbooks"))
cookbook_need context (operation.ListVersions name) = Listed permission.Read (key kinds.Cookbook name)
cookbook_need context (operation.ShowVersion name wanted) = Listed permission.Read (key kinds.Cookbook name)
cookbook_need context (operation.PutVersion name version manifest forced) = put_need context name
cookbook_need context (operation.RemoveVersion name version) = Listed permission.Delete (key kinds.Cookbook name)
cookbook_need context operation.ShowUniverse = Listed permission.Read (key kinds.Container (codes "cookbooks"))
cookbook_need context (operation.SolveVersions environment roots) = Listed permission.Read (key kinds.Container (codes "cookbooks"))

-- to read an environment
abbrev pub environment_need : List ℕ → Need
environment_need name = Listed permission.Read (key kinds.Environment name)

-- that permission, and before it, where versions are chosen, that to read the environment
abbrev pub cookbook_needs : Context → CookbookOperation → List Need
cookbook_needs context (operation.SolveVersions environment roots) = environment_need environment ∷ cookbook_need context (operation.SolveVersions environment roots) ∷ []
cookbook_needs context operation = cookbook_need context operation ∷ []

-- the refusal that stands. That the count is at its end is found where a sandbox begins, and that no set of versions
-- meets a run list where they are chosen
abbrev pub cookbook_refusal : Context → CookbookOperation → Option Refusal
cookbook_refusal context (operation.BeginSandbox sums) = None
cookbook_refusal context (operation.CommitSandbox id) = missing_refusal context.files id
cookbook_refusal context (operation.Upload sum file) = digest_refusal sum file
cookbook_refusal context (operation.ShowFile sum) = None
cookbook_refusal context (operation.ListCookbooks count) = None
cookbook_refusal context (operation.ListVersions name) = None
cookbook_refusal context (operation.ShowVersion name wanted) = None
cookbook_refusal context (operation.PutVersion name version manifest forced) = put_refusal context name version manifest forced
cookbook_refusal context (operation.RemoveVersion name version) = None
cookbook_refusal context operation.ShowUniverse = None
cookbook_refusal context (operation.SolveVersions environment roots) = None

-- what is done
abbrev pub cookbook_does : Context → CookbookOperation → Decided
cookbook_does context (operation.BeginSandbox sums) = sandbox_begun context sums
cookbook_does context (operation.CommitSandbox id) = sandbox_committed context id
cookbook_does context (operation.Upload sum file) = file_uploaded sum file
cookbook_does context (operation.ShowFile sum) = file_shown context sum
cookbook_does context (operation.ListCookbooks count) = cookbooks_listed context count
cookbook_does context (operation.ListVersions name) = cookbook_listed context name
cookbook_does context (operation.ShowVersion name wanted) = version_shown context name wanted
cookbook_does context (operation.PutVersion name version manifest forced) = version_put context name version manifest
cookbook_does context (operation.RemoveVersion name version) = version_removed context name version
cookbook_does context operation.ShowUniverse = universe_shown context
cookbook_does context (operation.SolveVersions environment roots) = versions_solved context environment roots

-- the rules of these routes
abbrev pub cookbook_rules : Rules CookbookRoute CookbookOperation
cookbook_rules = record {
  operation = λ context route request. cookbook_asked route request.verb request.parameters request.body;
  lacks = cookbook_lacks;
  needs = cookbook_needs;
  own_refusal = cookbook_refusal;
  searches = λ context operation. None;
  does = cookbook_does;
}
