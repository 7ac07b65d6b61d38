-- What is read of a PUT of a cookbook version: a name and a manifest of their forms.
use Rattle.std.proofs.Common.{◌≡◌, ℕ, Bool, true, false, List, Option, Some, None, Result, Ok, Err, refl, sym, ap, subst, ◌∙◌}
use Rattle.std.proofs.lemmas.Option.{same_Some}
use Rattle.org_shelves.specs.StoredManifests.{IsStored, stored_from}
use Rattle.cookbook_meta.proofs.ReadBackLemmas.{manifests_again}
use Rattle.cookbook_meta.specs.Faults.{then_do}
use Rattle.cookbook_meta.specs.Manifests.{manifest_from}
use Rattle.cookbook_meta.specs.declared.fault.MetaFault.{MetaFault}
use Rattle.cookbook_meta.specs.declared.manifests.Manifest.{Manifest}
use Rattle.dep_solver.specs.declared.roots.Roots.{Roots}
use Rattle.doc_tree.specs.Doc.{Doc}
use Rattle.doc_tree.specs.Name.{is_name}
use Rattle.doc_tree.specs.Tree.{doc_of}
use Rattle.org_requests.specs.declared.verbs.Verb.{Verb}
use Rattle.org_requests.specs.declared.verbs.Verb.TheVariants.{Get, Post, Put, Delete, Other}
use Rattle.sandboxes.specs.Checksums.{checksum_in}
use Rattle.sandboxes.specs.Sums.{Sums}
use Rattle.version_rules.proofs.FitLemmas.{fits_read}
use Rattle.version_rules.proofs.ReadBack.{versions_read_back}
use Rattle.version_rules.specs.Laws.{FitsVersion}
use Rattle.version_rules.specs.Versions.{reads_version}
use Rattle.version_rules.specs.declared.fault.VersionFault.{VersionFault}
use Rattle.version_rules.specs.declared.versions.Version.{Version as VersionNumber}
use Rattle.org_core.proofs.ManifestsLemmas.{said_ok}
use Rattle.org_requests.specs.Documents.{document_in}
use Rattle.org_shelves.specs.Conditions.{IsVersionOf}
use Rattle.org_requests.specs.declared.refusals.Refusal.{Refusal}
use Rattle.org_requests.specs.declared.requests.Body.{Body}
use Rattle.org_requests.specs.declared.requests.Parameter.{Parameter}
use Rattle.org_requests.specs.Routes.{CookbookRoute}
use Rattle.org_requests.specs.declared.routes.CookbookRouteOf.TheVariants.{Sandboxes, Sandbox, File, Cookbooks, Cookbook, Version, Universe, SolvedVersions}
use Rattle.cookbook_routes.specs.declared.operations.CookbookOperation.{CookbookOperation}
use Rattle.cookbook_routes.specs.declared.operations.CookbookOperation.TheVariants as operation
use Rattle.cookbook_routes.specs.declared.operations.Count.{Count}
use Rattle.cookbook_routes.specs.declared.operations.Wanted.{Wanted}
use Rattle.cookbook_routes.specs.CookbookRules.{beginning, committing, cookbook_asked, listing, put_file, put_version, putting, removing_version, showing_file, showing_version, solving, solving_for, uploading}
use Rattle.cookbook_routes.specs.Files.{file_in}
use Rattle.cookbook_routes.specs.Listings.{count_asked}
use Rattle.cookbook_routes.specs.Sandboxes.{completion_refusal, sums_in}
use Rattle.cookbook_routes.specs.Solving.{roots_asked}
use Rattle.cookbook_routes.specs.Versions.{is_forced, manifest_said, version_in, version_read, wanted_in}

-- what a version in the path was read as
fits_in : (read : Result VersionNumber VersionFault) (version : VersionNumber) → version_read read ≡ Some version → read ≡ Ok version
fits_in (Ok other) version is = ap Ok (same_Some other version is)
fits_in (Err fault) version is = cc

-- ---- manifests that are read are stored

given : (name : List ℕ) (version : VersionNumber) (body manifest : Doc) (read : Result Manifest MetaFault) → FitsVersion version → manifest_from name version body ≡ read
    → then_do read (λ m. Ok (doc_of m.whole)) ≡ Ok manifest → IsStored name version manifest
given name version body manifest (Ok m) fits is gives =
    let same : doc_of m.whole ≡ manifest = same_doc (doc_of m.whole) manifest gives in
    record { manifest = m; read = ap (manifest_from name version) (sym same) ∙ manifests_again name version body m (versions_read_back version fits) is; whole = same }
  where
    same_doc : (one other : Doc) → ◌≡◌ {A = Result Doc MetaFault} (Ok one) (Ok other) → one ≡ other
    same_doc one other same = cc same
given name version body manifest (Err fault) fits is gives = cc

-- ---- what was asked was read

-- what is put was read with a name, and as a manifest of this name and version
abbrev pub WasRead : CookbookOperation → Type 0
WasRead (operation.BeginSandbox sums) = Unit {0}
WasRead (operation.CommitSandbox id) = Unit {0}
WasRead (operation.Upload sum file) = Unit {0}
WasRead (operation.ShowFile sum) = Unit {0}
WasRead (operation.ListCookbooks count) = Unit {0}
WasRead (operation.ListVersions name) = Unit {0}
WasRead (operation.ShowVersion name wanted) = Unit {0}
WasRead (operation.PutVersion name version manifest forced) = IsVersionOf name version manifest
WasRead (operation.RemoveVersion name version) = Unit {0}
WasRead operation.ShowUniverse = Unit {0}
WasRead (operation.SolveVersions environment roots) = Unit {0}

-- and so is what is asked, where something is
abbrev AskedRead : Result CookbookOperation Refusal → Type 0
AskedRead (Ok asked) = WasRead asked
AskedRead (Err refusal) = Unit {0}

beginning_read : (read : Result Sums Refusal) → AskedRead (beginning read)
beginning_read (Ok sums) = tt
beginning_read (Err refusal) = tt

committing_read : (id : Option (List ℕ)) (refusal : Option Refusal) → AskedRead (committing id refusal)
committing_read id (Some refusal) = tt
committing_read None None = tt
committing_read (Some id) None = tt

uploading_read : (sum : List ℕ) (read : Result (List ℕ) Refusal) → AskedRead (uploading sum read)
uploading_read sum (Ok file) = tt
uploading_read sum (Err refusal) = tt

put_file_read : (sum : Option (List ℕ)) (body : Body) → AskedRead (put_file sum body)
put_file_read None body = tt
put_file_read (Some sum) body = uploading_read sum (file_in body)

showing_file_read : (sum : Option (List ℕ)) → AskedRead (showing_file sum)
showing_file_read None = tt
showing_file_read (Some sum) = tt

listing_read : (count : Result Count Refusal) → AskedRead (listing count)
listing_read (Ok count) = tt
listing_read (Err refusal) = tt

showing_read : (name : List ℕ) (wanted : Option Wanted) → AskedRead (showing_version name wanted)
showing_read name None = tt
showing_read name (Some wanted) = tt

removing_read : (name : List ℕ) (version : Option VersionNumber) → AskedRead (removing_version name version)
removing_read name None = tt
removing_read name (Some version) = tt

putting_read : (name : List ℕ) (version : VersionNumber) (forced : Bool) (said : Result Doc Refusal) → ((manifest : Doc) → said ≡ Ok manifest → IsVersionOf name version manifest)
    → AskedRead (putting name version forced said)
putting_read name version forced (Ok manifest) is = is manifest refl
putting_read name version forced (Err refusal) is = tt

said_read : (name : List ℕ) (version : VersionNumber) (document : Result Doc Refusal) (manifest : Doc) → FitsVersion version → manifest_said name version document ≡ Ok manifest → IsStored name version manifest
said_read name version (Ok doc) manifest fits is = given name version doc manifest (manifest_from name version doc) fits refl (said_ok (stored_from name version doc) manifest is)
said_read name version (Err refusal) manifest fits is = cc

put_read : (b : Bool) (name : List ℕ) (version : Option VersionNumber) (parameters : List Parameter) (body : Body) → is_name name ≡ b
    → ((v : VersionNumber) → version ≡ Some v → FitsVersion v) → AskedRead (put_version b name version parameters body)
put_read true name (Some version) parameters body named fits =
    putting_read name version (is_forced parameters) (manifest_said name version (document_in body)) (λ manifest is. (named, said_read name version (document_in body) manifest (fits version refl) is))
put_read true name None parameters body named fits = tt
put_read false name version parameters body named fits = tt

solving_read : (environment : List ℕ) (roots : Result Roots Refusal) → AskedRead (solving environment roots)
solving_read environment (Ok roots) = tt
solving_read environment (Err refusal) = tt

solving_for_read : (b : Bool) (environment : List ℕ) (said : Result Doc Refusal) → AskedRead (solving_for b environment said)
solving_for_read true environment said = solving_read environment (roots_asked said)
solving_for_read false environment said = tt

asked_read : (route : CookbookRoute) (verb : Verb) (parameters : List Parameter) (body : Body) → AskedRead (cookbook_asked route verb parameters body)
asked_read Sandboxes Get parameters body = tt
asked_read Sandboxes Post parameters body = beginning_read (sums_in (document_in body))
asked_read Sandboxes Put parameters body = tt
asked_read Sandboxes Delete parameters body = tt
asked_read Sandboxes Other parameters body = tt
asked_read (Sandbox id) Get parameters body = tt
asked_read (Sandbox id) Post parameters body = tt
asked_read (Sandbox id) Put parameters body = committing_read (checksum_in id) (completion_refusal (document_in body))
asked_read (Sandbox id) Delete parameters body = tt
asked_read (Sandbox id) Other parameters body = tt
asked_read (File sum) Get parameters body = showing_file_read (checksum_in sum)
asked_read (File sum) Post parameters body = tt
asked_read (File sum) Put parameters body = put_file_read (checksum_in sum) body
asked_read (File sum) Delete parameters body = tt
asked_read (File sum) Other parameters body = tt
asked_read Cookbooks Get parameters body = listing_read (count_asked parameters)
asked_read Cookbooks Post parameters body = tt
asked_read Cookbooks Put parameters body = tt
asked_read Cookbooks Delete parameters body = tt
asked_read Cookbooks Other parameters body = tt
asked_read (Cookbook name) Get parameters body = tt
asked_read (Cookbook name) Post parameters body = tt
asked_read (Cookbook name) Put parameters body = tt
asked_read (Cookbook name) Delete parameters body = tt
asked_read (Cookbook name) Other parameters body = tt
asked_read (Version name version) Get parameters body = showing_read name (wanted_in version)
asked_read (Version name version) Post parameters body = tt
asked_read (Version name version) Put parameters body =
    put_read (is_name name) name (version_in version) parameters body refl (λ v is. fits_read version v (fits_in (reads_version version) v is))
asked_read (Version name version) Delete parameters body = removing_read name (version_in version)
asked_read (Version name version) Other parameters body = tt
asked_read Universe Get parameters body = tt
asked_read Universe Post parameters body = tt
asked_read Universe Put parameters body = tt
asked_read Universe Delete parameters body = tt
asked_read Universe Other parameters body = tt
asked_read (SolvedVersions environment) Get parameters body = tt
asked_read (SolvedVersions environment) Post parameters body = solving_for_read (is_name environment) environment (document_in body)
asked_read (SolvedVersions environment) Put parameters body = tt
asked_read (SolvedVersions environment) Delete parameters body = tt
asked_read (SolvedVersions environment) Other parameters body = tt

-- an operation that is asked was read
pub was_read : (route : CookbookRoute) (verb : Verb) (parameters : List Parameter) (body : Body) (asked : CookbookOperation) → cookbook_asked route verb parameters body ≡ Ok asked → WasRead asked
was_read route verb parameters body asked is = subst AskedRead is (asked_read route verb parameters body)
