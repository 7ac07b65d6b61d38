-- What is put was read under its own name.
use Rattle.std.proofs.Common.{◌≡◌, ℕ, Bool, true, false, cond, ◌&&◌, List, Some, Result, Ok, Err, refl, sym, ap, subst, ◌∙◌}
use Rattle.std.proofs.lemmas.Bool.{and_parts}
use Rattle.org_shelves.specs.StoredManifests.{IsStoredArtifact, artifact_stored_from}
use Rattle.cookbook_meta.proofs.ArtifactLemmas.{artifact_fits, artifacts_again}
use Rattle.cookbook_meta.specs.Artifacts.{artifact_from}
use Rattle.cookbook_meta.specs.Faults.{then_do}
use Rattle.cookbook_meta.specs.Parts.{is_identifier}
use Rattle.cookbook_meta.specs.declared.fault.MetaFault.{MetaFault}
use Rattle.cookbook_meta.specs.declared.manifests.Manifest.{Manifest}
use Rattle.doc_tree.specs.Doc.{Doc}
use Rattle.doc_tree.specs.Name.{is_name}
use Rattle.doc_tree.specs.Tree.{doc_of}
use Rattle.policy_locks.proofs.LockLemmas.{revision_named}
use Rattle.policy_locks.specs.Reading.{lock_from}
use Rattle.policy_locks.specs.declared.lock.Lock.{Lock}
use Rattle.version_rules.proofs.ReadBack.{versions_read_back}
use Rattle.org_requests.specs.declared.verbs.Verb.{Verb}
use Rattle.org_requests.specs.declared.verbs.Verb.TheVariants.{Get, Post, Put, Delete, Other}
use Rattle.org_core.proofs.ManifestsLemmas.{said_ok}
use Rattle.org_requests.specs.Documents.{absent, document_in}
use Rattle.org_requests.specs.declared.refusals.Refusal.{Refusal}
use Rattle.org_requests.specs.declared.requests.Body.{Body}
use Rattle.org_requests.specs.Routes.{PolicyRoute}
use Rattle.org_requests.specs.declared.routes.PolicyRouteOf.TheVariants.{Artifacts, Artifact, Policies, Policy, Revisions, Revision, Groups, Group, Assignment}
use Rattle.org_shelves.specs.Conditions.{IsArtifactOf, IsRevisionOf}
use Rattle.policy_routes.specs.Artifacts.{artifact_said, is_artifact_name}
use Rattle.policy_routes.specs.Locks.{lock_said, or_bad_lock}
use Rattle.policy_routes.specs.PolicyRules.{adding, assigning_read, only_get, policy_asked, putting_artifact}
use Rattle.policy_routes.specs.declared.operations.PolicyOperation.{PolicyOperation}
use Rattle.policy_routes.specs.declared.operations.PolicyOperation.TheVariants as operation

-- ---- what was asked was read

-- what is put was read under its own name: a manifest as an artifact's, a lock as one of the policy
abbrev pub WasRead : PolicyOperation → Type 0
WasRead operation.ListArtifacts = Unit {0}
WasRead (operation.ShowArtifact name id) = Unit {0}
WasRead (operation.PutArtifact name id manifest) = IsArtifactOf name id manifest
WasRead (operation.RemoveArtifact name id) = Unit {0}
WasRead operation.ListPolicies = Unit {0}
WasRead (operation.ShowPolicy policy) = Unit {0}
WasRead (operation.RemovePolicy policy) = Unit {0}
WasRead (operation.AddRevision policy lock) = IsRevisionOf policy lock.revision_id (doc_of lock.whole)
WasRead (operation.ShowRevision policy revision) = Unit {0}
WasRead operation.ListGroups = Unit {0}
WasRead (operation.ShowGroup group) = Unit {0}
WasRead (operation.RemoveGroup group) = Unit {0}
WasRead (operation.ShowAssignment group policy) = Unit {0}
WasRead (operation.Assign group policy lock) = (is_name group ≡ true) × IsRevisionOf policy lock.revision_id (doc_of lock.whole)
WasRead (operation.Unassign group policy) = Unit {0}

-- and so is what is asked, where something is
abbrev AskedRead : Result PolicyOperation Refusal → Type 0
AskedRead (Ok asked) = WasRead asked
AskedRead (Err refusal) = Unit {0}

-- ---- artifacts

-- an artifact that was read is stored: its version, which was read from a text, is read again
given : (name id : List ℕ) (body manifest : Doc) (read : Result Manifest MetaFault) → artifact_from name id body ≡ read → then_do read (λ m. Ok (doc_of m.whole)) ≡ Ok manifest → IsStoredArtifact name id manifest
given name id body manifest (Ok m) is gives =
    let same : doc_of m.whole ≡ manifest = same_doc (doc_of m.whole) manifest gives in
    record { manifest = m; read = ap (artifact_from name id) (sym same) ∙ artifacts_again name id body m (versions_read_back m.version (artifact_fits name id body m is)) is; whole = same }
  where
    same_doc : (one other : Doc) → ◌≡◌ {A = Result Doc MetaFault} (Ok one) (Ok other) → one ≡ other
    same_doc one other same = cc same
given name id body manifest (Err fault) is gives = cc

said_read : (name id : List ℕ) (document : Result Doc Refusal) (manifest : Doc) → artifact_said name id document ≡ Ok manifest → IsStoredArtifact name id manifest
said_read name id (Ok doc) manifest is = given name id doc manifest (artifact_from name id doc) refl (said_ok (artifact_stored_from name id doc) manifest is)
said_read name id (Err refusal) manifest is = cc

putting_read : (name id : List ℕ) (said : Result Doc Refusal) → ((manifest : Doc) → said ≡ Ok manifest → IsArtifactOf name id manifest) → AskedRead (putting_artifact name id said)
putting_read name id (Ok manifest) is = is manifest refl
putting_read name id (Err refusal) is = tt

put_read : (b : Bool) (name id : List ℕ) (document : Result Doc Refusal) → is_artifact_name name id ≡ b → AskedRead (cond b (putting_artifact name id (artifact_said name id document)) (Err (absent document)))
put_read true name id document named = putting_read name id (artifact_said name id document) (λ manifest is. ((and_parts (is_name name) (is_identifier id) named).0, said_read name id document manifest is))
put_read false name id document named = tt

-- ---- locks

lock_ok : (read : Result Lock (List ℕ)) (lock : Lock) → or_bad_lock read ≡ Ok lock → read ≡ Ok lock
lock_ok (Ok other) lock is = cc is
lock_ok (Err field) lock is = cc

lock_read : (policy : List ℕ) (document : Result Doc Refusal) (lock : Lock) → is_name policy ≡ true → lock_said policy document ≡ Ok lock → IsRevisionOf policy lock.revision_id (doc_of lock.whole)
lock_read policy (Ok doc) lock named is =
    let read = lock_ok (lock_from (Some policy) doc) lock is in
    (named, (revision_named (Some policy) doc lock read, record { lock = lock; body = doc; given = read; revision_is = refl; whole = refl }))
lock_read policy (Err refusal) lock named is = cc

adding_read : (policy : List ℕ) (said : Result Lock Refusal) → ((lock : Lock) → said ≡ Ok lock → IsRevisionOf policy lock.revision_id (doc_of lock.whole)) → AskedRead (adding policy said)
adding_read policy (Ok lock) is = is lock refl
adding_read policy (Err refusal) is = tt

add_read : (b : Bool) (policy : List ℕ) (document : Result Doc Refusal) → is_name policy ≡ b → AskedRead (cond b (adding policy (lock_said policy document)) (Err (absent document)))
add_read true policy document named = adding_read policy (lock_said policy document) (λ lock is. lock_read policy document lock named is)
add_read false policy document named = tt

assigning_was_read : (group policy : List ℕ) (said : Result Lock Refusal) → ((lock : Lock) → said ≡ Ok lock → (is_name group ≡ true) × IsRevisionOf policy lock.revision_id (doc_of lock.whole)) → AskedRead (assigning_read group policy said)
assigning_was_read group policy (Ok lock) is = is lock refl
assigning_was_read group policy (Err refusal) is = tt

assign_read : (b : Bool) (group policy : List ℕ) (document : Result Doc Refusal) → (is_name group && is_name policy) ≡ b
    → AskedRead (cond b (assigning_read group policy (lock_said policy document)) (Err (absent document)))
assign_read true group policy document named =
    let names = and_parts (is_name group) (is_name policy) named in
    assigning_was_read group policy (lock_said policy document) (λ lock is. (names.0, lock_read policy document lock names.1 is))
assign_read false group policy document named = tt

-- ---- any route

only_get_read : (asked : PolicyOperation) (verb : Verb) → WasRead asked → AskedRead (only_get asked verb)
only_get_read asked Get was = was
only_get_read asked Post was = tt
only_get_read asked Put was = tt
only_get_read asked Delete was = tt
only_get_read asked Other was = tt

asked_read : (route : PolicyRoute) (verb : Verb) (body : Body) → AskedRead (policy_asked route verb body)
asked_read Artifacts verb body = only_get_read operation.ListArtifacts verb tt
asked_read (Artifact name id) Get body = tt
asked_read (Artifact name id) Post body = tt
asked_read (Artifact name id) Put body = put_read (is_artifact_name name id) name id (document_in body) refl
asked_read (Artifact name id) Delete body = tt
asked_read (Artifact name id) Other body = tt
asked_read Policies verb body = only_get_read operation.ListPolicies verb tt
asked_read (Policy policy) Get body = tt
asked_read (Policy policy) Post body = tt
asked_read (Policy policy) Put body = tt
asked_read (Policy policy) Delete body = tt
asked_read (Policy policy) Other body = tt
asked_read (Revisions policy) Get body = tt
asked_read (Revisions policy) Post body = add_read (is_name policy) policy (document_in body) refl
asked_read (Revisions policy) Put body = tt
asked_read (Revisions policy) Delete body = tt
asked_read (Revisions policy) Other body = tt
asked_read (Revision policy revision) verb body = only_get_read (operation.ShowRevision policy revision) verb tt
asked_read Groups verb body = only_get_read operation.ListGroups verb tt
asked_read (Group group) Get body = tt
asked_read (Group group) Post body = tt
asked_read (Group group) Put body = tt
asked_read (Group group) Delete body = tt
asked_read (Group group) Other body = tt
asked_read (Assignment group policy) Get body = tt
asked_read (Assignment group policy) Post body = tt
asked_read (Assignment group policy) Put body = assign_read (is_name group && is_name policy) group policy (document_in body) refl
asked_read (Assignment group policy) Delete body = tt
asked_read (Assignment group policy) Other body = tt

-- an operation that is asked was read
pub was_read : (route : PolicyRoute) (verb : Verb) (body : Body) (asked : PolicyOperation) → policy_asked route verb body ≡ Ok asked → WasRead asked
was_read route verb body asked is = subst AskedRead is (asked_read route verb body)
