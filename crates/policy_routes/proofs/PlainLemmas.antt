-- These routes refuse for want of a permission by their needs alone.
use Rattle.std.proofs.Common.{Bool, true, false, cond, ◌&&◌, List, [], ◌∷◌, ℕ, IfSome, Option, Some, None, is_some, option_map, Result, Ok, Err}
use Rattle.std.specs.List.{find}
use Rattle.doc_tree.specs.Doc.{Doc}
use Rattle.doc_tree.specs.Name.{is_name}
use Rattle.doc_tree.specs.Tree.{doc_of}
use Rattle.org_shelves.specs.StoredManifests.{artifact_stored_from}
use Rattle.cookbook_meta.specs.declared.fault.MetaFault.{MetaFault}
use Rattle.policy_locks.specs.Reading.{lock_from}
use Rattle.policy_locks.specs.declared.lock.CookbookLock.{CookbookLock}
use Rattle.policy_locks.specs.declared.lock.Lock.{Lock}
use Rattle.org_requests.specs.declared.verbs.Verb.{Verb}
use Rattle.org_requests.specs.declared.verbs.Verb.TheVariants.{Get, Post, Put, Delete, Other}
use Rattle.sandboxes.specs.Sums.{Sums}
use Rattle.org_core.specs.Manifests.{missing_sums, missing_told, or_bad_manifest}
use Rattle.org_core.proofs.PlainLemmas.{document_plain}
use Rattle.org_requests.specs.Documents.{absent, document_in}
use Rattle.org_core.specs.Contexts.{Context}
use Rattle.org_core.specs.Plain.{IsPlain, NeverForbids, RefusesPlainly}
use Rattle.org_requests.specs.Refusals.{first_some, refuses}
use Rattle.org_requests.specs.declared.refusals.Refusal.{Refusal}
use Rattle.org_requests.specs.declared.refusals.Refusal.TheVariants.{AlreadyExists, RevisionDiffers}
use Rattle.org_requests.specs.declared.requests.Body.{Body}
use Rattle.org_requests.specs.Routes.{PolicyRoute}
use Rattle.org_requests.specs.declared.routes.PolicyRouteOf.TheVariants.{Artifacts, Artifact, Policies, Policy, Revisions, Revision, Groups, Group, Assignment}
use Rattle.policy_routes.specs.Artifacts.{artifact_at, artifact_said, is_artifact_name}
use Rattle.policy_routes.specs.Groups.{differs}
use Rattle.policy_routes.specs.Locks.{artifact_refusal, is_missing, lock_said, missing_artifact, or_bad_lock}
use Rattle.policy_routes.specs.Policies.{revision_at}
use Rattle.policy_routes.specs.PolicyRules.{adding, assigning_read, only_get, policy_asked, policy_does, policy_refusal, policy_rules, putting_artifact}
use Rattle.policy_routes.specs.declared.operations.PolicyOperation.{PolicyOperation}
use Rattle.policy_routes.specs.declared.operations.PolicyOperation.TheVariants as operation

-- ---- what is asked

only_get_plain : (asked : PolicyOperation) (verb : Verb) → RefusesPlainly (only_get asked verb)
only_get_plain asked Get = tt
only_get_plain asked Post = tt
only_get_plain asked Put = tt
only_get_plain asked Delete = tt
only_get_plain asked Other = tt

absent_plain : (document : Result Doc Refusal) → RefusesPlainly document → IsPlain (absent document)
absent_plain (Ok doc) plain = tt
absent_plain (Err refusal) plain = plain

bad_manifest_plain : (read : Result Doc MetaFault) → RefusesPlainly (or_bad_manifest read)
bad_manifest_plain (Ok manifest) = tt
bad_manifest_plain (Err fault) = tt

artifact_plain : (name id : List ℕ) (document : Result Doc Refusal) → RefusesPlainly document → RefusesPlainly (artifact_said name id document)
artifact_plain name id (Ok doc) plain = bad_manifest_plain (artifact_stored_from name id doc)
artifact_plain name id (Err refusal) plain = plain

putting_plain : (name id : List ℕ) (said : Result Doc Refusal) → RefusesPlainly said → RefusesPlainly (putting_artifact name id said)
putting_plain name id (Ok manifest) plain = tt
putting_plain name id (Err refusal) plain = plain

put_artifact_plain : (b : Bool) (name id : List ℕ) (document : Result Doc Refusal) → RefusesPlainly document
    → RefusesPlainly (cond b (putting_artifact name id (artifact_said name id document)) (Err (absent document)))
put_artifact_plain true name id document plain = putting_plain name id (artifact_said name id document) (artifact_plain name id document plain)
put_artifact_plain false name id document plain = absent_plain document plain

bad_lock_plain : (read : Result Lock (List ℕ)) → RefusesPlainly (or_bad_lock read)
bad_lock_plain (Ok lock) = tt
bad_lock_plain (Err field) = tt

lock_plain : (policy : List ℕ) (document : Result Doc Refusal) → RefusesPlainly document → RefusesPlainly (lock_said policy document)
lock_plain policy (Ok doc) plain = bad_lock_plain (lock_from (Some policy) doc)
lock_plain policy (Err refusal) plain = plain

adding_plain : (policy : List ℕ) (said : Result Lock Refusal) → RefusesPlainly said → RefusesPlainly (adding policy said)
adding_plain policy (Ok lock) plain = tt
adding_plain policy (Err refusal) plain = plain

add_plain : (b : Bool) (policy : List ℕ) (document : Result Doc Refusal) → RefusesPlainly document → RefusesPlainly (cond b (adding policy (lock_said policy document)) (Err (absent document)))
add_plain true policy document plain = adding_plain policy (lock_said policy document) (lock_plain policy document plain)
add_plain false policy document plain = absent_plain document plain

assigning_plain : (group policy : List ℕ) (said : Result Lock Refusal) → RefusesPlainly said → RefusesPlainly (assigning_read group policy said)
assigning_plain group policy (Ok lock) plain = tt
assigning_plain group policy (Err refusal) plain = plain

assign_plain : (b : Bool) (group policy : List ℕ) (document : Result Doc Refusal) → RefusesPlainly document
    → RefusesPlainly (cond b (assigning_read group policy (lock_said policy document)) (Err (absent document)))
assign_plain true group policy document plain = assigning_plain group policy (lock_said policy document) (lock_plain policy document plain)
assign_plain false group policy document plain = absent_plain document plain

asked_plain : (route : PolicyRoute) (verb : Verb) (body : Body) → RefusesPlainly (policy_asked route verb body)
asked_plain Artifacts verb body = only_get_plain operation.ListArtifacts verb
asked_plain (Artifact name id) Get body = tt
asked_plain (Artifact name id) Post body = tt
asked_plain (Artifact name id) Put body = put_artifact_plain (is_artifact_name name id) name id (document_in body) (document_plain body)
asked_plain (Artifact name id) Delete body = tt
asked_plain (Artifact name id) Other body = tt
asked_plain Policies verb body = only_get_plain operation.ListPolicies verb
asked_plain (Policy policy) Get body = tt
asked_plain (Policy policy) Post body = tt
asked_plain (Policy policy) Put body = tt
asked_plain (Policy policy) Delete body = tt
asked_plain (Policy policy) Other body = tt
asked_plain (Revisions policy) Get body = tt
asked_plain (Revisions policy) Post body = add_plain (is_name policy) policy (document_in body) (document_plain body)
asked_plain (Revisions policy) Put body = tt
asked_plain (Revisions policy) Delete body = tt
asked_plain (Revisions policy) Other body = tt
asked_plain (Revision policy revision) verb body = only_get_plain (operation.ShowRevision policy revision) verb
asked_plain Groups verb body = only_get_plain operation.ListGroups verb
asked_plain (Group group) Get body = tt
asked_plain (Group group) Post body = tt
asked_plain (Group group) Put body = tt
asked_plain (Group group) Delete body = tt
asked_plain (Group group) Other body = tt
asked_plain (Assignment group policy) Get body = tt
asked_plain (Assignment group policy) Post body = tt
asked_plain (Assignment group policy) Put body = assign_plain (is_name group && is_name policy) group policy (document_in body) (document_plain body)
asked_plain (Assignment group policy) Delete body = tt
asked_plain (Assignment group policy) Other body = tt

-- ---- what refuses it

missing_plain : (sums : Sums) → IfSome (missing_told sums) IsPlain
missing_plain [] = tt
missing_plain (sum ∷ sums) = tt

first_plain : (refusal : Refusal) (stands : Bool) (later : Option Refusal) → IsPlain refusal → IfSome later IsPlain → IfSome (first_some (refuses refusal stands ∷ later ∷ [])) IsPlain
first_plain refusal true later here plain = here
first_plain refusal false None here plain = tt
first_plain refusal false (Some other) here plain = plain

found_plain : (found : Option CookbookLock) → IfSome (option_map missing_artifact found) IsPlain
found_plain None = tt
found_plain (Some cookbook) = tt

lacking_plain : (context : Context) (lock : Lock) → IfSome (artifact_refusal context lock) IsPlain
lacking_plain context lock = found_plain (find (is_missing context) lock.cookbook_locks)

refusal_plain : (context : Context) (asked : PolicyOperation) → IfSome (policy_refusal context asked) IsPlain
refusal_plain context operation.ListArtifacts = tt
refusal_plain context (operation.ShowArtifact name id) = tt
refusal_plain context (operation.PutArtifact name id manifest) =
    first_plain AlreadyExists (is_some (artifact_at context name id)) (missing_told (missing_sums context.files manifest)) tt (missing_plain (missing_sums context.files manifest))
refusal_plain context (operation.RemoveArtifact name id) = tt
refusal_plain context operation.ListPolicies = tt
refusal_plain context (operation.ShowPolicy policy) = tt
refusal_plain context (operation.RemovePolicy policy) = tt
refusal_plain context (operation.AddRevision policy lock) =
    first_plain AlreadyExists (is_some (revision_at context policy lock.revision_id)) (artifact_refusal context lock) tt (lacking_plain context lock)
refusal_plain context (operation.ShowRevision policy revision) = tt
refusal_plain context operation.ListGroups = tt
refusal_plain context (operation.ShowGroup group) = tt
refusal_plain context (operation.RemoveGroup group) = tt
refusal_plain context (operation.ShowAssignment group policy) = tt
refusal_plain context (operation.Assign group policy lock) =
    first_plain RevisionDiffers (differs (revision_at context policy lock.revision_id) (doc_of lock.whole)) (artifact_refusal context lock) tt (lacking_plain context lock)
refusal_plain context (operation.Unassign group policy) = tt

does_plain : (context : Context) (asked : PolicyOperation) → RefusesPlainly (policy_does context asked).answer
does_plain context operation.ListArtifacts = tt
does_plain context (operation.ShowArtifact name id) = tt
does_plain context (operation.PutArtifact name id manifest) = tt
does_plain context (operation.RemoveArtifact name id) = tt
does_plain context operation.ListPolicies = tt
does_plain context (operation.ShowPolicy policy) = tt
does_plain context (operation.RemovePolicy policy) = tt
does_plain context (operation.AddRevision policy lock) = tt
does_plain context (operation.ShowRevision policy revision) = tt
does_plain context operation.ListGroups = tt
does_plain context (operation.ShowGroup group) = tt
does_plain context (operation.RemoveGroup group) = tt
does_plain context (operation.ShowAssignment group policy) = tt
does_plain context (operation.Assign group policy lock) = tt
does_plain context (operation.Unassign group policy) = tt

pub policies_never_forbid : NeverForbids policy_rules
policies_never_forbid = record {
  operation = λ context route request. asked_plain route request.verb request.body;
  own_refusal = refusal_plain;
  does = does_plain;
}
