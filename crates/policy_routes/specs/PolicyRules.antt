-- The rules of artifacts, policies and policy groups.
use Rattle.std.specs.Prelude.{ℕ, Bool, false, ◌&&◌, cond, List, [], ◌∷◌, codes, Option, None, Result, Ok, Err}
use Rattle.access_lists.specs.declared.perm.Perm.TheVariants as permission
use Rattle.doc_tree.specs.Doc.{Doc}
use Rattle.doc_tree.specs.Name.{is_name}
use Rattle.doc_tree.specs.declared.kind.Kind.TheVariants as kinds
use Rattle.object_store.specs.Objects.{key}
use Rattle.policy_locks.specs.declared.lock.Lock.{Lock}
use Rattle.org_requests.specs.declared.verbs.Verb.{Verb}
use Rattle.org_requests.specs.declared.verbs.Verb.TheVariants.{Get, Post, Put, Delete, Other}
use Rattle.org_requests.specs.Documents.{absent, document_in}
use Rattle.org_core.specs.Contexts.{Context}
use Rattle.org_core.specs.Outcomes.{Decided}
use Rattle.org_core.specs.Rules.{Rules}
use Rattle.org_core.specs.declared.needs.Need.{Need}
use Rattle.org_core.specs.declared.needs.Need.TheVariants.{Listed}
use Rattle.org_requests.specs.declared.refusals.Refusal.{Refusal}
use Rattle.org_requests.specs.declared.refusals.Refusal.TheVariants.{NotAllowed}
use Rattle.org_requests.specs.declared.requests.Body.{Body}
use Rattle.org_requests.specs.Routes.{PolicyRoute}
use Rattle.org_requests.specs.declared.routes.PolicyRouteOf.TheVariants.{Artifacts, Artifact, Policies, Policy, Revisions, Revision, Groups, Group, Assignment}
use Rattle.policy_routes.specs.Artifacts.{artifact_put, artifact_removed, artifact_said, artifact_shown, artifacts_listed, is_artifact_name, lacks_artifact, put_artifact_need, put_artifact_refusal}
use Rattle.policy_routes.specs.Groups.{assigned, assigning_needs, assigning_refusal, assignment_shown, group_need, group_removed, group_shown, groups_listed, lacks_assignment, lacks_group, unassigned_from}
use Rattle.policy_routes.specs.Locks.{lock_said}
use Rattle.policy_routes.specs.Policies.{lacks_policy, lacks_revision, policies_listed, policy_removed, policy_shown, revision_added, revision_need, revision_refusal, revision_shown}
use Rattle.policy_routes.specs.declared.operations.PolicyOperation.{PolicyOperation}
use Rattle.policy_routes.specs.declared.operations.PolicyOperation.TheVariants as operation

-- what is asked by reading alone
abbrev pub only_get : PolicyOperation → Verb → Result PolicyOperation Refusal
only_get asked Get = Ok asked
only_get asked Post = Err NotAllowed
only_get asked Put = Err NotAllowed
only_get asked Delete = Err NotAllowed
only_get asked Other = Err NotAllowed

-- what is asked of a policy
abbrev pub policy_by_name : List ℕ → Verb → Result PolicyOperation Refusal
policy_by_name policy Get = Ok (operation.ShowPolicy policy)
policy_by_name policy Post = Err NotAllowed
policy_by_name policy Put = Err NotAllowed
policy_by_name policy Delete = Ok (operation.RemovePolicy policy)
policy_by_name policy Other = Err NotAllowed

-- what is asked of a policy group
abbrev pub group_by_name : List ℕ → Verb → Result PolicyOperation Refusal
group_by_name group Get = Ok (operation.ShowGroup group)
group_by_name group Post = Err NotAllowed
group_by_name group Put = Err NotAllowed
group_by_name group Delete = Ok (operation.RemoveGroup group)
group_by_name group Other = Err NotAllowed

-- an artifact is put, once its manifest was read
abbrev pub putting_artifact : List ℕ → List ℕ → Result Doc Refusal → Result PolicyOperation Refusal
putting_artifact name id (Ok manifest) = Ok (operation.PutArtifact name id manifest)
putting_artifact name id (Err refusal) = Err refusal

-- the body of a PUT is looked at in full where the path has the form of an artifact's
abbrev pub put_artifact : List ℕ → List ℕ → Body → Result PolicyOperation Refusal
put_artifact name id body = cond (is_artifact_name name id) (putting_artifact name id (artifact_said name id (document_in body))) (Err (absent (document_in body)))

-- what is asked of an artifact
abbrev pub artifact_asked : List ℕ → List ℕ → Verb → Body → Result PolicyOperation Refusal
artifact_asked name id Get body = Ok (operation.ShowArtifact name id)
artifact_asked name id Post body = Err NotAllowed
artifact_asked name id Put body = put_artifact name id body
artifact_asked name id Delete body = Ok (operation.RemoveArtifact name id)
artifact_asked name id Other body = Err NotAllowed

-- a revision is added, once its lock was read
abbrev pub adding : List ℕ → Result Lock Refusal → Result PolicyOperation Refusal
adding policy (Ok lock) = Ok (operation.AddRevision policy lock)
adding policy (Err refusal) = Err refusal

-- the body of a POST is looked at in full where the path has the form of a policy's
abbrev pub add_revision : List ℕ → Body → Result PolicyOperation Refusal
add_revision policy body = cond (is_name policy) (adding policy (lock_said policy (document_in body))) (Err (absent (document_in body)))

-- what is asked of the revisions of a policy
abbrev pub revisions_asked : List ℕ → Verb → Body → Result PolicyOperation Refusal
revisions_asked policy Get body = Err NotAllowed
revisions_asked policy Post body = add_revision policy body
revisions_asked policy Put body = Err NotAllowed
revisions_asked policy Delete body = Err NotAllowed
revisions_asked policy Other body = Err NotAllowed

-- a lock is assigned, once it was read
abbrev pub assigning_read : List ℕ → List ℕ → Result Lock Refusal → Result PolicyOperation Refusal
assigning_read group policy (Ok lock) = Ok (operation.Assign group policy lock)
assigning_read group policy (Err refusal) = Err refusal

-- the body of a PUT is looked at in full where the path has the form of an assignment's
abbrev pub assign : List ℕ → List ℕ → Body → Result PolicyOperation Refusal
assign group policy body = cond (is_name group && is_name policy) (assigning_read group policy (lock_said policy (document_in body))) (Err (absent (document_in body)))

-- what is asked of an assignment
abbrev pub assignment_asked : List ℕ → List ℕ → Verb → Body → Result PolicyOperation Refusal
assignment_asked group policy Get body = Ok (operation.ShowAssignment group policy)
assignment_asked group policy Post body = Err NotAllowed
assignment_asked group policy Put body = assign group policy body
assignment_asked group policy Delete body = Ok (operation.Unassign group policy)
assignment_asked group policy Other body = Err NotAllowed

-- what is asked of a route
abbrev pub policy_asked : PolicyRoute → Verb → Body → Result PolicyOperation Refusal
policy_asked Artifacts verb body = only_get operation.ListArtifacts verb
policy_asked (Artifact name id) verb body = artifact_asked name id verb body
policy_asked Policies verb body = only_get operation.ListPolicies verb
policy_asked (Policy policy) verb body = policy_by_name policy verb
policy_asked (Revisions policy) verb body = revisions_asked policy verb body
policy_asked (Revision policy revision) verb body = only_get (operation.ShowRevision policy revision) verb
policy_asked Groups verb body = only_get operation.ListGroups verb
policy_asked (Group group) verb body = group_by_name group verb
policy_asked (Assignment group policy) verb body = assignment_asked group policy verb body

-- what an operation is about isn't there. What is put needn't be there
abbrev pub policy_lacks : Context → PolicyOperation → Bool
policy_lacks context operation.ListArtifacts = false
policy_lacks context (operation.ShowArtifact name id) = lacks_artifact context name id
policy_lacks context (operation.PutArtifact name id manifest) = false
policy_lacks context (operation.RemoveArtifact name id) = lacks_artifact context name id
policy_lacks context operation.ListPolicies = false
policy_lacks context (operation.ShowPolicy policy) = lacks_policy context policy
policy_lacks context (operation.RemovePolicy policy) = lacks_policy context policy
policy_lacks context (operation.AddRevision policy lock) = false
policy_lacks context (operation.ShowRevision policy revision) = lacks_revision context policy revision
policy_lacks context operation.ListGroups = false
policy_lacks context (operation.ShowGroup group) = lacks_group context group
policy_lacks context (operation.RemoveGroup group) = lacks_group context group
policy_lacks context (operation.ShowAssignment group policy) = lacks_assignment context group policy
policy_lacks context (operation.Assign group policy lock) = false
policy_lacks context (operation.Unassign group policy) = lacks_assignment context group policy

-- the permission that an operation needs: to assign, the first of two
abbrev pub policy_need : Context → PolicyOperation → Need
policy_need context operation.ListArtifacts = Listed permission.Read (key kinds.Container (codes "cookbook_artifacts"))
policy_need context (operation.ShowArtifact name id) = Listed permission.Read (key kinds.Artifact name)
policy_need context (operation.PutArtifact name id manifest) = put_artifact_need context name
policy_need context (operation.RemoveArtifact name id) = Listed permission.Delete (key kinds.Artifact name)
policy_need context operation.ListPolicies = Listed permission.Read (key kinds.Container (codes "policies"))
policy_need context (operation.ShowPolicy policy) = Listed permission.Read (key kinds.Policy policy)
policy_need context (operation.RemovePolicy policy) = Listed permission.Delete (key kinds.Policy policy)
policy_need context (operation.AddRevision policy lock) = revision_need context policy
policy_need context (operation.ShowRevision policy revision) = Listed permission.Read (key kinds.Policy policy)
policy_need context operation.ListGroups = Listed permission.Read (key kinds.Container (codes "policy_groups"))
policy_need context (operation.ShowGroup group) = Listed permission.Read (key kinds.PolicyGroup group)
policy_need context (operation.RemoveGroup group) = Listed permission.Delete (key kinds.PolicyGroup group)
policy_need context (operation.ShowAssignment group policy) = Listed permission.Read (key kinds.PolicyGroup group)
policy_need context (operation.Assign group policy lock) = group_need context group
policy_need context (operation.Unassign group policy) = Listed permission.Update (key kinds.PolicyGroup group)

-- that permission, and to assign, also the one to put a revision of the policy
abbrev pub policy_needs : Context → PolicyOperation → List Need
policy_needs context (operation.Assign group policy lock) = assigning_needs context group policy
policy_needs context asked = policy_need context asked ∷ []

-- the refusal that stands
abbrev pub policy_refusal : Context → PolicyOperation → Option Refusal
policy_refusal context operation.ListArtifacts = None
policy_refusal context (operation.ShowArtifact name id) = None
policy_refusal context (operation.PutArtifact name id manifest) = put_artifact_refusal context name id manifest
policy_refusal context (operation.RemoveArtifact name id) = None
policy_refusal context operation.ListPolicies = None
policy_refusal context (operation.ShowPolicy policy) = None
policy_refusal context (operation.RemovePolicy policy) = None
policy_refusal context (operation.AddRevision policy lock) = revision_refusal context policy lock
policy_refusal context (operation.ShowRevision policy revision) = None
policy_refusal context operation.ListGroups = None
policy_refusal context (operation.ShowGroup group) = None
policy_refusal context (operation.RemoveGroup group) = None
policy_refusal context (operation.ShowAssignment group policy) = None
policy_refusal context (operation.Assign group policy lock) = assigning_refusal context policy lock
policy_refusal context (operation.Unassign group policy) = None

-- what is done
abbrev pub policy_does : Context → PolicyOperation → Decided
policy_does context operation.ListArtifacts = artifacts_listed context
policy_does context (operation.ShowArtifact name id) = artifact_shown context name id
policy_does context (operation.PutArtifact name id manifest) = artifact_put context name id manifest
policy_does context (operation.RemoveArtifact name id) = artifact_removed context name id
policy_does context operation.ListPolicies = policies_listed context
policy_does context (operation.ShowPolicy policy) = policy_shown context policy
policy_does context (operation.RemovePolicy policy) = policy_removed context policy
policy_does context (operation.AddRevision policy lock) = revision_added context policy lock
policy_does context (operation.ShowRevision policy revision) = revision_shown context policy revision
policy_does context operation.ListGroups = groups_listed context
policy_does context (operation.ShowGroup group) = group_shown context group
policy_does context (operation.RemoveGroup group) = group_removed context group
policy_does context (operation.ShowAssignment group policy) = assignment_shown context group policy
policy_does context (operation.Assign group policy lock) = assigned context group policy lock
policy_does context (operation.Unassign group policy) = unassigned_from context group policy

-- the rules of these routes
abbrev pub policy_rules : Rules PolicyRoute PolicyOperation
policy_rules = record {
  operation = λ context route request. policy_asked route request.verb request.body;
  lacks = policy_lacks;
  needs = policy_needs;
  own_refusal = policy_refusal;
  searches = λ context operation. None;
  does = policy_does;
}
