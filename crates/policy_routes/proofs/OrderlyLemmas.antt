-- The moves of these routes are orderly: nobody comes by them.
use Rattle.std.proofs.Common.{◌≡◌, Bool, true, false, cond, Option, Some, None, is_some, List, [], ◌∷◌, ◌++◌, ℕ, length, filter, refl, sym, ap, ◌∙◌}
use Rattle.access_lists.specs.declared.starting.Container.TheVariants as container
use Rattle.doc_tree.specs.declared.kind.Kind.TheVariants as kinds
use Rattle.object_store.specs.Objects.{key}
use Rattle.shelves.specs.Shelves.{has_shelf}
use Rattle.policy_locks.specs.declared.lock.Lock.{Lock}
use Rattle.org_core.proofs.MovesLemmas.{orderly_without}
use Rattle.org_core.specs.Contexts.{Context}
use Rattle.org_core.specs.Creating.{created_list}
use Rattle.org_core.specs.Keeping.{IsOrderlyGroup}
use Rattle.org_core.specs.Moves.{arrivals, group_joined}
use Rattle.org_core.specs.declared.moves.Move.{Move}
use Rattle.org_core.specs.declared.moves.Move.TheVariants.{PutList, TakeList}
use Rattle.policy_routes.specs.Artifacts.{artifacts_of, keeps_artifacts}
use Rattle.policy_routes.specs.Groups.{assigning, has_group, stored_first}
use Rattle.policy_routes.specs.Policies.{policies_of, revision_at, revision_moves}
use Rattle.policy_routes.specs.PolicyRules.{policy_rules}
use Rattle.policy_routes.specs.declared.operations.PolicyOperation.TheVariants as operation

list_orderly : (b : Bool) (one : Move) → group_joined one ≡ None → arrivals (cond b [] (one ∷ [])) ≡ 0
list_orderly true one none = refl
list_orderly false one none = ap (λ (joined : Option (List ℕ)). length (cond (is_some joined) (one ∷ []) [])) none

revision_orderly : (context : Context) (policy : List ℕ) (lock : Lock) → arrivals (revision_moves context policy lock) ≡ 0
revision_orderly context policy lock = list_orderly (has_shelf (policies_of context) policy) (PutList (key kinds.Policy policy) (created_list container.Policies context)) refl

assigning_orderly : (context : Context) (group policy revision : List ℕ) → arrivals (assigning context group policy revision) ≡ 0
assigning_orderly context group policy revision = list_orderly (has_group context group) (PutList (key kinds.PolicyGroup group) (created_list container.PolicyGroups context)) refl

-- those by which somebody comes, the first of whom is told
abbrev counted : Move → Option (List ℕ) → List Move → List Move
counted move joined more = cond (is_some joined) (move ∷ filter (λ m. is_some (group_joined m)) more) (filter (λ m. is_some (group_joined m)) more)

behind : (move : Move) (moves rest : List Move) (joined : Option (List ℕ)) → group_joined move ≡ joined → arrivals (move ∷ moves) ≡ 0 → (arrivals moves ≡ 0 → arrivals (moves ++ rest) ≡ 0) → arrivals (move ∷ (moves ++ rest)) ≡ 0
behind move moves rest None none first go =
    ap (λ (j : Option (List ℕ)). length (counted move j (moves ++ rest))) none ∙ go (sym (ap (λ (j : Option (List ℕ)). length (counted move j moves)) none) ∙ first)
behind move moves rest (Some group) joins first go = cc (sym (ap (λ (j : Option (List ℕ)). length (counted move j moves)) joins) ∙ first)

-- nobody comes by moves that follow others by which nobody does
none_behind : (moves rest : List Move) → arrivals moves ≡ 0 → arrivals rest ≡ 0 → arrivals (moves ++ rest) ≡ 0
none_behind [] rest first then = then
none_behind (move ∷ moves) rest first then = behind move moves rest (group_joined move) refl first (λ none. none_behind moves rest none then)

stored_orderly : (b : Bool) (context : Context) (policy : List ℕ) (lock : Lock) → arrivals (cond b [] (revision_moves context policy lock)) ≡ 0
stored_orderly true context policy lock = refl
stored_orderly false context policy lock = revision_orderly context policy lock

pub policies_orderly : IsOrderlyGroup policy_rules
policies_orderly context operation.ListArtifacts = refl
policies_orderly context (operation.ShowArtifact name id) = refl
policies_orderly context (operation.PutArtifact name id manifest) =
    list_orderly (has_shelf (artifacts_of context) name) (PutList (key kinds.Artifact name) (created_list container.CookbookArtifacts context)) refl
policies_orderly context (operation.RemoveArtifact name id) = list_orderly (keeps_artifacts (artifacts_of context) name id) (TakeList (key kinds.Artifact name)) refl
policies_orderly context operation.ListPolicies = refl
policies_orderly context (operation.ShowPolicy policy) = refl
policies_orderly context (operation.RemovePolicy policy) = refl
policies_orderly context (operation.AddRevision policy lock) = list_orderly (has_shelf (policies_of context) policy) (PutList (key kinds.Policy policy) (created_list container.Policies context)) refl
policies_orderly context (operation.ShowRevision policy revision) = refl
policies_orderly context operation.ListGroups = refl
policies_orderly context (operation.ShowGroup group) = refl
policies_orderly context (operation.RemoveGroup group) = refl
policies_orderly context (operation.ShowAssignment group policy) = refl
policies_orderly context (operation.Assign group policy lock) =
    orderly_without (stored_first context policy lock ++ assigning context group policy lock.revision_id)
    (none_behind (stored_first context policy lock) (assigning context group policy lock.revision_id) (stored_orderly (is_some (revision_at context policy lock.revision_id)) context policy lock)
    (assigning_orderly context group policy lock.revision_id))
policies_orderly context (operation.Unassign group policy) = refl
