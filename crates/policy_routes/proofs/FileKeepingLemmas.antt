-- What is done to artifacts, policies and policy groups keeps the conditions of files: what an artifact names is there.
use Rattle.std.proofs.Common.{◌≡◌, Bool, true, false, cond, List, ℕ, [], ◌∷◌, ◌++◌, None, is_some, refl}
use Rattle.std.specs.FinMap as finite
use Rattle.access_lists.specs.declared.starting.Container.TheVariants as container
use Rattle.doc_tree.specs.Tree.{doc_of}
use Rattle.doc_tree.specs.declared.kind.Kind.TheVariants as kinds
use Rattle.object_store.specs.Objects.{key}
use Rattle.policy_locks.specs.declared.lock.Lock.{Lock}
use Rattle.shelves.specs.Shelves.{has_shelf}
use Rattle.org_core.proofs.FileConditionsLemmas.{IsNamedThere, list_puts_none, move_keeps_files, moves_keep_files, put_keeps_files}
use Rattle.org_core.proofs.ManifestsLemmas.{named_there, none_told, second_none}
use Rattle.org_core.specs.Contexts.{Context}
use Rattle.org_core.specs.Creating.{created_list}
use Rattle.org_core.specs.FileMoves.{after_all, files_after_move, takes_shelf_room}
use Rattle.org_core.specs.FullStates.{FullState, MeetsFileConditions}
use Rattle.org_core.specs.Keeping.{KeepsFileConditions, LeadsToFileConditions, full_of}
use Rattle.org_core.specs.Moves.{after_move}
use Rattle.org_core.specs.Manifests.{missing_sums, missing_told}
use Rattle.org_core.specs.declared.moves.Move.{Move}
use Rattle.org_core.specs.declared.moves.Move.TheVariants.{OnShelves, PutList, TakeList}
use Rattle.org_requests.specs.declared.refusals.Refusal.TheVariants.{AlreadyExists}
use Rattle.org_shelves.specs.declared.shelf_moves.ShelfMove.TheVariants as shelf
use Rattle.policy_routes.specs.Artifacts.{artifact_at, artifacts_of, keeps_artifacts}
use Rattle.policy_routes.specs.Groups.{assigned_by, assigning, has_group, stored_first}
use Rattle.policy_routes.specs.Policies.{policies_of, revision_at}
use Rattle.policy_routes.specs.PolicyRules.{policy_does, policy_refusal, policy_rules}
use Rattle.policy_routes.specs.declared.operations.PolicyOperation.{PolicyOperation}
use Rattle.policy_routes.specs.declared.operations.PolicyOperation.TheVariants as operation

-- ---- moves in a row

-- each of these moves names what is there, whatever the files
abbrev NameNothing : List Move → Type 0
NameNothing [] = Unit {0}
NameNothing (move ∷ rest) = ((full : FullState) → IsNamedThere move full.files) × NameNothing rest

nothing_named_keeps : (org : List ℕ) (moves : List Move) (full : FullState) → NameNothing moves → MeetsFileConditions full → MeetsFileConditions (after_all org moves full)
nothing_named_keeps org [] full none meets = meets
nothing_named_keeps org (move ∷ rest) full none meets =
    nothing_named_keeps org rest (record { state = after_move move full.state; files = files_after_move org move full.state full.files }) none.1 (move_keeps_files org move full meets (none.0 full))

with_list_names : (b : Bool) (move list : Move) → ((full : FullState) → IsNamedThere move full.files) → ((full : FullState) → IsNamedThere list full.files) → NameNothing (move ∷ cond b [] (list ∷ []))
with_list_names true move list first then = (first, tt)
with_list_names false move list first then = (first, (then, tt))

both_name : (one other : List Move) → NameNothing one → NameNothing other → NameNothing (one ++ other)
both_name [] other first then = then
both_name (move ∷ one) other first then = (first.0, both_name one other first.1 then)

assigning_names : (context : Context) (group policy revision : List ℕ) → NameNothing (assigning context group policy revision)
assigning_names context group policy revision =
    with_list_names (has_group context group) (OnShelves (shelf.PutGroup group (finite.insert (assigned_by context group) policy revision))) (PutList (key kinds.PolicyGroup group) (created_list container.PolicyGroups context)) (λ full. tt) (λ full. tt)

-- a lock is stored, or it is there
abbrev storing : Bool → Context → List ℕ → Lock → List Move
storing b context policy lock = cond b [] (OnShelves (shelf.PutRevision policy lock.revision_id (doc_of lock.whole)) ∷ cond (has_shelf (policies_of context) policy) [] (PutList (key kinds.Policy policy) (created_list container.Policies context) ∷ []))

storing_names : (b : Bool) (context : Context) (policy : List ℕ) (lock : Lock) → NameNothing (storing b context policy lock)
storing_names true context policy lock = tt
storing_names false context policy lock =
    with_list_names (has_shelf (policies_of context) policy) (OnShelves (shelf.PutRevision policy lock.revision_id (doc_of lock.whole))) (PutList (key kinds.Policy policy) (created_list container.Policies context)) (λ full. tt) (λ full. tt)

-- ---- whatever is done

does_keep_files : (context : Context) (asked : PolicyOperation) → MeetsFileConditions (full_of context) → policy_refusal context asked ≡ None → LeadsToFileConditions context (policy_does context asked)
unfolding takes_shelf_room
does_keep_files context operation.ListArtifacts meets free = meets
does_keep_files context (operation.ShowArtifact name id) meets free = meets
does_keep_files context (operation.PutArtifact name id manifest) meets free =
    let none : missing_sums context.files manifest ≡ [] =
    none_told (missing_sums context.files manifest) (second_none AlreadyExists (is_some (artifact_at context name id)) (missing_told (missing_sums context.files manifest)) free) in
    put_keeps_files context.org (OnShelves (shelf.PutArtifact name id manifest))
    (cond (has_shelf (artifacts_of context) name) [] (PutList (key kinds.Artifact name) (created_list container.CookbookArtifacts context) ∷ [])) (full_of context)
    (list_puts_none (has_shelf (artifacts_of context) name) (PutList (key kinds.Artifact name) (created_list container.CookbookArtifacts context)) refl)
    (λ sum names. named_there context.files manifest none sum names) meets
does_keep_files context (operation.RemoveArtifact name id) meets free =
    put_keeps_files context.org (OnShelves (shelf.TakeArtifact name id)) (cond (keeps_artifacts (artifacts_of context) name id) [] (TakeList (key kinds.Artifact name) ∷ [])) (full_of context)
    (list_puts_none (keeps_artifacts (artifacts_of context) name id) (TakeList (key kinds.Artifact name)) refl) tt meets
does_keep_files context operation.ListPolicies meets free = meets
does_keep_files context (operation.ShowPolicy policy) meets free = meets
does_keep_files context (operation.RemovePolicy policy) meets free = moves_keep_files context.org (OnShelves (shelf.TakePolicy policy) ∷ TakeList (key kinds.Policy policy) ∷ []) (full_of context) refl meets
does_keep_files context (operation.AddRevision policy lock) meets free = nothing_named_keeps context.org (storing false context policy lock) (full_of context) (storing_names false context policy lock) meets
does_keep_files context (operation.ShowRevision policy revision) meets free = meets
does_keep_files context operation.ListGroups meets free = meets
does_keep_files context (operation.ShowGroup group) meets free = meets
does_keep_files context (operation.RemoveGroup group) meets free = moves_keep_files context.org (OnShelves (shelf.TakeGroup group) ∷ TakeList (key kinds.PolicyGroup group) ∷ []) (full_of context) refl meets
does_keep_files context (operation.ShowAssignment group policy) meets free = meets
does_keep_files context (operation.Assign group policy lock) meets free =
    nothing_named_keeps context.org (stored_first context policy lock ++ assigning context group policy lock.revision_id) (full_of context)
    (both_name (stored_first context policy lock) (assigning context group policy lock.revision_id) (storing_names (is_some (revision_at context policy lock.revision_id)) context policy lock) (assigning_names context group policy lock.revision_id)) meets
does_keep_files context (operation.Unassign group policy) meets free =
    nothing_named_keeps context.org (OnShelves (shelf.PutGroup group (finite.remove (assigned_by context group) policy)) ∷ []) (full_of context) ((λ full. tt), tt) meets

pub policies_keep_files : KeepsFileConditions policy_rules
policies_keep_files context route request asked meets is free = does_keep_files context asked meets free
