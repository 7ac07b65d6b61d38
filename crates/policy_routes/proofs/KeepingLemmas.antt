-- What is done to artifacts, policies and policy groups keeps the conditions of the organisation's state.
use Rattle.std.proofs.Common.{◌≡◌, ◌≢◌, Bool, true, false, not, ◌&&◌, cond, List, ℕ, [], ◌∷◌, ◌++◌, Option, Some, None, is_some, option_and_then, unwrap_or, IsTrue, refl, sym, ap, subst, ◌∙◌}
use Rattle.std.proofs.lemmas.Bool.{and_parts}
use Rattle.std.proofs.lemmas.Option.{same_Some}
use Rattle.std.specs.Ordering.{eq_by_cmp}
use Rattle.std.specs.Cmp.Lexicographic.{nat_list_cmp_total}
use Rattle.std.specs.FinMap as finite
use Rattle.doc_tree.specs.Text.{text_cmp}
use Rattle.access_lists.specs.declared.acl.Acl.{Acl}
use Rattle.access_lists.specs.declared.starting.Container.TheVariants as container
use Rattle.doc_tree.specs.Doc.{Doc}
use Rattle.doc_tree.specs.Name.{is_name}
use Rattle.doc_tree.specs.Tree.{doc_of}
use Rattle.doc_tree.specs.declared.kind.Kind.{Kind}
use Rattle.doc_tree.specs.declared.kind.Kind.TheVariants as kinds
use Rattle.object_store.specs.Objects.{key, key_cmp}
use Rattle.object_store.specs.declared.key.Key.{Key}
use Rattle.policy_locks.specs.declared.lock.Lock.{Lock}
use Rattle.shelves.proofs.ShelfLaws.{get-remove_other, get-remove_same, has_shelf-put_other, has_shelf-put_same, has_shelf-without_other, other_name, same_name, tied_name, value-has_shelf, value_at-put_same}
use Rattle.shelves.specs.Shelves.{has_shelf, put, value_at}
use Rattle.org_core.proofs.ConditionsLemmas.{created_known}
use Rattle.org_core.proofs.ListedLemmas.{NamesKnown}
use Rattle.org_core.proofs.ShelfConditionsLemmas.{SameNames, SameOthers, first_shelved_keeps, last_shelved_keeps, others_from, shelve_keeps}
use Rattle.org_core.specs.AccessConditions.{has_shelved}
use Rattle.org_core.specs.Conditions.{MeetsConditions}
use Rattle.org_core.specs.Contexts.{Context, in_state}
use Rattle.org_core.specs.Creating.{created_list}
use Rattle.org_core.specs.Keeping.{KeepsConditions, LeadsToConditions, Someone}
use Rattle.org_core.specs.Moves.{after_moves, with_lists, with_shelved}
use Rattle.org_core.specs.Needs.{is_known}
use Rattle.org_core.specs.States.{Organisation, State}
use Rattle.org_core.specs.declared.moves.Move.{Move}
use Rattle.org_core.specs.declared.moves.Move.TheVariants.{OnShelves, PutList, TakeList}
use Rattle.org_core.proofs.ObjectConditionsLemmas.{same_keys, ties_itself}
use Rattle.org_shelves.proofs.KeepingLemmas.{same_groups}
use Rattle.org_shelves.specs.Conditions.{IsArtifactOf, IsRevisionOf, ShelfConditions, assigned_in}
use Rattle.org_shelves.specs.Laws.{AreRevisions, IsSound}
use Rattle.org_shelves.specs.Shelved.{Assigned, Policies, PolicyGroups, Shelved}
use Rattle.org_shelves.specs.ShelfMoves.{after_shelf_move}
use Rattle.org_shelves.specs.declared.shelf_moves.ShelfMove.{ShelfMove}
use Rattle.org_shelves.specs.declared.shelf_moves.ShelfMove.TheVariants.{PutArtifact, TakeArtifact, PutRevision, TakePolicy, PutGroup, TakeGroup}
use Rattle.policy_routes.proofs.ReadLemmas.{WasRead, was_read}
use Rattle.policy_routes.specs.Artifacts.{artifact_at, artifact_put, artifact_removed, is_artifact_name, keeps_artifacts}
use Rattle.policy_routes.specs.Groups.{assigned, assigned_lock, group_removed, has_group, unassigned_from}
use Rattle.policy_routes.specs.Policies.{policies_of, policy_removed, revision_added}
use Rattle.policy_routes.specs.PolicyRules.{policy_does, policy_lacks, policy_rules}
use Rattle.policy_routes.specs.declared.operations.PolicyOperation.{PolicyOperation}
use Rattle.policy_routes.specs.declared.operations.PolicyOperation.TheVariants as operation

-- ---- names on shelves

-- a name of a kind is another where its key is
other_of_kind : (kind : Kind) (n name : List ℕ) → eq_by_cmp key_cmp (key kind n) (key kind name) ≡ false → n ≢ name
other_of_kind kind n name apart same = cc (sym (ap (λ (x : List ℕ). eq_by_cmp key_cmp (key kind x) (key kind name)) same ∙ ties_itself (key kind name)) ∙ apart)

-- the names are the same where all others are, and this one is on the shelf before and after
same_if : (kind : Kind) (name : List ℕ) (new old : Shelved) → has_shelved new kind name ≡ true → has_shelved old kind name ≡ true → SameOthers kind name new old → SameNames new old
same_if kind name new old here was others k n = at (eq_by_cmp key_cmp (key k n) (key kind name)) refl
  where
    at : (b : Bool) → eq_by_cmp key_cmp (key k n) (key kind name) ≡ b → has_shelved new k n ≡ has_shelved old k n
    at true tie = subst (λ (q : Key). has_shelved new q.kind q.name ≡ has_shelved old q.kind q.name) (sym (same_keys (key k n) (key kind name) tie)) (here ∙ sym was)
    at false apart = others k n apart

-- something is put on a shelf, with a list where its name is new
abbrev put_first : Bool → ShelfMove → Kind → List ℕ → Acl → List Move
put_first b move kind name list = OnShelves move ∷ cond b [] (PutList (key kind name) list ∷ [])

-- something is taken off a shelf, with its list where the name goes
abbrev take_last : Bool → ShelfMove → Kind → List ℕ → List Move
take_last b move kind name = OnShelves move ∷ cond b [] (TakeList (key kind name) ∷ [])

put_keeps : (o : Organisation) (move : ShelfMove) (kind : Kind) (name : List ℕ) (list : Acl) (b : Bool) → MeetsConditions (Some o) → NamesKnown o.membership list → IsSound move o.shelved → has_shelved o.shelved kind name ≡ b
    → has_shelved (after_shelf_move move o.shelved) kind name ≡ true → SameOthers kind name (after_shelf_move move o.shelved) o.shelved → MeetsConditions (after_moves (put_first b move kind name list) (Some o))
put_keeps o move kind name list true meets known sound was here others = shelve_keeps o move meets sound (same_if kind name (after_shelf_move move o.shelved) o.shelved here was others)
put_keeps o move kind name list false meets known sound was here others = first_shelved_keeps o move kind name list meets sound here others known

take_keeps : (o : Organisation) (move : ShelfMove) (kind : Kind) (name : List ℕ) (b : Bool) → MeetsConditions (Some o) → IsSound move o.shelved → has_shelved o.shelved kind name ≡ true
    → has_shelved (after_shelf_move move o.shelved) kind name ≡ b → SameOthers kind name (after_shelf_move move o.shelved) o.shelved → MeetsConditions (after_moves (take_last b move kind name) (Some o))
take_keeps o move kind name true meets sound was here others = shelve_keeps o move meets sound (same_if kind name (after_shelf_move move o.shelved) o.shelved here was others)
take_keeps o move kind name false meets sound was gone others = last_shelved_keeps o move kind name meets sound was gone others

-- who isn't there stays so
nobody_put : (b : Bool) (move : ShelfMove) (kind : Kind) (name : List ℕ) (list : Acl) → after_moves (put_first b move kind name list) None ≡ None
nobody_put true move kind name list = refl
nobody_put false move kind name list = refl

nobody_taken : (b : Bool) (move : ShelfMove) (kind : Kind) (name : List ℕ) → after_moves (take_last b move kind name) None ≡ None
nobody_taken true move kind name = refl
nobody_taken false move kind name = refl

-- ---- what each move leaves of the names

put_artifact_others : (s : Shelved) (name id : List ℕ) (manifest : Doc) → SameOthers kinds.Artifact name (after_shelf_move (PutArtifact name id manifest) s) s
put_artifact_others s name id manifest =
    others_from kinds.Artifact name (after_shelf_move (PutArtifact name id manifest) s) s (λ n apart. refl)
    (λ n apart. has_shelf-put_other nat_list_cmp_total s.artifacts name id manifest n (other_of_kind kinds.Artifact n name apart)) (λ n apart. refl) (λ n apart. refl)

take_artifact_others : (s : Shelved) (name id : List ℕ) → SameOthers kinds.Artifact name (after_shelf_move (TakeArtifact name id) s) s
take_artifact_others s name id =
    others_from kinds.Artifact name (after_shelf_move (TakeArtifact name id) s) s (λ n apart. refl)
    (λ n apart. has_shelf-without_other nat_list_cmp_total s.artifacts name id n (other_of_kind kinds.Artifact n name apart)) (λ n apart. refl) (λ n apart. refl)

put_revision_others : (s : Shelved) (policy revision : List ℕ) (lock : Doc) → SameOthers kinds.Policy policy (after_shelf_move (PutRevision policy revision lock) s) s
put_revision_others s policy revision lock =
    others_from kinds.Policy policy (after_shelf_move (PutRevision policy revision lock) s) s (λ n apart. refl) (λ n apart. refl)
    (λ n apart. has_shelf-put_other nat_list_cmp_total s.policies policy revision lock n (other_of_kind kinds.Policy n policy apart)) (λ n apart. refl)

take_policy_others : (s : Shelved) (policy : List ℕ) → SameOthers kinds.Policy policy (after_shelf_move (TakePolicy policy) s) s
take_policy_others s policy =
    others_from kinds.Policy policy (after_shelf_move (TakePolicy policy) s) s (λ n apart. refl) (λ n apart. refl)
    (λ n apart. ap is_some (get-remove_other s.policies policy finite.empty n (other_of_kind kinds.Policy n policy apart))) (λ n apart. same_groups s.groups policy n)

put_group_others : (s : Shelved) (group : List ℕ) (assigned : Assigned) → SameOthers kinds.PolicyGroup group (after_shelf_move (PutGroup group assigned) s) s
put_group_others s group assigned =
    others_from kinds.PolicyGroup group (after_shelf_move (PutGroup group assigned) s) s (λ n apart. refl) (λ n apart. refl) (λ n apart. refl)
    (λ n apart.
    ap is_some (finite.get-insert nat_list_cmp_total s.groups group assigned n ∙ ap (λ b. cond b (Some assigned) (finite.get s.groups n)) (other_name n group (other_of_kind kinds.PolicyGroup n group apart))))

take_group_others : (s : Shelved) (group : List ℕ) → SameOthers kinds.PolicyGroup group (after_shelf_move (TakeGroup group) s) s
take_group_others s group =
    others_from kinds.PolicyGroup group (after_shelf_move (TakeGroup group) s) s (λ n apart. refl) (λ n apart. refl) (λ n apart. refl)
    (λ n apart. ap is_some (finite.get-remove nat_list_cmp_total s.groups group n ∙ ap (λ b. cond b None (finite.get s.groups n)) (other_name n group (other_of_kind kinds.PolicyGroup n group apart))))

group_here : (groups : PolicyGroups) (group : List ℕ) (assigned : Assigned) → is_some (finite.get (finite.insert groups group assigned) group) ≡ true
group_here groups group assigned = ap is_some (finite.get-insert nat_list_cmp_total groups group assigned group ∙ ap (λ b. cond b (Some assigned) (finite.get groups group)) (same_name group))

group_gone : (groups : PolicyGroups) (group : List ℕ) → is_some (finite.get (finite.remove groups group) group) ≡ false
group_gone groups group = ap is_some (finite.get-remove nat_list_cmp_total groups group group ∙ ap (λ b. cond b None (finite.get groups group)) (same_name group))

-- ---- assignments

-- what a group assigned is there, and so is the revision that it assigns now
assigned_by_insert : (a : Assigned) (policy revision : List ℕ) (policies : Policies) → AreRevisions a policies → IsTrue (is_some (value_at policies policy revision)) → AreRevisions (finite.insert a policy revision) policies
assigned_by_insert a policy revision policies all here p r is = at (eq_by_cmp text_cmp p policy) refl (sym (finite.get-insert nat_list_cmp_total a policy revision p) ∙ is)
  where
    at : (b : Bool) → eq_by_cmp text_cmp p policy ≡ b → cond b (Some revision) (finite.get a p) ≡ Some r → IsTrue (is_some (value_at policies p r))
    at true tie same =
        subst (λ (q : List ℕ). IsTrue (is_some (value_at policies q r))) (sym (tied_name p policy tie)) (subst (λ (q : List ℕ). IsTrue (is_some (value_at policies policy q))) (same_Some revision r same) here)
    at false apart found = all p r found

assigned_by_remove : (a : Assigned) (policy : List ℕ) (policies : Policies) → AreRevisions a policies → AreRevisions (finite.remove a policy) policies
assigned_by_remove a policy policies all p r is = at (eq_by_cmp text_cmp p policy) (sym (finite.get-remove nat_list_cmp_total a policy p) ∙ is)
  where
    at : (b : Bool) → cond b None (finite.get a p) ≡ Some r → IsTrue (is_some (value_at policies p r))
    at true none = cc
    at false found = all p r found

-- what a group assigns is there, and nothing is where there is no group
assigned_there : (s : Shelved) (group : List ℕ) → ShelfConditions s → AreRevisions (unwrap_or (finite.get s.groups group) finite.empty) s.policies
assigned_there s group meets p r is = at (finite.get s.groups group) refl is
  where
    at : (found : Option Assigned) → finite.get s.groups group ≡ found → finite.get (unwrap_or found finite.empty) p ≡ Some r → IsTrue (is_some (value_at s.policies p r))
    at None none is = cc (sym (finite.get-empty text_cmp p) ∙ is)
    at (Some a) there is = meets.assigned group p r (ap (option_and_then (λ (b : Assigned). finite.get b p)) there ∙ is)

-- a policy is assigned at a revision that is there, with the group's list where the group is new
abbrev assign_moves : Organisation → List ℕ → List ℕ → List ℕ → Acl → Bool → List Move
assign_moves o group policy revision list b = put_first b (PutGroup group (finite.insert (unwrap_or (finite.get o.shelved.groups group) finite.empty) policy revision)) kinds.PolicyGroup group list

assign_keeps : (o : Organisation) (group policy revision : List ℕ) (list : Acl) (b : Bool) → MeetsConditions (Some o) → NamesKnown o.membership list → is_name group ≡ true → IsTrue (is_some (value_at o.shelved.policies policy revision))
    → is_some (finite.get o.shelved.groups group) ≡ b → MeetsConditions (after_moves (assign_moves o group policy revision list b) (Some o))
assign_keeps o group policy revision list b meets known named there was =
    let before : Assigned = unwrap_or (finite.get o.shelved.groups group) finite.empty in
    let after : Assigned = finite.insert before policy revision in
    put_keeps o (PutGroup group after) kinds.PolicyGroup group list b meets known
    (named, assigned_by_insert before policy revision o.shelved.policies (assigned_there o.shelved group meets.1.1.1) there) was (group_here o.shelved.groups group after) (put_group_others o.shelved group after)

-- a revision that is put is there
revision_there : (policies : Policies) (policy revision : List ℕ) (lock : Doc) → IsTrue (is_some (value_at (put policy revision lock policies) policy revision))
revision_there policies policy revision lock = ap is_some (value_at-put_same nat_list_cmp_total policies policy revision lock revision ∙ ap (λ b. cond b (Some lock) (value_at policies policy revision)) (same_name revision))

-- and is then assigned
store_then_assign : (o : Organisation) (group policy revision : List ℕ) (lock : Doc) (policy_list group_list : Acl) (is_there : Bool) → MeetsConditions (Some o) → NamesKnown o.membership policy_list → NamesKnown o.membership group_list → is_name group ≡ true
    → IsRevisionOf policy revision lock → has_shelf o.shelved.policies policy ≡ is_there
    → MeetsConditions (after_moves (put_first is_there (PutRevision policy revision lock) kinds.Policy policy policy_list ++ assign_moves o group policy revision group_list (is_some (finite.get o.shelved.groups group))) (Some o))
store_then_assign o group policy revision lock policy_list group_list true meets policy_known group_known named is was =
    let stored = put_keeps o (PutRevision policy revision lock) kinds.Policy policy policy_list true meets policy_known is was (has_shelf-put_same nat_list_cmp_total o.shelved.policies policy revision lock) (put_revision_others o.shelved policy revision lock) in
    assign_keeps (with_shelved (after_shelf_move (PutRevision policy revision lock) o.shelved) o) group policy revision group_list (is_some (finite.get o.shelved.groups group)) stored group_known named
    (revision_there o.shelved.policies policy revision lock) refl
store_then_assign o group policy revision lock policy_list group_list false meets policy_known group_known named is was =
    let stored = put_keeps o (PutRevision policy revision lock) kinds.Policy policy policy_list false meets policy_known is was (has_shelf-put_same nat_list_cmp_total o.shelved.policies policy revision lock) (put_revision_others o.shelved policy revision lock) in
    assign_keeps (with_lists (finite.insert o.lists (key kinds.Policy policy) policy_list) (with_shelved (after_shelf_move (PutRevision policy revision lock) o.shelved) o)) group policy revision group_list
    (is_some (finite.get o.shelved.groups group)) stored group_known named (revision_there o.shelved.policies policy revision lock) refl

-- it is stored where it isn't there
assign_either : (o : Organisation) (group policy revision : List ℕ) (lock : Doc) (policy_list group_list : Acl) (is_stored : Bool) → MeetsConditions (Some o) → NamesKnown o.membership policy_list → NamesKnown o.membership group_list
    → is_name group ≡ true → IsRevisionOf policy revision lock → is_some (value_at o.shelved.policies policy revision) ≡ is_stored
    → MeetsConditions (after_moves (cond is_stored [] (put_first (has_shelf o.shelved.policies policy) (PutRevision policy revision lock) kinds.Policy policy policy_list)
    ++ assign_moves o group policy revision group_list (is_some (finite.get o.shelved.groups group))) (Some o))
assign_either o group policy revision lock policy_list group_list true meets policy_known group_known named is there =
    assign_keeps o group policy revision group_list (is_some (finite.get o.shelved.groups group)) meets group_known named there refl
assign_either o group policy revision lock policy_list group_list false meets policy_known group_known named is none =
    store_then_assign o group policy revision lock policy_list group_list (has_shelf o.shelved.policies policy) meets policy_known group_known named is refl

-- ---- nobody

-- where there is no organisation, moves that make none leave none
nobody_both : (stored there put : Bool) (policy group : List ℕ) (store assign : ShelfMove) (policy_list group_list : Acl)
    → after_moves (cond stored [] (put_first there store kinds.Policy policy policy_list) ++ put_first put assign kinds.PolicyGroup group group_list) None ≡ None
nobody_both true there put policy group store assign policy_list group_list = nobody_put put assign kinds.PolicyGroup group group_list
nobody_both false true put policy group store assign policy_list group_list = nobody_put put assign kinds.PolicyGroup group group_list
nobody_both false false put policy group store assign policy_list group_list = nobody_put put assign kinds.PolicyGroup group group_list

none_meets : (state : State) → state ≡ None → MeetsConditions state
none_meets state none = subst MeetsConditions (sym none) tt

-- ---- each operation

some_there : {X : Type 0} (found : Option X) → is_some found ≡ true → (x : X) × (found ≡ Some x)
some_there None is = cc
some_there (Some x) is = (x, refl)

not_lacking : (named there : Bool) → not (named && there) ≡ false → there ≡ true
not_lacking true true is = refl
not_lacking true false is = cc
not_lacking false there is = cc

put_artifact_keeps : (context : Context) (state : State) (name id : List ℕ) (manifest : Doc) → MeetsConditions state → is_known (in_state state context) ≡ true → IsArtifactOf name id manifest
    → LeadsToConditions state (artifact_put (in_state state context) name id manifest)
put_artifact_keeps context None name id manifest meets known is = none_meets _ (nobody_put _ (PutArtifact name id manifest) kinds.Artifact name _)
put_artifact_keeps context (Some o) name id manifest meets known is =
    put_keeps o (PutArtifact name id manifest) kinds.Artifact name (created_list container.CookbookArtifacts (in_state (Some o) context)) (has_shelf o.shelved.artifacts name) meets (created_known container.CookbookArtifacts context o meets.1.0 known) is refl
    (has_shelf-put_same nat_list_cmp_total o.shelved.artifacts name id manifest) (put_artifact_others o.shelved name id manifest)

remove_artifact_keeps : (context : Context) (state : State) (name id : List ℕ) → MeetsConditions state → is_some (artifact_at (in_state state context) name id) ≡ true → LeadsToConditions state (artifact_removed (in_state state context) name id)
remove_artifact_keeps context None name id meets there = none_meets _ (nobody_taken _ (TakeArtifact name id) kinds.Artifact name)
remove_artifact_keeps context (Some o) name id meets there =
    let (manifest, stands) = some_there (value_at o.shelved.artifacts name id) there in
    take_keeps o (TakeArtifact name id) kinds.Artifact name (keeps_artifacts o.shelved.artifacts name id) meets tt (value-has_shelf nat_list_cmp_total o.shelved.artifacts name id manifest stands) refl (take_artifact_others o.shelved name id)

remove_policy_keeps : (context : Context) (state : State) (policy : List ℕ) → MeetsConditions state → has_shelf (policies_of (in_state state context)) policy ≡ true → LeadsToConditions state (policy_removed (in_state state context) policy)
remove_policy_keeps context None policy meets there = tt
remove_policy_keeps context (Some o) policy meets there =
    last_shelved_keeps o (TakePolicy policy) kinds.Policy policy meets tt there (ap is_some (get-remove_same o.shelved.policies policy finite.empty)) (take_policy_others o.shelved policy)

add_revision_keeps : (context : Context) (state : State) (policy : List ℕ) (lock : Lock) → MeetsConditions state → is_known (in_state state context) ≡ true → IsRevisionOf policy lock.revision_id (doc_of lock.whole)
    → LeadsToConditions state (revision_added (in_state state context) policy lock)
add_revision_keeps context None policy lock meets known is = none_meets _ (nobody_put _ (PutRevision policy lock.revision_id (doc_of lock.whole)) kinds.Policy policy _)
add_revision_keeps context (Some o) policy lock meets known is =
    put_keeps o (PutRevision policy lock.revision_id (doc_of lock.whole)) kinds.Policy policy (created_list container.Policies (in_state (Some o) context)) (has_shelf o.shelved.policies policy) meets (created_known container.Policies context o meets.1.0 known) is refl
    (has_shelf-put_same nat_list_cmp_total o.shelved.policies policy lock.revision_id (doc_of lock.whole)) (put_revision_others o.shelved policy lock.revision_id (doc_of lock.whole))

remove_group_keeps : (context : Context) (state : State) (group : List ℕ) → MeetsConditions state → has_group (in_state state context) group ≡ true → LeadsToConditions state (group_removed (in_state state context) group)
remove_group_keeps context None group meets there = tt
remove_group_keeps context (Some o) group meets there =
    last_shelved_keeps o (TakeGroup group) kinds.PolicyGroup group meets tt there (group_gone o.shelved.groups group) (take_group_others o.shelved group)

assigned_keeps : (context : Context) (state : State) (group policy : List ℕ) (lock : Lock) → MeetsConditions state → is_known (in_state state context) ≡ true → is_name group ≡ true
    → IsRevisionOf policy lock.revision_id (doc_of lock.whole) → LeadsToConditions state (assigned (in_state state context) group policy lock)
assigned_keeps context None group policy lock meets known named is = none_meets _ (nobody_both _ _ _ policy group (PutRevision policy lock.revision_id (doc_of lock.whole)) (PutGroup group _) _ _)
assigned_keeps context (Some o) group policy lock meets known named is =
    assign_either o group policy lock.revision_id (doc_of lock.whole) (created_list container.Policies (in_state (Some o) context)) (created_list container.PolicyGroups (in_state (Some o) context))
    (is_some (value_at o.shelved.policies policy lock.revision_id)) meets (created_known container.Policies context o meets.1.0 known) (created_known container.PolicyGroups context o meets.1.0 known) named is refl

-- a group that assigns a policy is there, and has a name
group_of_assigned : (groups : PolicyGroups) (policies : Policies) (group policy : List ℕ) → is_some (option_and_then (λ revision. value_at policies policy revision) (assigned_in groups group policy)) ≡ true → is_some (finite.get groups group) ≡ true
group_of_assigned groups policies group policy there = by (finite.get groups group) there
  where
    by : (found : Option Assigned) → is_some (option_and_then (λ revision. value_at policies policy revision) (option_and_then (λ (a : Assigned). finite.get a policy) found)) ≡ true → is_some found ≡ true
    by None there = cc
    by (Some a) there = refl

unassign_keeps : (context : Context) (state : State) (group policy : List ℕ) → MeetsConditions state → is_some (assigned_lock (in_state state context) group policy) ≡ true → LeadsToConditions state (unassigned_from (in_state state context) group policy)
unassign_keeps context None group policy meets there = tt
unassign_keeps context (Some o) group policy meets there =
    let here = group_of_assigned o.shelved.groups o.shelved.policies group policy there in
    let before : Assigned = unwrap_or (finite.get o.shelved.groups group) finite.empty in
    let after : Assigned = finite.remove before policy in
    shelve_keeps o (PutGroup group after) meets (meets.1.1.1.groups group here, assigned_by_remove before policy o.shelved.policies (assigned_there o.shelved group meets.1.1.1))
    (same_if kinds.PolicyGroup group (after_shelf_move (PutGroup group after) o.shelved) o.shelved (group_here o.shelved.groups group after) here (put_group_others o.shelved group after))

does_keep : (context : Context) (asked : PolicyOperation) → MeetsConditions context.state → is_known context ≡ true → WasRead asked → policy_lacks context asked ≡ false → LeadsToConditions context.state (policy_does context asked)
does_keep context operation.ListArtifacts meets known read found = meets
does_keep context (operation.ShowArtifact name id) meets known read found = meets
does_keep context (operation.PutArtifact name id manifest) meets known read found = put_artifact_keeps context context.state name id manifest meets known read
does_keep context (operation.RemoveArtifact name id) meets known read found =
    remove_artifact_keeps context context.state name id meets (not_lacking (is_artifact_name name id) (is_some (artifact_at context name id)) found)
does_keep context operation.ListPolicies meets known read found = meets
does_keep context (operation.ShowPolicy policy) meets known read found = meets
does_keep context (operation.RemovePolicy policy) meets known read found = remove_policy_keeps context context.state policy meets (not_lacking (is_name policy) (has_shelf (policies_of context) policy) found)
does_keep context (operation.AddRevision policy lock) meets known read found = add_revision_keeps context context.state policy lock meets known read
does_keep context (operation.ShowRevision policy revision) meets known read found = meets
does_keep context operation.ListGroups meets known read found = meets
does_keep context (operation.ShowGroup group) meets known read found = meets
does_keep context (operation.RemoveGroup group) meets known read found = remove_group_keeps context context.state group meets (not_lacking (is_name group) (has_group context group) found)
does_keep context (operation.ShowAssignment group policy) meets known read found = meets
does_keep context (operation.Assign group policy lock) meets known read found = assigned_keeps context context.state group policy lock meets known read.0 read.1
does_keep context (operation.Unassign group policy) meets known read found =
    let both = not_lacking (is_name group) (is_name policy && is_some (assigned_lock context group policy)) found in
    unassign_keeps context context.state group policy meets (and_parts (is_name policy) (is_some (assigned_lock context group policy)) both).1

pub policies_keep : KeepsConditions Someone policy_rules
policies_keep context route request asked meets known is found free = does_keep context asked meets known (was_read route request.verb request.body asked is) found
