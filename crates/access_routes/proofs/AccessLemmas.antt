-- The moves of groups, users, containers and access lists are orderly, and keep the conditions of an organisation's state.
use Rattle.std.proofs.Common.{◌≡◌, ℕ, List, Bool, true, false, not, ◌&&◌, is_some, Option, Some, None, Result, Ok, Err, codes, refl, sym, ap, subst}
use Rattle.std.specs.FinMap as finite
use Rattle.membership.specs.declared.member_kind.MemberKind.TheVariants as member
use Rattle.membership.specs.StartingGroups.{is_starting_group}
use Rattle.membership.specs.Actors.{has as has_name, is_actor}
use Rattle.access_lists.specs.declared.acl.Acl.{Acl}
use Rattle.access_lists.specs.declared.acl.Entry.{Entry}
use Rattle.access_lists.specs.declared.perm.Perm.{Perm}
use Rattle.access_lists.specs.declared.starting.Container.TheVariants as container
use Rattle.access_lists.specs.Strangers.{first_stranger}
use Rattle.doc_tree.specs.Doc.{Doc}
use Rattle.doc_tree.specs.Name.{is_name}
use Rattle.doc_tree.specs.Part.{part_at}
use Rattle.doc_tree.specs.declared.kind.Kind.{Kind}
use Rattle.doc_tree.specs.declared.kind.Kind.TheVariants as kinds
use Rattle.object_forms.proofs.StoredLemmas.{named_from}
use Rattle.object_forms.specs.Objects.{name_in}
use Rattle.object_store.specs.Objects.{key}
use Rattle.object_store.specs.declared.key.Key.{Key}
use Rattle.org_requests.specs.declared.verbs.Verb.{Verb}
use Rattle.org_requests.specs.declared.verbs.Verb.TheVariants.{Get, Post, Put, Delete, Other}
use Rattle.org_core.proofs.ListedLemmas.{list_known}
use Rattle.org_core.proofs.ConditionsLemmas.{created_known, put_list_keeps, create_group_keeps, replace_group_keeps, remove_group_keeps, create_user_keeps, remove_user_keeps}
use Rattle.org_core.proofs.ReadLemmas.{IsRead, read_body, some_named, text_named}
use Rattle.org_core.specs.Bodies.{object_in_body}
use Rattle.org_requests.specs.Documents.{document_in}
use Rattle.org_core.specs.Conditions.{MeetsConditions}
use Rattle.org_core.specs.Contexts.{Context, in_state}
use Rattle.org_core.specs.FileMoves.{takes_shelf_room, shelved_by}
use Rattle.org_core.specs.Keeping.{IsOrderlyGroup, KeepsConditions, LeadsToConditions, NeverShelves, Someone}
use Rattle.org_core.specs.Moves.{IsOrderly, after_moves}
use Rattle.org_core.specs.Needs.{if_named}
use Rattle.org_requests.specs.Refusals.{refuses}
use Rattle.org_core.specs.States.{State, Organisation, list_in, membership_of}
use Rattle.org_requests.specs.declared.refusals.Refusal.{Refusal}
use Rattle.org_requests.specs.declared.refusals.Refusal.TheVariants.{AlreadyExists, NotAllowed}
use Rattle.org_requests.specs.declared.requests.Body.{Body}
use Rattle.org_requests.specs.Routes.{AccessRoute}
use Rattle.org_requests.specs.declared.routes.AccessRouteOf.TheVariants as route
use Rattle.access_routes.proofs.StrangerLemmas.{entry_known, sent_known, with_entry_known}
use Rattle.access_routes.specs.AccessLists.{entry_in, entry_moves, kind_at, permission_at, stranger_told, with_entry}
use Rattle.access_routes.specs.AccessRules.{access_rules, access_asked, creating_group, creating_user, put_entry, put_group, replacing_entry, replacing_group, showing_list}
use Rattle.access_routes.specs.GroupRoutes.{group_name}
use Rattle.access_routes.specs.Users.{or_bad_username, username_at, username_in}
use Rattle.access_routes.specs.declared.operations.AccessOperation.{AccessOperation}
use Rattle.access_routes.specs.declared.operations.AccessOperation.TheVariants as operation

entry_orderly : (k : Key) (perm : Perm) (entry : Entry) (found : Option Acl) → IsOrderly (entry_moves k perm entry found)
entry_orderly k perm entry None = refl
entry_orderly k perm entry (Some list) = refl

pub access_orderly : IsOrderlyGroup access_rules
access_orderly context operation.ListGroups = refl
access_orderly context (operation.CreateGroup name) = refl
access_orderly context (operation.ShowGroup name) = refl
access_orderly context (operation.ReplaceGroup name group) = refl
access_orderly context (operation.RemoveGroup name) = refl
access_orderly context operation.ListUsers = refl
access_orderly context (operation.CreateUser name) = refl
access_orderly context (operation.ShowUser name) = refl
access_orderly context (operation.RemoveUser name) = refl
access_orderly context operation.ListContainers = refl
access_orderly context (operation.ShowContainer name) = refl
access_orderly context (operation.ShowList k) = refl
access_orderly context (operation.ReplaceEntry k permission entry) = entry_orderly k permission entry (list_in context.state k)

-- ---- these routes put nothing on a shelf

entry_puts_none : (k : Key) (perm : Perm) (entry : Entry) (found : Option Acl) → shelved_by (entry_moves k perm entry found) ≡ 0
unfolding takes_shelf_room
entry_puts_none k perm entry None = refl
entry_puts_none k perm entry (Some list) = refl

pub access_puts_none : NeverShelves access_rules
unfolding takes_shelf_room
access_puts_none context operation.ListGroups = refl
access_puts_none context (operation.CreateGroup name) = refl
access_puts_none context (operation.ShowGroup name) = refl
access_puts_none context (operation.ReplaceGroup name group) = refl
access_puts_none context (operation.RemoveGroup name) = refl
access_puts_none context operation.ListUsers = refl
access_puts_none context (operation.CreateUser name) = refl
access_puts_none context (operation.ShowUser name) = refl
access_puts_none context (operation.RemoveUser name) = refl
access_puts_none context operation.ListContainers = refl
access_puts_none context (operation.ShowContainer name) = refl
access_puts_none context (operation.ShowList k) = refl
access_puts_none context (operation.ReplaceEntry k permission entry) = entry_puts_none k permission entry (list_in context.state k)

-- ---- what was read of a body

-- what is created was read with a name
abbrev WasRead : AccessOperation → Type 0
WasRead operation.ListGroups = Unit {0}
WasRead (operation.CreateGroup name) = is_name name ≡ true
WasRead (operation.ShowGroup name) = Unit {0}
WasRead (operation.ReplaceGroup name group) = Unit {0}
WasRead (operation.RemoveGroup name) = Unit {0}
WasRead operation.ListUsers = Unit {0}
WasRead (operation.CreateUser name) = is_name name ≡ true
WasRead (operation.ShowUser name) = Unit {0}
WasRead (operation.RemoveUser name) = Unit {0}
WasRead operation.ListContainers = Unit {0}
WasRead (operation.ShowContainer name) = Unit {0}
WasRead (operation.ShowList k) = Unit {0}
WasRead (operation.ReplaceEntry k perm entry) = Unit {0}

asked_for : (one operation : AccessOperation) → WasRead one → ◌≡◌ {A = Result AccessOperation Refusal} (Ok one) (Ok operation) → WasRead operation
asked_for one operation this is = let same : one ≡ operation = cc is in subst WasRead same this

group_named : (group : Doc) → IsRead kinds.Group None group → is_name (group_name group) ≡ true
group_named group (doc, read) =
    let found = some_named (name_in kinds.Group group) (named_from kinds.Group None doc group tt read) in
    let text = text_named (part_at (codes "groupname") group) found.0 found.1 in
    subst (λ (n : List ℕ). is_name n ≡ true) (sym text.0) text.1

creating_group_read : (read : Result Doc Refusal) (asked : AccessOperation) → ((group : Doc) → read ≡ Ok group → IsRead kinds.Group None group) → creating_group read ≡ Ok asked → WasRead asked
creating_group_read (Ok group) asked reads is = asked_for (operation.CreateGroup (group_name group)) asked (group_named group (reads group refl)) is
creating_group_read (Err refusal) asked reads is = cc

replacing_group_read : (name : List ℕ) (read : Result Doc Refusal) (asked : AccessOperation) → replacing_group name read ≡ Ok asked → WasRead asked
replacing_group_read name (Ok group) asked is = asked_for (operation.ReplaceGroup name group) asked tt is
replacing_group_read name (Err refusal) asked is = cc

put_group_read : (b : Bool) (name : List ℕ) (body : Body) (asked : AccessOperation) → put_group b name body ≡ Ok asked → WasRead asked
put_group_read true name body asked is = replacing_group_read name (object_in_body kinds.Group (Some name) body) asked is
put_group_read false name body asked is = cc

username_found : (found : Option (List ℕ)) (name : List ℕ) → or_bad_username found ≡ Ok name → found ≡ Some name
username_found None name is = cc
username_found (Some found) name is = let same : found ≡ name = cc is in ap Some same

username_named : (document : Result Doc Refusal) (name : List ℕ) → username_in document ≡ Ok name → is_name name ≡ true
username_named (Ok doc) name is = (text_named (part_at (codes "username") doc) name (username_found (username_at doc) name is)).1
username_named (Err refusal) name is = cc

creating_user_read : (read : Result (List ℕ) Refusal) (asked : AccessOperation) → ((name : List ℕ) → read ≡ Ok name → is_name name ≡ true) → creating_user read ≡ Ok asked → WasRead asked
creating_user_read (Ok name) asked reads is = asked_for (operation.CreateUser name) asked (reads name refl) is
creating_user_read (Err refusal) asked reads is = cc

replacing_entry_read : (k : Key) (perm : Perm) (read : Result Entry Refusal) (asked : AccessOperation) → replacing_entry k perm read ≡ Ok asked → WasRead asked
replacing_entry_read k perm (Ok entry) asked is = asked_for (operation.ReplaceEntry k perm entry) asked tt is
replacing_entry_read k perm (Err refusal) asked is = cc

put_entry_read : (b : Bool) (kind : Option Kind) (name : List ℕ) (perm : Option Perm) (body : Body) (asked : AccessOperation) → put_entry b kind name perm body ≡ Ok asked → WasRead asked
put_entry_read true (Some kind) name (Some perm) body asked is = replacing_entry_read (key kind name) perm (entry_in perm (document_in body)) asked is
put_entry_read true (Some kind) name None body asked is = cc
put_entry_read true None name perm body asked is = cc
put_entry_read false kind name perm body asked is = cc

showing_list_read : (kind : Option Kind) (name : List ℕ) (asked : AccessOperation) → showing_list kind name ≡ Ok asked → WasRead asked
showing_list_read None name asked is = cc
showing_list_read (Some kind) name asked is = asked_for (operation.ShowList (key kind name)) asked tt is

access_read : (r : AccessRoute) (verb : Verb) (body : Body) (asked : AccessOperation) → access_asked r verb body ≡ Ok asked → WasRead asked
access_read route.Groups Get body asked is = asked_for operation.ListGroups asked tt is
access_read route.Groups Post body asked is = creating_group_read (object_in_body kinds.Group None body) asked (λ group read. read_body kinds.Group None body group read) is
access_read route.Groups Put body asked is = cc
access_read route.Groups Delete body asked is = cc
access_read route.Groups Other body asked is = cc
access_read (route.Group name) Get body asked is = asked_for (operation.ShowGroup name) asked tt is
access_read (route.Group name) Post body asked is = cc
access_read (route.Group name) Put body asked is = put_group_read (is_name name) name body asked is
access_read (route.Group name) Delete body asked is = asked_for (operation.RemoveGroup name) asked tt is
access_read (route.Group name) Other body asked is = cc
access_read route.Users Get body asked is = asked_for operation.ListUsers asked tt is
access_read route.Users Post body asked is = creating_user_read (username_in (document_in body)) asked (λ name read. username_named (document_in body) name read) is
access_read route.Users Put body asked is = cc
access_read route.Users Delete body asked is = cc
access_read route.Users Other body asked is = cc
access_read (route.User name) Get body asked is = asked_for (operation.ShowUser name) asked tt is
access_read (route.User name) Post body asked is = cc
access_read (route.User name) Put body asked is = cc
access_read (route.User name) Delete body asked is = asked_for (operation.RemoveUser name) asked tt is
access_read (route.User name) Other body asked is = cc
access_read route.Containers Get body asked is = asked_for operation.ListContainers asked tt is
access_read route.Containers Post body asked is = cc
access_read route.Containers Put body asked is = cc
access_read route.Containers Delete body asked is = cc
access_read route.Containers Other body asked is = cc
access_read (route.Container name) Get body asked is = asked_for (operation.ShowContainer name) asked tt is
access_read (route.Container name) Post body asked is = cc
access_read (route.Container name) Put body asked is = cc
access_read (route.Container name) Delete body asked is = cc
access_read (route.Container name) Other body asked is = cc
access_read (route.List collection name) Get body asked is = showing_list_read (kind_at collection) name asked is
access_read (route.List collection name) Post body asked is = cc
access_read (route.List collection name) Put body asked is = cc
access_read (route.List collection name) Delete body asked is = cc
access_read (route.List collection name) Other body asked is = cc
access_read (route.Entry collection name word) Get body asked is = cc
access_read (route.Entry collection name word) Post body asked is = cc
access_read (route.Entry collection name word) Put body asked is = put_entry_read (is_name name) (kind_at collection) name (permission_at word) body asked is
access_read (route.Entry collection name word) Delete body asked is = cc
access_read (route.Entry collection name word) Other body asked is = cc

-- ---- what is done keeps the conditions

not_refused : (refusal : Refusal) (b : Bool) → refuses refusal b ≡ None → b ≡ false
not_refused refusal true is = cc
not_refused refusal false is = refl

group_there : (form there : Bool) → not (form && there) ≡ false → there ≡ true
group_there true true is = refl
group_there true false is = cc
group_there false there is = cc

entry_keeps : (k : Key) (perm : Perm) (entry : Entry) (o : Organisation) (found : Option Acl) → finite.get o.lists k ≡ found → MeetsConditions (Some o) → stranger_told (first_stranger o.membership entry) ≡ None
    → MeetsConditions (after_moves (entry_moves k perm entry found) (Some o))
entry_keeps k perm entry o None is meets known = meets
entry_keeps k perm entry o (Some list) is meets known =
    put_list_keeps o k (with_entry perm entry list) meets (ap is_some is)
    (with_entry_known o.membership perm entry list (entry_known o.membership entry known) (list_known o k list meets.1.0 is))

access_do : (context : Context) (o : Organisation) (asked : AccessOperation) → MeetsConditions (Some o) → if_named (is_actor o.membership) context.caller ≡ true → WasRead asked
    → access_rules.lacks (in_state (Some o) context) asked ≡ false → access_rules.own_refusal (in_state (Some o) context) asked ≡ None → LeadsToConditions (Some o) (access_rules.does (in_state (Some o) context) asked)
access_do context o operation.ListGroups meets known read found free = meets
access_do context o (operation.CreateGroup name) meets known read found free = create_group_keeps o name _ meets (created_known container.Groups context o meets.1.0 known) read
access_do context o (operation.ShowGroup name) meets known read found free = meets
access_do context o (operation.ReplaceGroup name group) meets known read found free =
    replace_group_keeps o name _ meets (group_there (is_name name) (has_name o.membership member.Group name) found) (λ kind q listed. sent_known group o.membership kind q free listed)
access_do context o (operation.RemoveGroup name) meets known read found free = remove_group_keeps o name meets (not_refused NotAllowed (is_starting_group name) free)
access_do context o operation.ListUsers meets known read found free = meets
access_do context o (operation.CreateUser name) meets known read found free = create_user_keeps o (codes "users") name meets (not_refused AlreadyExists (is_actor o.membership name) free) read
access_do context o (operation.ShowUser name) meets known read found free = meets
access_do context o (operation.RemoveUser name) meets known read found free = remove_user_keeps o name meets
access_do context o operation.ListContainers meets known read found free = meets
access_do context o (operation.ShowContainer name) meets known read found free = meets
access_do context o (operation.ShowList k) meets known read found free = meets
access_do context o (operation.ReplaceEntry k perm entry) meets known read found free = entry_keeps k perm entry o (finite.get o.lists k) refl meets free

entry_undone : (k : Key) (perm : Perm) (entry : Entry) (found : Option Acl) → MeetsConditions (after_moves (entry_moves k perm entry found) None)
entry_undone k perm entry None = tt
entry_undone k perm entry (Some list) = tt

-- nothing is done to an organisation that isn't there
access_undone : (context : Context) (asked : AccessOperation) → LeadsToConditions None (access_rules.does (in_state None context) asked)
access_undone context operation.ListGroups = tt
access_undone context (operation.CreateGroup name) = tt
access_undone context (operation.ShowGroup name) = tt
access_undone context (operation.ReplaceGroup name group) = tt
access_undone context (operation.RemoveGroup name) = tt
access_undone context operation.ListUsers = tt
access_undone context (operation.CreateUser name) = tt
access_undone context (operation.ShowUser name) = tt
access_undone context (operation.RemoveUser name) = tt
access_undone context operation.ListContainers = tt
access_undone context (operation.ShowContainer name) = tt
access_undone context (operation.ShowList k) = tt
access_undone context (operation.ReplaceEntry k perm entry) = entry_undone k perm entry (list_in None k)

access_in : (context : Context) (state : State) (asked : AccessOperation) → MeetsConditions state → if_named (is_actor (membership_of state)) context.caller ≡ true → WasRead asked
    → access_rules.lacks (in_state state context) asked ≡ false → access_rules.own_refusal (in_state state context) asked ≡ None
    → LeadsToConditions state (access_rules.does (in_state state context) asked)
access_in context None asked meets known read found free = access_undone context asked
access_in context (Some o) asked meets known read found free = access_do context o asked meets known read found free

pub access_keep : KeepsConditions Someone access_rules
access_keep context r request asked meets known is found free =
    access_in context context.state asked meets known (access_read r request.verb request.body asked is) found free
