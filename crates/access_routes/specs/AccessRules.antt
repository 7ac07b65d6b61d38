-- The rules of groups, users, containers and access lists.
use Rattle.std.specs.Prelude.{ℕ, Bool, true, false, List, [], ◌∷◌, Option, Some, None, codes, Result, Ok, Err}
use Rattle.membership.specs.declared.member_kind.MemberKind.TheVariants as member
use Rattle.membership.specs.StartingGroups.{is_starting_group}
use Rattle.membership.specs.Actors as membership
use Rattle.access_lists.specs.declared.acl.Entry.{Entry}
use Rattle.access_lists.specs.declared.perm.Perm.{Perm}
use Rattle.access_lists.specs.declared.perm.Perm.TheVariants as permission
use Rattle.doc_tree.specs.Doc.{Doc}
use Rattle.doc_tree.specs.Name.{is_name}
use Rattle.doc_tree.specs.declared.kind.Kind.{Kind}
use Rattle.doc_tree.specs.declared.kind.Kind.TheVariants as kinds
use Rattle.object_store.specs.Objects.{key}
use Rattle.object_store.specs.declared.key.Key.{Key}
use Rattle.org_requests.specs.declared.verbs.Verb.{Verb}
use Rattle.org_requests.specs.declared.verbs.Verb.TheVariants.{Get, Post, Put, Delete, Other}
use Rattle.org_core.specs.Bodies.{object_in_body}
use Rattle.org_requests.specs.Documents.{document_in, absent}
use Rattle.org_core.specs.Contexts.{Context}
use Rattle.org_core.specs.Outcomes.{Decided, shows, tells}
use Rattle.org_requests.specs.Refusals.{refuses}
use Rattle.org_core.specs.Rules.{Rules}
use Rattle.org_core.specs.States.{membership_of}
use Rattle.org_core.specs.declared.needs.Need.{Need}
use Rattle.org_core.specs.declared.needs.Need.TheVariants.{Listed}
use Rattle.org_requests.specs.declared.refusals.Refusal.{Refusal}
use Rattle.org_requests.specs.declared.refusals.Refusal.TheVariants.{AlreadyExists, NotAllowed, NotFound}
use Rattle.org_requests.specs.declared.requests.Body.{Body}
use Rattle.org_requests.specs.Routes.{AccessRoute}
use Rattle.org_requests.specs.declared.routes.AccessRouteOf.TheVariants as route
use Rattle.access_routes.specs.declared.operations.AccessOperation.{AccessOperation}
use Rattle.access_routes.specs.declared.operations.AccessOperation.TheVariants as operation
use Rattle.access_routes.specs.AccessLists.{kind_at, permission_at, entry_in, lacks_list, stranger_told, list_shown, entry_replaced}
use Rattle.access_lists.specs.Strangers.{first_stranger}
use Rattle.access_routes.specs.Containers.{lacks_container, container_doc, containers_listed}
use Rattle.access_routes.specs.GroupRoutes.{group_name, lacks_group, stranger_refusal, group_shown, groups_listed, group_created, group_replaced, group_removed}
use Rattle.access_routes.specs.Users.{username_in, lacks_user, user_doc, users_listed, user_created, user_removed}

-- to create the group that was read
abbrev pub creating_group : Result Doc Refusal → Result AccessOperation Refusal
creating_group (Ok group) = Ok (operation.CreateGroup (group_name group))
creating_group (Err refusal) = Err refusal

-- to give a group the members that were read
abbrev pub replacing_group : List ℕ → Result Doc Refusal → Result AccessOperation Refusal
replacing_group name (Ok group) = Ok (operation.ReplaceGroup name group)
replacing_group name (Err refusal) = Err refusal

-- a PUT of a group. Where the name in the path has no name's form, no group has it
abbrev pub put_group : Bool → List ℕ → Body → Result AccessOperation Refusal
put_group true name body = replacing_group name (object_in_body kinds.Group (Some name) body)
put_group false name body = Err (absent (document_in body))

-- to create the user that was read
abbrev pub creating_user : Result (List ℕ) Refusal → Result AccessOperation Refusal
creating_user (Ok name) = Ok (operation.CreateUser name)
creating_user (Err refusal) = Err refusal

-- to replace an entry by the one that was read
abbrev pub replacing_entry : Key → Perm → Result Entry Refusal → Result AccessOperation Refusal
replacing_entry k perm (Ok entry) = Ok (operation.ReplaceEntry k perm entry)
replacing_entry k perm (Err refusal) = Err refusal

-- a PUT of an entry. Where the path names no permission, or its name has no name's form, there is none
abbrev pub put_entry : Bool → Option Kind → List ℕ → Option Perm → Body → Result AccessOperation Refusal
put_entry true (Some kind) name (Some perm) body = replacing_entry (key kind name) perm (entry_in perm (document_in body))
put_entry true (Some kind) name None body = Err (absent (document_in body))
put_entry true None name perm body = Err (absent (document_in body))
put_entry false kind name perm body = Err (absent (document_in body))

-- to show the list of an object of this kind, if it is one of a collection with lists
abbrev pub showing_list : Option Kind → List ℕ → Result AccessOperation Refusal
showing_list None name = Err NotFound
showing_list (Some kind) name = Ok (operation.ShowList (key kind name))

-- what is asked
abbrev pub groups_asked : Verb → Body → Result AccessOperation Refusal
groups_asked Get body = Ok operation.ListGroups
groups_asked Post body = creating_group (object_in_body kinds.Group None body)
groups_asked Put body = Err NotAllowed
groups_asked Delete body = Err NotAllowed
groups_asked Other body = Err NotAllowed

abbrev pub group_asked : List ℕ → Verb → Body → Result AccessOperation Refusal
group_asked name Get body = Ok (operation.ShowGroup name)
group_asked name Post body = Err NotAllowed
group_asked name Put body = put_group (is_name name) name body
group_asked name Delete body = Ok (operation.RemoveGroup name)
group_asked name Other body = Err NotAllowed

abbrev pub users_asked : Verb → Body → Result AccessOperation Refusal
users_asked Get body = Ok operation.ListUsers
users_asked Post body = creating_user (username_in (document_in body))
users_asked Put body = Err NotAllowed
users_asked Delete body = Err NotAllowed
users_asked Other body = Err NotAllowed

abbrev pub user_asked : List ℕ → Verb → Result AccessOperation Refusal
user_asked name Get = Ok (operation.ShowUser name)
user_asked name Post = Err NotAllowed
user_asked name Put = Err NotAllowed
user_asked name Delete = Ok (operation.RemoveUser name)
user_asked name Other = Err NotAllowed

abbrev pub containers_asked : Verb → Result AccessOperation Refusal
containers_asked Get = Ok operation.ListContainers
containers_asked Post = Err NotAllowed
containers_asked Put = Err NotAllowed
containers_asked Delete = Err NotAllowed
containers_asked Other = Err NotAllowed

abbrev pub container_asked : List ℕ → Verb → Result AccessOperation Refusal
container_asked name Get = Ok (operation.ShowContainer name)
container_asked name Post = Err NotAllowed
container_asked name Put = Err NotAllowed
container_asked name Delete = Err NotAllowed
container_asked name Other = Err NotAllowed

abbrev pub list_asked : List ℕ → List ℕ → Verb → Result AccessOperation Refusal
list_asked collection name Get = showing_list (kind_at collection) name
list_asked collection name Post = Err NotAllowed
list_asked collection name Put = Err NotAllowed
list_asked collection name Delete = Err NotAllowed
list_asked collection name Other = Err NotAllowed

abbrev pub entry_asked : List ℕ → List ℕ → List ℕ → Verb → Body → Result AccessOperation Refusal
entry_asked collection name word Get body = Err NotAllowed
entry_asked collection name word Post body = Err NotAllowed
entry_asked collection name word Put body = put_entry (is_name name) (kind_at collection) name (permission_at word) body
entry_asked collection name word Delete body = Err NotAllowed
entry_asked collection name word Other body = Err NotAllowed

abbrev pub access_asked : AccessRoute → Verb → Body → Result AccessOperation Refusal
access_asked route.Groups verb body = groups_asked verb body
access_asked (route.Group name) verb body = group_asked name verb body
access_asked route.Users verb body = users_asked verb body
access_asked (route.User name) verb body = user_asked name verb
access_asked route.Containers verb body = containers_asked verb
access_asked (route.Container name) verb body = container_asked name verb
access_asked (route.List collection name) verb body = list_asked collection name verb
access_asked (route.Entry collection name word) verb body = entry_asked collection name word verb body

-- what the path names isn't there
abbrev pub access_lacks : Context → AccessOperation → Bool
access_lacks context operation.ListGroups = false
access_lacks context (operation.CreateGroup name) = false
access_lacks context (operation.ShowGroup name) = lacks_group name context.state
access_lacks context (operation.ReplaceGroup name group) = lacks_group name context.state
access_lacks context (operation.RemoveGroup name) = lacks_group name context.state
access_lacks context operation.ListUsers = false
access_lacks context (operation.CreateUser name) = false
access_lacks context (operation.ShowUser name) = lacks_user name context.state
access_lacks context (operation.RemoveUser name) = lacks_user name context.state
access_lacks context operation.ListContainers = false
access_lacks context (operation.ShowContainer name) = lacks_container name
access_lacks context (operation.ShowList k) = lacks_list k context.state
access_lacks context (operation.ReplaceEntry k perm entry) = lacks_list k context.state

-- the permission: of groups and containers as of other objects, of users in the list of the group `users`, and to
-- grant for a list
abbrev pub access_need : AccessOperation → Need
access_need operation.ListGroups = Listed permission.Read (key kinds.Container (codes "groups"))
access_need (operation.CreateGroup name) = Listed permission.Create (key kinds.Container (codes "groups"))
access_need (operation.ShowGroup name) = Listed permission.Read (key kinds.Group name)
access_need (operation.ReplaceGroup name group) = Listed permission.Update (key kinds.Group name)
access_need (operation.RemoveGroup name) = Listed permission.Delete (key kinds.Group name)
access_need operation.ListUsers = Listed permission.Read (key kinds.Group (codes "users"))
access_need (operation.CreateUser name) = Listed permission.Update (key kinds.Group (codes "users"))
access_need (operation.ShowUser name) = Listed permission.Read (key kinds.Group (codes "users"))
access_need (operation.RemoveUser name) = Listed permission.Update (key kinds.Group (codes "users"))
access_need operation.ListContainers = Listed permission.Read (key kinds.Container (codes "containers"))
access_need (operation.ShowContainer name) = Listed permission.Read (key kinds.Container name)
access_need (operation.ShowList k) = Listed permission.Grant k
access_need (operation.ReplaceEntry k perm entry) = Listed permission.Grant k

-- that permission alone
abbrev pub access_needs : AccessOperation → List Need
access_needs operation = access_need operation ∷ []

-- the first refusal that stands
abbrev pub access_refusal : Context → AccessOperation → Option Refusal
access_refusal context operation.ListGroups = None
access_refusal context (operation.CreateGroup name) = refuses AlreadyExists (membership.has (membership_of context.state) member.Group name)
access_refusal context (operation.ShowGroup name) = None
access_refusal context (operation.ReplaceGroup name group) = stranger_refusal group (membership_of context.state)
access_refusal context (operation.RemoveGroup name) = refuses NotAllowed (is_starting_group name)
access_refusal context operation.ListUsers = None
access_refusal context (operation.CreateUser name) = refuses AlreadyExists (membership.is_actor (membership_of context.state) name)
access_refusal context (operation.ShowUser name) = None
access_refusal context (operation.RemoveUser name) = None
access_refusal context operation.ListContainers = None
access_refusal context (operation.ShowContainer name) = None
access_refusal context (operation.ShowList k) = None
access_refusal context (operation.ReplaceEntry k perm entry) = stranger_told (first_stranger (membership_of context.state) entry)

-- what is done
abbrev pub access_does : Context → AccessOperation → Decided
access_does context operation.ListGroups = groups_listed context
access_does context (operation.CreateGroup name) = group_created context name
access_does context (operation.ShowGroup name) = tells (group_shown context.org name context.state)
access_does context (operation.ReplaceGroup name group) = group_replaced context name group
access_does context (operation.RemoveGroup name) = group_removed context name
access_does context operation.ListUsers = users_listed context
access_does context (operation.CreateUser name) = user_created context name
access_does context (operation.ShowUser name) = tells (shows (user_doc name))
access_does context (operation.RemoveUser name) = user_removed name
access_does context operation.ListContainers = containers_listed context
access_does context (operation.ShowContainer name) = tells (shows (container_doc name))
access_does context (operation.ShowList k) = list_shown k context.state
access_does context (operation.ReplaceEntry k perm entry) = entry_replaced k perm entry context.state

-- the rules of these routes
abbrev pub access_rules : Rules AccessRoute AccessOperation
access_rules = record {
  operation = λ context route request. access_asked route request.verb request.body;
  lacks = access_lacks;
  needs = λ context operation. access_needs operation;
  own_refusal = access_refusal;
  searches = λ context operation. None;
  does = access_does;
}
