-- These routes refuse for want of a permission by their needs alone.
use Rattle.std.proofs.Common.{ℕ, List, [], ◌∷◌, Bool, true, false, Option, Some, None, IfSome, Result, Ok, Err}
use Rattle.membership.specs.declared.member_kind.MemberKind.{MemberKind}
use Rattle.membership.specs.declared.member_kind.MemberKind.TheVariants as member
use Rattle.membership.specs.Members.{Membership}
use Rattle.membership.specs.StartingGroups.{is_starting_group}
use Rattle.membership.specs.Actors as membership
use Rattle.access_lists.specs.declared.acl.Entry.{Entry}
use Rattle.access_lists.specs.declared.strangers.Stranger.{Stranger}
use Rattle.access_lists.specs.declared.strangers.Stranger.TheVariants as stranger
use Rattle.access_lists.specs.declared.perm.Perm.{Perm}
use Rattle.access_lists.specs.Forms.{entry_for}
use Rattle.access_lists.specs.Strangers.{first_stranger}
use Rattle.doc_tree.specs.Doc.{Doc}
use Rattle.doc_tree.specs.Name.{is_name}
use Rattle.doc_tree.specs.declared.kind.Kind.{Kind}
use Rattle.doc_tree.specs.declared.kind.Kind.TheVariants as kinds
use Rattle.object_store.specs.declared.key.Key.{Key}
use Rattle.object_store.specs.Objects.{key}
use Rattle.org_requests.specs.declared.verbs.Verb.{Verb}
use Rattle.org_requests.specs.declared.verbs.Verb.TheVariants.{Get, Post, Put, Delete, Other}
use Rattle.org_core.proofs.PlainLemmas.{document_plain, body_plain, absent_plain, refuses_plain}
use Rattle.org_core.specs.Bodies.{object_in_body}
use Rattle.org_requests.specs.Documents.{document_in}
use Rattle.org_core.specs.Contexts.{Context}
use Rattle.org_core.specs.Plain.{IsPlain, RefusesPlainly, NeverForbids}
use Rattle.org_requests.specs.Refusals.{first_some}
use Rattle.org_core.specs.States.{membership_of}
use Rattle.org_requests.specs.declared.refusals.Refusal.{Refusal}
use Rattle.org_requests.specs.declared.refusals.Refusal.TheVariants.{AlreadyExists, BadField, NotAllowed}
use Rattle.org_requests.specs.declared.requests.Body.{Body}
use Rattle.org_requests.specs.Routes.{AccessRoute}
use Rattle.org_requests.specs.declared.routes.AccessRouteOf.TheVariants as route
use Rattle.access_routes.specs.AccessLists.{kind_at, permission_at, or_bad_entry, entry_in, stranger_told}
use Rattle.access_routes.specs.AccessRules.{access_rules, access_asked, access_refusal, creating_group, replacing_group, put_group, creating_user, replacing_entry, put_entry, showing_list}
use Rattle.access_routes.specs.GroupRoutes.{field_of, sent, has_stranger, stranger_among, stranger_refusal}
use Rattle.access_routes.specs.Users.{or_bad_username, username_at, username_in}
use Rattle.access_routes.specs.declared.operations.AccessOperation.{AccessOperation}
use Rattle.access_routes.specs.declared.operations.AccessOperation.TheVariants as operation

creating_group_plain : (read : Result Doc Refusal) → RefusesPlainly read → RefusesPlainly (creating_group read)
creating_group_plain (Ok group) plain = tt
creating_group_plain (Err refusal) plain = plain

replacing_group_plain : (name : List ℕ) (read : Result Doc Refusal) → RefusesPlainly read → RefusesPlainly (replacing_group name read)
replacing_group_plain name (Ok group) plain = tt
replacing_group_plain name (Err refusal) plain = plain

put_group_plain : (b : Bool) (name : List ℕ) (body : Body) → RefusesPlainly (put_group b name body)
put_group_plain true name body = replacing_group_plain name (object_in_body kinds.Group (Some name) body) (body_plain kinds.Group (Some name) body)
put_group_plain false name body = absent_plain body

username_plain : (found : Option (List ℕ)) → RefusesPlainly (or_bad_username found)
username_plain None = tt
username_plain (Some name) = tt

username_in_plain : (document : Result Doc Refusal) → RefusesPlainly document → RefusesPlainly (username_in document)
username_in_plain (Ok doc) plain = username_plain (username_at doc)
username_in_plain (Err refusal) plain = plain

creating_user_plain : (read : Result (List ℕ) Refusal) → RefusesPlainly read → RefusesPlainly (creating_user read)
creating_user_plain (Ok name) plain = tt
creating_user_plain (Err refusal) plain = plain

showing_plain : (kind : Option Kind) (name : List ℕ) → RefusesPlainly (showing_list kind name)
showing_plain None name = tt
showing_plain (Some kind) name = tt

bad_entry_plain : (permission : Perm) (found : Option Entry) → RefusesPlainly (or_bad_entry permission found)
bad_entry_plain permission None = tt
bad_entry_plain permission (Some entry) = tt

entry_in_plain : (permission : Perm) (document : Result Doc Refusal) → RefusesPlainly document → RefusesPlainly (entry_in permission document)
entry_in_plain permission (Ok doc) plain = bad_entry_plain permission (entry_for permission doc)
entry_in_plain permission (Err refusal) plain = plain

replacing_entry_plain : (k : Key) (permission : Perm) (read : Result Entry Refusal) → RefusesPlainly read → RefusesPlainly (replacing_entry k permission read)
replacing_entry_plain k permission (Ok entry) plain = tt
replacing_entry_plain k permission (Err refusal) plain = plain

put_entry_plain : (b : Bool) (kind : Option Kind) (name : List ℕ) (permission : Option Perm) (body : Body) → RefusesPlainly (put_entry b kind name permission body)
put_entry_plain true (Some kind) name (Some permission) body =
    replacing_entry_plain (key kind name) permission (entry_in permission (document_in body)) (entry_in_plain permission (document_in body) (document_plain body))
put_entry_plain true (Some kind) name None body = absent_plain body
put_entry_plain true None name permission body = absent_plain body
put_entry_plain false kind name permission body = absent_plain body

asked_plain : (its : AccessRoute) (verb : Verb) (body : Body) → RefusesPlainly (access_asked its verb body)
asked_plain route.Groups Get body = tt
asked_plain route.Groups Post body = creating_group_plain (object_in_body kinds.Group None body) (body_plain kinds.Group None body)
asked_plain route.Groups Put body = tt
asked_plain route.Groups Delete body = tt
asked_plain route.Groups Other body = tt
asked_plain (route.Group name) Get body = tt
asked_plain (route.Group name) Post body = tt
asked_plain (route.Group name) Put body = put_group_plain (is_name name) name body
asked_plain (route.Group name) Delete body = tt
asked_plain (route.Group name) Other body = tt
asked_plain route.Users Get body = tt
asked_plain route.Users Post body = creating_user_plain (username_in (document_in body)) (username_in_plain (document_in body) (document_plain body))
asked_plain route.Users Put body = tt
asked_plain route.Users Delete body = tt
asked_plain route.Users Other body = tt
asked_plain (route.User name) Get body = tt
asked_plain (route.User name) Post body = tt
asked_plain (route.User name) Put body = tt
asked_plain (route.User name) Delete body = tt
asked_plain (route.User name) Other body = tt
asked_plain route.Containers Get body = tt
asked_plain route.Containers Post body = tt
asked_plain route.Containers Put body = tt
asked_plain route.Containers Delete body = tt
asked_plain route.Containers Other body = tt
asked_plain (route.Container name) Get body = tt
asked_plain (route.Container name) Post body = tt
asked_plain (route.Container name) Put body = tt
asked_plain (route.Container name) Delete body = tt
asked_plain (route.Container name) Other body = tt
asked_plain (route.List collection name) Get body = showing_plain (kind_at collection) name
asked_plain (route.List collection name) Post body = tt
asked_plain (route.List collection name) Put body = tt
asked_plain (route.List collection name) Delete body = tt
asked_plain (route.List collection name) Other body = tt
asked_plain (route.Entry collection name word) Get body = tt
asked_plain (route.Entry collection name word) Post body = tt
asked_plain (route.Entry collection name word) Put body = put_entry_plain (is_name name) (kind_at collection) name (permission_at word) body
asked_plain (route.Entry collection name word) Delete body = tt
asked_plain (route.Entry collection name word) Other body = tt

among_plain : (kind : MemberKind) (group : Doc) (m : Membership) → IfSome (stranger_among kind group m) IsPlain
among_plain kind group m = refuses_plain (BadField (field_of kind)) (has_stranger kind (sent kind group) m) tt

first_plain : (one two three : Option Refusal) → IfSome one IsPlain → IfSome two IsPlain → IfSome three IsPlain → IfSome (first_some (one ∷ two ∷ three ∷ [])) IsPlain
first_plain (Some one) two three plain _ _ = plain
first_plain None (Some two) three _ plain _ = plain
first_plain None None (Some three) _ _ plain = plain
first_plain None None None _ _ _ = tt

strangers_plain : (group : Doc) (m : Membership) → IfSome (stranger_refusal group m) IsPlain
strangers_plain group m =
    first_plain (stranger_among member.User group m) (stranger_among member.Client group m) (stranger_among member.Group group m)
    (among_plain member.User group m) (among_plain member.Client group m) (among_plain member.Group group m)

told_plain : (found : Option Stranger) → IfSome (stranger_told found) IsPlain
told_plain None = tt
told_plain (Some (stranger.Actor position)) = tt
told_plain (Some (stranger.Group position)) = tt

own_plain : (context : Context) (its : AccessOperation) → IfSome (access_refusal context its) IsPlain
own_plain context operation.ListGroups = tt
own_plain context (operation.CreateGroup name) = refuses_plain AlreadyExists (membership.has (membership_of context.state) member.Group name) tt
own_plain context (operation.ShowGroup name) = tt
own_plain context (operation.ReplaceGroup name group) = strangers_plain group (membership_of context.state)
own_plain context (operation.RemoveGroup name) = refuses_plain NotAllowed (is_starting_group name) tt
own_plain context operation.ListUsers = tt
own_plain context (operation.CreateUser name) = refuses_plain AlreadyExists (membership.is_actor (membership_of context.state) name) tt
own_plain context (operation.ShowUser name) = tt
own_plain context (operation.RemoveUser name) = tt
own_plain context operation.ListContainers = tt
own_plain context (operation.ShowContainer name) = tt
own_plain context (operation.ShowList k) = tt
own_plain context (operation.ReplaceEntry k permission entry) = told_plain (first_stranger (membership_of context.state) entry)

does_plain : (context : Context) (its : AccessOperation) → RefusesPlainly (access_rules.does context its).answer
does_plain context operation.ListGroups = tt
does_plain context (operation.CreateGroup name) = tt
does_plain context (operation.ShowGroup name) = tt
does_plain context (operation.ReplaceGroup name group) = tt
does_plain context (operation.RemoveGroup name) = tt
does_plain context operation.ListUsers = tt
does_plain context (operation.CreateUser name) = tt
does_plain context (operation.ShowUser name) = tt
does_plain context (operation.RemoveUser name) = tt
does_plain context operation.ListContainers = tt
does_plain context (operation.ShowContainer name) = tt
does_plain context (operation.ShowList k) = tt
does_plain context (operation.ReplaceEntry k permission entry) = tt

pub access_never_forbids : NeverForbids access_rules
access_never_forbids = record {
  operation = λ context its request. asked_plain its request.verb request.body;
  own_refusal = own_plain;
  does = does_plain;
}
