-- The routes of nodes, roles, environments and clients: one rule for all four collections, and what
-- one of them adds.
use Rattle.std.specs.Prelude.{Bool, true, false, not, ◌||◌, ◌&&◌, ℕ, List, [], ◌∷◌, ◌++◌, Option, Some, None, codes, bytes_eq, Result, Ok, Err}
use Rattle.membership.specs.Actors.{is_actor}
use Rattle.doc_tree.specs.Doc.{Doc, null}
use Rattle.doc_tree.specs.Name.{is_name}
use Rattle.doc_tree.specs.declared.kind.Kind.{Kind}
use Rattle.doc_tree.specs.declared.kind.Kind.TheVariants as kinds
use Rattle.object_store.specs.Objects.{key, names_in}
use Rattle.org_requests.specs.declared.verbs.Verb.{Verb}
use Rattle.org_requests.specs.declared.verbs.Verb.TheVariants.{Get, Post, Put, Delete, Other}
use Rattle.org_requests.specs.declared.collections.Collection.{Collection}
use Rattle.org_requests.specs.declared.collections.Collection.TheVariants.{Nodes, Roles, Environments, Clients}
use Rattle.org_core.specs.declared.moves.Move.{Move}
use Rattle.org_core.specs.declared.moves.Move.TheVariants as move
use Rattle.org_core.specs.declared.needs.Need.{Need}
use Rattle.org_core.specs.declared.needs.Need.TheVariants.{Listed}
use Rattle.access_lists.specs.declared.perm.Perm.TheVariants as permission
use Rattle.org_requests.specs.declared.requests.Body.{Body}
use Rattle.org_requests.specs.Routes.{ObjectsRoute}
use Rattle.org_requests.specs.declared.routes.ObjectsRouteOf.TheVariants.{All, One}
use Rattle.org_requests.specs.declared.refusals.Refusal.{Refusal}
use Rattle.org_requests.specs.declared.refusals.Refusal.TheVariants.{NotAllowed, AlreadyExists}
use Rattle.org_requests.specs.Collections.{kind_in, segment_of, container_of}
use Rattle.org_core.specs.Contexts.{Context}
use Rattle.org_core.specs.Creating.{created_by, with_list}
use Rattle.org_core.specs.Named.{named_by}
use Rattle.org_core.specs.Outcomes.{Success, Decided, shows, does_by, tells, reads}
use Rattle.org_requests.specs.Refusals.{refuses}
use Rattle.org_requests.specs.Replies.{org_uri, paths_behind}
use Rattle.org_core.specs.Rules.{Rules}
use Rattle.org_core.specs.States.{State, objects_of, object_in, has_object, membership_of}
use Rattle.object_routes.specs.declared.operations.ObjectsOperation.{ObjectsOperation}
use Rattle.object_routes.specs.declared.operations.ObjectsOperation.TheVariants as operation
use Rattle.org_core.specs.Bodies.{object_in_body}
use Rattle.org_requests.specs.Documents.{document_in, absent}
use Rattle.object_routes.specs.Operations.{creating, replacing}

-- the front of the paths of a collection's objects
abbrev pub objects_front : List ℕ → Collection → List ℕ
objects_front org collection = org_uri org ++ (codes "/" ++ (segment_of collection ++ codes "/"))

-- the name of an object
abbrev pub name_of : Doc → List ℕ
name_of object = named_by (codes "name") object

-- a PUT replaces by the object in its body. Where the name in the path has no name's form, no object has it
abbrev pub put_one : Bool → Kind → List ℕ → Body → Result ObjectsOperation Refusal
put_one true kind name body = replacing name (object_in_body kind (Some name) body)
put_one false kind name body = Err (absent (document_in body))

-- what is asked of a collection
abbrev pub all_asked : Kind → Verb → Body → Result ObjectsOperation Refusal
all_asked kind Get body = Ok operation.List
all_asked kind Post body = creating (object_in_body kind None body)
all_asked kind Put body = Err NotAllowed
all_asked kind Delete body = Err NotAllowed
all_asked kind Other body = Err NotAllowed

-- what is asked of one object
abbrev pub one_asked : Kind → List ℕ → Verb → Body → Result ObjectsOperation Refusal
one_asked kind name Get body = Ok (operation.Show name)
one_asked kind name Post body = Err NotAllowed
one_asked kind name Put body = put_one (is_name name) kind name body
one_asked kind name Delete body = Ok (operation.Remove name)
one_asked kind name Other body = Err NotAllowed

-- what is asked
abbrev pub objects_asked : Collection → ObjectsRoute → Verb → Body → Result ObjectsOperation Refusal
objects_asked collection All verb body = all_asked (kind_in collection) verb body
objects_asked collection (One name) verb body = one_asked (kind_in collection) name verb body

-- no object of this kind has the name, which may have no name's form
abbrev pub lacks_named : Kind → List ℕ → State → Bool
lacks_named kind name state = not (is_name name && has_object state kind name)

-- the object that the path names isn't there
abbrev pub objects_lacks : Kind → Context → ObjectsOperation → Bool
objects_lacks kind context operation.List = false
objects_lacks kind context (operation.Create object) = false
objects_lacks kind context (operation.Show name) = lacks_named kind name context.state
objects_lacks kind context (operation.Replace name object) = lacks_named kind name context.state
objects_lacks kind context (operation.Remove name) = lacks_named kind name context.state

-- the permission: in the container's list to list and to create, and in the object's own list else
abbrev pub objects_need : Collection → ObjectsOperation → Need
objects_need collection operation.List = Listed permission.Read (key kinds.Container (segment_of collection))
objects_need collection (operation.Create object) = Listed permission.Create (key kinds.Container (segment_of collection))
objects_need collection (operation.Show name) = Listed permission.Read (key (kind_in collection) name)
objects_need collection (operation.Replace name object) = Listed permission.Update (key (kind_in collection) name)
objects_need collection (operation.Remove name) = Listed permission.Delete (key (kind_in collection) name)

-- that permission alone
abbrev pub objects_needs : Collection → ObjectsOperation → List Need
objects_needs collection operation = objects_need collection operation ∷ []

-- a name that nobody may take in the collection: a client isn't called as a user is, nor as the operator
abbrev pub is_reserved : Collection → List ℕ → State → Bool
is_reserved Nodes name state = false
is_reserved Roles name state = false
is_reserved Environments name state = false
is_reserved Clients name state = is_actor (membership_of state) name

-- an object that stays as it is: the environment `_default`
abbrev pub is_fixed : Collection → List ℕ → Bool
is_fixed Nodes name = false
is_fixed Roles name = false
is_fixed Environments name = bytes_eq name (codes "_default")
is_fixed Clients name = false

-- a name is taken
abbrev pub is_taken : Collection → List ℕ → State → Bool
is_taken collection name state = is_reserved collection name state || has_object state (kind_in collection) name

-- what is created must have a name that isn't taken, and what is changed must not be fixed
abbrev pub objects_refusal : Collection → Context → ObjectsOperation → Option Refusal
objects_refusal collection context operation.List = None
objects_refusal collection context (operation.Create object) = refuses AlreadyExists (is_taken collection (name_of object) context.state)
objects_refusal collection context (operation.Show name) = None
objects_refusal collection context (operation.Replace name object) = refuses NotAllowed (is_fixed collection name)
objects_refusal collection context (operation.Remove name) = refuses NotAllowed (is_fixed collection name)

-- an object that was found to be there
abbrev pub or_null : Option Doc → Doc
or_null None = null
or_null (Some object) = object

-- the object of this kind and name, which is there
abbrev pub found : Kind → List ℕ → State → Doc
found kind name state = or_null (object_in state kind name)

-- the names of a kind's objects, each with its path behind this front
unfoldable pub listed : List ℕ → Kind → State → Success
listed front kind state = shows (paths_behind front (names_in kind (objects_of state)))

-- who comes with an object of the collection: a client joins the group `clients`
abbrev pub comers : Collection → List ℕ → List Move
comers Nodes name = []
comers Roles name = []
comers Environments name = []
comers Clients name = move.AddClient (record { name = name; group = codes "clients" }) ∷ []

-- who goes with an object of the collection
abbrev pub goers : Collection → List ℕ → List Move
goers Nodes name = []
goers Roles name = []
goers Environments name = []
goers Clients name = move.RemoveClient name ∷ []

-- the moves by which an object of a collection is created
abbrev pub creation : Collection → Context → List ℕ → Doc → List Move
creation collection context name object = comers collection name ++ with_list (container_of collection) context (kind_in collection) name object

-- and by which one goes
abbrev pub removal : Collection → List ℕ → List Move
removal collection name = move.TakeOut (key (kind_in collection) name) ∷ move.TakeList (key (kind_in collection) name) ∷ goers collection name

-- an object takes the place of the one of its name, which is looked at: 200 with the object
abbrev pub replaced : Kind → List ℕ → Doc → Decided
replaced kind name object = does_by (shows object) (move.Put (key kind name) object ∷ []) 1

-- what is there goes by these moves: 200 with the object as it was
abbrev pub removed_by : List Move → Kind → List ℕ → State → Decided
removed_by moves kind name state = does_by (shows (found kind name state)) moves 1

-- what is done
abbrev pub objects_does : Collection → Context → ObjectsOperation → Decided
objects_does collection context operation.List = tells (listed (objects_front context.org collection) (kind_in collection) context.state)
objects_does collection context (operation.Create object) = created_by (objects_front context.org collection ++ name_of object) (creation collection context (name_of object) object)
objects_does collection context (operation.Show name) = reads (shows (found (kind_in collection) name context.state))
objects_does collection context (operation.Replace name object) = replaced (kind_in collection) name object
objects_does collection context (operation.Remove name) = removed_by (removal collection name) (kind_in collection) name context.state

-- the rules of a collection
abbrev pub objects_rules : Collection → Rules ObjectsRoute ObjectsOperation
objects_rules collection = record {
  operation = λ context route request. objects_asked collection route request.verb request.body;
  lacks = objects_lacks (kind_in collection);
  needs = λ context operation. objects_needs collection operation;
  own_refusal = objects_refusal collection;
  searches = λ context operation. None;
  does = objects_does collection;
}
