-- The routes of data bags and their items.
use Rattle.std.specs.Prelude.{Bool, true, false, not, ◌&&◌, ℕ, List, [], ◌∷◌, ◌++◌, map, Option, Some, None, codes, Result, Ok, Err}
use Rattle.access_lists.specs.declared.starting.Container.TheVariants as container
use Rattle.doc_tree.specs.Doc.{Doc, words}
use Rattle.doc_tree.specs.Name.{is_name}
use Rattle.doc_tree.specs.declared.kind.Kind.TheVariants as kinds
use Rattle.object_store.specs.Items.{item_front, item_name, ids_in}
use Rattle.object_store.specs.Objects.{Objects, key}
use Rattle.org_requests.specs.declared.verbs.Verb.{Verb}
use Rattle.org_requests.specs.declared.verbs.Verb.TheVariants.{Get, Post, Put, Delete, Other}
use Rattle.org_core.specs.declared.moves.Move.{Move}
use Rattle.org_core.specs.declared.moves.Move.TheVariants as move
use Rattle.org_core.specs.declared.needs.Need.{Need}
use Rattle.org_core.specs.declared.needs.Need.TheVariants.{Listed}
use Rattle.access_lists.specs.declared.perm.Perm.TheVariants as permission
use Rattle.org_requests.specs.declared.requests.Body.{Body}
use Rattle.org_requests.specs.Routes.{DataRoute}
use Rattle.org_requests.specs.declared.routes.DataRouteOf.TheVariants.{Bags, Bag, Item}
use Rattle.org_requests.specs.declared.refusals.Refusal.{Refusal}
use Rattle.org_requests.specs.declared.refusals.Refusal.TheVariants.{NotAllowed, AlreadyExists}
use Rattle.org_core.specs.Contexts.{Context}
use Rattle.org_core.specs.Creating.{created_by, with_list}
use Rattle.org_core.specs.Outcomes.{Success, Decided, shows, does_by, tells, reads}
use Rattle.org_requests.specs.Refusals.{refuses}
use Rattle.org_core.specs.Named.{named_by}
use Rattle.org_requests.specs.Replies.{one_key, org_uri, paths_behind}
use Rattle.org_core.specs.Rules.{Rules}
use Rattle.org_core.specs.States.{State, objects_of, has_object}
use Rattle.object_routes.specs.declared.operations.DataOperation.{DataOperation}
use Rattle.object_routes.specs.declared.operations.DataOperation.TheVariants as operation
use Rattle.org_core.specs.Bodies.{object_in_body}
use Rattle.org_requests.specs.Documents.{document_in, absent}
use Rattle.object_routes.specs.Objects.{name_of, lacks_named, found, listed, replaced, removed_by}
use Rattle.object_routes.specs.Operations.{creating_bag, creating_item, replacing_item}

-- the front of the paths of data bags
abbrev pub bags_front : List ℕ → List ℕ
bags_front org = org_uri org ++ codes "/data/"

-- the id of an item
abbrev pub id_of : Doc → List ℕ
id_of item = named_by (codes "id") item

-- a POST to a bag creates the item in its body. Where the bag's name has no name's form, no bag has it
abbrev pub post_item : Bool → List ℕ → Body → Result DataOperation Refusal
post_item true bag body = creating_item bag (object_in_body kinds.Item None body)
post_item false bag body = Err (absent (document_in body))

-- a PUT of an item replaces by the one in its body. Where a name in the path has no name's form, no item
-- has it
abbrev pub put_item : Bool → List ℕ → List ℕ → Body → Result DataOperation Refusal
put_item true bag id body = replacing_item bag id (object_in_body kinds.Item (Some id) body)
put_item false bag id body = Err (absent (document_in body))

-- what is asked of all bags
abbrev pub bags_asked : Verb → Body → Result DataOperation Refusal
bags_asked Get body = Ok operation.ListBags
bags_asked Post body = creating_bag (object_in_body kinds.Bag None body)
bags_asked Put body = Err NotAllowed
bags_asked Delete body = Err NotAllowed
bags_asked Other body = Err NotAllowed

-- what is asked of a bag
abbrev pub bag_asked : List ℕ → Verb → Body → Result DataOperation Refusal
bag_asked bag Get body = Ok (operation.ListItems bag)
bag_asked bag Post body = post_item (is_name bag) bag body
bag_asked bag Put body = Err NotAllowed
bag_asked bag Delete body = Ok (operation.RemoveBag bag)
bag_asked bag Other body = Err NotAllowed

-- what is asked of an item
abbrev pub item_asked : List ℕ → List ℕ → Verb → Body → Result DataOperation Refusal
item_asked bag id Get body = Ok (operation.ShowItem bag id)
item_asked bag id Post body = Err NotAllowed
item_asked bag id Put body = put_item (is_name bag && is_name id) bag id body
item_asked bag id Delete body = Ok (operation.RemoveItem bag id)
item_asked bag id Other body = Err NotAllowed

-- what is asked
abbrev pub data_asked : DataRoute → Verb → Body → Result DataOperation Refusal
data_asked Bags verb body = bags_asked verb body
data_asked (Bag bag) verb body = bag_asked bag verb body
data_asked (Item bag id) verb body = item_asked bag id verb body

-- no bag has the name
abbrev pub lacks_bag : List ℕ → State → Bool
lacks_bag bag state = lacks_named kinds.Bag bag state

-- there is no such bag, or it has no item of this id
abbrev pub lacks_item : List ℕ → List ℕ → State → Bool
lacks_item bag id state = not ((is_name bag && is_name id) && (has_object state kinds.Bag bag && has_object state kinds.Item (item_name bag id)))

-- the bag or the item that the path names isn't there
abbrev pub data_lacks : Context → DataOperation → Bool
data_lacks context operation.ListBags = false
data_lacks context (operation.CreateBag object) = false
data_lacks context (operation.ListItems bag) = lacks_bag bag context.state
data_lacks context (operation.CreateItem bag item) = lacks_bag bag context.state
data_lacks context (operation.RemoveBag bag) = lacks_bag bag context.state
data_lacks context (operation.ShowItem bag id) = lacks_item bag id context.state
data_lacks context (operation.ReplaceItem bag id item) = lacks_item bag id context.state
data_lacks context (operation.RemoveItem bag id) = lacks_item bag id context.state

-- the permission: in the container's list to list and create bags, and in the bag's list else, for its items too. To
-- create and to replace an item is to update its bag; to remove one takes the permission to delete
abbrev pub data_need : DataOperation → Need
data_need operation.ListBags = Listed permission.Read (key kinds.Container (codes "data"))
data_need (operation.CreateBag object) = Listed permission.Create (key kinds.Container (codes "data"))
data_need (operation.ListItems bag) = Listed permission.Read (key kinds.Bag bag)
data_need (operation.CreateItem bag item) = Listed permission.Update (key kinds.Bag bag)
data_need (operation.RemoveBag bag) = Listed permission.Delete (key kinds.Bag bag)
data_need (operation.ShowItem bag id) = Listed permission.Read (key kinds.Bag bag)
data_need (operation.ReplaceItem bag id item) = Listed permission.Update (key kinds.Bag bag)
data_need (operation.RemoveItem bag id) = Listed permission.Delete (key kinds.Bag bag)

-- that permission alone
abbrev pub data_needs : DataOperation → List Need
data_needs operation = data_need operation ∷ []

-- what is created is there
abbrev pub data_refusal : Context → DataOperation → Option Refusal
data_refusal context operation.ListBags = None
data_refusal context (operation.CreateBag object) = refuses AlreadyExists (has_object context.state kinds.Bag (name_of object))
data_refusal context (operation.ListItems bag) = None
data_refusal context (operation.CreateItem bag item) = refuses AlreadyExists (has_object context.state kinds.Item (item_name bag (id_of item)))
data_refusal context (operation.RemoveBag bag) = None
data_refusal context (operation.ShowItem bag id) = None
data_refusal context (operation.ReplaceItem bag id item) = None
data_refusal context (operation.RemoveItem bag id) = None

-- each item's id with its path
abbrev pub items_listed : List ℕ → List ℕ → State → Success
items_listed org bag state = shows (paths_behind (bags_front org ++ item_front bag) (ids_in bag (objects_of state)))

-- each of a bag's items goes, and then the bag with its access list
abbrev pub bag_removal : List ℕ → Objects → List Move
bag_removal bag objects = map (λ id. move.TakeOut (key kinds.Item (item_name bag id))) (ids_in bag objects) ++ move.TakeOut (key kinds.Bag bag) ∷ move.TakeList (key kinds.Bag bag) ∷ []

-- a bag goes with all its items: 200 with its name
abbrev pub bag_removed : List ℕ → State → Decided
bag_removed bag state = does_by (shows (one_key (codes "name") (words bag))) (bag_removal bag (objects_of state)) 0

-- what is done
abbrev pub data_does : Context → DataOperation → Decided
data_does context operation.ListBags = tells (listed (bags_front context.org) kinds.Bag context.state)
data_does context (operation.CreateBag object) = created_by (bags_front context.org ++ name_of object) (with_list container.Data context kinds.Bag (name_of object) object)
data_does context (operation.ListItems bag) = tells (items_listed context.org bag context.state)
data_does context (operation.CreateItem bag item) = created_by (bags_front context.org ++ item_name bag (id_of item)) (move.Put (key kinds.Item (item_name bag (id_of item))) item ∷ [])
data_does context (operation.RemoveBag bag) = bag_removed bag context.state
data_does context (operation.ShowItem bag id) = reads (shows (found kinds.Item (item_name bag id) context.state))
data_does context (operation.ReplaceItem bag id item) = replaced kinds.Item (item_name bag id) item
data_does context (operation.RemoveItem bag id) = removed_by (move.TakeOut (key kinds.Item (item_name bag id)) ∷ []) kinds.Item (item_name bag id) context.state

-- the rules of these routes
abbrev pub data_rules : Rules DataRoute DataOperation
data_rules = record {
  operation = λ context route request. data_asked route request.verb request.body;
  lacks = data_lacks;
  needs = λ context operation. data_needs operation;
  own_refusal = data_refusal;
  searches = λ context operation. None;
  does = data_does;
}
