-- These groups put nothing on a shelf.
use Rattle.std.proofs.Common.{◌≡◌, ℕ, List, [], ◌∷◌, ◌++◌, map, refl}
use Rattle.doc_tree.specs.declared.kind.Kind.TheVariants as kinds
use Rattle.object_store.specs.Items.{item_name, ids_in}
use Rattle.object_store.specs.Objects.{key}
use Rattle.org_core.specs.FileMoves.{takes_shelf_room, shelved_by}
use Rattle.org_core.specs.Keeping.{NeverShelves}
use Rattle.org_core.specs.States.{objects_of}
use Rattle.org_requests.specs.declared.collections.Collection.{Collection}
use Rattle.org_requests.specs.declared.collections.Collection.TheVariants.{Nodes, Roles, Environments, Clients}
use Rattle.org_core.specs.declared.moves.Move.{Move}
use Rattle.org_core.specs.declared.moves.Move.TheVariants as move
use Rattle.object_routes.specs.DataBags.{data_rules}
use Rattle.object_routes.specs.Objects.{objects_rules}
use Rattle.object_routes.specs.Organisations.{organisation_rules}
use Rattle.object_routes.specs.declared.operations.DataOperation.TheVariants as bags
use Rattle.object_routes.specs.declared.operations.ObjectsOperation.TheVariants as objects
use Rattle.object_routes.specs.declared.operations.OrganisationOperation.TheVariants as organisation

pub organisations_put_none : NeverShelves organisation_rules
unfolding takes_shelf_room
organisations_put_none context organisation.Create = refl
organisations_put_none context organisation.Show = refl

pub objects_put_none : (collection : Collection) → NeverShelves (objects_rules collection)
unfolding takes_shelf_room
objects_put_none collection context objects.List = refl
objects_put_none Nodes context (objects.Create object) = refl
objects_put_none Roles context (objects.Create object) = refl
objects_put_none Environments context (objects.Create object) = refl
objects_put_none Clients context (objects.Create object) = refl
objects_put_none collection context (objects.Show name) = refl
objects_put_none collection context (objects.Replace name object) = refl
objects_put_none Nodes context (objects.Remove name) = refl
objects_put_none Roles context (objects.Remove name) = refl
objects_put_none Environments context (objects.Remove name) = refl
objects_put_none Clients context (objects.Remove name) = refl

-- with the items of a bag none goes in
items_put_none : (bag : List ℕ) (ids : List (List ℕ)) (rest : List Move) → shelved_by rest ≡ 0
    → shelved_by (map (λ (id : List ℕ). move.TakeOut (key kinds.Item (item_name bag id))) ids ++ rest) ≡ 0
unfolding takes_shelf_room
items_put_none bag [] rest none = none
items_put_none bag (id ∷ ids) rest none = items_put_none bag ids rest none

pub data_put_none : NeverShelves data_rules
unfolding takes_shelf_room
data_put_none context bags.ListBags = refl
data_put_none context (bags.CreateBag object) = refl
data_put_none context (bags.ListItems bag) = refl
data_put_none context (bags.CreateItem bag item) = refl
data_put_none context (bags.RemoveBag bag) = items_put_none bag (ids_in bag (objects_of context.state)) (move.TakeOut (key kinds.Bag bag) ∷ move.TakeList (key kinds.Bag bag) ∷ []) refl
data_put_none context (bags.ShowItem bag id) = refl
data_put_none context (bags.ReplaceItem bag id item) = refl
data_put_none context (bags.RemoveItem bag id) = refl
