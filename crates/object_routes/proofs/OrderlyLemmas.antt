-- The moves of these groups are orderly: who comes, comes first.
use Rattle.std.proofs.Common.{◌≡◌, ℕ, List, [], ◌∷◌, ◌++◌, map, refl}
use Rattle.doc_tree.specs.declared.kind.Kind.TheVariants as kinds
use Rattle.object_store.specs.Items.{item_name, ids_in}
use Rattle.object_store.specs.Objects.{Objects, key}
use Rattle.org_core.proofs.MovesLemmas.{orderly_without}
use Rattle.org_core.specs.Keeping.{IsOrderlyGroup}
use Rattle.org_core.specs.Moves.{IsOrderly, arrivals}
use Rattle.org_core.specs.States.{objects_of}
use Rattle.org_requests.specs.declared.collections.Collection.{Collection}
use Rattle.org_requests.specs.declared.collections.Collection.TheVariants.{Nodes, Roles, Environments, Clients}
use Rattle.org_core.specs.declared.moves.Move.{Move}
use Rattle.org_core.specs.declared.moves.Move.TheVariants as move
use Rattle.object_routes.specs.DataBags.{data_rules, bag_removal}
use Rattle.object_routes.specs.Objects.{objects_rules}
use Rattle.object_routes.specs.Organisations.{organisation_rules}
use Rattle.object_routes.specs.declared.operations.DataOperation.TheVariants as bags
use Rattle.object_routes.specs.declared.operations.ObjectsOperation.TheVariants as objects
use Rattle.object_routes.specs.declared.operations.OrganisationOperation.TheVariants as organisation

pub organisations_orderly : IsOrderlyGroup organisation_rules
organisations_orderly context organisation.Create = refl
organisations_orderly context organisation.Show = refl

pub objects_orderly : (collection : Collection) → IsOrderlyGroup (objects_rules collection)
objects_orderly collection context objects.List = refl
objects_orderly Nodes context (objects.Create object) = refl
objects_orderly Roles context (objects.Create object) = refl
objects_orderly Environments context (objects.Create object) = refl
objects_orderly Clients context (objects.Create object) = refl
objects_orderly collection context (objects.Show name) = refl
objects_orderly collection context (objects.Replace name object) = refl
objects_orderly Nodes context (objects.Remove name) = refl
objects_orderly Roles context (objects.Remove name) = refl
objects_orderly Environments context (objects.Remove name) = refl
objects_orderly Clients context (objects.Remove name) = refl

-- with the items of a bag nobody comes
no_arrivals : (bag : List ℕ) (ids : List (List ℕ)) (rest : List Move) → arrivals rest ≡ 0
    → arrivals (map (λ (id : List ℕ). move.TakeOut (key kinds.Item (item_name bag id))) ids ++ rest) ≡ 0
no_arrivals bag [] rest none = none
no_arrivals bag (id ∷ ids) rest none = no_arrivals bag ids rest none

bag_orderly : (bag : List ℕ) (objects : Objects) → IsOrderly (bag_removal bag objects)
bag_orderly bag objects = orderly_without (bag_removal bag objects) (no_arrivals bag (ids_in bag objects) (move.TakeOut (key kinds.Bag bag) ∷ move.TakeList (key kinds.Bag bag) ∷ []) refl)

pub data_orderly : IsOrderlyGroup data_rules
data_orderly context bags.ListBags = refl
data_orderly context (bags.CreateBag object) = refl
data_orderly context (bags.ListItems bag) = refl
data_orderly context (bags.CreateItem bag item) = refl
data_orderly context (bags.RemoveBag bag) = bag_orderly bag (objects_of context.state)
data_orderly context (bags.ShowItem bag id) = refl
data_orderly context (bags.ReplaceItem bag id item) = refl
data_orderly context (bags.RemoveItem bag id) = refl
