-- Operations by the object that was read for them.
use Rattle.std.specs.Prelude.{ℕ, List, Result, Ok, Err}
use Rattle.doc_tree.specs.Doc.{Doc}
use Rattle.org_requests.specs.declared.refusals.Refusal.{Refusal}
use Rattle.object_routes.specs.declared.operations.ObjectsOperation.{ObjectsOperation}
use Rattle.object_routes.specs.declared.operations.ObjectsOperation.TheVariants as objects
use Rattle.object_routes.specs.declared.operations.DataOperation.{DataOperation}
use Rattle.object_routes.specs.declared.operations.DataOperation.TheVariants as data_bags

-- to create the object that was read
abbrev pub creating : Result Doc Refusal → Result ObjectsOperation Refusal
creating (Ok object) = Ok (objects.Create object)
creating (Err refusal) = Err refusal

-- to put the object that was read in the place of the one of this name
abbrev pub replacing : List ℕ → Result Doc Refusal → Result ObjectsOperation Refusal
replacing name (Ok object) = Ok (objects.Replace name object)
replacing name (Err refusal) = Err refusal

-- to create the bag that was read
abbrev pub creating_bag : Result Doc Refusal → Result DataOperation Refusal
creating_bag (Ok object) = Ok (data_bags.CreateBag object)
creating_bag (Err refusal) = Err refusal

-- to create the item that was read in this bag
abbrev pub creating_item : List ℕ → Result Doc Refusal → Result DataOperation Refusal
creating_item bag (Ok item) = Ok (data_bags.CreateItem bag item)
creating_item bag (Err refusal) = Err refusal

-- to put the item that was read in the place of the one of this id
abbrev pub replacing_item : List ℕ → List ℕ → Result Doc Refusal → Result DataOperation Refusal
replacing_item bag id (Ok item) = Ok (data_bags.ReplaceItem bag id item)
replacing_item bag id (Err refusal) = Err refusal
