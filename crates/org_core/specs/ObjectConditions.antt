-- The conditions that the objects of every organisation meet, kind by kind.
use Rattle.std.specs.Prelude.{◌≡◌, Bool, true, ℕ, List, Some, Ok, is_some, codes}
use Rattle.std.specs.FinMap as map
use Rattle.doc_tree.specs.Doc.{Doc}
use Rattle.doc_tree.specs.Name.{is_name}
use Rattle.doc_tree.specs.declared.kind.Kind.{Kind}
use Rattle.doc_tree.specs.declared.kind.Kind.TheVariants.{Org, Node, Role, Environment, Bag, Client, User, Group, Container, Item, Cookbook, Artifact, Policy, PolicyGroup, Acl, Sandbox, File}
use Rattle.object_forms.specs.Forms.{is_id}
use Rattle.object_forms.specs.Objects.{object_from, name_in}
use Rattle.object_store.specs.Items.{item_name}
use Rattle.object_store.specs.Objects.{Objects, key}
use Rattle.object_store.specs.declared.key.Key.{Key}

-- an object of this kind and name is there
abbrev pub has : Objects → Kind → List ℕ → Bool
has objects kind name = is_some (map.get objects (key kind name))

-- the name has the form of a Name, and the object is the stored form of its kind, under that name
abbrev pub IsNamed : Kind → List ℕ → Doc → Type 0
IsNamed kind name object = (is_name name ≡ true) × (object_from kind (Some name) object ≡ Ok object)

-- the name is that of a bag and an id, each of its form, and the object is a Dict that has this id
abbrev pub IsItem : List ℕ → Doc → Type 0
IsItem name object = (bag id : List ℕ) × (name ≡ item_name bag id) × (is_name bag ≡ true) × (is_id id ≡ true) × (name_in Item object ≡ Some id)

-- the object is what is stored of its kind under this name. Of kinds that are kept elsewhere, or not at all, nothing is stored here
abbrev pub IsStored : Kind → List ℕ → Doc → Type 0
IsStored Org name object = ⊥
IsStored Node name object = IsNamed Node name object
IsStored Role name object = IsNamed Role name object
IsStored Environment name object = IsNamed Environment name object
IsStored Bag name object = IsNamed Bag name object
IsStored Client name object = IsNamed Client name object
IsStored User name object = ⊥
IsStored Group name object = ⊥
IsStored Container name object = ⊥
IsStored Item name object = IsItem name object
IsStored Cookbook name object = ⊥
IsStored Artifact name object = ⊥
IsStored Policy name object = ⊥
IsStored PolicyGroup name object = ⊥
IsStored Acl name object = ⊥
IsStored Sandbox name object = ⊥
IsStored File name object = ⊥

-- the conditions of the objects of an organisation that is there
pub record ObjectConditions (objects : Objects) : Type 0 where
  -- each object is what is stored of its kind under its name
  pub stored : (k : Key) (object : Doc) → map.get objects k ≡ Some object → IsStored k.kind k.name object
  -- the bag of each item is there
  pub bags : (bag id : List ℕ) → is_name bag ≡ true → has objects Item (item_name bag id) ≡ true → has objects Bag bag ≡ true
  -- the environment `_default` is there
  pub default_environment : has objects Environment (codes "_default") ≡ true
