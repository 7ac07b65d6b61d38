-- The table of resource types: the word, the actions, of which the first is the default, and the properties of each.
use Rattle.std.specs.Prelude.{ℕ, Bool, true, false, ◌||◌, List, [], ◌∷◌, ◌++◌, map, Option, bytes_eq, codes}
use Rattle.std.specs.List.{find, list_any}
use Rattle.resource_core.specs.declared.types.Action.{Action}
use Rattle.resource_core.specs.declared.types.Action.TheVariants.{Create, CreateIfMissing, Delete, Nothing}
use Rattle.resource_core.specs.declared.types.ResourceType.{ResourceType}
use Rattle.resource_core.specs.declared.types.ResourceType.TheVariants.{File, Directory, Link}
use Rattle.resource_core.specs.declared.types.Form.{Form}
use Rattle.resource_core.specs.declared.types.Form.TheVariants.{Words, Mode, Truth, Symbolic, Entries}
use Rattle.resource_core.specs.declared.types.Presence.{Presence}
use Rattle.resource_core.specs.declared.types.Presence.TheVariants.{Optional, Needed, NeededToCreate}
use Rattle.resource_core.specs.declared.types.Property as code
use Rattle.resource_core.specs.declared.types.Row as code_row

-- a property: its name, the form of its value, and whether it has to be there
pub record Property : Type 0 where
  pub name : List ℕ
  pub form : Form
  pub presence : Presence

-- a row of the table, with the name of the property that says where the resource lies
pub record Row : Type 0 where
  pub word : List ℕ
  pub path : List ℕ
  pub actions : List Action
  pub properties : List Property

-- a property of this name and form that may be missing
abbrev pub optional : List ℕ → Form → Property
optional name form = record { name = name; form = form; presence = Optional }

-- the table
abbrev pub row : ResourceType → Row
row File = record {
  word = codes "file";
  path = codes "path";
  actions = Create ∷ CreateIfMissing ∷ Delete ∷ Nothing ∷ [];
  properties = optional (codes "path") Words ∷ optional (codes "content") Words ∷ optional (codes "mode") Mode ∷ optional (codes "force_unlink") Truth ∷ [];
}
row Directory = record {
  word = codes "directory";
  path = codes "path";
  actions = Create ∷ Delete ∷ Nothing ∷ [];
  properties = optional (codes "path") Words ∷ optional (codes "mode") Mode ∷ optional (codes "recursive") Truth ∷ [];
}
row Link = record {
  word = codes "link";
  path = codes "target_file";
  actions = Create ∷ Delete ∷ Nothing ∷ [];
  properties = optional (codes "target_file") Words ∷ (record { name = codes "to"; form = Words; presence = NeededToCreate }) ∷ optional (codes "link_type") Symbolic ∷ [];
}

-- the properties that each resource has before those of its type
abbrev pub common : List Property
common = (record { name = codes "name"; form = Words; presence = Needed }) ∷ optional (codes "notifies") Entries ∷ optional (codes "subscribes") Entries ∷ []

-- the properties of a resource of this type, in the order in which they are looked at
abbrev pub properties : ResourceType → List Property
properties kind = common ++ (row kind).properties

-- all types
abbrev pub types : List ResourceType
types = File ∷ Directory ∷ Link ∷ []

-- the type of this word
abbrev pub type_named : List ℕ → Option ResourceType
type_named word = find (λ kind. bytes_eq (row kind).word word) types

-- the word of an action
abbrev pub word_of : Action → List ℕ
word_of Create = codes "create"
word_of CreateIfMissing = codes "create_if_missing"
word_of Delete = codes "delete"
word_of Nothing = codes "nothing"

-- the action of this word, if the type has it
abbrev pub action_in : ResourceType → List ℕ → Option Action
action_in kind word = find (λ action. bytes_eq (word_of action) word) (row kind).actions

-- the action is `create`
abbrev pub is_create : Action → Bool
is_create Create = true
is_create CreateIfMissing = false
is_create Delete = false
is_create Nothing = false

-- a key that a resource of this type may have
abbrev pub is_known : ResourceType → List ℕ → Bool
is_known kind key = bytes_eq key (codes "type") || (bytes_eq key (codes "action") || list_any (λ p. bytes_eq p.name key) (properties kind))

-- a property of the code, as a property of the table
abbrev pub property_of : code.Property → Property
property_of p = record { name = p.name.now; form = p.form; presence = p.presence }

-- a row of the code, as a row of the table
abbrev pub row_of : code_row.Row → Row
row_of r = record { word = r.word.now; path = r.path.now; actions = r.actions.now; properties = map property_of r.properties.now }
