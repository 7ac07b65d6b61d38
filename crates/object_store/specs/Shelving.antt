-- Where objects are kept: each kind has a shelf, and so has each bag, for its items.
use Rattle.std.specs.Prelude.{ℕ, Bool, ◌==◌, ◌&&◌, ◌||◌, not, nat_eq, nat_lt, bytes_eq, if◌then◌else◌, cond, List, [], ◌∷◌, length, codes}
use Rattle.std.specs.List.{position_or_len, before_first, after_first, starts_with}
use Rattle.doc_tree.specs.declared.kind.Kind.{Kind}
use Rattle.doc_tree.specs.declared.kind.Kind.TheVariants.{Org, Node, Role, Environment, Bag, Client, User, Group, Container, Item, Cookbook, Artifact, Policy, PolicyGroup, Acl, Sandbox, File}
use Rattle.object_store.specs.declared.key.Key.{Key}
use Rattle.object_store.specs.Keys.{key, is_of, all_kinds}
use Rattle.object_store.specs.Items.{item_name}

-- the sign `/`
abbrev pub is_slash : ℕ → Bool
is_slash b = b == 47

-- there is a slash in the text
abbrev pub has_slash : List ℕ → Bool
has_slash text = nat_lt (position_or_len is_slash text) (length text)

-- the word of a kind's shelf. It begins with a slash, and that of a bag's has none
abbrev pub word_of : Kind → List ℕ
word_of Org = codes "/org"
word_of Node = codes "/node"
word_of Role = codes "/role"
word_of Environment = codes "/environment"
word_of Bag = codes "/bag"
word_of Client = codes "/client"
word_of User = codes "/user"
word_of Group = codes "/group"
word_of Container = codes "/container"
word_of Item = codes "/item"
word_of Cookbook = codes "/cookbook"
word_of Artifact = codes "/artifact"
word_of Policy = codes "/policy"
word_of PolicyGroup = codes "/policy_group"
word_of Acl = codes "/acl"
word_of Sandbox = codes "/sandbox"
word_of File = codes "/file"

-- the key is that of an item in a bag
abbrev pub is_in_bag : Key → Bool
is_in_bag key = is_of Item key && has_slash key.name

-- the word of the shelf: for an item in a bag the bag, and else that of the kind
abbrev pub shelf_of : Key → List ℕ
shelf_of key = if is_in_bag key then before_first is_slash key.name else word_of key.kind

-- the name on the shelf: for an item in a bag its id, and else the whole name
abbrev pub name_on : Key → List ℕ
name_on key = if is_in_bag key then after_first is_slash key.name else key.name

-- the first of these kinds whose shelf has this word
abbrev pub kind_among : List Kind → List ℕ → Kind
kind_among [] word = Org
kind_among (kind ∷ kinds) word = cond (bytes_eq (word_of kind) word) kind (kind_among kinds word)

-- the shelf is that of a kind
abbrev pub is_word : List ℕ → Bool
is_word shelf = starts_with nat_eq shelf (codes "/")

-- the key of what has this name on this shelf
abbrev pub key_at : List ℕ → List ℕ → Key
key_at shelf name = if is_word shelf then key (kind_among all_kinds shelf) name else key Item (item_name shelf name)

-- there may be items on the shelf
abbrev pub holds_items : List ℕ → Bool
holds_items shelf = not (is_word shelf) || bytes_eq shelf (word_of Item)
