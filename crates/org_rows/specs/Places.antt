-- What a row of an organisation is of: the columns of its kind and name.
use Rattle.std.specs.Prelude.{◌≡◌, ℕ, List, [], ◌∷◌, ◌++◌, Bool, not, ◌&&◌, cond, bytes_eq, is_some, nat_eq, Option, Some, None, option_map, option_and_then, Result, Ok, Err}
use Rattle.std.specs.List.{find}
use Rattle.doc_tree.specs.Kind.{word_of}
use Rattle.doc_tree.specs.Name.{is_name}
use Rattle.doc_tree.specs.declared.kind.Kind.{Kind}
use Rattle.doc_tree.specs.declared.kind.Kind.TheVariants as kinds
use Rattle.membership.specs.Actors.{operator}
use Rattle.access_lists.specs.Starting.{container_named}
use Rattle.object_forms.specs.Forms.{is_id}
use Rattle.object_store.specs.Keys.{key, all_kinds}
use Rattle.object_store.specs.declared.key.Key.{Key}
use Rattle.outside_keeper.specs.Rows.{row_key}
use Rattle.outside_keeper.specs.declared.row_key.RowKey.{RowKey}
use Rattle.sandboxes.specs.Checksums.{is_checksum}
use Rattle.cookbook_meta.specs.Parts.{is_identifier}
use Rattle.version_rules.specs.Versions.{reads_version, version_text}
use Rattle.version_rules.specs.declared.fault.VersionFault.{VersionFault}
use Rattle.version_rules.specs.declared.versions.Version.{Version}

-- what a row of an organisation can be of: the organisation itself, an object, a user, a group, a container, a version of
-- a cookbook, an artifact, a revision of a policy, a policy group, the access list of an object, a sandbox, a file
pub data Place : Type 0 where
  itself : Place
  object : Key → Place
  user : List ℕ → Place
  group : List ℕ → Place
  container : List ℕ → Place
  version : List ℕ → Version → Place
  artifact : List ℕ → List ℕ → Place
  revision : List ℕ → List ℕ → Place
  policy_group : List ℕ → Place
  acl : Key → Place
  sandbox : List ℕ → Place
  file : List ℕ → Place

-- ---- the two columns

-- the kind of its row
abbrev pub kind_at : Place → Kind
kind_at itself = kinds.Org
kind_at (object k) = k.kind
kind_at (user name) = kinds.User
kind_at (group name) = kinds.Group
kind_at (container name) = kinds.Container
kind_at (version name number) = kinds.Cookbook
kind_at (artifact name id) = kinds.Artifact
kind_at (revision policy id) = kinds.Policy
kind_at (policy_group name) = kinds.PolicyGroup
kind_at (acl k) = kinds.Acl
kind_at (sandbox id) = kinds.Sandbox
kind_at (file sum) = kinds.File

-- two texts with a slash between them
abbrev pub slashed : List ℕ → List ℕ → List ℕ
slashed front back = front ++ 47 ∷ back

-- the name of its row
abbrev pub name_at : Place → List ℕ
name_at itself = []
name_at (object k) = k.name
name_at (user name) = name
name_at (group name) = name
name_at (container name) = name
name_at (version name number) = slashed name (version_text number)
name_at (artifact name id) = slashed name id
name_at (revision policy id) = slashed policy id
name_at (policy_group name) = name
name_at (acl k) = slashed (word_of k.kind) k.name
name_at (sandbox id) = id
name_at (file sum) = sum

-- the key of its row, in the organisation of this name
abbrev pub row_of : List ℕ → Place → RowKey
row_of org place = row_key org (word_of (kind_at place)) (name_at place)

-- ---- what a row is of

-- the kind that a word stands for
abbrev pub kind_named : List ℕ → Option Kind
kind_named word = find (λ kind. bytes_eq word (word_of kind)) all_kinds

-- two texts, the first with one more character in front
abbrev pub lengthened : ℕ → List ℕ × List ℕ → List ℕ × List ℕ
lengthened c parts = (c ∷ parts.0, parts.1)

-- nothing, and a text
abbrev pub behind_none : List ℕ → List ℕ × List ℕ
behind_none rest = ([], rest)

-- the texts before and behind the first slash
abbrev pub split_at_slash : List ℕ → Option (List ℕ × List ℕ)
split_at_slash [] = None
split_at_slash (c ∷ rest) = cond (nat_eq c 47) (Some (behind_none rest)) (option_map (lengthened c) (split_at_slash rest))

-- what is made of the texts before and behind the first slash, where there is one
abbrev pub split_as : (List ℕ → List ℕ → Option Place) → List ℕ → Option Place
split_as make name = option_and_then (λ parts. make parts.0 parts.1) (split_at_slash name)

-- a place, where the test holds
abbrev pub where_ : Bool → Place → Option Place
where_ test place = cond test (Some place) None

-- a Name other than the operator's, who is neither a user nor a client
abbrev pub is_actor_name : List ℕ → Bool
is_actor_name name = is_name name && not (bytes_eq name operator)

-- an item of a bag
abbrev pub item_place : List ℕ → List ℕ → Option Place
item_place bag id = where_ (is_name bag && is_id id) (object (key kinds.Item (slashed bag id)))

-- a version, whose number is written as it is stored
abbrev pub version_place : List ℕ → List ℕ → Result Version VersionFault → Option Place
version_place name number (Ok read) = where_ (is_name name && bytes_eq (version_text read) number) (version name read)
version_place name number (Err fault) = None

-- the access list of an object of this kind and name
abbrev pub acl_place : List ℕ → Option Kind → Option Place
acl_place name None = None
acl_place name (Some kind) = where_ (is_name name) (acl (key kind name))

-- what a row of this kind and name is of, where the name has the form that its kind asks for
abbrev pub place_in : Kind → List ℕ → Option Place
place_in kinds.Org name = where_ (bytes_eq name []) itself
place_in kinds.Node name = where_ (is_name name) (object (key kinds.Node name))
place_in kinds.Role name = where_ (is_name name) (object (key kinds.Role name))
place_in kinds.Environment name = where_ (is_name name) (object (key kinds.Environment name))
place_in kinds.Bag name = where_ (is_name name) (object (key kinds.Bag name))
place_in kinds.Client name = where_ (is_actor_name name) (object (key kinds.Client name))
place_in kinds.User name = where_ (is_actor_name name) (user name)
place_in kinds.Group name = where_ (is_name name) (group name)
place_in kinds.Container name = where_ (is_some (container_named name)) (container name)
place_in kinds.Item name = split_as item_place name
place_in kinds.Cookbook name = split_as (λ front back. version_place front back (reads_version back)) name
place_in kinds.Artifact name = split_as (λ front id. where_ (is_name front && is_identifier id) (artifact front id)) name
place_in kinds.Policy name = split_as (λ front id. where_ (is_name front && is_name id) (revision front id)) name
place_in kinds.PolicyGroup name = where_ (is_name name) (policy_group name)
place_in kinds.Acl name = split_as (λ word back. acl_place back (kind_named word)) name
place_in kinds.Sandbox name = where_ (is_checksum name) (sandbox name)
place_in kinds.File name = where_ (is_checksum name) (file name)

-- what a row of this key is of, if its kind and name are those of a row
abbrev pub place_of : RowKey → Option Place
place_of row = option_and_then (λ kind. place_in kind row.name) (kind_named row.kind)

-- the row of this place is of it
abbrev pub IsPlace : Place → Type 0
IsPlace place = place_in (kind_at place) (name_at place) ≡ Some place
