-- The fields of each kind of object, in the order in which they are looked at.
use Rattle.std.specs.Prelude.{Bool, true, false, IsTrue, List, [], ◌∷◌, Option, Some, None, is_some, codes}
use Rattle.doc_tree.specs.Doc.{boolean, words, list, dict, no_docs, no_pairs}
use Rattle.doc_tree.specs.declared.kind.Kind.{Kind}
use Rattle.doc_tree.specs.declared.kind.Kind.TheVariants.{Org, Node, Role, Environment, Bag, Client, User, Group, Container, Item, Cookbook, Artifact, Policy, PolicyGroup, Acl, Sandbox, File}
use Rattle.object_forms.specs.Forms.{a_name, a_text, a_truth, items, items_by_name, constraints_by_name}
use Rattle.object_forms.specs.Fields.{Row, field, always, attributes, nothing, stands}

-- a node, behind its name
abbrev pub node : List Row
node =
    always (codes "chef_type") (codes "node")
    ∷ always (codes "json_class") (codes "Chef::Node")
    ∷ field (codes "chef_environment") a_name (stands (words (codes "_default")))
    ∷ field (codes "run_list") items (stands (list no_docs))
    ∷ attributes (codes "normal")
    ∷ attributes (codes "default")
    ∷ attributes (codes "override")
    ∷ attributes (codes "automatic")
    ∷ field (codes "policy_name") a_name nothing
    ∷ field (codes "policy_group") a_name nothing
    ∷ []

-- a role, behind its name
abbrev pub role : List Row
role =
    always (codes "chef_type") (codes "role")
    ∷ always (codes "json_class") (codes "Chef::Role")
    ∷ field (codes "description") a_text (stands (words []))
    ∷ field (codes "run_list") items (stands (list no_docs))
    ∷ field (codes "env_run_lists") items_by_name (stands (dict no_pairs))
    ∷ attributes (codes "default_attributes")
    ∷ attributes (codes "override_attributes")
    ∷ []

-- an environment, behind its name
abbrev pub environment : List Row
environment =
    always (codes "chef_type") (codes "environment")
    ∷ always (codes "json_class") (codes "Chef::Environment")
    ∷ field (codes "description") a_text (stands (words []))
    ∷ field (codes "cookbook_versions") constraints_by_name (stands (dict no_pairs))
    ∷ attributes (codes "default_attributes")
    ∷ attributes (codes "override_attributes")
    ∷ []

-- a client, behind its name
abbrev pub client : List Row
client = field (codes "validator") a_truth (stands (boolean false)) ∷ []

-- the fields of a kind behind its name or id, if its objects have a form
abbrev pub table : Kind → Option (List Row)
table Org = None
table Node = Some node
table Role = Some role
table Environment = Some environment
table Bag = Some []
table Client = Some client
table User = None
table Group = Some []
table Container = None
table Item = Some []
table Cookbook = None
table Artifact = None
table Policy = None
table PolicyGroup = None
table Acl = None
table Sandbox = None
table File = None

-- the objects of the kind have a form
abbrev pub IsFormed : Kind → Type 0
IsFormed kind = IsTrue (is_some (table kind))

-- an item of a data bag
abbrev pub is_item : Kind → Bool
is_item Org = false
is_item Node = false
is_item Role = false
is_item Environment = false
is_item Bag = false
is_item Client = false
is_item User = false
is_item Group = false
is_item Container = false
is_item Item = true
is_item Cookbook = false
is_item Artifact = false
is_item Policy = false
is_item PolicyGroup = false
is_item Acl = false
is_item Sandbox = false
is_item File = false

-- a group
abbrev pub is_group : Kind → Bool
is_group Org = false
is_group Node = false
is_group Role = false
is_group Environment = false
is_group Bag = false
is_group Client = false
is_group User = false
is_group Group = true
is_group Container = false
is_group Item = false
is_group Cookbook = false
is_group Artifact = false
is_group Policy = false
is_group PolicyGroup = false
is_group Acl = false
is_group Sandbox = false
is_group File = false
