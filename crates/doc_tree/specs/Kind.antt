-- The kinds of what an organisation keeps, and the word that stands for each.
use Rattle.std.specs.Prelude.{ℕ, List, codes}
use Rattle.doc_tree.specs.declared.kind.Kind.{Kind}
use Rattle.doc_tree.specs.declared.kind.Kind.TheVariants.{Org, Node, Role, Environment, Bag, Client, User, Group, Container, Item, Cookbook, Artifact, Policy, PolicyGroup, Acl, Sandbox, File}

-- the word of a kind
abbrev pub word_of : Kind → List ℕ
word_of Org = codes "org"
word_of Node = codes "node"
word_of Role = codes "role"
word_of Environment = codes "environment"
word_of Bag = codes "bag"
word_of Client = codes "client"
word_of User = codes "user"
word_of Group = codes "group"
word_of Container = codes "container"
word_of Item = codes "item"
word_of Cookbook = codes "cookbook"
word_of Artifact = codes "artifact"
word_of Policy = codes "policy"
word_of PolicyGroup = codes "policy_group"
word_of Acl = codes "acl"
word_of Sandbox = codes "sandbox"
word_of File = codes "file"
