-- The conditions that the access lists, users, clients and groups of every organisation meet.
use Rattle.std.specs.Prelude.{◌≡◌, Bool, true, false, ◌&&◌, ◌||◌, ℕ, List, Some, is_some}
use Rattle.std.specs.FinMap as map
use Rattle.std.specs.FinSet as set
use Rattle.membership.specs.declared.member_kind.MemberKind.{MemberKind}
use Rattle.membership.specs.declared.member_kind.MemberKind.TheVariants as member
use Rattle.membership.specs.Members.{Members, Membership}
use Rattle.membership.specs.Actors.{operator}
use Rattle.membership.specs.StartingGroups.{is_starting_group}
use Rattle.membership.specs.Actors as membership
use Rattle.membership.specs.TextSets.{lists}
use Rattle.access_lists.specs.declared.acl.Acl.{Acl}
use Rattle.access_lists.specs.declared.perm.Perm.{Perm}
use Rattle.access_lists.specs.Acls.{entry_of}
use Rattle.access_lists.specs.Starting.{container_named}
use Rattle.doc_tree.specs.Name.{is_name}
use Rattle.doc_tree.specs.declared.kind.Kind.{Kind}
use Rattle.doc_tree.specs.declared.kind.Kind.TheVariants.{Org, Node, Role, Environment, Bag, Client, User, Group, Container, Item, Cookbook, Artifact, Policy, PolicyGroup, Acl as AnAcl, Sandbox, File}
use Rattle.object_store.specs.declared.key.Key.{Key}
use Rattle.shelves.specs.Shelves.{has_shelf}
use Rattle.org_shelves.specs.Shelved.{Shelved}
use Rattle.org_core.specs.ObjectConditions.{has}
use Rattle.org_core.specs.States.{Organisation}

-- of a kind that is kept on shelves, one of this name is there
abbrev pub has_shelved : Shelved → Kind → List ℕ → Bool
has_shelved s Org name = false
has_shelved s Node name = false
has_shelved s Role name = false
has_shelved s Environment name = false
has_shelved s Bag name = false
has_shelved s Client name = false
has_shelved s User name = false
has_shelved s Group name = false
has_shelved s Container name = false
has_shelved s Item name = false
has_shelved s Cookbook name = has_shelf s.cookbooks name
has_shelved s Artifact name = has_shelf s.artifacts name
has_shelved s Policy name = has_shelf s.policies name
has_shelved s PolicyGroup name = is_some (map.get s.groups name)
has_shelved s AnAcl name = false
has_shelved s Sandbox name = false
has_shelved s File name = false

-- of a kind whose objects have access lists, one of this name is there
abbrev pub has_listed : Organisation → Kind → List ℕ → Bool
has_listed o Org name = false
has_listed o Node name = has o.objects Node name
has_listed o Role name = has o.objects Role name
has_listed o Environment name = has o.objects Environment name
has_listed o Bag name = has o.objects Bag name
has_listed o Client name = has o.objects Client name
has_listed o User name = false
has_listed o Group name = membership.has o.membership member.Group name
has_listed o Container name = is_some (container_named name)
has_listed o Item name = false
has_listed o Cookbook name = has_shelved o.shelved Cookbook name
has_listed o Artifact name = has_shelved o.shelved Artifact name
has_listed o Policy name = has_shelved o.shelved Policy name
has_listed o PolicyGroup name = has_shelved o.shelved PolicyGroup name
has_listed o AnAcl name = false
has_listed o Sandbox name = false
has_listed o File name = false

-- a group has a member of this kind and name
abbrev pub has_member : MemberKind → List ℕ → Members → Bool
has_member member.User name members = set.contains members.users name
has_member member.Client name members = set.contains members.clients name
has_member member.Group name members = set.contains members.groups name

-- no user has the name of a client, and neither a user nor a client has that of the operator
pub record AreApart (m : Membership) : Type 0 where
  pub apart : (name : List ℕ) → (membership.has m member.User name && membership.has m member.Client name) ≡ false
  pub operator_apart : (membership.has m member.User operator || membership.has m member.Client operator) ≡ false

-- the conditions of an organisation's access lists, users, clients and groups
pub record AccessConditions (o : Organisation) : Type 0 where
  -- those objects have an access list, and nothing else has
  pub listed : (k : Key) → is_some (map.get o.lists k) ≡ has_listed o k.kind k.name
  -- an actor in a list is a user or a client, or the operator
  pub actors : (k : Key) (list : Acl) (permission : Perm) (name : List ℕ) → map.get o.lists k ≡ Some list
      → lists (entry_of permission list).actors name ≡ true → membership.is_actor o.membership name ≡ true
  -- a group in a list is there
  pub groups : (k : Key) (list : Acl) (permission : Perm) (name : List ℕ) → map.get o.lists k ≡ Some list
      → lists (entry_of permission list).groups name ≡ true → membership.has o.membership member.Group name ≡ true
  -- whoever is in a group is there
  pub members : (group : List ℕ) (members : Members) (kind : MemberKind) (name : List ℕ) → map.get o.membership.groups group ≡ Some members
      → has_member kind name members ≡ true → membership.has o.membership kind name ≡ true
  -- the starting groups are there
  pub starting : (name : List ℕ) → is_starting_group name ≡ true → membership.has o.membership member.Group name ≡ true
  -- users, clients and the operator are told apart by their names
  pub apart : AreApart o.membership
  -- users, clients and groups have names of their form
  pub named : (kind : MemberKind) (name : List ℕ) → membership.has o.membership kind name ≡ true → is_name name ≡ true

-- the clients are those whose objects are there
abbrev pub HasItsClients : Organisation → Type 0
HasItsClients o = (name : List ℕ) → membership.has o.membership member.Client name ≡ has o.objects Client name
