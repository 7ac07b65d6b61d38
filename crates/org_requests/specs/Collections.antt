-- The collections of objects that have one shape: nodes, roles, environments and clients.
use Rattle.std.specs.Prelude.{ℕ, List, codes}
use Rattle.access_lists.specs.declared.starting.Container.{Container}
use Rattle.access_lists.specs.declared.starting.Container.TheVariants as container
use Rattle.doc_tree.specs.declared.kind.Kind.{Kind}
use Rattle.doc_tree.specs.declared.kind.Kind.TheVariants.{Node, Role, Environment, Client}
use Rattle.org_requests.specs.declared.collections.Collection.{Collection}
use Rattle.org_requests.specs.declared.collections.Collection.TheVariants.{Nodes, Roles, Environments, Clients}

-- the kind of a collection's objects
abbrev pub kind_in : Collection → Kind
kind_in Nodes = Node
kind_in Roles = Role
kind_in Environments = Environment
kind_in Clients = Client

-- the segment of a path that names the collection
abbrev pub segment_of : Collection → List ℕ
segment_of Nodes = codes "nodes"
segment_of Roles = codes "roles"
segment_of Environments = codes "environments"
segment_of Clients = codes "clients"

-- the container of a collection's objects
abbrev pub container_of : Collection → Container
container_of Nodes = container.Nodes
container_of Roles = container.Roles
container_of Environments = container.Environments
container_of Clients = container.Clients
