-- The containers with which an organisation starts, and their access lists.
use Rattle.std.specs.Prelude.{ℕ, bytes_eq, List, [], ◌∷◌, codes, Option}
use Rattle.std.specs.List.{find}
use Rattle.access_lists.specs.declared.acl.Acl.{Acl}
use Rattle.access_lists.specs.declared.acl.Entry.{Entry}
use Rattle.access_lists.specs.declared.starting.Container.{Container}
use Rattle.access_lists.specs.declared.starting.Container.TheVariants.{Clients, Containers, CookbookArtifacts, Cookbooks, Data, Environments, Groups, Nodes, Policies, PolicyGroups, Roles, Sandboxes}

-- the name of a container
abbrev pub name_of : Container → List ℕ
name_of Clients = codes "clients"
name_of Containers = codes "containers"
name_of CookbookArtifacts = codes "cookbook_artifacts"
name_of Cookbooks = codes "cookbooks"
name_of Data = codes "data"
name_of Environments = codes "environments"
name_of Groups = codes "groups"
name_of Nodes = codes "nodes"
name_of Policies = codes "policies"
name_of PolicyGroups = codes "policy_groups"
name_of Roles = codes "roles"
name_of Sandboxes = codes "sandboxes"

-- the containers, in the order of their names
abbrev pub containers : List Container
containers = Clients ∷ Containers ∷ CookbookArtifacts ∷ Cookbooks ∷ Data ∷ Environments ∷ Groups ∷ Nodes ∷ Policies ∷ PolicyGroups ∷ Roles ∷ Sandboxes ∷ []

-- the container of this name, if there is one
abbrev pub container_named : List ℕ → Option Container
container_named name = find (λ container. bytes_eq name (name_of container)) containers

-- the group `admins`
abbrev pub A : List (List ℕ)
A = codes "admins" ∷ []

-- the groups `admins` and `users`
abbrev pub AU : List (List ℕ)
AU = codes "admins" ∷ codes "users" ∷ []

-- the groups `admins`, `clients` and `users`
abbrev pub AKU : List (List ℕ)
AKU = codes "admins" ∷ codes "clients" ∷ codes "users" ∷ []

-- an entry of groups alone
abbrev pub of_groups : List (List ℕ) → Entry
of_groups groups = record { actors = []; groups = groups }

-- the access list of these groups: of who may create, read, update, delete and grant
abbrev pub granting : List (List ℕ) → List (List ℕ) → List (List ℕ) → List (List ℕ) → List (List ℕ) → Acl
granting create read update delete grant =
    record { create = of_groups create; read = of_groups read; update = of_groups update; delete = of_groups delete; grant = of_groups grant }

-- the access list with which a container starts
abbrev pub starting_list : Container → Acl
starting_list Clients = granting A AU A AU A
starting_list Containers = granting A AU A A A
starting_list CookbookArtifacts = granting AU AKU AU AU A
starting_list Cookbooks = granting AU AKU AU AU A
starting_list Data = granting AU AKU AU AU A
starting_list Environments = granting AU AKU AU AU A
starting_list Groups = granting A AU A A A
starting_list Nodes = granting AKU AKU AU AU A
starting_list Policies = granting AU AKU AU AU A
starting_list PolicyGroups = granting AU AKU AU AU A
starting_list Roles = granting AU AKU AU AU A
starting_list Sandboxes = granting AU AU AU A A
