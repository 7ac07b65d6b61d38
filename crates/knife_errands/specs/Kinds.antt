-- The kinds of what has a name of its own.
use Rattle.std.specs.Prelude.{ℕ, List, Bool, true, false, Option, Some, None, codes, bytes_eq, if◌then◌else◌}
use Rattle.knife_errands.specs.declared.errands.Kind.{Kind}
use Rattle.knife_errands.specs.declared.errands.Kind.TheVariants.{Node, Role, Environment, Client, Group, DataBag}

-- what one is called
abbrev pub word_of : Kind → List ℕ
word_of Node = codes "node"
word_of Role = codes "role"
word_of Environment = codes "environment"
word_of Client = codes "client"
word_of Group = codes "group"
word_of DataBag = codes "data_bag"

-- the segment below which they stand
abbrev pub collection : Kind → List ℕ
collection Node = codes "nodes"
collection Role = codes "roles"
collection Environment = codes "environments"
collection Client = codes "clients"
collection Group = codes "groups"
collection DataBag = codes "data"

-- the kinds that one word names: all but data bags
abbrev pub kind_in : List ℕ → Option Kind
kind_in word =
    if bytes_eq word (codes "node") then Some Node
    else if bytes_eq word (codes "role") then Some Role
    else if bytes_eq word (codes "environment") then Some Environment
    else if bytes_eq word (codes "client") then Some Client
    else if bytes_eq word (codes "group") then Some Group
    else None

-- the kinds that `KIND create N` makes
abbrev pub is_created : Kind → Bool
is_created Node = true
is_created Role = false
is_created Environment = false
is_created Client = true
is_created Group = false
is_created DataBag = true

-- the kinds that `KIND delete N` removes
abbrev pub is_deleted : Kind → Bool
is_deleted Node = true
is_deleted Role = true
is_deleted Environment = true
is_deleted Client = true
is_deleted Group = false
is_deleted DataBag = true

-- the kinds that `KIND from file F` puts
abbrev pub is_filed : Kind → Bool
is_filed Node = false
is_filed Role = true
is_filed Environment = true
is_filed Client = false
is_filed Group = false
is_filed DataBag = false

-- the kind that has run lists of which `KIND run_list` changes one
abbrev pub has_run_list : Kind → Bool
has_run_list Node = true
has_run_list Role = false
has_run_list Environment = false
has_run_list Client = false
has_run_list Group = false
has_run_list DataBag = false
