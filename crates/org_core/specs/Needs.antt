-- The permissions that an operation needs, and the first that its caller lacks.
use Rattle.std.specs.Prelude.{ℕ, Bool, false, cond, List, [], ◌∷◌, Option, Some, None}
use Rattle.membership.specs.Members.{Membership}
use Rattle.membership.specs.Actors.{is_actor}
use Rattle.access_lists.specs.declared.acl.Acl.{Acl}
use Rattle.access_lists.specs.declared.perm.Perm.{Perm}
use Rattle.access_lists.specs.Acls.{entry_of}
use Rattle.access_lists.specs.Permitted.{is_permitted}
use Rattle.org_core.specs.declared.needs.Need.{Need}
use Rattle.org_core.specs.declared.needs.Need.TheVariants.{Operator, Listed}
use Rattle.org_requests.specs.declared.refusals.Refusal.{Refusal}
use Rattle.org_requests.specs.declared.refusals.Refusal.TheVariants.{Forbidden}
use Rattle.org_core.specs.Contexts.{Context}
use Rattle.org_requests.specs.Requests.{is_operator}
use Rattle.org_core.specs.States.{list_in, membership_of}

-- the permission that is needed
abbrev pub permission_of : Need → Perm
permission_of (Operator permission) = permission
permission_of (Listed permission key) = permission

-- a caller with a name has what holds of it, and one without has nothing
abbrev pub if_named : (List ℕ → Bool) → Option (List ℕ) → Bool
if_named holds None = false
if_named holds (Some name) = holds name

-- the caller is known: the operator, a user or a client of the organisation
abbrev pub is_known : Context → Bool
is_known context = if_named (is_actor (membership_of context.state)) context.caller

-- an access list, if there is one, grants a permission to a caller
abbrev pub grants : Membership → Perm → Option (List ℕ) → Option Acl → Bool
grants membership permission caller None = false
grants membership permission caller (Some list) = if_named (is_permitted membership (entry_of permission list)) caller

-- what is needed is granted to the caller: by the access list of the object of the key, and to nobody but the operator
-- where only the operator may do it
abbrev pub is_granted : Context → Need → Bool
is_granted context (Operator permission) = false
is_granted context (Listed permission key) = grants (membership_of context.state) permission context.caller (list_in context.state key)

-- the first of these needs that isn't granted to the caller
abbrev pub first_lacking : Context → List Need → Option Refusal
first_lacking context [] = None
first_lacking context (need ∷ rest) = cond (is_granted context need) (first_lacking context rest) (Some (Forbidden (permission_of need)))

-- the operator lacks nothing, and anybody else the first need that isn't granted
abbrev pub lacking : Context → List Need → Option Refusal
lacking context needs = cond (is_operator context.caller) None (first_lacking context needs)
