-- Whom an organisation has: its users, clients and groups, and the operator of the site, who acts in each.
use Rattle.std.specs.Prelude.{ℕ, List, Bool, ◌||◌, bytes_eq, codes, is_some}
use Rattle.std.specs.FinMap as finite
use Rattle.std.specs.FinSet as set
use Rattle.membership.specs.declared.member_kind.MemberKind.{MemberKind}
use Rattle.membership.specs.declared.member_kind.MemberKind.TheVariants as kind
use Rattle.membership.specs.Members.{Membership}

-- the operator of the site, who may do everything
abbrev pub operator : List ℕ
operator = codes "pivotal"

-- the organisation has a user, a client or a group of this name
abbrev pub has : Membership → MemberKind → List ℕ → Bool
has membership kind.User name = set.contains membership.users name
has membership kind.Client name = set.contains membership.clients name
has membership kind.Group name = is_some (finite.get membership.groups name)

-- the name is that of a user, of a client or of the operator
abbrev pub is_actor : Membership → List ℕ → Bool
is_actor membership name = bytes_eq name operator || (has membership kind.User name || has membership kind.Client name)
