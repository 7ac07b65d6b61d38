use Rattle.std.proofs.Common.{◌∙◌, ap, ℕ, List}
use Rattle.std.specs.Prelude.{codes}
use Rattle.std.specs.FinMap as finite
use Rattle.membership.specs.Members.{Membership, no_members}
use Rattle.membership.specs.Changes.{with_groups}
use Rattle.membership.proofs.groups.Groups.starting.Goals as goal

-- an organisation with one more group, which has no members
put : List ℕ → Membership → Membership
put name m = with_groups (finite.insert m.groups name no_members) m

pub returns : goal.returns
unfolding put
returns c =
    c.in_ok-put_empty-4.ensures.membership
    ∙ ap (put (codes "users")) (c.in_ok-put_empty-3.ensures.membership
    ∙ ap (put (codes "clients")) (c.in_ok-put_empty-2.ensures.membership
    ∙ ap (put (codes "billing-admins")) (c.in_ok-put_empty.ensures.membership
    ∙ ap (put (codes "admins")) (c.in_ok-reserve.ensures.membership ∙ c.none-groups.ensures))))
