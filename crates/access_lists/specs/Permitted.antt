-- Who may do what.
use Rattle.std.specs.Prelude.{◌≡◌, ℕ, Bool, ◌||◌, bytes_eq, List, ◌⊎◌, Any, Contains}
use Rattle.std.specs.List.{list_any}
use Rattle.membership.specs.Actors.{operator}
use Rattle.membership.specs.Belonging.{belongs, Belongs}
use Rattle.membership.specs.Members.{Membership}
use Rattle.membership.specs.TextSets.{lists}
use Rattle.access_lists.specs.declared.acl.Entry.{Entry}

-- the caller may do what the entry is of: he is the operator, or one of its actors, or belongs to one of its groups
abbrev pub Permitted : Membership → Entry → List ℕ → Type 0
Permitted membership entry caller = (caller ≡ operator) ⊎ (Contains entry.actors caller ⊎ Any (Belongs membership caller) entry.groups)

-- whether the caller may
abbrev pub is_permitted : Membership → Entry → List ℕ → Bool
is_permitted membership entry caller = bytes_eq caller operator || (lists entry.actors caller || list_any (belongs membership caller) entry.groups)
