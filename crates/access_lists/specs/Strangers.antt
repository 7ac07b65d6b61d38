-- Names of an entry that an organisation doesn't have.
use Rattle.std.specs.Prelude.{not, Option, position}
use Rattle.std.specs.Option.{option_map, option_or}
use Rattle.membership.specs.declared.member_kind.MemberKind.TheVariants as kind
use Rattle.membership.specs.Actors.{has, is_actor}
use Rattle.membership.specs.Members.{Membership}
use Rattle.access_lists.specs.declared.acl.Entry.{Entry}
use Rattle.access_lists.specs.declared.strangers.Stranger.{Stranger}
use Rattle.access_lists.specs.declared.strangers.Stranger.TheVariants.{Actor, Group}

-- the first actor that the organisation doesn't have, or else the first group, with its position in its list
abbrev pub first_stranger : Membership → Entry → Option Stranger
first_stranger membership entry =
    option_or (option_map Actor (position (λ name. not (is_actor membership name)) entry.actors)) (option_map Group (position (λ name. not (has membership kind.Group name)) entry.groups))
