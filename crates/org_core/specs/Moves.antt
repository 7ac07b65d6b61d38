-- The moves that change a state. A request makes a list of them, in order.
use Rattle.std.specs.Prelude.{◌≡◌, ◌≤◌, Bool, true, false, ℕ, List, [], ◌∷◌, Option, Some, None, is_some, length, filter, drop, IsTrue}
use Rattle.std.specs.FinMap as map
use Rattle.membership.specs.declared.member_kind.MemberKind.{MemberKind}
use Rattle.membership.specs.declared.member_kind.MemberKind.TheVariants as kind
use Rattle.membership.specs.Changes.{changed, joined, left_all, with_user, without_user, with_client, without_client, with_groups}
use Rattle.membership.specs.MapValues.{map_values}
use Rattle.membership.specs.Members.{Membership}
use Rattle.membership.specs.Rooms as groups
use Rattle.membership.specs.Actors as membership
use Rattle.access_lists.specs.Acls.{each_entry, without_actor, without_group}
use Rattle.object_store.specs.Objects.{Objects, Lists}
use Rattle.org_core.specs.declared.moves.Move.{Move}
use Rattle.org_core.specs.declared.moves.Move.TheVariants.{Open, Put, TakeOut, PutList, TakeList, AddUser, RemoveUser, AddClient, RemoveClient, PutGroup, RemoveGroup, OnShelves, OnFiles}
use Rattle.org_shelves.specs.Shelved.{Shelved}
use Rattle.org_shelves.specs.ShelfMoves.{after_shelf_move}
use Rattle.org_core.specs.States.{State, Organisation, nothing}

-- an organisation with other objects
abbrev pub with_objects : Objects → Organisation → Organisation
with_objects objects o = record { objects = objects; lists = o.lists; membership = o.membership; shelved = o.shelved }

-- with other lists
abbrev pub with_lists : Lists → Organisation → Organisation
with_lists lists o = record { objects = o.objects; lists = lists; membership = o.membership; shelved = o.shelved }

-- with other users, clients and groups
abbrev pub with_membership : Membership → Organisation → Organisation
with_membership m o = record { objects = o.objects; lists = o.lists; membership = m; shelved = o.shelved }

-- with other things on its shelves
abbrev pub with_shelved : Shelved → Organisation → Organisation
with_shelved shelved o = record { objects = o.objects; lists = o.lists; membership = o.membership; shelved = shelved }

-- a member joins a group
abbrev pub joins : List ℕ → MemberKind → List ℕ → Membership → Membership
joins group kind name m = with_groups (changed group (joined kind name) m.groups) m

-- a member leaves every group
abbrev pub leaves : MemberKind → List ℕ → Membership → Membership
leaves kind name m = with_groups (left_all kind name m.groups) m

-- the lists without an actor
abbrev pub lists_without_actor : List ℕ → Lists → Lists
lists_without_actor name lists = map_values (each_entry (without_actor name)) lists

-- the lists without a group
abbrev pub lists_without_group : List ℕ → Lists → Lists
lists_without_group name lists = map_values (each_entry (without_group name)) lists

-- an organisation that is there, after a move
abbrev pub within : Move → Organisation → Organisation
within Open o = o
within (Put key object) o = with_objects (map.insert o.objects key object) o
within (TakeOut key) o = with_objects (map.remove o.objects key) o
within (PutList key list) o = with_lists (map.insert o.lists key list) o
within (TakeList key) o = with_lists (map.remove o.lists key) o
within (AddUser comer) o = with_membership (joins comer.group kind.User comer.name (with_user comer.name o.membership)) o
within (RemoveUser name) o = with_membership (leaves kind.User name (without_user name o.membership)) (with_lists (lists_without_actor name o.lists) o)
within (AddClient comer) o = with_membership (joins comer.group kind.Client comer.name (with_client comer.name o.membership)) o
within (RemoveClient name) o = with_membership (leaves kind.Client name (without_client name o.membership)) (with_lists (lists_without_actor name o.lists) o)
within (PutGroup name members) o = with_membership (with_groups (map.insert o.membership.groups name members) o.membership) o
within (RemoveGroup name) o =
    with_membership (leaves kind.Group name (with_groups (map.remove o.membership.groups name) o.membership)) (with_lists (lists_without_group name o.lists) o)
within (OnShelves move) o = with_shelved (after_shelf_move move o.shelved) o
within (OnFiles move) o = o

-- the move makes an organisation of none
abbrev pub opens : Move → Bool
opens Open = true
opens (Put key object) = false
opens (TakeOut key) = false
opens (PutList key list) = false
opens (TakeList key) = false
opens (AddUser comer) = false
opens (RemoveUser name) = false
opens (AddClient comer) = false
opens (RemoveClient name) = false
opens (PutGroup name members) = false
opens (RemoveGroup name) = false
opens (OnShelves move) = false
opens (OnFiles move) = false

-- what a move makes of no organisation: only `Open` makes one
abbrev pub outside : Bool → State
outside true = Some nothing
outside false = None

-- the state after a move
abbrev pub after_move : Move → State → State
after_move move None = outside (opens move)
after_move move (Some organisation) = Some (within move organisation)

-- the state after these moves, made in order
abbrev pub after_moves : List Move → State → State
after_moves [] state = state
after_moves (move ∷ rest) state = after_moves rest (after_move move state)

-- the move puts an object, a list, a user, a client or a group in, which takes room
unfoldable pub takes_room : Move → Bool
takes_room Open = false
takes_room (Put key object) = true
takes_room (TakeOut key) = false
takes_room (PutList key list) = true
takes_room (TakeList key) = false
takes_room (AddUser comer) = true
takes_room (RemoveUser name) = false
takes_room (AddClient comer) = true
takes_room (RemoveClient name) = false
takes_room (PutGroup name members) = true
takes_room (RemoveGroup name) = false
takes_room (OnShelves move) = false
takes_room (OnFiles move) = false

-- how many of the moves take room
abbrev pub puts_in : List Move → ℕ
puts_in moves = length (filter takes_room moves)

-- the group that the one who comes joins, where the move brings somebody
abbrev pub group_joined : Move → Option (List ℕ)
group_joined Open = None
group_joined (Put key object) = None
group_joined (TakeOut key) = None
group_joined (PutList key list) = None
group_joined (TakeList key) = None
group_joined (AddUser comer) = Some comer.group
group_joined (RemoveUser name) = None
group_joined (AddClient comer) = Some comer.group
group_joined (RemoveClient name) = None
group_joined (PutGroup name members) = None
group_joined (RemoveGroup name) = None
group_joined (OnShelves move) = None
group_joined (OnFiles move) = None

-- how many users and clients come
abbrev pub arrivals : List Move → ℕ
arrivals moves = length (filter (λ move. is_some (group_joined move)) moves)

-- who comes, comes first: so at most one comes, before any group changes
abbrev pub IsOrderly : List Move → Type 0
IsOrderly moves = arrivals (drop 1 moves) ≡ 0

-- one more member fits into the group, where one is joined and is there
abbrev pub HasRoomToJoin : Option (List ℕ) → groups.Kept → Type 0
HasRoomToJoin None kept = Unit {0}
HasRoomToJoin (Some group) kept = IsTrue (membership.has kept.membership kind.Group group) → 1 ≤ groups.room_of kept.rooms group

-- and into the group that the first of these moves has somebody join
abbrev pub HasRoomToJoinFirst : List Move → groups.Kept → Type 0
HasRoomToJoinFirst [] kept = Unit {0}
HasRoomToJoinFirst (move ∷ rest) kept = HasRoomToJoin (group_joined move) kept
