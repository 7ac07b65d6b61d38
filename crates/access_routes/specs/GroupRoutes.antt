-- The routes of groups.
use Rattle.std.specs.Prelude.{ℕ, Bool, not, ◌&&◌, List, [], ◌∷◌, ◌++◌, Option, option_and_then, option_map, unwrap_or, codes}
use Rattle.std.specs.FinMap as finite
use Rattle.std.specs.List.{list_any}
use Rattle.membership.specs.declared.member_kind.MemberKind.{MemberKind}
use Rattle.membership.specs.declared.member_kind.MemberKind.TheVariants as member
use Rattle.membership.specs.TextTrees.{texts_doc, texts_in}
use Rattle.membership.specs.Lists.{members_of}
use Rattle.membership.specs.MemberNames.{members_named, names_in}
use Rattle.membership.specs.Members.{Membership, no_members}
use Rattle.membership.specs.Actors as membership
use Rattle.membership.specs.TextSets.{in_order}
use Rattle.access_lists.specs.declared.starting.Container.TheVariants as container
use Rattle.doc_tree.specs.Doc.{Doc, words, dict, pairs_of}
use Rattle.doc_tree.specs.Name.{is_name}
use Rattle.doc_tree.specs.Part.{part_at}
use Rattle.doc_tree.specs.declared.kind.Kind.TheVariants as kinds
use Rattle.object_store.specs.Objects.{key}
use Rattle.org_core.specs.Contexts.{Context}
use Rattle.org_core.specs.Creating.{created_by, created_list}
use Rattle.org_core.specs.Named.{named_by}
use Rattle.org_core.specs.Outcomes.{Decided, Success, shows, does_by, tells}
use Rattle.org_requests.specs.Refusals.{refuses, first_some}
use Rattle.org_requests.specs.Replies.{org_uri, paths_behind}
use Rattle.org_core.specs.States.{State, membership_of}
use Rattle.org_core.specs.declared.moves.Move.TheVariants as move
use Rattle.org_requests.specs.declared.refusals.Refusal.{Refusal}
use Rattle.org_requests.specs.declared.refusals.Refusal.TheVariants.{BadField}

-- the front of the paths of groups
abbrev pub groups_front : List ℕ → List ℕ
groups_front org = org_uri org ++ codes "/groups/"

-- the name of a group, as a body gives it
abbrev pub group_name : Doc → List ℕ
group_name group = named_by (codes "groupname") group

-- the organisation has no group of this name, which may have no name's form
abbrev pub lacks_group : List ℕ → State → Bool
lacks_group name state = not (is_name name && membership.has (membership_of state) member.Group name)

-- the field that lists the members of a kind
abbrev pub field_of : MemberKind → List ℕ
field_of member.User = codes "users"
field_of member.Client = codes "clients"
field_of member.Group = codes "groups"

-- the texts of a list that was found, in the order of their bytes and each once
abbrev pub texts_found : Option Doc → List (List ℕ)
texts_found found = unwrap_or (option_map in_order (option_and_then texts_in found)) []

-- the names that a group's body lists as its members of a kind
abbrev pub sent : MemberKind → Doc → List (List ℕ)
sent kind group = texts_found (option_and_then (part_at (field_of kind)) (part_at (codes "actors") group))

-- one of these names is none that the organisation has of this kind
abbrev pub has_stranger : MemberKind → List (List ℕ) → Membership → Bool
has_stranger kind names m = list_any (λ name. not (membership.has m kind name)) names

-- the members of a kind that a group's body lists have a stranger among them: the list is the bad field
abbrev pub stranger_among : MemberKind → Doc → Membership → Option Refusal
stranger_among kind group m = refuses (BadField (field_of kind)) (has_stranger kind (sent kind group) m)

-- of users, then of clients, then of groups
abbrev pub stranger_refusal : Doc → Membership → Option Refusal
stranger_refusal group m = first_some (stranger_among member.User group m ∷ stranger_among member.Client group m ∷ stranger_among member.Group group m ∷ [])

-- clients and users together
abbrev pub actors_doc : List (List ℕ) → List (List ℕ) → Doc
actors_doc clients users = texts_doc (in_order (clients ++ users))

-- the reply that shows a group: its clients and users together are its actors
abbrev pub group_doc : List ℕ → List ℕ → List (List ℕ) → List (List ℕ) → List (List ℕ) → Doc
group_doc org name users clients groups = dict (pairs_of
    ((codes "actors", actors_doc clients users)
    ∷ (codes "clients", texts_doc clients)
    ∷ (codes "groupname", words name)
    ∷ (codes "groups", texts_doc groups)
    ∷ (codes "name", words name)
    ∷ (codes "orgname", words org)
    ∷ (codes "users", texts_doc users)
    ∷ []))

-- the members of this kind that a group has
abbrev pub members_in : MemberKind → List ℕ → State → List (List ℕ)
members_in kind group state = members_named kind (finite.get (membership_of state).groups group)

-- a group as the organisation has it
abbrev pub kept_doc : List ℕ → List ℕ → State → Doc
kept_doc org name state = group_doc org name (members_in member.User name state) (members_in member.Client name state) (members_in member.Group name state)

-- a group is shown
abbrev pub group_shown : List ℕ → List ℕ → State → Success
group_shown org name state = shows (kept_doc org name state)

-- each group's name with its path
abbrev pub groups_listed : Context → Decided
groups_listed context = tells (shows (paths_behind (groups_front context.org) (names_in member.Group (membership_of context.state))))

-- a group is created without members: 201 with its path
abbrev pub group_created : Context → List ℕ → Decided
group_created context name =
    created_by (groups_front context.org ++ name) (move.PutGroup name no_members ∷ move.PutList (key kinds.Group name) (created_list container.Groups context) ∷ [])

-- the members of a group are those that the body lists: 200 with the group
abbrev pub group_replaced : Context → List ℕ → Doc → Decided
group_replaced context name group =
    does_by (shows (group_doc context.org name (sent member.User group) (sent member.Client group) (sent member.Group group)))
    (move.PutGroup name (members_of (sent member.User group) (sent member.Client group) (sent member.Group group)) ∷ []) 0

-- a group goes, out of every group and every list: 200 with the group as it was
abbrev pub group_removed : Context → List ℕ → Decided
group_removed context name = does_by (group_shown context.org name context.state) (move.TakeList (key kinds.Group name) ∷ move.RemoveGroup name ∷ []) 0
