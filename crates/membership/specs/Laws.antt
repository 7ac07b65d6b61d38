-- What a change leaves is what the changed lists say.
use Rattle.std.specs.Prelude.{◌≡◌, ℕ, List, [], ◌∷◌, ◌++◌}
use Rattle.std.specs.FinMap as finite
use Rattle.membership.specs.declared.lists.GroupLists.{GroupLists}
use Rattle.membership.specs.declared.lists.GroupRow.{GroupRow}
use Rattle.membership.specs.declared.member_kind.MemberKind.TheVariants.{User, Client, Group}
use Rattle.membership.specs.TextSets.{without}
use Rattle.membership.specs.Members.{Membership}
use Rattle.membership.specs.Lists.{members_in, membership_in}
use Rattle.membership.specs.Changes.{joined, left, with_user, without_user, with_client, without_client, with_groups}

-- the lists with these users
abbrev pub of_users : List (List ℕ) → GroupLists → GroupLists
of_users users lists = record { users = users; clients = lists.clients; groups = lists.groups }

-- with these clients
abbrev pub of_clients : List (List ℕ) → GroupLists → GroupLists
of_clients clients lists = record { users = lists.users; clients = clients; groups = lists.groups }

-- with these rows
abbrev pub of_rows : List GroupRow → GroupLists → GroupLists
of_rows rows lists = record { users = lists.users; clients = lists.clients; groups = rows }

-- the row with these users
abbrev pub row_of_users : List (List ℕ) → GroupRow → GroupRow
row_of_users users row = record { name = row.name; users = users; clients = row.clients; groups = row.groups }

-- with these clients
abbrev pub row_of_clients : List (List ℕ) → GroupRow → GroupRow
row_of_clients clients row = record { name = row.name; users = row.users; clients = clients; groups = row.groups }

-- with these groups
abbrev pub row_of_groups : List (List ℕ) → GroupRow → GroupRow
row_of_groups groups row = record { name = row.name; users = row.users; clients = row.clients; groups = groups }

-- who comes to an organisation and who goes
pub record FollowsLists (lists : GroupLists) (name : List ℕ) : Type 0 where
  pub user_comes : membership_in (of_users (lists.users ++ name ∷ []) lists) ≡ with_user name (membership_in lists)
  pub user_goes : membership_in (of_users (without name lists.users) lists) ≡ without_user name (membership_in lists)
  pub client_comes : membership_in (of_clients (lists.clients ++ name ∷ []) lists) ≡ with_client name (membership_in lists)
  pub client_goes : membership_in (of_clients (without name lists.clients) lists) ≡ without_client name (membership_in lists)

-- who joins a group and who leaves it
pub record FollowsRow (row : GroupRow) (name : List ℕ) : Type 0 where
  pub user_joins : members_in (row_of_users (row.users ++ name ∷ []) row) ≡ joined User name (members_in row)
  pub user_leaves : members_in (row_of_users (without name row.users) row) ≡ left User name (members_in row)
  pub client_joins : members_in (row_of_clients (row.clients ++ name ∷ []) row) ≡ joined Client name (members_in row)
  pub client_leaves : members_in (row_of_clients (without name row.clients) row) ≡ left Client name (members_in row)
  pub group_joins : members_in (row_of_groups (row.groups ++ name ∷ []) row) ≡ joined Group name (members_in row)
  pub group_leaves : members_in (row_of_groups (without name row.groups) row) ≡ left Group name (members_in row)

-- a row that comes last is put in
abbrev pub TakesTheLast : GroupLists → GroupRow → Type 0
TakesTheLast lists row =
    let before : Membership = membership_in lists in
    membership_in (of_rows (lists.groups ++ row ∷ []) lists) ≡ with_groups (finite.insert before.groups row.name (members_in row)) before
