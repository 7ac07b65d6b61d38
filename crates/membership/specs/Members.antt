-- An organisation's users, clients and groups, by their names.
use Rattle.std.specs.Prelude.{ℕ, List, refl}
use Rattle.std.specs.Coded.{Coded, code_by, coded×, coded_list, coded_ℕ}
use Rattle.std.specs.FinMap as finite
use Rattle.std.specs.FinSet as set
use Rattle.doc_tree.specs.Text.{text_cmp}
use Rattle.membership.specs.TextSets.{Names}

-- the members of a group
pub record Members : Type 0 where
  pub users : Names
  pub clients : Names
  pub groups : Names

-- a group that has no members
abbrev pub no_members : Members
no_members = record { users = set.empty; clients = set.empty; groups = set.empty }

-- the members of groups, by the groups' names
abbrev pub GroupsByName : Type 0
GroupsByName = finite.FinMap text_cmp Members

-- an organisation's users and clients, and its groups
pub record Membership : Type 0 where
  pub users : Names
  pub clients : Names
  pub groups : GroupsByName

-- an organisation that has nobody
abbrev pub nobody : Membership
nobody = record { users = set.empty; clients = set.empty; groups = finite.empty }

-- numbers by names
abbrev pub Rooms : Type 0
Rooms = finite.FinMap text_cmp ℕ

-- how the logic stores a text, and a set of texts
abbrev pub name_code : Coded (List ℕ)
name_code = coded_list coded_ℕ

abbrev pub names_code : Coded Names
names_code = set.code name_code

-- members as the three sets
abbrev pub members_code : Coded Members
members_code = code_by (Names × (Names × Names)) (coded× names_code (coded× names_code names_code)) (λ m. (m.users, (m.clients, m.groups))) (λ p. record { users = p.0; clients = p.1.0; groups = p.1.1 }) (λ _. refl)

-- groups as a map
abbrev pub groups_code : Coded GroupsByName
groups_code = finite.code name_code members_code

-- what an organisation has as two sets and a map
abbrev pub membership_code : Coded Membership
membership_code = code_by (Names × (Names × GroupsByName)) (coded× names_code (coded× names_code groups_code)) (λ m. (m.users, (m.clients, m.groups))) (λ p. record { users = p.0; clients = p.1.0; groups = p.1.1 }) (λ _. refl)
