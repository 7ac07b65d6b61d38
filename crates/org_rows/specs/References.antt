-- What a row asks of the other rows of its organisation.
use Rattle.std.specs.Prelude.{ℕ, List, [], ◌∷◌, ◌++◌, map, Bool, false, not, ◌&&◌, ◌||◌, cond, bytes_eq, codes, Option, Some, None, option_map, option_and_then, unwrap_or}
use Rattle.std.specs.FinMap as finite
use Rattle.std.specs.FinSet as set
use Rattle.std.specs.List.{list_all, list_any, flat_map}
use Rattle.std.specs.Ordering.{is_lt}
use Rattle.doc_tree.specs.declared.kind.Kind.TheVariants as kinds
use Rattle.membership.specs.Actors.{operator}
use Rattle.membership.specs.Members.{Members}
use Rattle.membership.specs.StartingGroups.{starting_groups}
use Rattle.access_lists.specs.Acls.{entry_of}
use Rattle.access_lists.specs.Starting.{containers, name_of}
use Rattle.access_lists.specs.declared.acl.Acl.{Acl}
use Rattle.access_lists.specs.declared.acl.Entry.{Entry}
use Rattle.access_lists.specs.declared.perm.Perm.TheVariants.{Create, Read, Update, Delete, Grant}
use Rattle.object_store.specs.Keys.{key, same_key}
use Rattle.object_store.specs.declared.key.Key.{Key}
use Rattle.outside_keeper.specs.Rows.{KeptRows, row_cmp}
use Rattle.outside_keeper.specs.declared.row_key.RowKey.{RowKey}
use Rattle.org_shelves.specs.Editions.{sums_in}
use Rattle.org_shelves.specs.Shelved.{Assigned}
use Rattle.sandboxes.specs.declared.stored.Stored.{Stored}
use Rattle.org_rows.specs.Places.{Place, itself, object, user, group, container, version, artifact, revision, policy_group, acl, sandbox, file, row_of, place_of, split_at_slash}
use Rattle.org_rows.specs.Reading.{file_in}
use Rattle.org_rows.specs.Things.{Content, document, members, assigned, list, thing_at}

-- what a row can ask for: a row of a place; that there is no row of a place; an actor: a user, a client or the operator; an
-- object with an access list, by one of its rows; a file that is committed
pub data Need : Type 0 where
  there : Place → Need
  not_there : Place → Need
  actor : List ℕ → Need
  thing : Key → Need
  committed : List ℕ → Need

-- ---- what the rows have

-- the row of a place
abbrev pub has_row : KeptRows → List ℕ → Place → Bool
has_row rows org place = finite.contains_key rows (row_of org place)

-- the place is of this object
abbrev pub is_of_thing : Key → Option Place → Bool
is_of_thing k place = unwrap_or (option_map (same_key k) (option_and_then thing_at place)) false

-- the row is one of this object of an organisation
abbrev pub is_row_of : List ℕ → Key → RowKey → Bool
is_row_of org k row = bytes_eq row.org org && is_of_thing k (place_of row)

-- some row is
abbrev pub has_thing : KeptRows → List ℕ → Key → Bool
has_thing rows org k = list_any (is_row_of org k) (finite.keys rows)

-- a file's row says that it is committed
abbrev pub has_committed : KeptRows → List ℕ → List ℕ → Bool
has_committed rows org sum =
    unwrap_or (option_map (λ (found : Stored). found.committed) (option_and_then file_in (finite.get rows (row_of org (file sum))))) false

-- the rows have what is asked for
abbrev pub is_met : KeptRows → List ℕ → Need → Bool
is_met rows org (there place) = has_row rows org place
is_met rows org (not_there place) = not (has_row rows org place)
is_met rows org (actor name) = bytes_eq name operator || (has_row rows org (user name) || has_row rows org (object (key kinds.Client name)))
is_met rows org (thing k) = has_thing rows org k
is_met rows org (committed sum) = has_committed rows org sum

-- ---- what a row asks for by what it says

-- the actors and groups of an entry
abbrev pub entry_needs : Entry → List Need
entry_needs entry = map actor entry.actors ++ map (λ name. there (group name)) entry.groups

-- those of all five entries of a list
abbrev pub list_needs : Acl → List Need
list_needs found = flat_map (λ permission. entry_needs (entry_of permission found)) (Create ∷ Read ∷ Update ∷ Delete ∷ Grant ∷ [])

-- the users, clients and groups of a group
abbrev pub member_needs : Members → List Need
member_needs found =
    map (λ name. there (user name)) (set.items found.users)
    ++ map (λ name. there (object (key kinds.Client name))) (set.items found.clients)
    ++ map (λ name. there (group name)) (set.items found.groups)

-- the revisions that a policy group assigns
abbrev pub assigned_needs : Assigned → List Need
assigned_needs found = map (λ entry. there (revision entry.0 entry.1)) (finite.entries found)

-- by the content of its body. A document asks for nothing but a manifest, whose files are there and committed
abbrev pub manifest_needs : Content → List Need
manifest_needs (document doc) = map committed (sums_in doc)
manifest_needs other = []

-- the bag of an item
abbrev pub bag_need : List ℕ × List ℕ → List Need
bag_need parts = there (object (key kinds.Bag parts.0)) ∷ []

-- an object that is an item asks for its bag
abbrev pub bag_needs : Key → List Need
bag_needs k = cond (same_key k (key kinds.Item k.name)) (unwrap_or (option_map bag_need (split_at_slash k.name)) []) []

-- members, assignments or a list, as a group, a policy group or an access list says them
abbrev pub said_needs : Content → List Need
said_needs (members found) = member_needs found
said_needs (assigned found) = assigned_needs found
said_needs (list found) = list_needs found
said_needs other = []

-- what the row of a place asks for, whatever other rows there are: a user that no client has its name, an access list that
-- its object is there
abbrev pub own_needs : Place → Content → List Need
own_needs itself content = []
own_needs (object k) content = bag_needs k
own_needs (user name) content = not_there (object (key kinds.Client name)) ∷ []
own_needs (group name) content = said_needs content
own_needs (container name) content = []
own_needs (version name number) content = manifest_needs content
own_needs (artifact name id) content = manifest_needs content
own_needs (revision policy id) content = []
own_needs (policy_group name) content = said_needs content
own_needs (acl k) content = thing k ∷ said_needs content
own_needs (sandbox id) content = []
own_needs (file sum) content = []

-- ---- what the first row asks for

-- no row before this one, in key order, is such a one
abbrev pub is_first : (RowKey → Bool) → KeptRows → RowKey → Bool
is_first is rows row = list_all (λ other. not (is other && is_lt (row_cmp other row))) (finite.keys rows)

-- the row is one of this organisation
abbrev pub is_of_org : List ℕ → RowKey → Bool
is_of_org org row = bytes_eq row.org org

-- what every organisation has: its own row, the starting groups, the containers, and the environment `_default`
abbrev pub starting_needs : List Need
starting_needs =
    there itself
    ∷ there (object (key kinds.Environment (codes "_default")))
    ∷ map (λ name. there (group name)) starting_groups
    ++ map (λ each. there (container (name_of each))) containers

-- an organisation's first row asks for these
abbrev pub org_needs : KeptRows → RowKey → List Need
org_needs rows row = cond (is_first (is_of_org row.org) rows row) starting_needs []

-- and the first row of an object for its access list
abbrev pub list_need : KeptRows → RowKey → Option Key → List Need
list_need rows row None = []
list_need rows row (Some k) = cond (is_first (is_row_of row.org k) rows row) (there (acl k) ∷ []) []

-- all that a row asks for
abbrev pub needs_of : KeptRows → RowKey → Place → Content → List Need
needs_of rows row place content = org_needs rows row ++ list_need rows row (thing_at place) ++ own_needs place content

-- the rows have all that the row asks for
abbrev pub has_references : KeptRows → RowKey → Place → Content → Bool
has_references rows row place content = list_all (is_met rows row.org) (needs_of rows row place content)
