-- The state of an organisation: none, or what it holds.
use Rattle.std.specs.Prelude.{◌≡◌, Bool, true, false, ℕ, List, Option, Some, None, refl, is_some}
use Rattle.std.specs.declared.cmp.Ordering.{Ordering}
use Rattle.std.specs.Ordering.{nat_cmp}
use Rattle.std.specs.Cmp.Lexicographic.{slice_cmp}
use Rattle.std.specs.Coded.{Coded, code_by, coded_list, coded_ℕ, coded_bool, coded×}
use Rattle.std.specs.FinMap as map
use Rattle.doc_tree.specs.Doc.{Doc}
use Rattle.doc_tree.specs.declared.kind.Kind.{Kind}
use Rattle.membership.specs.Members.{Membership, nobody}
use Rattle.membership.specs.Rooms as groups
use Rattle.access_lists.specs.declared.acl.Acl.{Acl}
use Rattle.object_store.specs.Objects.{Objects, Lists, key, Store, store_code, smaller}
use Rattle.object_store.specs.declared.key.Key.{Key}
use Rattle.org_shelves.specs.Shelved as shelves
use Rattle.org_shelves.specs.Shelved.{Cookbooks, Shelved}

-- what an organisation that is there holds: its objects, their access lists, its users, clients and groups, and what it
-- keeps on shelves: versions of cookbooks, artifacts, policies and policy groups
pub record Organisation : Type 0 where
  pub objects : Objects
  pub lists : Lists
  pub membership : Membership
  pub shelved : Shelved

-- none, or an organisation that is there
abbrev pub State : Type 0
State = Option Organisation

-- an organisation without anything
abbrev pub nothing : Organisation
nothing = record { objects = map.empty; lists = map.empty; membership = nobody; shelved = shelves.nothing }

-- the objects of a state, of which none has any
abbrev pub objects_of : State → Objects
objects_of None = map.empty
objects_of (Some organisation) = organisation.objects

-- its access lists
abbrev pub lists_of : State → Lists
lists_of None = map.empty
lists_of (Some organisation) = organisation.lists

-- its users, clients and groups
abbrev pub membership_of : State → Membership
membership_of None = nobody
membership_of (Some organisation) = organisation.membership

-- what it keeps on shelves
abbrev pub shelved_of : State → Shelved
shelved_of None = shelves.nothing
shelved_of (Some organisation) = organisation.shelved

-- its cookbook versions
abbrev pub cookbooks_of : State → Cookbooks
cookbooks_of state = (shelved_of state).cookbooks

-- the access list of the object of this key
abbrev pub list_in : State → Key → Option Acl
list_in state k = map.get (lists_of state) k

-- the object of this kind and name
abbrev pub object_in : State → Kind → List ℕ → Option Doc
object_in state kind name = map.get (objects_of state) (key kind name)

-- it is there
abbrev pub has_object : State → Kind → List ℕ → Bool
has_object state kind name = is_some (object_in state kind name)

-- what is kept of an organisation: its name, whether it is there, its objects and their lists, its users, clients and
-- groups, and its shelves, all with room for more. One that isn't there holds nothing, and may have room
pub record Kept : Type 0 where
  pub name : List ℕ
  pub there : Bool
  pub objects : Store
  pub groups : groups.Kept
  pub shelves : shelves.Kept

-- who isn't there holds nothing
abbrev pub IsNobody : Bool → Store → groups.Kept → shelves.Kept → Type 0
IsNobody there store members on =
    there ≡ false → (store.objects ≡ map.empty) × (store.lists ≡ map.empty) × (members.membership ≡ nobody) × (on.shelved ≡ shelves.nothing)

-- the state, for which room doesn't count
abbrev pub state_from : Bool → Store → groups.Kept → shelves.Kept → State
state_from false store members on = None
state_from true store members on = Some (record { objects = store.objects; lists = store.lists; membership = members.membership; shelved = on.shelved })

-- the state of an organisation as it is kept
abbrev pub state_in : Kept → State
state_in kept = state_from kept.there kept.objects kept.groups kept.shelves

-- how many more objects, lists, users, clients and groups can be put in without memory, of each
abbrev pub room_for : Store → groups.Kept → ℕ
room_for store members = smaller store.spare members.spare

-- what is kept is stored as its five parts
abbrev pub kept_code : Coded Kept
kept_code =
    code_by (List ℕ × (Bool × (Store × (groups.Kept × shelves.Kept))))
    (coded× (coded_list coded_ℕ) (coded× coded_bool (coded× store_code (coded× groups.kept_code shelves.kept_code))))
    (λ k. (k.name, (k.there, (k.objects, (k.groups, k.shelves)))))
    (λ p. record { name = p.0; there = p.1.0; objects = p.1.1.0; groups = p.1.1.1.0; shelves = p.1.1.1.1 }) (λ _. refl)
