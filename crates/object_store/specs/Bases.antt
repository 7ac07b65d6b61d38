-- How access lists are kept: bases that lists share, each under a number with how often it is used, and for each key the
-- number of its base and who created the object.
use Rattle.std.specs.Prelude.{◌≡◌, ◌==◌, ℕ, ◌+◌, ◌-◌, ◌<◌, ◌≤◌, cond, List, [], map, count_by, Option, Some, None, option_map}
use Rattle.std.specs.FinMap as finite
use Rattle.slab.specs.Slab.{Slab, get, slab_len}
use Rattle.access_lists.specs.declared.acl.Acl.{Acl}
use Rattle.access_lists.specs.declared.acl.Entry.{Entry}
use Rattle.access_lists.specs.Acls.{with_creator}
use Rattle.access_lists.specs.Creators.{creator_left}
use Rattle.access_lists.specs.Forms.{IsAcl}
use Rattle.object_store.specs.declared.bases.Base.{Base}
use Rattle.object_store.specs.declared.bases.Share.{Share}
use Rattle.object_store.specs.declared.key.Key.{Key}
use Rattle.object_store.specs.Objects.{Lists}

-- bases under their numbers
abbrev pub Bases : Type 0
Bases = Slab Base

-- an entry, and a list, of nobody
abbrev pub no_entry : Entry
no_entry = record { actors = []; groups = [] }

abbrev pub no_list : Acl
no_list = record { create = no_entry; read = no_entry; update = no_entry; delete = no_entry; grant = no_entry }

-- how often a base is used, if there is one
abbrev pub uses_of : Option Base → ℕ
uses_of None = 0
uses_of (Some base) = base.uses

-- the list of a base, if there is one
abbrev pub acl_of : Option Base → Acl
acl_of None = no_list
acl_of (Some base) = base.acl

abbrev pub uses_at : Bases → ℕ → ℕ
uses_at bases n = uses_of (get bases n)

abbrev pub acl_at : Bases → ℕ → Acl
acl_at bases n = acl_of (get bases n)

-- how many more bases fit without memory
abbrev pub room : Bases → ℕ
room bases = bases.capacity - slab_len bases

-- the list of a share: its base, with who created as one more actor in each entry
abbrev pub list_of : Bases → Share → Acl
list_of bases share = with_creator share.creator (acl_at bases share.base)

-- the lists that are kept so
abbrev pub seen : Bases → List (Key × Share) → Lists
seen bases entries = finite.from_entries (map (λ (e : Key × Share). (e.0, list_of bases e.1)) entries)

-- how many keys use the base of this number
abbrev pub uses_in : ℕ → List (Key × Share) → ℕ
uses_in n entries = count_by (λ (e : Key × Share). e.1.base == n) entries

-- each base is used
abbrev pub AreUsed : Bases → Type 0
AreUsed bases = (n : ℕ) → (base : Base) → get bases n ≡ Some base → 0 < base.uses

-- each base is used, and just as often as it counts
pub record IsKept (entries : List (Key × Share)) (bases : Bases) : Type 0 where
  pub counted : (n : ℕ) → uses_at bases n ≡ uses_in n entries
  pub used : AreUsed bases

-- one use at a number
abbrev pub one_at : ℕ → ℕ → ℕ
one_at number n = cond (number == n) 1 0

-- one use more of the base of this number, and the lists of those that were used stay
pub record Adds (old new : Bases) (number : ℕ) : Type 0 where
  pub uses : (n : ℕ) → uses_at new n ≡ uses_at old n + one_at number n
  pub acls : (n : ℕ) → 0 < uses_at old n → acl_at new n ≡ acl_at old n
  pub used : AreUsed old → AreUsed new
  pub capacity : new.capacity ≡ old.capacity
  pub len : slab_len new ≤ slab_len old + 1

-- one use fewer, and the lists of those that are still used stay
pub record Loses (old new : Bases) (number : ℕ) : Type 0 where
  pub uses : (n : ℕ) → uses_at new n + one_at number n ≡ uses_at old n
  pub acls : (n : ℕ) → 0 < uses_at new n → acl_at new n ≡ acl_at old n
  pub used : AreUsed old → AreUsed new
  pub capacity : new.capacity ≡ old.capacity
  pub len : slab_len new ≤ slab_len old

-- the base of this number can be used once more
abbrev pub CanAdd : Bases → ℕ → Type 0
CanAdd bases number = (base : Base) × (get bases number ≡ Some base) × (base.uses < 18446744073709551615)

-- a base with its list changed
abbrev pub with_acl : (Acl → Acl) → Base → Base
with_acl change base = record { acl = change base.acl; uses = base.uses }

-- each base has its list changed alike
pub record Changes (change : Acl → Acl) (old new : Bases) : Type 0 where
  pub each : (n : ℕ) → get new n ≡ option_map (with_acl change) (get old n)
  pub capacity : new.capacity ≡ old.capacity
  pub len : slab_len new ≡ slab_len old

-- the lists of the bases have entries that rise
abbrev pub AreAcls : Bases → Type 0
AreAcls bases = (n : ℕ) → (base : Base) → get bases n ≡ Some base → IsAcl base.acl

-- a share without this actor as who created
abbrev pub share_left : List ℕ → Share → Share
share_left name share = record { creator = creator_left name share.creator; base = share.base }
