-- When a finder is exact for the objects of an organisation.
use Rattle.std.specs.Prelude.{◌≡◌, ℕ, false, List, Option, Some, None, bytes_eq, is_some}
use Rattle.object_store.specs.Objects.{Objects}
use Rattle.search_query.specs.Pair.{Pair, lists}
use Rattle.object_finder.specs.Held.{Held}
use Rattle.object_finder.specs.Indexes.{found_by, pairs_by}

-- it holds under the organisation's name, for each index and object, the object's pairs and no others, and nothing under
-- any word that has no index. Items of a bag that is named like one of the four indexes are in no index
pub record HoldsExactly (held : Held) (org : List ℕ) (objects : Objects) : Type 0 where
  pub there : (word name : List ℕ) → held.has_object org word name ≡ is_some (found_by word name objects)
  pub pairs : (word name : List ℕ) (pair : Pair) → held.has_pair org word name pair ≡ lists (pairs_by word name objects) pair

-- a finder that holds nothing at all, and looks at the objects, is exact for all
abbrev pub IsExact : Option Held → List ℕ → Objects → Type 0
IsExact None org objects = Unit {0}
IsExact (Some held) org objects = HoldsExactly held org objects

-- what is held of every other organisation is as before
pub record OthersStay (org : List ℕ) (old new : Held) : Type 0 where
  pub objects : (other index name : List ℕ) → bytes_eq org other ≡ false → new.has_object other index name ≡ old.has_object other index name
  pub pairs : (other index name : List ℕ) (pair : Pair) → bytes_eq org other ≡ false → new.has_pair other index name pair ≡ old.has_pair other index name pair

-- the same of any finder: one that holds nothing holds nothing afterwards
abbrev pub HoldsOthers : List ℕ → Option Held → Option Held → Type 0
HoldsOthers org None None = Unit {0}
HoldsOthers org None (Some new) = ⊥
HoldsOthers org (Some old) None = ⊥
HoldsOthers org (Some old) (Some new) = OthersStay org old new
