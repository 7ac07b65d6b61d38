-- Who created a list over another.
use Rattle.std.specs.Prelude.{◌≡◌, ℕ, Bool, false, cond, bytes_eq, List, ◌∷◌, ◌++◌, Option, Some, None, slice_get}
use Rattle.access_lists.specs.declared.acl.Acl.{Acl}
use Rattle.access_lists.specs.Acls.{each_entry, with_actor}

-- texts are others with one put in somewhere
abbrev pub IsSpliced : List (List ℕ) → List (List ℕ) → List ℕ → Type 0
IsSpliced texts others text = (front : List (List ℕ)) × (back : List (List ℕ)) × (texts ≡ front ++ text ∷ back) × (others ≡ front ++ back)

-- who is at this index among the actors of the first entry is one more actor in each entry of the base
abbrev pub IsCreatorAt : Acl → Acl → ℕ → Type 0
IsCreatorAt acl base index = (name : List ℕ) × (slice_get acl.create.actors index ≡ Some name) × (acl ≡ each_entry (with_actor name) base)

-- the caller is the creator, if there is one
abbrev pub is_creator : Option (List ℕ) → List ℕ → Bool
is_creator None caller = false
is_creator (Some creator) caller = bytes_eq caller creator

-- who created, unless it is who goes
abbrev pub creator_left : List ℕ → Option (List ℕ) → Option (List ℕ)
creator_left name creator = cond (is_creator creator name) None creator
