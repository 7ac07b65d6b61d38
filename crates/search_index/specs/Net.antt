-- Postings in their places, for the private clauses.
use Rattle.std.specs.Prelude.{◌≡◌, ◌≢◌, ◌↔◌, ℕ, ◌+◌, ◌≤◌, ◌++◌, replicate, List, [], ◌∷◌, length, map, Option, Some, None, is_some, option_map, count_by, slice_index_or, slice_set, refl}
use Rattle.std.specs.Coded.{Coded, code_by, coded×, coded_ℕ, coded_list, coded_option}
use Rattle.search_index.specs.Place.{no_number}
use Rattle.search_index.specs.Places.{Places, get, with_value, taken_count}
use Rattle.search_index.specs.Posting.{link_of, owner_in, pair_of, other_side}
use Rattle.ordered_keys.specs.Numbers.{Among}
use Rattle.search_index.specs.Chains.{HasChain, IsLinked, IsWithout, last_from, next_in, walk}
use Rattle.search_index.specs.declared.posting.Link.{Link}
use Rattle.search_index.specs.declared.posting.Side.{Side}
use Rattle.search_index.specs.declared.posting.Side.TheVariants as side
use Rattle.search_index.specs.declared.posting.Posting.{Posting}

-- the links of one kind
abbrev pub links : Side → Places → ℕ → Option Link
links s items p = option_map (link_of s) (get items p)

-- the object and the term of the posting in a place
abbrev pub pairs : Places → ℕ → Option (ℕ × ℕ)
pairs items p = option_map pair_of (get items p)

-- the owner of a place
abbrev pub owners : Side → (ℕ → Option (ℕ × ℕ)) → ℕ → Option ℕ
owners s held p = option_map (owner_in s) (held p)

-- the postings, with another in a place where one stands
abbrev pub changed_at : Places → Option ℕ → (Posting → Posting) → Places
changed_at items None f = items
changed_at items (Some p) f = elim (get items p) [ None ↦ items | Some x ↦ with_value items p (f x) ]

-- the heads with another first place, where nothing stood before
abbrev pub heads_without : List (Option ℕ) → ℕ → Option ℕ → Option ℕ → List (Option ℕ)
heads_without heads h None next = slice_set heads h next
heads_without heads h (Some b) next = heads

-- a place was taken out of a chain
pub record Unlinks (s : Side) (old new : Places) (heads less : List (Option ℕ)) (place : ℕ) : Type 0 where
  pub linked : (owner : ℕ → Option ℕ) → IsWithout (owners s (pairs old)) owner place → IsLinked (links s new) owner less
  pub pairs : (q : ℕ) → pairs new q ≡ pairs old q
  pub other : (q : ℕ) → links (other_side s) new q ≡ links (other_side s) old q
  pub len : taken_count new ≡ taken_count old
  pub capacity : new.capacity ≡ old.capacity
  pub count : length less ≡ length heads
  pub chain : (h : ℕ) (front back : List ℕ) → HasChain (links s old) heads h (front ++ place ∷ back) → HasChain (links s new) less h (front ++ back)

-- the place behind another in the chain of an object, or the first place
abbrev pub place_behind : Places → List (Option ℕ) → ℕ → Option ℕ → Option ℕ
place_behind items heads object None = slice_index_or heads object None
place_behind items heads object (Some b) = next_in (links side.Object items b)

-- postings as contracts see them: the object and the term in each place, how many fit, how many objects and terms have a chain, and the places of each object in the order of its chain
pub record Net : Type 0 where
  pub slots : List (Option (ℕ × ℕ))
  pub capacity : ℕ
  pub objects : ℕ
  pub terms : ℕ
  pub order : List (List ℕ)

-- how the logic stores them
abbrev pub net_code : Coded Net
net_code = code_by (List (Option (ℕ × ℕ)) × (ℕ × (ℕ × (ℕ × List (List ℕ))))) (coded× (coded_list (coded_option (coded× coded_ℕ coded_ℕ))) (coded× coded_ℕ (coded× coded_ℕ (coded× coded_ℕ (coded_list (coded_list coded_ℕ))))))
    (λ n. (n.slots, (n.capacity, (n.objects, (n.terms, n.order))))) (λ p. record { slots = p.0; capacity = p.1.0; objects = p.1.1.0; terms = p.1.1.1.0; order = p.1.1.1.1 }) (λ _. refl)

-- the object and the term in a place
abbrev pub held : Net → ℕ → Option (ℕ × ℕ)
held net q = slice_index_or net.slots q None

-- the places of an object, in the order of its chain
abbrev pub order_of : Net → ℕ → List ℕ
order_of net object = slice_index_or net.order object []

-- how many places are taken
abbrev pub used : Net → ℕ
used net = count_by is_some net.slots

-- what contracts see
abbrev pub net_of : Places → List (Option ℕ) → List (Option ℕ) → Net
net_of items objects terms = record { slots = map (option_map pair_of) items.slots; capacity = items.capacity; objects = length objects; terms = length terms; order = map (walk (links side.Object items) (length items.slots)) objects }

-- both kinds of chains lead to just the places of their owners
pub record IsSound (items : Places) (objects terms : List (Option ℕ)) : Type 0 where
  pub of_objects : IsLinked (links side.Object items) (owners side.Object (pairs items)) objects
  pub of_terms : IsLinked (links side.Term items) (owners side.Term (pairs items)) terms

-- besides, each object and each term has a number
pub record IsKept (items : Places) (objects terms : List (Option ℕ)) : Type 0 where
  pub sound : IsSound items objects terms
  pub objects_numbered : length objects ≤ no_number
  pub terms_numbered : length terms ≤ no_number

-- one place has something else in it
pub record Changes (old new : ℕ → Option (ℕ × ℕ)) (place : ℕ) (now : Option (ℕ × ℕ)) : Type 0 where
  pub at : new place ≡ now
  pub others : (q : ℕ) → q ≢ place → new q ≡ old q

-- the same room, and the same number of chains
pub record SameSize (old new : Net) : Type 0 where
  pub capacity : new.capacity ≡ old.capacity
  pub objects : new.objects ≡ old.objects
  pub terms : new.terms ≡ old.terms

-- a posting of this object and this term was taken out
pub record Takes (old new : Net) (object term : ℕ) : Type 0 where
  pub place : ℕ
  pub was : held old place ≡ Some (object, term)
  pub changes : Changes (held old) (held new) place None
  pub used : used new + 1 ≡ used old
  pub size : SameSize old new

-- a posting of this object and this term was put in
pub record Adds (old new : Net) (object term : ℕ) : Type 0 where
  pub place : ℕ
  pub was : held old place ≡ None
  pub changes : Changes (held old) (held new) place (Some (object, term))
  pub used : used new ≡ used old + 1
  pub size : SameSize old new

-- these are the places of the object up to this one, and those behind it
pub record IsCut (net : Net) (object : ℕ) (before : Option ℕ) (front back : List ℕ) : Type 0 where
  pub parts : order_of net object ≡ front ++ back
  pub last : last_from None front ≡ before

-- the place is one of the object's, or none
abbrev pub IsBehind : Net → ℕ → Option ℕ → Type 0
IsBehind net object before = (front back : List ℕ) × IsCut net object before front back

-- a posting of this object and this term was put in, in this place, which comes behind another
pub record AddsAt (old new : Net) (object term : ℕ) (before place : Option ℕ) : Type 0 where
  pub adds : Adds old new object term
  pub at : place ≡ Some adds.place
  pub order : (front back : List ℕ) → IsCut old object before front back → order_of new object ≡ front ++ adds.place ∷ back

-- some posting says that the object has the term
abbrev pub Has : Net → ℕ → ℕ → Type 0
Has net object term = (q : ℕ) × (held net q ≡ Some (object, term))

-- some posting of this owner has that at its other side
abbrev pub Leads : Side → Places → ℕ → ℕ → Type 0
Leads s items owner other = (q : ℕ) × (owners s (pairs items) q ≡ Some owner) × (owners (other_side s) (pairs items) q ≡ Some other)

-- a posting of the object is in the place
abbrev pub IsOf : Net → ℕ → ℕ → Type 0
IsOf net object q = (term : ℕ) × (held net q ≡ Some (object, term))

-- the places of an object are just those of its postings
abbrev pub IsListed : Net → ℕ → Type 0
IsListed net object = (q : ℕ) → Among (order_of net object) q ↔ IsOf net object q

-- the posting in this place was taken out, which is of this term, and the others of its object are in their order
pub record TakesAt (old new : Net) (place term : ℕ) : Type 0 where
  pub object : ℕ
  pub takes : Takes old new object term
  pub at : takes.place ≡ place
  pub order : (i : ℕ) (front back : List ℕ) → order_of old i ≡ front ++ place ∷ back → order_of new i ≡ front ++ back
  pub listed : (i : ℕ) → IsListed new i

-- no posting is of this object
abbrev pub HasNone : Net → ℕ → Type 0
HasNone net object = (term : ℕ) → Has net object term → ⊥

-- no posting is of this term
abbrev pub IsUnused : Net → ℕ → Type 0
IsUnused net term = (object : ℕ) → Has net object term → ⊥

-- more heads, which lead nowhere
abbrev pub Pads : List (Option ℕ) → List (Option ℕ) → Type 0
Pads old new = (n : ℕ) × (new ≡ old ++ replicate n None)

-- the same postings, and no less room
pub record Widens (old new : Net) : Type 0 where
  pub slots : new.slots ≡ old.slots
  pub capacity : old.capacity ≤ new.capacity
  pub objects : old.objects ≤ new.objects
  pub terms : old.terms ≤ new.terms

-- there is room for so many more postings, and chains for so many objects and terms
pub record IsWide (net : Net) (postings objects terms : ℕ) : Type 0 where
  pub fits : used net + postings ≤ net.capacity
  pub for_objects : objects ≤ net.objects
  pub for_terms : terms ≤ net.terms
