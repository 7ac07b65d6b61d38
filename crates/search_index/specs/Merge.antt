-- New pairs settled beside the postings that an object has, for the private clauses.
use Rattle.std.specs.Prelude.{◌≡◌, ◌≢◌, ℕ, ◌+◌, ◌-◌, ◌≤◌, ◌++◌, List, length, Option, Some}
use Rattle.search_query.specs.Pair.{Pair}
use Rattle.search_index.specs.declared.key.ObjectKey.{ObjectKey}
use Rattle.ordered_keys.specs.Keys.{Keys, key_of}
use Rattle.ordered_keys.specs.Numbers.{Among}
use Rattle.search_index.specs.Chains.{first_in}
use Rattle.search_index.specs.KeyOrder.{TermKey, object_key}
use Rattle.search_index.specs.Net.{IsCut, IsOf, Net, held, used}
use Rattle.search_index.specs.Arena.{IsTied, Member}

-- the term of a pair in a scope
abbrev pub term_of_pair : ℕ → Pair → TermKey
term_of_pair scope p = record { scope = scope; pair = p }

-- the pair of a term
abbrev pub pair_in : TermKey → Pair
pair_in y = y.pair

-- what stood before: the keys and the postings, and the name and the new pairs of the object, the last of which comes first
pub record Start : Type 0 where
  pub objects : Keys ObjectKey
  pub terms : Keys TermKey
  pub net : Net
  pub name : List ℕ
  pub pairs : List Pair

-- the places of the object up to this one have just the pairs that are settled, those behind it are old ones, and all other objects have what they had
pub record Merges (was : Start) (terms : Keys TermKey) (net : Net) (number object : ℕ) (left : List Pair) (before : Option ℕ) : Type 0 where
  pub done : List Pair
  pub parts : was.pairs ≡ left ++ done
  pub front : List ℕ
  pub back : List ℕ
  pub cut : IsCut net object before front back
  pub mine : key_of was.objects object ≡ Some (object_key number was.name)
  pub tied : IsTied was.objects terms net
  pub others_kept : (q i j : ℕ) → i ≢ object → held was.net q ≡ Some (i, j) → held net q ≡ Some (i, j)
  pub others_from : (q i j : ℕ) → i ≢ object → held net q ≡ Some (i, j) → held was.net q ≡ Some (i, j)
  pub terms_kept : (q i j : ℕ) (y : TermKey) → i ≢ object → held was.net q ≡ Some (i, j) → key_of was.terms j ≡ Some y → key_of terms j ≡ Some y
  pub given : (p : Pair) → Member done p → (q j : ℕ) × Among front q × (held net q ≡ Some (object, j)) × (key_of terms j ≡ Some (term_of_pair number p))
  pub only : (q : ℕ) → Among front q → (j : ℕ) × (p : Pair) × (held net q ≡ Some (object, j)) × (key_of terms j ≡ Some (term_of_pair number p)) × Member done p
  pub used_is : used net ≤ used was.net + length done
  pub capacity : net.capacity ≡ was.net.capacity
  pub room : was.terms.room ≤ terms.room + length done
  pub room_first : length was.pairs ≤ was.terms.room
  pub place_first : length was.pairs ≤ was.net.capacity - used was.net

-- the posting behind a place is the object's with this pair
abbrev pub HasNext : Keys TermKey → Net → ℕ → Option ℕ → Pair → Type 0
HasNext terms net object before p = (front back : List ℕ) → IsCut net object before front back → (place j : ℕ) × (y : TermKey) × (first_in back ≡ Some place) × (held net place ≡ Some (object, j)) × (key_of terms j ≡ Some y) × (pair_in y ≡ p)

-- no posting of the object stands behind a place
abbrev pub HasAll : Net → ℕ → Option ℕ → Type 0
HasAll net object before = (front back : List ℕ) → IsCut net object before front back → (q : ℕ) → IsOf net object q → Among front q
