-- Scopes, objects and terms under numbers, and the postings between them.
use Rattle.std.specs.Prelude.{◌≡◌, ◌⊎◌, ◌↔◌, ℕ, ◌+◌, ◌-◌, ◌≤◌, ◌++◌, List, [], ◌∷◌, length, Option, min, Some, IsSome, refl}
use Rattle.std.specs.Coded.{Coded, code_by, coded×, coded_list, coded_ℕ}
use Rattle.search_query.specs.Pair.{Pair}
use Rattle.search_index.specs.declared.scope.Scope.{Scope}
use Rattle.search_index.specs.declared.key.ObjectKey.{ObjectKey}
use Rattle.ordered_keys.specs.Keys.{Keys, IsOnce, Numbers, key_of, keys_code}
use Rattle.search_index.specs.Net.{Net, Adds, IsCut, IsListed, IsUnused, Takes, held, net_code, order_of, used}
use Rattle.search_index.specs.KeyOrder.{TermKey, object_key, term_code}

-- what an index has: scopes, objects and terms under numbers, and the postings between these
pub record Contents : Type 0 where
  pub scopes : Keys Scope
  pub objects : Keys ObjectKey
  pub terms : Keys TermKey
  pub net : Net

-- the pair is one of these
abbrev pub Member : List Pair → Pair → Type 0
Member [] p = ⊥
Member (x ∷ xs) p = (x ≡ p) ⊎ Member xs p

-- the object of this scope and name is there
abbrev pub HasObject : Contents → Scope → List ℕ → Type 0
HasObject c scope name = (a i : ℕ) × (key_of c.scopes a ≡ Some scope) × (key_of c.objects i ≡ Some (object_key a name))

-- the object of this scope and name has the pair
abbrev pub Holds : Contents → Scope → List ℕ → Pair → Type 0
Holds c scope name p = (a i j q : ℕ) × (key_of c.scopes a ≡ Some scope) × (key_of c.objects i ≡ Some (object_key a name)) × (key_of c.terms j ≡ Some (record { scope = a; pair = p })) × (held c.net q ≡ Some (i, j))

-- these are the pairs of the object of this scope and name
abbrev pub ArePairs : Contents → Scope → List ℕ → List Pair → Type 0
ArePairs c scope name pairs = (p : Pair) → Member pairs p ↔ Holds c scope name p

-- how many more objects, postings and terms fit without memory
pub record Room : Type 0 where
  pub objects : ℕ
  pub postings : ℕ
  pub terms : ℕ

-- how many more fit
abbrev pub room_of : Contents → Room
room_of c = record { objects = min c.scopes.room c.objects.room; postings = c.net.capacity - used c.net; terms = c.terms.room }

-- there is so much room
pub record HasRoom (c : Contents) (objects postings terms : ℕ) : Type 0 where
  pub for_objects : objects ≤ (room_of c).objects
  pub for_postings : postings ≤ (room_of c).postings
  pub for_terms : terms ≤ (room_of c).terms

-- the room is what it was, or less by no more than this
pub record LosesRoom (old new : Contents) (objects postings terms : ℕ) : Type 0 where
  pub for_objects : (room_of old).objects ≤ (room_of new).objects + objects
  pub for_postings : (room_of old).postings ≤ (room_of new).postings + postings
  pub for_terms : (room_of old).terms ≤ (room_of new).terms + terms

-- the same objects with the same pairs
pub record SameObjects (old new : Contents) : Type 0 where
  pub objects : (scope : Scope) (name : List ℕ) → HasObject new scope name ↔ HasObject old scope name
  pub pairs : (scope : Scope) (name : List ℕ) (p : Pair) → Holds new scope name p ↔ Holds old scope name p

-- this object more, with these pairs
pub record AddsObject (old new : Contents) (scope : Scope) (name : List ℕ) (pairs : List Pair) : Type 0 where
  pub objects : (s : Scope) (n : List ℕ) → HasObject new s n ↔ (HasObject old s n ⊎ ((s ≡ scope) × (n ≡ name)))
  pub pairs_are : (s : Scope) (n : List ℕ) (p : Pair) → Holds new s n p ↔ (Holds old s n p ⊎ ((s ≡ scope) × (n ≡ name) × Member pairs p))

-- this object gone with its pairs, and no other
pub record DropsObject (old new : Contents) (scope : Scope) (name : List ℕ) : Type 0 where
  pub objects : (s : Scope) (n : List ℕ) → HasObject new s n ↔ (HasObject old s n × (((s ≡ scope) × (n ≡ name)) → ⊥))
  pub pairs_are : (s : Scope) (n : List ℕ) (p : Pair) → Holds new s n p ↔ (Holds old s n p × (((s ≡ scope) × (n ≡ name)) → ⊥))

-- this object has these pairs and no others now, whether it was there or not, and all else is as before
pub record ReplacesObject (old new : Contents) (scope : Scope) (name : List ℕ) (pairs : List Pair) : Type 0 where
  pub objects : (s : Scope) (n : List ℕ) → HasObject new s n ↔ ((HasObject old s n × (((s ≡ scope) × (n ≡ name)) → ⊥)) ⊎ ((s ≡ scope) × (n ≡ name)))
  pub pairs_are : (s : Scope) (n : List ℕ) (p : Pair) → Holds new s n p ↔ ((Holds old s n p × (((s ≡ scope) × (n ≡ name)) → ⊥)) ⊎ ((s ≡ scope) × (n ≡ name) × Member pairs p))

-- how the logic stores a scope
abbrev pub scope_code : Coded Scope
scope_code = code_by (List ℕ × List ℕ) (coded× (coded_list coded_ℕ) (coded_list coded_ℕ)) (λ s. (s.org, s.index)) (λ p. record { org = p.0; index = p.1 }) (λ _. refl)

-- how the logic stores an object's key
abbrev pub object_code : Coded ObjectKey
object_code = code_by (ℕ × List ℕ) (coded× coded_ℕ (coded_list coded_ℕ)) (λ k. (k.scope, k.name)) (λ p. record { scope = p.0; name = p.1 }) (λ _. refl)

-- how the logic stores what an index has
abbrev pub contents_code : Coded Contents
contents_code = code_by (Keys Scope × (Keys ObjectKey × (Keys TermKey × Net))) (coded× (keys_code scope_code) (coded× (keys_code object_code) (coded× (keys_code term_code) net_code)))
    (λ c. (c.scopes, (c.objects, (c.terms, c.net)))) (λ p. record { scopes = p.0; objects = p.1.0; terms = p.1.1.0; net = p.1.1.1 }) (λ _. refl)

-- an object stands under this number, and its scope under that
pub record StandsAt (c : Contents) (scope : Scope) (name : List ℕ) (number object : ℕ) : Type 0 where
  pub scope_at : key_of c.scopes number ≡ Some scope
  pub object_at : key_of c.objects object ≡ Some (object_key number name)

-- a posting's object and term are there, of one scope
pub record IsJoined (objects : Keys ObjectKey) (terms : Keys TermKey) (i j : ℕ) : Type 0 where
  pub object : ObjectKey
  pub term : TermKey
  pub object_at : key_of objects i ≡ Some object
  pub term_at : key_of terms j ≡ Some term
  pub scope : object.scope ≡ term.scope

-- each posting's object and term are there, each term has a posting, and there is a chain for each number
pub record IsTied (objects : Keys ObjectKey) (terms : Keys TermKey) (net : Net) : Type 0 where
  pub joined : (q i j : ℕ) → held net q ≡ Some (i, j) → IsJoined objects terms i j
  pub used_terms : (j : ℕ) (y : TermKey) → key_of terms j ≡ Some y → IsUnused net j → ⊥
  pub objects_once : IsOnce objects
  pub terms_once : IsOnce terms
  pub object_heads : length objects.slots ≤ net.objects
  pub term_heads : length terms.slots ≤ net.terms

-- what an index keeps: besides, each object's scope is there
pub record IsWhole (c : Contents) : Type 0 where
  pub tied : IsTied c.objects c.terms c.net
  pub scopes_once : IsOnce c.scopes
  pub scoped : (i : ℕ) (x : ObjectKey) → key_of c.objects i ≡ Some x → IsSome (key_of c.scopes x.scope)

-- each posting's term is there
abbrev pub TermsThere : Keys TermKey → Net → Type 0
TermsThere terms net = (q i j : ℕ) → held net q ≡ Some (i, j) → IsSome (key_of terms j)

-- a term was put in where it wasn't there, and a posting of an object and it
pub record AddsTerm (terms more : Keys TermKey) (net wider : Net) (object : ℕ) (key : TermKey) : Type 0 where
  pub term : ℕ
  pub numbers : Numbers terms more key term
  pub adds : Adds net wider object term

-- the same, and the posting comes behind this place of its object
pub record AddsBehind (terms more : Keys TermKey) (net wider : Net) (object : ℕ) (key : TermKey) (before place : Option ℕ) : Type 0 where
  pub first : AddsTerm terms more net wider object key
  pub at : place ≡ Some first.adds.place
  pub order : (front back : List ℕ) → IsCut net object before front back → order_of wider object ≡ front ++ first.adds.place ∷ back

-- a term was taken out where no posting is of it
pub record DropsUnused (terms fewer : Keys TermKey) (net : Net) (term : ℕ) : Type 0 where
  pub kept : (j : ℕ) (y : TermKey) → key_of terms j ≡ Some y → (j ≡ term → IsUnused net term → ⊥) → key_of fewer j ≡ Some y
  pub from : (j : ℕ) (y : TermKey) → key_of fewer j ≡ Some y → (key_of terms j ≡ Some y) × (j ≡ term → IsUnused net term → ⊥)
  pub room : terms.room ≤ fewer.room
  pub size : length fewer.slots ≡ length terms.slots

-- a posting of an object was taken out, and its term where it was the last
pub record DropsFirst (terms fewer : Keys TermKey) (net less : Net) (object : ℕ) : Type 0 where
  pub term : ℕ
  pub takes : Takes net less object term
  pub drops : DropsUnused terms fewer less term

-- the posting in a place was taken out, and its term where it was the last, and the others of its object are in their order
pub record DropsAt (terms fewer : Keys TermKey) (net less : Net) (place : ℕ) : Type 0 where
  pub object : ℕ
  pub first : DropsFirst terms fewer net less object
  pub at : first.takes.place ≡ place
  pub order : (i : ℕ) (front back : List ℕ) → order_of net i ≡ front ++ place ∷ back → order_of less i ≡ front ++ back
  pub listed : (i : ℕ) → IsListed less i

-- no object is there
abbrev pub IsEmpty : Contents → Type 0
IsEmpty c = (scope : Scope) (name : List ℕ) → HasObject c scope name → ⊥
