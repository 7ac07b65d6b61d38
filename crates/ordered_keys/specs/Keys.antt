-- Keys under numbers that stay.
use Rattle.std.specs.Prelude.{◌≡◌, ◌≢◌, ◌⊎◌, ◌↔◌, ℕ, ◌+◌, ◌≤◌, List, length, Option, Some, None, slice_index_or, refl}
use Rattle.std.specs.Coded.{Coded, code_by, coded×, coded_ℕ, coded_list, coded_option}
use Rattle.std.specs.declared.cmp.Ordering.{Ordering}
use Rattle.std.specs.declared.cmp.Ordering.TheVariants.{Less, Equal}
use Rattle.ordered_keys.specs.Numbers.{Among}

-- the key or nothing under each number, and how many more keys fit without memory
pub record Keys (K : Type 0) : Type 0 where
  pub slots : List (Option K)
  pub room : ℕ

-- how the logic stores them
abbrev pub keys_code : {K : Type 0} → Coded K → Coded (Keys K)
keys_code {K} code = code_by (List (Option K) × ℕ) (coded× (coded_list (coded_option code)) coded_ℕ) (λ k. (k.slots, k.room)) (λ p. record { slots = p.0; room = p.1 }) (λ _. refl)

module _ {K : Type 0} where
  -- the key under a number
  abbrev pub key_in : List (Option K) → ℕ → Option K
  key_in slots i = slice_index_or slots i None

  -- the key under a number
  abbrev pub key_of : Keys K → ℕ → Option K
  key_of keys = key_in keys.slots

  -- a key was put in under a number that was free
  pub record Inserts (old new : Keys K) (key : K) (id : ℕ) : Type 0 where
    pub free : key_of old id ≡ None
    pub put : key_of new id ≡ Some key
    pub others : (i : ℕ) → i ≢ id → key_of new i ≡ key_of old i
    pub less : new.room + 1 ≡ old.room
    pub size : length new.slots ≡ length old.slots

  -- the key under a number was taken out
  pub record Removes (old new : Keys K) (id : ℕ) : Type 0 where
    pub gone : key_of new id ≡ None
    pub others : (i : ℕ) → i ≢ id → key_of new i ≡ key_of old i
    pub more : new.room ≡ old.room + 1
    pub size : length new.slots ≡ length old.slots

  -- no two numbers have one key
  abbrev pub IsOnce : Keys K → Type 0
  IsOnce keys = (i j : ℕ) (x : K) → key_of keys i ≡ Some x → key_of keys j ≡ Some x → i ≡ j

  -- the key is under the number, put in where it wasn't there, and the others are as they were
  pub record Numbers (old new : Keys K) (key : K) (id : ℕ) : Type 0 where
    pub put : key_of new id ≡ Some key
    pub kept : (j : ℕ) (y : K) → key_of old j ≡ Some y → key_of new j ≡ Some y
    pub from : (j : ℕ) (y : K) → key_of new j ≡ Some y → (key_of old j ≡ Some y) ⊎ ((j ≡ id) × (y ≡ key))
    pub once : IsOnce new
    pub room : old.room ≤ new.room + 1
    pub size : length new.slots ≡ length old.slots

  -- the keys are as they were, with so many more numbers
  pub record Grows (old new : Keys K) (more : ℕ) : Type 0 where
    pub same : (i : ℕ) → key_of new i ≡ key_of old i
    pub room : new.room ≡ old.room + more
    pub size : length new.slots ≡ length old.slots + more

  module _ (cmp : K → K → Ordering) where
    -- the number is the one of an equal key
    pub record IsAt (keys : Keys K) (k : K) (i : ℕ) : Type 0 where
      pub key : K
      pub there : key_of keys i ≡ Some key
      pub equal : cmp key k ≡ Equal
      pub alone : (j : ℕ) (x : K) → key_of keys j ≡ Some x → cmp x k ≡ Equal → j ≡ i

    -- no key is equal to this
    abbrev pub IsAbsent : Keys K → K → Type 0
    IsAbsent keys k = (j : ℕ) (x : K) → key_of keys j ≡ Some x → cmp x k ≢ Equal

    -- the key under a number is from one bound on and below the other
    abbrev pub IsBetween : (ℕ → Option K) → K → K → ℕ → Type 0
    IsBetween key low high i = (x : K) × (key i ≡ Some x) × (cmp x low ≢ Less) × (cmp x high ≡ Less)

    -- these are the numbers of the keys from one bound to below the other
    abbrev pub AreBetween : Keys K → K → K → List ℕ → Type 0
    AreBetween keys low high numbers = (i : ℕ) → Among numbers i ↔ IsBetween (key_of keys) low high i

    -- some key is from one bound on and below the other
    abbrev pub HasBetween : Keys K → K → K → Type 0
    HasBetween keys low high = (i : ℕ) × IsBetween (key_of keys) low high i
