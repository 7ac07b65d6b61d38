-- Words under numbers, with how often each is used, for the private clauses.
use Rattle.std.specs.Prelude.{◌≡◌, ◌≢◌, ◌↔◌, ◌+◌, ◌≤◌, ◌++◌, ℕ, Bool, false, List, [], length, replicate, Option, Some, None, IsSome, bytes_eq, slice_index_or, refl}
use Rattle.std.specs.Coded.{Coded, code_by, coded×, coded_list, coded_ℕ}
use Rattle.std.specs.declared.random_state.RandomState.{RandomState}
use Rattle.ordered_keys.specs.Keys.{IsOnce, Keys, Numbers, key_of, keys_code}
use Rattle.search_index.specs.HashedNumbers.{AreMet}
use Rattle.search_index.specs.Hashing.{word_hash_at}

-- the word under each number, and how often it is used
pub record Vocabulary : Type 0 where
  pub texts : Keys (List ℕ)
  pub uses : List ℕ

-- how the logic stores it
abbrev pub vocabulary_code : Coded Vocabulary
vocabulary_code = code_by (Keys (List ℕ) × List ℕ) (coded× (keys_code (coded_list coded_ℕ)) (coded_list coded_ℕ)) (λ v. (v.texts, v.uses)) (λ p. record { texts = p.0; uses = p.1 }) (λ _. refl)

-- how often the word under a number is used
abbrev pub uses_at : Vocabulary → ℕ → ℕ
uses_at v i = slice_index_or v.uses i 0

-- a word, or the empty one where there is none
abbrev pub word_or_empty : Option (List ℕ) → List ℕ
word_or_empty None = []
word_or_empty (Some word) = word

-- the word under a number, or the empty one
abbrev pub word_at : Vocabulary → ℕ → List ℕ
word_at v i = word_or_empty (key_of v.texts i)

-- a word is there exactly where it is used, no two numbers have one word, and each number fits into 32 bits
pub record IsCounted (v : Vocabulary) : Type 0 where
  pub there : (i : ℕ) → IsSome (key_of v.texts i) ↔ (1 ≤ uses_at v i)
  pub once : IsOnce v.texts
  pub counts : length v.texts.slots ≤ length v.uses
  pub few : length v.texts.slots ≤ 4294967294

-- words as they are kept: their numbers are met on the ways from their hashes
pub record AreWords (v : Vocabulary) (hashed : List ℕ) (hasher : RandomState) : Type 0 where
  pub counted : IsCounted v
  pub met : AreMet (word_hash_at hasher v.texts) hashed

-- what stands under a number is this word
abbrev pub is_word : Option (List ℕ) → List ℕ → Bool
is_word None word = false
is_word (Some text) word = bytes_eq text word

-- the word is under no number
abbrev pub HasNoWord : Vocabulary → List ℕ → Type 0
HasNoWord v word = (i : ℕ) → key_of v.texts i ≢ Some word

-- more words may be used, and none of these is
abbrev pub PadsUses : List ℕ → List ℕ → Type 0
PadsUses old new = (n : ℕ) × (new ≡ old ++ replicate n 0)

-- the same words with the same uses, and no less room
pub record SameWords (old new : Vocabulary) : Type 0 where
  pub words : (i : ℕ) → key_of new.texts i ≡ key_of old.texts i
  pub uses : (i : ℕ) → uses_at new i ≡ uses_at old i
  pub room : old.texts.room ≤ new.texts.room

-- the word is under the number, put in where it wasn't there, and used once more
pub record TakesIn (old new : Vocabulary) (word : List ℕ) (number : ℕ) : Type 0 where
  pub numbers : Numbers old.texts new.texts word number
  pub used : uses_at new number ≡ uses_at old number + 1
  pub others : (i : ℕ) → i ≢ number → uses_at new i ≡ uses_at old i

-- the word is used once less, and words that are still used are there
pub record Releases (old new : Vocabulary) (number : ℕ) : Type 0 where
  pub used : uses_at new number + 1 ≡ uses_at old number
  pub others : (i : ℕ) → i ≢ number → uses_at new i ≡ uses_at old i
  pub kept : (i : ℕ) (word : List ℕ) → key_of old.texts i ≡ Some word → 1 ≤ uses_at new i → key_of new.texts i ≡ Some word
  pub room : old.texts.room ≤ new.texts.room
