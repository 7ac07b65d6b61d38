-- Terms by the numbers of their words, for the private clauses.
use Rattle.std.specs.Prelude.{◌≡◌, ◌≢◌, ◌+◌, ◌/◌, ◌≤◌, ℕ, Bool, cond, eqb, List, length, map, min, Option, Some, None, option_map}
use Rattle.std.specs.List.{sum_by}
use Rattle.std.specs.declared.random_state.RandomState.{RandomState}
use Rattle.ordered_keys.specs.Arranged.{Arrangement}
use Rattle.ordered_keys.specs.Keys.{Keys, key_of}
use Rattle.ordered_keys.specs.Order.{IsInOrder}
use Rattle.search_index.specs.HashedNumbers.{AreMet}
use Rattle.search_index.specs.Hashing.{term_hash_at}
use Rattle.search_index.specs.KeyOrder.{TermKey, term_cmp, term_key}
use Rattle.search_index.specs.Words.{Vocabulary, uses_at, word_at}
use Rattle.search_index.specs.declared.key.TermAt.{TermAt}
use Rattle.search_index.specs.declared.key.TermNumbers.{TermNumbers}

-- the term of these parts
abbrev pub term_at : TermAt → TermKey
term_at t = term_key t.scope t.field.now t.value.now

-- the term of these numbers
abbrev pub term_in : Vocabulary → TermNumbers → TermKey
term_in v t = term_key t.scope (word_at v t.field) (word_at v t.value)

-- the terms of these numbers, in their order
abbrev pub spelled : Vocabulary → Arrangement TermNumbers → Arrangement TermKey
spelled v a = record { slots = map (option_map (term_in v)) a.slots; order = a.order; room = a.room }

-- the term under each number, and how many more surely fit: each may take two words more
abbrev pub terms_in : Arrangement TermNumbers → Vocabulary → Keys TermKey
terms_in a v = record { slots = (spelled v a).slots; room = min a.room (v.texts.room / 2) }

-- one, where it is so
abbrev pub one_if : Bool → ℕ
one_if b = cond b 1 0

-- how often a term uses a word, as its field and as its value
abbrev pub uses_of : ℕ → Option TermNumbers → ℕ
uses_of i None = 0
uses_of i (Some t) = one_if (eqb t.field i) + one_if (eqb t.value i)

-- how often all terms use a word
abbrev pub all_uses : List (Option TermNumbers) → ℕ → ℕ
all_uses slots i = sum_by (uses_of i) slots

-- each word is used as often as the terms use it, the terms rise by their words, and each number fits into 32 bits
pub record AreTerms (a : Arrangement TermNumbers) (v : Vocabulary) : Type 0 where
  pub counted : (i : ℕ) → uses_at v i ≡ all_uses a.slots i
  pub in_order : IsInOrder term_cmp (spelled v a)
  pub few : length a.slots ≤ 4294967294

-- terms as they are kept: their numbers are met on the ways from their hashes
pub record AreKept (a : Arrangement TermNumbers) (v : Vocabulary) (hashed : List ℕ) (hasher : RandomState) : Type 0 where
  pub are : AreTerms a v
  pub met : AreMet (term_hash_at hasher a) hashed

-- the terms are as they were, in no more than so many further numbers
pub record MakesRoom (old new : Keys TermKey) (more : ℕ) : Type 0 where
  pub same : (i : ℕ) → key_of new i ≡ key_of old i
  pub room : old.room ≤ new.room
  pub size : length new.slots ≤ length old.slots + more

-- the term under a number was taken out
pub record TakesOut (old new : Keys TermKey) (number : ℕ) : Type 0 where
  pub gone : key_of new number ≡ None
  pub others : (i : ℕ) → i ≢ number → key_of new i ≡ key_of old i
  pub room : old.room ≤ new.room
  pub size : length new.slots ≡ length old.slots
