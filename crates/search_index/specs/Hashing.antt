-- The hashes of words and of terms, by a hasher, and what is looked for by them, for the private clauses.
use Rattle.std.specs.Prelude.{ℕ, Bool, false, ◌&&◌, eqb, List, Option, Some, None, option_map}
use Rattle.std.specs.List.{fold}
use Rattle.std.specs.Hash as fed
use Rattle.std.specs.Hash.DefaultHasher.{finish, write}
use Rattle.std.specs.RandomState.{initial_hasher}
use Rattle.std.specs.declared.random_state.RandomState.{RandomState}
use Rattle.ordered_keys.specs.Arranged.{Arrangement, item_of}
use Rattle.ordered_keys.specs.Keys.{Keys, key_of}
use Rattle.search_index.specs.declared.key.TermNumbers.{TermNumbers}

-- the hash of a word
abbrev pub hash_of : RandomState → List ℕ → ℕ
hash_of hasher word = finish (write (initial_hasher hasher) word)

-- the hash of the word under a number
abbrev pub word_hash_at : RandomState → Keys (List ℕ) → ℕ → Option ℕ
word_hash_at hasher texts i = option_map (hash_of hasher) (key_of texts i)

-- the hash of a term, by its numbers
abbrev pub term_hash : RandomState → TermNumbers → ℕ
term_hash hasher t = finish (fold write (fold write (fold write (initial_hasher hasher) (fed.u32 t.scope)) (fed.u32 t.field)) (fed.u32 t.value))

-- the hash of the term under a number
abbrev pub term_hash_at : RandomState → Arrangement TermNumbers → ℕ → Option ℕ
term_hash_at hasher a i = option_map (term_hash hasher) (item_of a i)

-- two terms have the same numbers
abbrev pub is_same : TermNumbers → TermNumbers → Bool
is_same t u = (eqb t.value u.value && eqb t.field u.field) && eqb t.scope u.scope

-- what stands under a number is this term
abbrev pub is_term : Option TermNumbers → TermNumbers → Bool
is_term None t = false
is_term (Some u) t = is_same u t
