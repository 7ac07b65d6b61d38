-- What a search of one scope finds.
use Rattle.std.specs.Prelude.{◌≡◌, ◌↔◌, ℕ, IsTrue, List, Some}
use Rattle.query_text.specs.declared.term.Wanted.{Wanted}
use Rattle.search_query.specs.Pair.{Pair}
use Rattle.search_query.specs.Matching.{IsWanted}
use Rattle.search_index.specs.declared.key.ObjectKey.{ObjectKey}
use Rattle.search_index.specs.declared.found.Found.{Found}
use Rattle.search_index.specs.Found.{has}
use Rattle.ordered_keys.specs.Keys.{Keys, key_of}
use Rattle.search_index.specs.KeyOrder.{TermKey, object_key}
use Rattle.search_index.specs.Names.{lists_name}
use Rattle.search_index.specs.Net.{Net, Has}
use Rattle.search_index.specs.Arena.{Member}

-- these are the pairs of an object of a scope, both by their numbers
abbrev pub PairsAt : Keys TermKey → Net → ℕ → ℕ → List Pair → Type 0
PairsAt terms net scope object pairs = (p : Pair) → Member pairs p ↔ ((j : ℕ) × (key_of terms j ≡ Some (record { scope = scope; pair = p })) × Has net object j)

-- for each object among some, with its pairs, it is found where its pairs meet this. Of the others nothing is told
abbrev pub Finds : Keys TermKey → Net → ℕ → Found → (List Pair → Type 0) → Found → Type 0
Finds terms net scope among meets found = (object : ℕ) (pairs : List Pair) → PairsAt terms net scope object pairs → IsTrue (has among object) → IsTrue (has found object) ↔ meets pairs

-- for each object among some, with its pairs, it isn't left out where its pairs meet this
abbrev pub Spares : Keys TermKey → Net → ℕ → Found → (List Pair → Type 0) → Found → Type 0
Spares terms net scope among meets found = (object : ℕ) (pairs : List Pair) → PairsAt terms net scope object pairs → IsTrue (has among object) → meets pairs → IsTrue (has found object)

-- the term is of this scope and field, with a value that is wanted
abbrev pub Gives : Keys TermKey → ℕ → List ℕ → Wanted → ℕ → Type 0
Gives terms scope field w j = (p : Pair) × (key_of terms j ≡ Some (record { scope = scope; pair = p })) × (p.field ≡ field) × IsWanted w p.value

-- the object has a term of this scope and field, with a value that is wanted
abbrev pub HasGiven : Keys TermKey → Net → ℕ → List ℕ → Wanted → ℕ → Type 0
HasGiven terms net scope field w object = (j : ℕ) × Gives terms scope field w j × Has net object j

-- these are the names of the objects of a scope that were found
abbrev pub AreNames : Keys ObjectKey → ℕ → Found → List (List ℕ) → Type 0
AreNames objects scope found names = (name : List ℕ) → IsTrue (lists_name names name) ↔ ((i : ℕ) × (key_of objects i ≡ Some (object_key scope name)) × IsTrue (has found i))
