-- A text has one reading.
use Rattle.std.proofs.Common.{◌≡◌, ◌<◌, ℕ, List, Result, Ok, Err, ap, inl, inr}
use Rattle.std.proofs.lemmas.Bool.{cases_order}
use Rattle.query_text.proofs.Runs.{one_query}
use Rattle.query_text.specs.Grammar.{Spells}
use Rattle.query_text.specs.Place.{IsFault, IsPlace}
use Rattle.query_text.specs.Query.{Ors}
use Rattle.query_text.specs.declared.fault.QueryFault.TheVariants.{NotAQuery}
use Rattle.search_routes.specs.Readings.{IsReadAs, read_as, reading}

reads_query : (text : List ℕ) (query : Ors) (read : Result Ors ℕ) → IsReadAs text read → Spells text query → read ≡ Ok query
reads_query text query (Ok other) spelled is = ap Ok (one_query text other query spelled is)
reads_query text query (Err place) fault is = absurd (fault.0 query is)

-- a text is read as the query that it spells
pub query_is_read : (text : List ℕ) (query : Ors) → Spells text query → read_as text ≡ Ok query
query_is_read text query is = reads_query text query (reading text).0 (reading text).1 is

-- no front that is longer than the place begins a query
not_longer : (text : List ℕ) (place other : ℕ) → IsPlace text place → IsPlace text other → place < other → ⊥
not_longer text place other here there below = here.2 other below there.0 there.1

one_place : (text : List ℕ) (place other : ℕ) → IsPlace text place → IsPlace text other → place ≡ other
one_place text place other here there = elim (cases_order place other) [
  | inl same ↦ same
  | inr (inl below) ↦ absurd (not_longer text place other here there below)
  | inr (inr above) ↦ absurd (not_longer text other place there here above)
]

reads_fault : (text : List ℕ) (place : ℕ) (read : Result Ors ℕ) → IsReadAs text read → IsFault text (NotAQuery place) → read ≡ Err place
reads_fault text place (Ok query) spelled is = absurd (is.0 query spelled)
reads_fault text place (Err other) fault is = ap Err (one_place text other place fault.1 is.1)

-- and one that spells none as the place where it stops to begin one
pub fault_is_read : (text : List ℕ) (place : ℕ) → IsFault text (NotAQuery place) → read_as text ≡ Err place
fault_is_read text place is = reads_fault text place (reading text).0 (reading text).1 is
