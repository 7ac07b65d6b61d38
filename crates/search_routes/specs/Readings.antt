-- What a text is read as: the query that it spells, or the place where it stops to begin one. The grammar and the place are
-- those of `query_text`; that each text has a reading is shown along with it, so that rules can name it.
use Rattle.std.specs.Prelude.{◌≡◌, ◌≤◌, ℕ, zero, suc, List, length, take, Some, None, is_some, Result, Ok, Err, refl}
use Rattle.std.proofs.Common.{ap, ◌∙◌, true≢false}
use Rattle.std.proofs.Math.Nat.{le_of_suc-le, le_refl}
use Rattle.std.proofs.Math.Seq.{take-length}
use Rattle.query_text.specs.Grammar.{Spells}
use Rattle.query_text.specs.Machine.{ending, start, steps}
use Rattle.query_text.specs.Place.{IsFault}
use Rattle.query_text.specs.Query.{Ors}
use Rattle.query_text.specs.declared.fault.QueryFault.TheVariants.{NotAQuery}
use Rattle.query_text.proofs.PlaceLemmas.{fault_at_end, fault_within, spelled_at_end}

-- the query is the one that the text spells; the place is the length of the longest front with which some query begins, of a
-- text that spells none
abbrev pub IsReadAs : List ℕ → Result Ors ℕ → Type 0
IsReadAs text (Ok query) = Spells text query
IsReadAs text (Err place) = IsFault text (NotAQuery place)

-- a text with what it is read as
abbrev pub Reading : List ℕ → Type 0
Reading text = (read : Result Ors ℕ) × IsReadAs text read

-- a front of so many bytes begins no query, so the place is that of the longest one before it that does
stopped_before : (text : List ℕ) (size : ℕ) → size ≤ length text → steps (take size text) (Some start) ≡ None → Reading text
stopped_before text zero within stops = absurd (true≢false (ap is_some stops))
stopped_before text (suc size) within stops = elim (steps (take size text) (Some start)) as (λ o. steps (take size text) (Some start) ≡ o → Reading text) [
  | Some here ↦ λ goes. (Err size, fault_within text size here within goes stops)
  | None ↦ λ none. stopped_before text size (le_of_suc-le within) none
] refl

-- each text has a reading: the query with which it ends, or the place
pub reading : (text : List ℕ) → Reading text
reading text = elim (steps text (Some start)) as (λ o. steps text (Some start) ≡ o → Reading text) [
  | Some here ↦ λ goes. elim (ending here) as (λ q. ending here ≡ q → Reading text) [
    | Some query ↦ λ ends. (Ok query, spelled_at_end text here query goes ends)
    | None ↦ λ none. (Err (length text), fault_at_end text here goes none)
  ] refl
  | None ↦ λ none. stopped_before text (length text) (le_refl (length text)) (ap (λ t. steps t (Some start)) (take-length text) ∙ none)
] refl

-- what a text is read as
abbrev pub read_as : List ℕ → Result Ors ℕ
read_as text = (reading text).0
