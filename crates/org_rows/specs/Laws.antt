-- The laws of rows.
use Rattle.std.specs.Prelude.{◌≡◌, ℕ, List, Bool, true, Some, is_some, ◌↔◌, None}
use Rattle.doc_tree.specs.Kind.{word_of}
use Rattle.doc_tree.specs.Name.{is_organisation_name}
use Rattle.doc_tree.specs.declared.kind.Kind.{Kind}
use Rattle.org_core.specs.FullStates.{FullState}
use Rattle.outside_keeper.specs.Rows.{KeptRows}
use Rattle.outside_keeper.specs.declared.row_key.RowKey.{RowKey}
use Rattle.org_rows.specs.Bodies.{body_in}
use Rattle.org_rows.specs.Contents.{HoldsContents, content_in}
use Rattle.org_rows.specs.Reading.{content_at}
use Rattle.org_rows.specs.Things.{Content}
use Rattle.org_core.specs.States.{Organisation}
use Rattle.sandboxes.specs.Sandboxes.{Holding}
use Rattle.org_rows.specs.Legal.{IsLegal, LocksReadBack}
use Rattle.org_rows.specs.Reasons.{AreGood, first_bad}
use Rattle.org_rows.specs.Rows.{AreRowsOf}
use Rattle.org_rows.specs.Places.{Place, IsPlace, kind_named, place_of, row_of}

-- each kind is told by its word, and a word that tells one is its word
pub record KindsHaveWords : Type 0 where
  pub named : (kind : Kind) → kind_named (word_of kind) ≡ Some kind
  pub words : (word : List ℕ) (kind : Kind) → kind_named word ≡ Some kind → word_of kind ≡ word

-- the row of a place is of that place, and a row that is of a place is the row of it
pub record RowsNamePlaces : Type 0 where
  pub named : (org : List ℕ) (place : Place) → IsPlace place → place_of (row_of org place) ≡ Some place
  pub names : (row : RowKey) (place : Place) → place_of row ≡ Some place → row_of row.org place ≡ row
  pub are_places : (row : RowKey) (place : Place) → place_of row ≡ Some place → IsPlace place

-- Two maps of organisations to legal states that have the same rows are the same: different ones have different rows. An
-- organisation that isn't there has no row.
abbrev pub RowsTellStates : Type 0
RowsTellStates =
    (states others : List ℕ → FullState) → ((org : List ℕ) → IsLegal (states org)) → ((org : List ℕ) → IsLegal (others org))
    → (rows : KeptRows) → AreRowsOf states rows → AreRowsOf others rows → (org : List ℕ) → states org ≡ others org

-- The rows of legal states are good: no row has a reason, where each stored lock is read back, and each organisation that is
-- there has an organisation's name and lies in the shard.
abbrev pub RowsAreGood : Type 0
RowsAreGood =
    (lies_here : List ℕ → Bool) (states : List ℕ → FullState) → ((org : List ℕ) → IsLegal (states org)) → ((org : List ℕ) → LocksReadBack (states org).state)
    → ((org : List ℕ) → is_some (states org).state ≡ true → (is_organisation_name org ≡ true) × (lies_here org ≡ true))
    → (rows : KeptRows) → AreRowsOf states rows → AreGood lies_here rows

-- the body that a legal organisation has at a place says what stands there, where each stored lock is read back
abbrev pub BodiesSayContents : Type 0
BodiesSayContents =
    (o : Organisation) (files : Holding) → IsLegal (record { state = Some o; files = files }) → LocksReadBack (Some o)
    → (place : Place) (body : List ℕ) → body_in o files place ≡ Some body → content_at place body ≡ content_in o files place

-- where a body says what stands at a place of an organisation, it is the body that the organisation has there
abbrev pub ContentsGiveBodies : Type 0
ContentsGiveBodies =
    (o : Organisation) (files : Holding) (place : Place) (body : List ℕ) (content : Content) → content_at place body ≡ Some content → content_in o files place ≡ Some content
    → body_in o files place ≡ Some body

-- good rows are those of the states that hold what the rows say
abbrev pub GoodRowsAreOf : Type 0
GoodRowsAreOf =
    (lies_here : List ℕ → Bool) (rows : KeptRows) → AreGood lies_here rows
    → (states : List ℕ → FullState) → ((org : List ℕ) → HoldsContents rows org (states org).state (states org).files) → AreRowsOf states rows

-- all rows are good exactly where there is no first bad one
abbrev pub FirstBadTells : Type 0
FirstBadTells = (lies_here : List ℕ → Bool) (rows : KeptRows) → (first_bad lies_here rows ≡ None) ↔ AreGood lies_here rows
