-- Where a text stops to begin a query.
use Rattle.std.specs.Prelude.{◌<◌, ◌≤◌, ℕ, List, ◌++◌, length, take}
use Rattle.query_text.specs.Query.{Ors}
use Rattle.query_text.specs.Grammar.{Spells}
use Rattle.query_text.specs.declared.fault.QueryFault.{QueryFault}
use Rattle.query_text.specs.declared.fault.QueryFault.TheVariants.{NotAQuery, NoMemory}

-- some query begins with this
abbrev pub Begins : List ℕ → Type 0
Begins front = (rest : List ℕ) × (q : Ors) × Spells (front ++ rest) q

-- so many bytes has the longest front of the text with which some query begins
abbrev pub IsPlace : List ℕ → ℕ → Type 0
IsPlace text place =
    (place ≤ length text) × Begins (take place text) × ((more : ℕ) → place < more → more ≤ length text → Begins (take more text) → ⊥)

-- the text has this fault; want of memory is free
abbrev pub IsFault : List ℕ → QueryFault → Type 0
IsFault text (NotAQuery place) = ((q : Ors) → Spells text q → ⊥) × IsPlace text place
IsFault text NoMemory = Unit {0}
