-- What is kept for organisations, by their names.
use Rattle.std.specs.Prelude.{◌≡◌, ◌≢◌, ℕ, List, None, unwrap_or, refl}
use Rattle.std.specs.Coded.{Coded, code_by, coded×, coded_ℕ}
use Rattle.std.specs.FinMap as finite
use Rattle.doc_tree.specs.Text.{text_cmp}
use Rattle.sandboxes.specs.Sandboxes.{Holding, nothing, holding_code}

-- what is kept for one organisation: what it holds, and how many more files, and how many more sandboxes, fit without memory
pub record Kept : Type 0 where
  pub holding : Holding
  pub spare : ℕ

-- nothing, and no room
abbrev pub none : Kept
none = record { holding = nothing; spare = 0 }

-- what is kept, by the names of organisations
abbrev pub KeptByName : Type 0
KeptByName = finite.FinMap text_cmp Kept

-- what is kept for the organisation of this name: one that was never named has nothing
abbrev pub kept_of : KeptByName → List ℕ → Kept
kept_of files org = unwrap_or (finite.get files org) none

-- what the organisation of this name holds
abbrev pub holding_of : KeptByName → List ℕ → Holding
holding_of files org = (kept_of files org).holding

-- its room
abbrev pub spare_of : KeptByName → List ℕ → ℕ
spare_of files org = (kept_of files org).spare

-- the organisation of this name was named before, so that there is a place for what is kept for it
abbrev pub HasPart : KeptByName → List ℕ → Type 0
HasPart files org = finite.get files org ≢ None

-- what is kept for every other organisation is as it was
abbrev pub OthersStay : List ℕ → KeptByName → KeptByName → Type 0
OthersStay org old new = (name : List ℕ) → name ≢ org → kept_of new name ≡ kept_of old name

-- how the logic stores what is kept
abbrev pub kept_code : Coded Kept
kept_code = code_by (Holding × ℕ) (coded× holding_code coded_ℕ) (λ k. (k.holding, k.spare)) (λ p. record { holding = p.0; spare = p.1 }) (λ _. refl)
