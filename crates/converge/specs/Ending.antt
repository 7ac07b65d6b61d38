-- What a run that ended comes to, by its acts and their lines, for the private clauses.
use Rattle.std.specs.Prelude.{◌≡◌, ℕ, List, [], ◌∷◌, ◌++◌, Some, None, ⊤}
use Rattle.converge.specs.Reports.{last_line}
use Rattle.converge.specs.Runs.{first_failed}
use Rattle.converge.specs.declared.deeds.Deed.{Deed}
use Rattle.converge.specs.declared.outcome.Outcome.{Outcome}
use Rattle.converge.specs.declared.outcome.Outcome.TheVariants as of

-- a run that came to its end with these acts, which are told by these lines, comes to this
abbrev pub TellsEnd : List Deed → List (List ℕ) → Outcome → Type 0
TellsEnd acts lines (of.Done report) = (first_failed acts ≡ None) × (report.lines ≡ lines ++ last_line acts ∷ [])
TellsEnd acts lines (of.Failed resource action cause report) = (first_failed acts ≡ Some (record { resource = resource; action = action }, cause)) × (report.lines ≡ lines)
TellsEnd acts lines (of.HostFault report) = ⊥
TellsEnd acts lines (of.LacksCap cap) = ⊥
TellsEnd acts lines of.NoMemory = ⊤
