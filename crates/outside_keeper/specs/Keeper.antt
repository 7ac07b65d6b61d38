-- What calls of a keeper answer, and why they fail.
use Rattle.std.specs.Prelude.{◌≡◌, ◌≢◌, ℕ, ◌≤◌, Option, Some, None, Result, Err, ⊤}
use Rattle.outside_core.specs.Failed.{Rose}
use Rattle.outside_keeper.specs.declared.keep_fault.KeepFault.{KeepFault}
use Rattle.outside_keeper.specs.declared.keep_fault.KeepFault.TheVariants.{Failed}
use Rattle.outside_keeper.specs.declared.open_fault.OpenFault.{OpenFault}
use Rattle.outside_keeper.specs.declared.open_fault.OpenFault.TheVariants as open_fault
use Rattle.outside_keeper.specs.Rows.{KeptRows}

-- these are the rows, where they are told
abbrev pub AreRows : Option KeptRows → KeptRows → Type 0
AreRows None found = ⊤
AreRows (Some rows) found = found ≡ rows

-- the count of faults didn't fall, the keeper failed only where it rose, and any other answer left it as it was
pub record HasKeepCause {T : Type 0} (before now : ℕ) (result : Result T KeepFault) : Type 0 where
  pub later : before ≤ now
  pub failed : result ≡ Err Failed → Rose before now
  pub unfailed : result ≢ Err Failed → now ≡ before

-- the same of what opens something: its count of faults didn't fall, rose where opening failed, and else stayed
pub record HasOpenCause {T : Type 0} (before now : ℕ) (result : Result T OpenFault) : Type 0 where
  pub later : before ≤ now
  pub failed : result ≡ Err open_fault.Failed → Rose before now
  pub unfailed : result ≢ Err open_fault.Failed → now ≡ before
