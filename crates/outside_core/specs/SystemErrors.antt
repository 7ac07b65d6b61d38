-- What a disk over the operating system answers where the system gives an error, by the error's kind.
use Rattle.std.specs.Prelude.{◌≡◌, ◌⊎◌, Option, None, Result, Ok, Err}
use Rattle.std.specs.declared.io.ErrorKind.{ErrorKind}
use Rattle.std.specs.declared.io.ErrorKind.TheVariants.{NotFound, NotADirectory, OutOfMemory}
use Rattle.outside_core.specs.declared.disk_fault.DiskFault.{DiskFault}
use Rattle.outside_core.specs.declared.disk_fault.DiskFault.TheVariants.{Failed, NoMemory}

-- a file or folder isn't there: nothing has its name, or what stands where its name has a folder is none
abbrev pub IsAbsence : ErrorKind → Type 0
IsAbsence kind = (kind ≡ NotFound) ⊎ (kind ≡ NotADirectory)

-- an error of this kind is answered so: as absence, as want of memory, and else as a failure
pub record IsToldAs {T : Type 0} (kind : ErrorKind) (result : Result (Option T) DiskFault) : Type 0 where
  pub absence : IsAbsence kind → result ≡ Ok None
  pub memory : kind ≡ OutOfMemory → result ≡ Err NoMemory
  pub failure : ¬ (IsAbsence kind) → ¬ (kind ≡ OutOfMemory) → result ≡ Err Failed
