-- How a call that reads tells what it read: want of memory alone says nothing.
use Rattle.std.specs.Prelude.{◌≡◌, Option, Some, None, Result, Ok, Err, is_some, IsTrue}
use Rattle.doc_tree.specs.declared.no_memory.NoMemory.{NoMemory}
use Rattle.knife_errands.specs.declared.faults.BodyFault.{BodyFault}
use Rattle.knife_errands.specs.declared.faults.BodyFault.TheVariants as body
use Rattle.knife_errands.specs.declared.faults.FileFault.{FileFault}
use Rattle.knife_errands.specs.declared.faults.FileFault.TheVariants as file

-- a body has this, or it hasn't its form
abbrev pub TellsBody : {T : Type 0} → Result T BodyFault → Option T → Type 0
TellsBody (Ok x) due = due ≡ Some x
TellsBody (Err body.Malformed) due = due ≡ None
TellsBody (Err body.NoMemory) due = Unit {0}

-- a file has this, or it hasn't its format
abbrev pub TellsFile : {T : Type 0} → Result T FileFault → Option T → Type 0
TellsFile (Ok x) due = due ≡ Some x
TellsFile (Err file.BadFile) due = due ≡ None
TellsFile (Err file.NoMemory) due = Unit {0}

-- it was found or there is none; memory is wanted only where there is one
abbrev pub Finds : {T : Type 0} → Result (Option T) NoMemory → Option T → Type 0
Finds (Ok found) due = found ≡ due
Finds (Err fault) due = IsTrue (is_some due)
