-- What is wrong with a field, and how it is told.
use Rattle.std.specs.Prelude.{ℕ, Bool, if◌then◌else◌, List, Option, Some, None, Result, Ok, Err}
use Rattle.cookbook_meta.specs.declared.fault.MetaFault.{MetaFault}
use Rattle.cookbook_meta.specs.declared.fault.MetaFault.TheVariants as fault
use Rattle.cookbook_meta.specs.declared.fault.Flaw.{Flaw}
use Rattle.cookbook_meta.specs.declared.fault.Flaw.TheVariants as flaw

-- the fault that tells this flaw of a field
abbrev pub fault_of : List ℕ → Flaw → MetaFault
fault_of field flaw.MissingField = fault.MissingField field
fault_of field flaw.WrongKind = fault.WrongKind field
fault_of field flaw.BadVersion = fault.BadVersion field
fault_of field flaw.NameDiffers = fault.NameDiffers field
fault_of field flaw.BadChecksum = fault.BadChecksum field
fault_of field flaw.DoublePath = fault.DoublePath field
fault_of field flaw.NoMemory = fault.NoMemory

-- the field that a fault names, and none at want of memory
abbrev pub field_of : MetaFault → Option (List ℕ)
field_of (fault.MissingField field) = Some field
field_of (fault.WrongKind field) = Some field
field_of (fault.BadVersion field) = Some field
field_of (fault.NameDiffers field) = Some field
field_of (fault.BadChecksum field) = Some field
field_of (fault.DoublePath field) = Some field
field_of fault.NoMemory = None

-- the flaw that a fault tells
abbrev pub flaw_of : MetaFault → Flaw
flaw_of (fault.MissingField field) = flaw.MissingField
flaw_of (fault.WrongKind field) = flaw.WrongKind
flaw_of (fault.BadVersion field) = flaw.BadVersion
flaw_of (fault.NameDiffers field) = flaw.NameDiffers
flaw_of (fault.BadChecksum field) = flaw.BadChecksum
flaw_of (fault.DoublePath field) = flaw.DoublePath
flaw_of fault.NoMemory = flaw.NoMemory

-- what was read, or its flaw as the fault of this field
abbrev pub in_field : {A : Type 0} → List ℕ → Result A Flaw → Result A MetaFault
in_field field (Ok x) = Ok x
in_field field (Err f) = Err (fault_of field f)

-- what was read inside a field, or the flaw of the part that was at fault
abbrev pub inside : {A : Type 0} → Result A MetaFault → Result A Flaw
inside (Ok x) = Ok x
inside (Err f) = Err (flaw_of f)

-- what the next step makes of what was read, or the first fault
abbrev pub then_do : {A B F : Type 0} → Result A F → (A → Result B F) → Result B F
then_do (Ok x) next = next x
then_do (Err f) next = Err f

-- this, if the test holds, and else a flaw
abbrev pub keep_if : {A : Type 0} → Bool → A → Flaw → Result A Flaw
keep_if test x f = if test then Ok x else Err f
