-- What answers say of the outcome that they give.
use Rattle.std.specs.Prelude.{◌≡◌, Result, Ok, Err, ⊤}
use Rattle.cookbook_meta.specs.declared.fault.Flaw.{Flaw}
use Rattle.cookbook_meta.specs.declared.fault.Flaw.TheVariants as flaw
use Rattle.cookbook_meta.specs.declared.fault.MetaFault.{MetaFault}
use Rattle.cookbook_meta.specs.declared.fault.MetaFault.TheVariants as fault

-- a fault is the one that is due; only want of memory says nothing
abbrev pub Fails : {A : Type 0} → MetaFault → Result A MetaFault → Type 0
Fails fault.NoMemory due = ⊤
Fails other due = due ≡ Err other

-- an answer is the one that is due, or want of memory
abbrev pub Gives : {A : Type 0} → Result A MetaFault → Result A MetaFault → Type 0
Gives (Ok x) due = due ≡ Ok x
Gives (Err f) due = Fails f due

-- a flaw is the one that is due; only want of memory says nothing
abbrev pub IsFlawOf : {A : Type 0} → Flaw → Result A Flaw → Type 0
IsFlawOf flaw.NoMemory due = ⊤
IsFlawOf other due = due ≡ Err other

-- a part is the one that is due, or there was no memory for it
abbrev pub Finds : {A : Type 0} → Result A Flaw → Result A Flaw → Type 0
Finds (Ok x) due = due ≡ Ok x
Finds (Err f) due = IsFlawOf f due
