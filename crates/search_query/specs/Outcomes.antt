-- What answers say of the outcome that they give.
use Rattle.std.specs.Prelude.{◌≡◌, ⊤, ℕ, List, Result, Ok, Err}
use Rattle.search_query.specs.declared.fault.PartialFault.{PartialFault}
use Rattle.search_query.specs.declared.fault.PartialFault.TheVariants.{BadField, NoMemory}

-- the fault names this field, or is want of memory
abbrev pub Names : PartialFault → List ℕ → Type 0
Names (BadField name) field = name ≡ field
Names NoMemory field = ⊤

-- a fault names the field that is due; only want of memory says nothing
abbrev pub Fails : {A : Type 0} → PartialFault → Result A (List ℕ) → Type 0
Fails (BadField field) due = due ≡ Err field
Fails NoMemory due = ⊤

-- an answer is the one that is due, or want of memory
abbrev pub Gives : {A : Type 0} → Result A PartialFault → Result A (List ℕ) → Type 0
Gives (Ok x) due = due ≡ Ok x
Gives (Err fault) due = Fails fault due
