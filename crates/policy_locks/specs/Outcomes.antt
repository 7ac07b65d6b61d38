-- What answers say of the outcome that they give.
use Rattle.std.specs.Prelude.{◌≡◌, ⊤, ℕ, List, Result, Ok, Err}
use Rattle.policy_locks.specs.declared.fault.LockFault.{LockFault}
use Rattle.policy_locks.specs.declared.fault.LockFault.TheVariants.{BadField, NoMemory}

-- a fault names the field that is due; only want of memory says nothing
abbrev pub Fails : {A : Type 0} → LockFault → Result A (List ℕ) → Type 0
Fails (BadField field) due = due ≡ Err field
Fails NoMemory due = ⊤

-- an answer is the one that is due, or want of memory
abbrev pub Gives : {A : Type 0} → Result A LockFault → Result A (List ℕ) → Type 0
Gives (Ok x) due = due ≡ Ok x
Gives (Err fault) due = Fails fault due
