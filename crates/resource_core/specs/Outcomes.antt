-- What answers say of the outcome that they give.
use Rattle.std.specs.Prelude.{◌≡◌, ◌⊎◌, ◌∷◌, [], List, Option, Some, None, Result, Ok, Err, option_and_then, option_map}
use Rattle.resource_core.specs.declared.fault.CompileFault.{CompileFault}
use Rattle.resource_core.specs.declared.fault.CompileFault.TheVariants.{NoMemory}

-- a fault is the outcome, or is want of memory, which says nothing of it
abbrev pub Fails : {A : Type 0} → CompileFault → Result A CompileFault → Type 0
Fails fault outcome = (fault ≡ NoMemory) ⊎ (outcome ≡ Err fault)

-- an answer gives the outcome; only want of memory says nothing of it
abbrev pub Gives : {A B : Type 0} → (A → B) → Result A CompileFault → Result B CompileFault → Type 0
Gives view (Ok made) outcome = outcome ≡ Ok (view made)
Gives view (Err fault) outcome = Fails fault outcome

-- what a next step makes of what was made, or the first fault
abbrev pub then_do : {A B : Type 0} → Result A CompileFault → (A → Result B CompileFault) → Result B CompileFault
then_do (Ok made) next = next made
then_do (Err fault) next = Err fault

-- what there is, or this fault
abbrev pub or_fault : {A : Type 0} → CompileFault → Option A → Result A CompileFault
or_fault fault None = Err fault
or_fault fault (Some made) = Ok made

-- what is made of each of these, if something is of each
abbrev pub each_of : {A B : Type 0} → (A → Option B) → List A → Option (List B)
each_of make [] = Some []
each_of make (x ∷ xs) = option_and_then (λ y. option_map (λ ys. y ∷ ys) (each_of make xs)) (make x)

-- an answer leaves the outcome; only want of memory says nothing of it
abbrev pub Leaves : {A B : Type 0} → Result A CompileFault → B → Result B CompileFault → Type 0
Leaves (Ok done) made outcome = outcome ≡ Ok made
Leaves (Err fault) made outcome = Fails fault outcome
