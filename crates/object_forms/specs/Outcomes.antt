-- What answers say of the outcome that they give.
use Rattle.std.specs.Prelude.{◌≡◌, ℕ, List, Result, Ok, Err, ⊤}
use Rattle.doc_tree.specs.Doc.{Doc}
use Rattle.doc_tree.specs.Tree.{doc_of}
use Rattle.doc_tree.specs.declared.tree.Tree.{Tree}
use Rattle.object_forms.specs.declared.fault.FormFault.{FormFault}
use Rattle.object_forms.specs.declared.fault.FormFault.TheVariants.{BadField, NoMemory}

-- the fault names this field, or is want of memory
abbrev pub Names : FormFault → List ℕ → Type 0
Names (BadField name) field = name ≡ field
Names NoMemory field = ⊤

-- a fault names the field that hasn't its form; only want of memory says nothing
abbrev pub Fails : {A : Type 0} → FormFault → Result A (List ℕ) → Type 0
Fails (BadField name) outcome = outcome ≡ Err name
Fails NoMemory outcome = ⊤

-- an answer gives the object, or names the first field that hasn't its form
abbrev pub Gives : Result Tree FormFault → Result Doc (List ℕ) → Type 0
Gives (Ok tree) outcome = outcome ≡ Ok (doc_of tree)
Gives (Err cause) outcome = Fails cause outcome

-- an answer gives the fields, or names the first that hasn't its form
abbrev pub GivesFields : Result (List (List ℕ × Doc)) FormFault → Result (List (List ℕ × Doc)) (List ℕ) → Type 0
GivesFields (Ok made) outcome = outcome ≡ Ok made
GivesFields (Err cause) outcome = Fails cause outcome

-- an answer leaves these fields, or names the one that hasn't its form
abbrev pub Leaves : Result (Unit {0}) FormFault → List (List ℕ × Doc) → Result (List (List ℕ × Doc)) (List ℕ) → Type 0
Leaves (Ok done) made outcome = outcome ≡ Ok made
Leaves (Err cause) made outcome = Fails cause outcome
