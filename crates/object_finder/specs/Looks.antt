-- How many objects are looked at: each look is one step.
use Rattle.std.specs.Prelude.{◌≡◌, ◌≤◌, ◌+◌, ℕ, Result, Ok, Err}
use Rattle.doc_tree.specs.declared.no_memory.NoMemory.{NoMemory}

-- at most so many objects were looked at
abbrev pub LooksAtMost : ℕ → ℕ → ℕ → Type 0
LooksAtMost looks before now = (before ≤ now) × (now ≤ before + looks)

-- just so many objects were looked at, and at most so many where memory was wanting
abbrev pub Looked : {T : Type 0} → Result T NoMemory → ℕ → ℕ → ℕ → Type 0
Looked (Ok value) looks before now = now ≡ before + looks
Looked (Err cause) looks before now = LooksAtMost looks before now
