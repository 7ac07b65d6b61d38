-- What is kept of a body of a given form and size.
use Rattle.std.specs.Prelude.{◌≡◌, Bool, true, false, IsTrue, ℕ, ◌<◌, ◌≤◌, List}
use Rattle.http_routes.specs.declared.bodies.BodyForm.{BodyForm}
use Rattle.http_routes.specs.declared.bodies.BodyForm.TheVariants.{Dropped, Json, Raw}
use Rattle.http_wire.specs.declared.bodies.KeptBody.{KeptBody}
use Rattle.http_wire.specs.declared.bodies.KeptBody.TheVariants.{Whole, Skipped, TooLong, NoMemory}

-- the bytes are kept
abbrev pub is_kept : BodyForm → Bool
is_kept Dropped = false
is_kept Json = true
is_kept Raw = true

-- these bytes of it, or nothing where it is dropped, where it is larger than what is kept, or for want of memory
abbrev pub IsBody : BodyForm → ℕ → List ℕ → KeptBody → Type 0
IsBody form size bytes (Whole kept) = (kept.items ≡ bytes) × (size ≤ 4194304) × IsTrue (is_kept form)
IsBody form size bytes Skipped = (form ≡ Dropped) × (size ≤ 4194304)
IsBody form size bytes TooLong = 4194304 < size
IsBody form size bytes NoMemory = (size ≤ 4194304) × IsTrue (is_kept form)
