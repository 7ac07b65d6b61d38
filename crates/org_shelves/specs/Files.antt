-- The files that what is on the shelves names.
use Rattle.std.specs.Prelude.{◌≡◌, Bool, true, false, ℕ, List, Option, Some, None}
use Rattle.std.specs.FinMap as finite
use Rattle.sandboxes.specs.Sandboxes.{Holding}
use Rattle.sandboxes.specs.declared.stored.Stored.{Stored}
use Rattle.org_shelves.specs.Shelved.{Shelved}
use Rattle.org_shelves.specs.ShelfMoves.{is_named}

-- a file was found that is committed
abbrev pub is_committed_file : Option Stored → Bool
is_committed_file None = false
is_committed_file (Some stored) = stored.committed

-- a file of this checksum is there and committed
abbrev pub is_committed : Holding → List ℕ → Bool
is_committed files sum = is_committed_file (finite.get files.files sum)

-- each file that a cookbook version or an artifact names is there and committed
abbrev pub AreThere : Shelved → Holding → Type 0
AreThere s files = (sum : List ℕ) → is_named s sum ≡ true → is_committed files sum ≡ true
