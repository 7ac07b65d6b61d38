-- The full state of an organisation: its state, and its files and sandboxes.
use Rattle.std.specs.Prelude.{◌≡◌, None}
use Rattle.sandboxes.specs.Files.{KeptByName, holding_of}
use Rattle.sandboxes.specs.Sandboxes.{Holding, nothing}
use Rattle.org_shelves.specs.Files.{AreThere}
use Rattle.org_core.specs.States.{State, Kept, shelved_of, state_in}

-- the state of an organisation, with its files, its sandboxes that are not yet committed, and how many it has made
pub record FullState : Type 0 where
  pub state : State
  pub files : Holding

-- an organisation that isn't there, and has no files
abbrev pub none : FullState
none = record { state = None; files = nothing }

-- the full state of an organisation as it is kept, of whose files each organisation has those under its name
abbrev pub full_in : Kept → KeptByName → FullState
full_in kept files = record { state = state_in kept; files = holding_of files kept.name }

-- the conditions that the files of every organisation meet. That each file is kept under its own checksum, the type of
-- the files says
pub record MeetsFileConditions (full : FullState) : Type 0 where
  -- one that isn't there has no files, and has made no sandbox
  pub nobody : full.state ≡ None → full.files ≡ nothing
  -- each file that a cookbook version or an artifact names is there and committed
  pub named : AreThere (shelved_of full.state) full.files
