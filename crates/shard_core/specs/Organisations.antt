-- How a shard keeps its organisations.
use Rattle.std.specs.Prelude.{ℕ, List, Option, Some, None, is_some, cond, ◌==◌, ◌<◌}
use Rattle.std.specs.Cmp.Lexicographic.{pointwise}
use Rattle.std.specs.declared.random_state.RandomState.{RandomState}
use Rattle.indexmap.specs.IndexMap.{IndexMap, get, spare}
use Rattle.org_core.specs.FullStates.{FullState}
use Rattle.org_core.specs.States.{State, Kept, state_in}
use Rattle.sandboxes.specs.Files.{KeptByName, holding_of}
use Rattle.sandboxes.specs.Sandboxes.{Holding}

-- organisations by their names
abbrev pub KeptOrganisations : Type 0
KeptOrganisations = IndexMap (List ℕ) Kept RandomState

-- what is kept under a name
abbrev pub kept_at : KeptOrganisations → List ℕ → Option Kept
kept_at organisations name = get (pointwise ◌==◌) organisations name

-- the state of what is kept: none where nothing is
abbrev pub state_at : Option Kept → State
state_at None = None
state_at (Some kept) = state_in kept

-- the full state of what is kept, with these files
abbrev pub full_of : Option Kept → Holding → FullState
full_of kept files = record { state = state_at kept; files = files }

-- the full state under a name, of what is kept and of the files of all
abbrev pub full_at : KeptOrganisations → KeptByName → List ℕ → FullState
full_at organisations files name = full_of (kept_at organisations name) (holding_of files name)

-- what is kept of an organisation that may not be there: nothing where it isn't
abbrev pub kept_if_there : Kept → Option Kept
kept_if_there kept = cond (is_some (state_in kept)) (Some kept) None

-- one more organisation can be kept without memory
abbrev pub HasRoomFor : KeptOrganisations → Type 0
HasRoomFor organisations = 0 < spare organisations
