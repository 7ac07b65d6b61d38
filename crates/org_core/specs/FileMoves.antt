-- The moves that change the files and sandboxes of an organisation.
use Rattle.std.specs.Prelude.{Bool, true, false, cond, ℕ, List, [], ◌∷◌, Some, None, option_map, unwrap_or, length, filter}
use Rattle.std.specs.FinMap as finite
use Rattle.std.specs.List.{list_all}
use Rattle.sandboxes.specs.Sandboxes.{Holding, has_file, begun, uploaded, committed}
use Rattle.sandboxes.specs.Sums.{Sums}
use Rattle.org_core.specs.declared.file_moves.FileMove.{FileMove}
use Rattle.org_core.specs.declared.file_moves.FileMove.TheVariants.{Begin, Upload, Commit}
use Rattle.org_core.specs.declared.moves.Move.{Move}
use Rattle.org_core.specs.declared.moves.Move.TheVariants.{Open, Put, TakeOut, PutList, TakeList, AddUser, RemoveUser, AddClient, RemoveClient, PutGroup, RemoveGroup, OnShelves, OnFiles}
use Rattle.org_shelves.specs.ShelfMoves.{files_after_shelf_move, puts_on_shelves}
use Rattle.org_core.specs.FullStates.{FullState}
use Rattle.org_core.specs.Moves.{after_move, after_moves}
use Rattle.org_core.specs.States.{State, Organisation}

-- a file of each of these checksums is there
abbrev pub has_all : Holding → Sums → Bool
has_all files sums = list_all (has_file files) sums

-- the sandbox of this id is there, and no file is missing from it
abbrev pub is_complete : List ℕ → Holding → Bool
is_complete id files = unwrap_or (option_map (has_all files) (finite.get files.sandboxes id)) false

-- the files of an organisation of this name after a move that changes them: a sandbox is committed where it is complete
abbrev pub after_file_move : List ℕ → FileMove → Holding → Holding
after_file_move org (Begin sums) files = begun org sums files
after_file_move org (Upload asked file) files = uploaded asked file files
after_file_move org (Commit id) files = cond (is_complete id files) (committed id files) files

-- the files of an organisation that is there after any move
abbrev pub files_within : List ℕ → Move → Organisation → Holding → Holding
files_within org Open o files = files
files_within org (Put key object) o files = files
files_within org (TakeOut key) o files = files
files_within org (PutList key list) o files = files
files_within org (TakeList key) o files = files
files_within org (AddUser comer) o files = files
files_within org (RemoveUser name) o files = files
files_within org (AddClient comer) o files = files
files_within org (RemoveClient name) o files = files
files_within org (PutGroup name members) o files = files
files_within org (RemoveGroup name) o files = files
files_within org (OnShelves move) o files = files_after_shelf_move move o.shelved files
files_within org (OnFiles move) o files = after_file_move org move files

-- the files of any organisation after a move: one that isn't there has none to change
abbrev pub files_after_move : List ℕ → Move → State → Holding → Holding
files_after_move org move None files = files
files_after_move org move (Some organisation) files = files_within org move organisation files

-- the files after these moves, made in order
abbrev pub files_after : List ℕ → List Move → State → Holding → Holding
files_after org [] state files = files
files_after org (move ∷ rest) state files = files_after org rest (after_move move state) (files_after_move org move state files)

-- the full state of the organisation of this name after these moves
abbrev pub after_all : List ℕ → List Move → FullState → FullState
after_all org moves full = record { state = after_moves moves full.state; files = files_after org moves full.state full.files }

-- a sandbox or a file is put in, which takes room
abbrev pub puts_in_files : FileMove → Bool
puts_in_files (Begin sums) = true
puts_in_files (Upload asked file) = true
puts_in_files (Commit id) = false

-- the move puts one in
unfoldable pub takes_file_room : Move → Bool
takes_file_room Open = false
takes_file_room (Put key object) = false
takes_file_room (TakeOut key) = false
takes_file_room (PutList key list) = false
takes_file_room (TakeList key) = false
takes_file_room (AddUser comer) = false
takes_file_room (RemoveUser name) = false
takes_file_room (AddClient comer) = false
takes_file_room (RemoveClient name) = false
takes_file_room (PutGroup name members) = false
takes_file_room (RemoveGroup name) = false
takes_file_room (OnShelves move) = false
takes_file_room (OnFiles move) = puts_in_files move

-- how many of the moves do
abbrev pub files_put_in : List Move → ℕ
files_put_in moves = length (filter takes_file_room moves)

-- the move puts something on a shelf
unfoldable pub takes_shelf_room : Move → Bool
takes_shelf_room Open = false
takes_shelf_room (Put key object) = false
takes_shelf_room (TakeOut key) = false
takes_shelf_room (PutList key list) = false
takes_shelf_room (TakeList key) = false
takes_shelf_room (AddUser comer) = false
takes_shelf_room (RemoveUser name) = false
takes_shelf_room (AddClient comer) = false
takes_shelf_room (RemoveClient name) = false
takes_shelf_room (PutGroup name members) = false
takes_shelf_room (RemoveGroup name) = false
takes_shelf_room (OnShelves move) = puts_on_shelves move
takes_shelf_room (OnFiles move) = false

-- how many of the moves do
abbrev pub shelved_by : List Move → ℕ
shelved_by moves = length (filter takes_shelf_room moves)
