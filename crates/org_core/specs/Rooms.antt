-- The room that moves need.
use Rattle.std.specs.Prelude.{◌≤◌, ℕ, List}
use Rattle.membership.specs.Rooms as groups
use Rattle.object_store.specs.Objects.{Store}
use Rattle.org_core.specs.declared.moves.Move.{Move}
use Rattle.org_core.specs.FileMoves.{files_put_in, shelved_by}
use Rattle.org_core.specs.Moves.{puts_in, IsOrderly, HasRoomToJoinFirst}
use Rattle.org_shelves.specs.Shelved as shelves
use Rattle.org_core.specs.States.{room_for}

-- these moves can be made without memory: of files and sandboxes, so many more fit
pub record HasRoom (moves : List Move) (store : Store) (members : groups.Kept) (on : shelves.Kept) (spare : ℕ) : Type 0 where
  pub room : puts_in moves ≤ room_for store members
  pub orderly : IsOrderly moves
  pub joining : HasRoomToJoinFirst moves members
  pub shelved : shelved_by moves ≤ on.spare
  pub files : files_put_in moves ≤ spare
