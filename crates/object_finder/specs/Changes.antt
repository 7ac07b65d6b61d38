-- What changes of what a finder holds: objects come with their pairs, or go.
use Rattle.std.specs.Prelude.{ℕ, ◌+◌, List, [], ◌∷◌, Option, Some, None, cond, is_some, length, option_map, unwrap_or}
use Rattle.search_query.specs.Pair.{Pair}
use Rattle.object_finder.specs.declared.changes.Change.{Change}
use Rattle.object_finder.specs.declared.scopes.Scope.{Scope}
use Rattle.object_finder.specs.Held.{Held, Room, HasRoom, in_place, without_object}

-- the object with these pairs and no others from now on, or gone where there are none
abbrev pub from_now : Scope → List ℕ → Option (List Pair) → Held → Held
from_now scope name None held = without_object scope name held
from_now scope name (Some pairs) held = in_place scope name pairs held

-- what is held after a change: of its object what the change says, and all else as before
abbrev pub after_change : Change → Held → Held
after_change change held = from_now change.scope change.name change.pairs held

-- what is held after these changes, in order
abbrev pub after_changes : List Change → Held → Held
after_changes [] held = held
after_changes (change ∷ rest) held = after_changes rest (after_change change held)

-- how many objects come with a change: one, or none
abbrev pub objects_in : Change → ℕ
objects_in change = cond (is_some change.pairs) 1 0

-- how many pairs come with a change
abbrev pub pairs_in : Change → ℕ
pairs_in change = unwrap_or (option_map length change.pairs) 0

-- how many objects come
abbrev pub objects_come : List Change → ℕ
objects_come [] = 0
objects_come (change ∷ rest) = objects_in change + objects_come rest

-- and how many pairs with them
abbrev pub pairs_come : List Change → ℕ
pairs_come [] = 0
pairs_come (change ∷ rest) = pairs_in change + pairs_come rest

-- there is room for all that comes
abbrev pub HasRoomFor : Option Room → List Change → Type 0
HasRoomFor room changes = HasRoom room (objects_come changes) (pairs_come changes) (pairs_come changes)
