-- The conditions that the state of every organisation meets: of its objects, of its access lists and members, of
-- what the two say of its clients, and of what is on its shelves.
use Rattle.std.specs.Prelude.{None, Some}
use Rattle.org_core.specs.AccessConditions.{AccessConditions, HasItsClients}
use Rattle.org_shelves.specs.Conditions.{ShelfConditions}
use Rattle.org_core.specs.ObjectConditions.{ObjectConditions}
use Rattle.org_core.specs.States.{State}

-- nobody meets them
abbrev pub MeetsConditions : State → Type 0
MeetsConditions None = Unit {0}
MeetsConditions (Some o) = ObjectConditions o.objects × (AccessConditions o × (HasItsClients o × ShelfConditions o.shelved))
