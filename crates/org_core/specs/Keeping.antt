-- What leads from a state that meets the conditions to one that does.
use Rattle.std.specs.Prelude.{◌≡◌, true, false, None, Ok}
use Rattle.org_requests.specs.declared.requests.Request.{Request}
use Rattle.org_core.specs.Conditions.{MeetsConditions}
use Rattle.org_core.specs.Contexts.{Context}
use Rattle.org_core.specs.FileMoves.{after_all, shelved_by}
use Rattle.org_core.specs.FullStates.{FullState, MeetsFileConditions}
use Rattle.org_core.specs.Moves.{IsOrderly, after_moves}
use Rattle.org_core.specs.Needs.{is_known}
use Rattle.org_core.specs.Outcomes.{Decided, outcome_of}
use Rattle.org_core.specs.Rules.{Rules}
use Rattle.org_core.specs.States.{State}

-- what was decided leads to a state that meets the conditions
abbrev pub LeadsToConditions : State → Decided → Type 0
LeadsToConditions state decided = MeetsConditions (after_moves (outcome_of decided.answer).moves state)

-- whoever asks
abbrev pub Anyone : Context → Type 0
Anyone context = Unit {0}

-- somebody whom the organisation knows asks
abbrev pub Someone : Context → Type 0
Someone context = is_known context ≡ true

-- what a group does for such a caller keeps the conditions: an operation that was read, whose object is there and that
-- the group itself doesn't refuse leads from a state that meets them to one that does
abbrev pub KeepsConditions : {Route Operation : Type 0} → (Context → Type 0) → Rules Route Operation → Type 0
KeepsConditions {Route} {Operation} Asks rules =
    (context : Context) (route : Route) (request : Request) (operation : Operation) → MeetsConditions context.state → Asks context
    → rules.operation context route request ≡ Ok operation → rules.lacks context operation ≡ false → rules.own_refusal context operation ≡ None
    → LeadsToConditions context.state (rules.does context operation)

-- what was decided is made of moves that are orderly
abbrev pub MakesOrderly : Decided → Type 0
MakesOrderly decided = IsOrderly (outcome_of decided.answer).moves

-- whatever a group does is
abbrev pub IsOrderlyGroup : {Route Operation : Type 0} → Rules Route Operation → Type 0
IsOrderlyGroup {Route} {Operation} rules = (context : Context) (operation : Operation) → MakesOrderly (rules.does context operation)

-- the full state that a context sees
abbrev pub full_of : Context → FullState
full_of context = record { state = context.state; files = context.files }

-- what was decided leads to files that meet their conditions
abbrev pub LeadsToFileConditions : Context → Decided → Type 0
LeadsToFileConditions context decided = MeetsFileConditions (after_all context.org (outcome_of decided.answer).moves (full_of context))

-- what a group does keeps the conditions of files: an operation that was read and that the group itself doesn't refuse
-- leads from files that meet them to files that do
abbrev pub KeepsFileConditions : {Route Operation : Type 0} → Rules Route Operation → Type 0
KeepsFileConditions {Route} {Operation} rules =
    (context : Context) (route : Route) (request : Request) (operation : Operation) → MeetsFileConditions (full_of context)
    → rules.operation context route request ≡ Ok operation → rules.own_refusal context operation ≡ None → LeadsToFileConditions context (rules.does context operation)

-- what was decided puts nothing on a shelf
abbrev pub ShelvesNothing : Decided → Type 0
ShelvesNothing decided = shelved_by (outcome_of decided.answer).moves ≡ 0

-- whatever a group does puts nothing there
abbrev pub NeverShelves : {Route Operation : Type 0} → Rules Route Operation → Type 0
NeverShelves {Route} {Operation} rules = (context : Context) (operation : Operation) → ShelvesNothing (rules.does context operation)
