-- What the rules of a group owe, in one record, and a route with the rules of its group.
use Rattle.std.specs.Prelude.{Bool, true, false}
use Rattle.org_core.specs.Contexts.{Context}
use Rattle.org_core.specs.Keeping.{Anyone, IsOrderlyGroup, KeepsConditions, KeepsFileConditions, Someone}
use Rattle.org_core.specs.Plain.{NeverForbids}
use Rattle.org_core.specs.Rules.{Rules}

-- all that the rules of a group owe, where such a caller asks
pub record IsLawful {Route Operation : Type 0} (Asks : Context → Type 0) (rules : Rules Route Operation) : Type 0 where
  -- what the group does keeps the conditions of an organisation's state
  pub keeps : KeepsConditions Asks rules
  -- and those of its files
  pub keeps_files : KeepsFileConditions rules
  -- its moves are orderly: who comes, comes first
  pub orderly : IsOrderlyGroup rules
  -- it refuses for want of a permission by its needs alone
  pub never_forbids : NeverForbids rules

-- a route of some group with the group's rules, and whether the route asks that its organisation is there
pub record Placed : Type 1 where
  pub Route : Type 0
  pub Operation : Type 0
  pub rules : Rules Route Operation
  pub route : Route
  pub asks : Bool

-- somebody whom the organisation knows asks, where it has to be there, and anybody where it hasn't
abbrev pub IsKnownWhere : Bool → Context → Type 0
IsKnownWhere true context = Someone context
IsKnownWhere false context = Anyone context

-- the rules of its group are lawful
abbrev pub IsLawfullyPlaced : Placed → Type 0
IsLawfullyPlaced placed = IsLawful (IsKnownWhere placed.asks) placed.rules
