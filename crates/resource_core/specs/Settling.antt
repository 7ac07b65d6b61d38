-- How resources and what they fire become a plan, for the private clauses.
use Rattle.std.specs.Prelude.{◌≡◌, ◌≢◌, ℕ, Bool, true, false, List, [], ◌∷◌, Result, Ok, Err}
use Rattle.doc_tree.specs.Doc.{Doc}
use Rattle.doc_tree.specs.declared.tree.Tree.{Tree}
use Rattle.resource_core.specs.Drafts.{titles}
use Rattle.resource_core.specs.Graph.{IsOnCycle, OnCycles}
use Rattle.resource_core.specs.Plans.{Planned, nexts, resolved}
use Rattle.resource_core.specs.declared.fault.CompileFault.{CompileFault}
use Rattle.resource_core.specs.declared.fault.CompileFault.TheVariants.{ImmediateCycle, NoMemory}
use Rattle.resource_core.specs.declared.links.Notification.{Notification}
use Rattle.resource_core.specs.declared.resources.Resource.{Resource}

-- some recipes were resolved so
pub record IsResolved (resources : List Resource) (fires : List (List Notification)) : Type 0 where
  pub recipes : List Tree
  pub attributes : Doc
  pub resolves : resolved recipes attributes ≡ Ok (resources, fires)

-- those whose flag is set
abbrev pub kept : {X : Type 0} → List Bool → List X → List X
kept [] xs = []
kept (b ∷ flags) [] = []
kept (true ∷ flags) (x ∷ xs) = x ∷ kept flags xs
kept (false ∷ flags) (x ∷ xs) = kept flags xs

-- a plan has them and no cycle, and else there is one
abbrev pub Settles : List Resource → List (List Notification) → Result Planned CompileFault → Type 0
Settles resources fires (Ok plan) = (plan.resources ≡ resources) × (plan.fires ≡ fires) × ((place : ℕ) → IsOnCycle (nexts fires) place → ⊥)
Settles resources fires (Err (ImmediateCycle names)) = OnCycles (nexts fires) 0 (titles resources) names × (names ≢ [])
Settles resources fires (Err fault) = fault ≡ NoMemory
