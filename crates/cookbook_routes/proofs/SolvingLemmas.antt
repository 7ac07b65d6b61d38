-- The versions that are chosen, or why none are, with the looks.
use Rattle.std.proofs.Common.{◌≡◌, ◌+◌, ◌≤◌, ℕ, List, Result, Ok, Err, sym, ap, subst, ◌∙◌, arith}
use Rattle.dep_solver.specs.declared.roots.Pin.{Pin}
use Rattle.org_core.specs.Contexts.{Context}
use Rattle.org_core.specs.Outcomes.{IsAsDecided, Looked}
use Rattle.org_requests.specs.Refusals.{Tells}
use Rattle.org_core.specs.declared.rules.Prepared.{Prepared}
use Rattle.org_requests.specs.declared.refusals.Refusal.{Refusal}
use Rattle.org_requests.specs.declared.refusals.Stop.{Stop}
use Rattle.org_requests.specs.declared.refusals.Stop.TheVariants.{Refused, NoMemory}
use Rattle.cookbook_routes.specs.Solving.{solved_as}

-- ---- none are chosen

pub stopped_done : (context : Context) (stop : Stop) (due : Result (List Pin) Refusal) → Tells {T = List Pin} (Err stop) due → IsAsDecided (Err stop) (solved_as context due).answer
stopped_done context NoMemory due told = tt
stopped_done context (Refused refusal) due told = ap (λ d. (solved_as context d).answer) told

some_looks : (context : Context) (due : Result (List Pin) Refusal) → 1 ≤ (solved_as context due).looks
some_looks context (Ok pins) = omega arith
some_looks context (Err refusal) = omega arith

pub stopped_looked : (context : Context) (stop : Stop) (due : Result (List Pin) Refusal) (before now : ℕ) → Tells {T = List Pin} (Err stop) due → now ≡ before + 1 → Looked {T = Prepared} (Err stop) (solved_as context due).looks before now
stopped_looked context NoMemory due before now told one =
    let some = some_looks context due in
    (omega arith, omega arith)
stopped_looked context (Refused refusal) due before now told one = one ∙ ap (λ d. before + (solved_as context d).looks) (sym told)

-- ---- some are

pub shown_done : (context : Context) (result : Result Prepared Stop) (pins : List Pin) (due : Result (List Pin) Refusal) → due ≡ Ok pins → IsAsDecided result (solved_as context (Ok pins)).answer → IsAsDecided result (solved_as context due).answer
shown_done context result pins due chosen shown = subst (λ d. IsAsDecided result (solved_as context d).answer) (sym chosen) shown

looked_later : (result : Result Prepared Stop) (n before between now : ℕ) → between ≡ before + 1 → Looked result n between now → Looked result (1 + n) before now
looked_later (Ok prepared) n before between now one looked = omega arith
looked_later (Err (Refused refusal)) n before between now one looked = omega arith
looked_later (Err NoMemory) n before between now one looked =
    let from = looked.0 in
    let to = looked.1 in
    (omega arith, omega arith)

pub shown_looked : (context : Context) (result : Result Prepared Stop) (n : ℕ) (pins : List Pin) (due : Result (List Pin) Refusal) (before between now : ℕ) → due ≡ Ok pins → 1 + n ≡ (solved_as context (Ok pins)).looks → between ≡ before + 1
    → Looked result n between now → Looked result (solved_as context due).looks before now
shown_looked context result n pins due before between now chosen all one looked =
    subst (λ (looks : ℕ). Looked result looks before now) (all ∙ ap (λ d. (solved_as context d).looks) (sym chosen)) (looked_later result n before between now one looked)
