-- The moves of these routes are orderly: nobody comes by them.
use Rattle.std.proofs.Common.{◌≡◌, Bool, true, false, cond, Option, Some, None, is_some, List, [], ◌∷◌, ℕ, length, refl, ap, Result, Ok, Err}
use Rattle.access_lists.specs.declared.starting.Container.TheVariants as container
use Rattle.org_shelves.specs.Universes.{universe_of}
use Rattle.dep_solver.specs.declared.roots.Pin.{Pin}
use Rattle.doc_tree.specs.declared.kind.Kind.TheVariants as kinds
use Rattle.object_store.specs.Objects.{key}
use Rattle.sandboxes.specs.Sums.{Sums}
use Rattle.shelves.specs.Shelves.{has_shelf}
use Rattle.org_core.specs.Contexts.{Context}
use Rattle.org_core.specs.Creating.{created_list}
use Rattle.org_core.specs.Keeping.{IsOrderlyGroup, MakesOrderly}
use Rattle.org_core.specs.Moves.{arrivals, group_joined}
use Rattle.org_core.specs.States.{cookbooks_of, object_in}
use Rattle.org_core.specs.declared.moves.Move.{Move}
use Rattle.org_core.specs.declared.moves.Move.TheVariants.{PutList, TakeList}
use Rattle.org_requests.specs.declared.refusals.Refusal.{Refusal}
use Rattle.cookbook_routes.specs.declared.operations.CookbookOperation.TheVariants as operation
use Rattle.cookbook_routes.specs.CookbookRules.{cookbook_rules}
use Rattle.cookbook_routes.specs.Sandboxes.{id_of_next, begun_if}
use Rattle.cookbook_routes.specs.Solving.{chosen, rules_of, solved_as}
use Rattle.cookbook_routes.specs.Versions.{keeps_others}

begun_orderly : (context : Context) (sums : Sums) (id : Option (List ℕ)) → MakesOrderly (begun_if context sums id)
begun_orderly context sums None = refl
begun_orderly context sums (Some id) = refl

list_orderly : (b : Bool) (one : Move) → group_joined one ≡ None → arrivals (cond b [] (one ∷ [])) ≡ 0
list_orderly true one none = refl
list_orderly false one none = ap (λ (joined : Option (List ℕ)). length (cond (is_some joined) (one ∷ []) [])) none

solved_orderly : (context : Context) (chosen : Result (List Pin) Refusal) → MakesOrderly (solved_as context chosen)
solved_orderly context (Ok pins) = refl
solved_orderly context (Err refusal) = refl

pub cookbooks_orderly : IsOrderlyGroup cookbook_rules
cookbooks_orderly context (operation.BeginSandbox sums) = begun_orderly context sums (id_of_next context.org context.files)
cookbooks_orderly context (operation.CommitSandbox id) = refl
cookbooks_orderly context (operation.Upload sum file) = refl
cookbooks_orderly context (operation.ShowFile sum) = refl
cookbooks_orderly context (operation.ListCookbooks count) = refl
cookbooks_orderly context (operation.ListVersions name) = refl
cookbooks_orderly context (operation.ShowVersion name wanted) = refl
cookbooks_orderly context (operation.PutVersion name version manifest forced) =
    list_orderly (has_shelf (cookbooks_of context.state) name) (PutList (key kinds.Cookbook name) (created_list container.Cookbooks context)) refl
cookbooks_orderly context (operation.RemoveVersion name version) = list_orderly (keeps_others (cookbooks_of context.state) name version) (TakeList (key kinds.Cookbook name)) refl
cookbooks_orderly context operation.ShowUniverse = refl
cookbooks_orderly context (operation.SolveVersions environment roots) =
    solved_orderly context (chosen (universe_of (cookbooks_of context.state)) (rules_of (object_in context.state kinds.Environment environment)) roots)
