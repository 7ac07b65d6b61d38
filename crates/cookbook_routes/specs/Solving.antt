-- The route of the versions for a run list: the best set of cookbook versions, or that there is none.
use Rattle.std.specs.Prelude.{◌≡◌, ℕ, ◌+◌, List, [], map, length, codes, Option, Some, None, option_and_then, Result, Ok, Err}
use Rattle.org_shelves.specs.Editions.{read_or}
use Rattle.org_shelves.specs.Universes.{universe_of}
use Rattle.cookbook_meta.specs.Metadata.{needs_of}
use Rattle.cookbook_meta.specs.Stored.{with_pairs}
use Rattle.dep_solver.specs.Chosen.{best_of, lacking, without_version}
use Rattle.dep_solver.specs.declared.roots.Pin.{Pin}
use Rattle.dep_solver.specs.declared.roots.Roots.{Roots}
use Rattle.dep_solver.specs.declared.rules.EnvRules.{EnvRules}
use Rattle.dep_solver.specs.declared.solved.Solved.{Solved}
use Rattle.dep_solver.specs.declared.universe.Universe.{Universe}
use Rattle.doc_tree.specs.Doc.{Doc, dict, pairs_of}
use Rattle.doc_tree.specs.Part.{part_at}
use Rattle.doc_tree.specs.declared.kind.Kind.TheVariants as kinds
use Rattle.run_lists.specs.Reading.{recipes_of}
use Rattle.run_lists.specs.Roots.{roots_in}
use Rattle.run_lists.specs.Stored.{Stored}
use Rattle.org_core.specs.Contexts.{Context}
use Rattle.org_core.specs.Manifests.{shown_found}
use Rattle.org_core.specs.Outcomes.{Decided, shows}
use Rattle.org_core.specs.States.{cookbooks_of, object_in}
use Rattle.org_requests.specs.declared.refusals.Refusal.{Refusal}
use Rattle.org_requests.specs.declared.refusals.Refusal.TheVariants.{BadField, Unsolvable}
use Rattle.cookbook_routes.specs.Versions.{stored_at}

-- what the items ask for, or the bad field
abbrev pub or_bad_run_list : Option (List Stored) → Result Roots Refusal
or_bad_run_list None = Err (BadField (codes "run_list"))
or_bad_run_list (Some items) = Ok (roots_in items)

-- what a document asks for by the list at its key `run_list`, whose items are recipes
abbrev pub roots_asked : Result Doc Refusal → Result Roots Refusal
roots_asked (Ok doc) = or_bad_run_list (option_and_then recipes_of (part_at (codes "run_list") doc))
roots_asked (Err refusal) = Err refusal

-- the rules of an environment: what its `cookbook_versions` ask of the versions of cookbooks
abbrev pub rules_of : Option Doc → EnvRules
rules_of environment = record { rules = read_or [] (needs_of (option_and_then (part_at (codes "cookbook_versions")) environment)) }

-- the best set of versions, or why there is none
abbrev pub best_or_none : Universe → EnvRules → Roots → Option (List Pin) → Result (List Pin) Refusal
best_or_none universe rules roots (Some pins) = Ok pins
best_or_none universe rules roots None = Err (Unsolvable (lacking universe roots) (without_version universe rules roots))

abbrev pub chosen : Universe → EnvRules → Roots → Result (List Pin) Refusal
chosen universe rules roots = best_or_none universe rules roots (best_of universe rules roots)

-- a chosen version by its cookbook's name, as GET of it shows it
abbrev pub chosen_pair : Context → Pin → List ℕ × Doc
chosen_pair context pin = (pin.name, shown_found context.org (stored_at context pin.name pin.version))

-- the chosen versions, by the names of their cookbooks
abbrev pub chosen_doc : Context → List Pin → Doc
chosen_doc context pins = dict (pairs_of (with_pairs (map (chosen_pair context) pins) []))

-- 200 with them, or the refusal. The environment is looked at, and each version that is chosen
abbrev pub solved_as : Context → Result (List Pin) Refusal → Decided
solved_as context (Ok pins) = record { answer = Ok (record { told = shows (chosen_doc context pins); moves = [] }); looks = 1 + length pins; searched = None }
solved_as context (Err refusal) = record { answer = Err refusal; looks = 1; searched = None }

-- the best set of all cookbook versions of the organisation, under the rules of the environment
abbrev pub versions_solved : Context → List ℕ → Roots → Decided
versions_solved context environment roots =
    solved_as context (chosen (universe_of (cookbooks_of context.state)) (rules_of (object_in context.state kinds.Environment environment)) roots)

-- the solution is that of this universe, these rules and these roots
pub record Solves (solved : Solved) (universe : Universe) (rules : EnvRules) (roots : Roots) : Type 0 where
  pub of_roots : solved.roots ≡ roots
  pub of_rules : solved.rules ≡ rules
  pub of_universe : solved.universe ≡ universe
