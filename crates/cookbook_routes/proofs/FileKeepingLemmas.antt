-- What is done to cookbooks, sandboxes and files keeps the conditions of files: what a version names is there.
use Rattle.std.proofs.Common.{◌≡◌, true, false, not, ◌&&◌, cond, List, ℕ, [], ◌∷◌, Option, Some, None, refl, sym, ◌∙◌, Result, Ok, Err}
use Rattle.membership.proofs.TextSetLemmas.{lists-in_order}
use Rattle.membership.specs.TextSets.{in_order}
use Rattle.access_lists.specs.declared.starting.Container.TheVariants as container
use Rattle.org_shelves.proofs.FrozenLemmas.{parts_frozen}
use Rattle.org_shelves.specs.Universes.{universe_of}
use Rattle.dep_solver.specs.declared.roots.Pin.{Pin}
use Rattle.org_shelves.specs.Editions.{is_frozen, names_sum, needs_in, sums_in}
use Rattle.org_shelves.specs.Frozen.{freeze}
use Rattle.doc_tree.specs.Doc.{Doc, null, boolean, whole, words, list, dict}
use Rattle.doc_tree.specs.declared.kind.Kind.TheVariants as kinds
use Rattle.object_store.specs.Objects.{key}
use Rattle.sandboxes.specs.Sums.{Sums}
use Rattle.shelves.specs.Shelves.{has_shelf}
use Rattle.org_core.proofs.FileConditionsLemmas.{list_puts_none, moves_keep_files, put_keeps_files}
use Rattle.org_core.proofs.ManifestsLemmas.{named_there, none_told, second_none}
use Rattle.org_core.specs.Contexts.{Context}
use Rattle.org_core.specs.Creating.{created_list}
use Rattle.org_core.specs.FileMoves.{takes_shelf_room}
use Rattle.org_core.specs.FullStates.{MeetsFileConditions}
use Rattle.org_core.specs.Keeping.{KeepsFileConditions, LeadsToFileConditions, full_of}
use Rattle.org_core.specs.Manifests.{missing_sums, missing_told}
use Rattle.org_core.specs.States.{cookbooks_of, object_in}
use Rattle.org_shelves.specs.declared.shelf_moves.ShelfMove.TheVariants as shelf
use Rattle.org_core.specs.declared.file_moves.FileMove.TheVariants as files
use Rattle.org_core.specs.declared.moves.Move.TheVariants.{OnShelves, OnFiles, PutList, TakeList}
use Rattle.org_requests.specs.declared.refusals.Refusal.{Refusal}
use Rattle.org_requests.specs.declared.refusals.Refusal.TheVariants.{Frozen}
use Rattle.cookbook_routes.specs.declared.operations.CookbookOperation.{CookbookOperation}
use Rattle.cookbook_routes.specs.declared.operations.CookbookOperation.TheVariants as operation
use Rattle.cookbook_routes.specs.CookbookRules.{cookbook_does, cookbook_refusal, cookbook_rules}
use Rattle.cookbook_routes.specs.Sandboxes.{begun_if, id_of_next}
use Rattle.cookbook_routes.specs.Solving.{chosen, rules_of, solved_as}
use Rattle.cookbook_routes.specs.Versions.{is_frozen_found, keeps_others, stored_at, stored_over}

-- ---- a version is put where no file is missing

-- what is frozen names the same files
names_frozen : (manifest : Doc) (sum : List ℕ) → names_sum (freeze manifest) sum ≡ names_sum manifest sum
names_frozen null sum = refl
names_frozen (boolean b) sum = refl
names_frozen (whole z) sum = refl
names_frozen (words text) sum = refl
names_frozen (list docs) sum = refl
names_frozen (dict ps) sum =
    sym ((parts_frozen ps (needs_in (dict ps)) (is_frozen (dict ps)) (sums_in (dict ps)) (record { needs_are = refl; frozen_is = refl; sums_are = λ _. refl })).sums_are sum)

same_names : (found : Option Doc) (manifest : Doc) (sum : List ℕ) → names_sum (stored_over found manifest) sum ≡ true → names_sum manifest sum ≡ true
same_names found manifest sum =
    elim (is_frozen_found found) as (λ b. names_sum (cond b (freeze manifest) manifest) sum ≡ true → names_sum manifest sum ≡ true) [
      | true ↦ λ names. sym (names_frozen manifest sum) ∙ names
      | false ↦ λ names. names
    ]

-- ---- whatever is done

begun_keeps_files : (context : Context) (sums : Sums) (id : Option (List ℕ)) → MeetsFileConditions (full_of context) → LeadsToFileConditions context (begun_if context sums id)
unfolding takes_shelf_room
begun_keeps_files context sums None meets = meets
begun_keeps_files context sums (Some id) meets = moves_keep_files context.org (OnFiles (files.Begin sums) ∷ []) (full_of context) refl meets

solved_keeps_files : (context : Context) (chosen : Result (List Pin) Refusal) → MeetsFileConditions (full_of context) → LeadsToFileConditions context (solved_as context chosen)
solved_keeps_files context (Ok pins) meets = meets
solved_keeps_files context (Err refusal) meets = meets

does_keep_files : (context : Context) (asked : CookbookOperation) → MeetsFileConditions (full_of context) → cookbook_refusal context asked ≡ None → LeadsToFileConditions context (cookbook_does context asked)
unfolding takes_shelf_room
does_keep_files context (operation.BeginSandbox sums) meets free = begun_keeps_files context sums (id_of_next context.org context.files) meets
does_keep_files context (operation.CommitSandbox id) meets free = moves_keep_files context.org (OnFiles (files.Commit id) ∷ []) (full_of context) refl meets
does_keep_files context (operation.Upload sum file) meets free = moves_keep_files context.org (OnFiles (files.Upload sum file) ∷ []) (full_of context) refl meets
does_keep_files context (operation.ShowFile sum) meets free = meets
does_keep_files context (operation.ListCookbooks count) meets free = meets
does_keep_files context (operation.ListVersions name) meets free = meets
does_keep_files context (operation.ShowVersion name wanted) meets free = meets
does_keep_files context (operation.PutVersion name version manifest forced) meets free =
    let found : Option Doc = stored_at context name version in
    let none : missing_sums context.files manifest ≡ [] =
    none_told (missing_sums context.files manifest) (second_none Frozen (is_frozen_found found && not forced) (missing_told (missing_sums context.files manifest)) free) in
    put_keeps_files context.org (OnShelves (shelf.PutVersion name version (stored_over found manifest)))
    (cond (has_shelf (cookbooks_of context.state) name) [] (PutList (key kinds.Cookbook name) (created_list container.Cookbooks context) ∷ [])) (full_of context)
    (list_puts_none (has_shelf (cookbooks_of context.state) name) (PutList (key kinds.Cookbook name) (created_list container.Cookbooks context)) refl)
    (λ sum names. named_there context.files manifest none sum (same_names found manifest sum names)) meets
does_keep_files context (operation.RemoveVersion name version) meets free =
    put_keeps_files context.org (OnShelves (shelf.TakeVersion name version)) (cond (keeps_others (cookbooks_of context.state) name version) [] (TakeList (key kinds.Cookbook name) ∷ [])) (full_of context)
    (list_puts_none (keeps_others (cookbooks_of context.state) name version) (TakeList (key kinds.Cookbook name)) refl) tt meets
does_keep_files context operation.ShowUniverse meets free = meets
does_keep_files context (operation.SolveVersions environment roots) meets free =
    solved_keeps_files context (chosen (universe_of (cookbooks_of context.state)) (rules_of (object_in context.state kinds.Environment environment)) roots) meets

pub cookbooks_keep_files : KeepsFileConditions cookbook_rules
cookbooks_keep_files context route request asked meets is free = does_keep_files context asked meets free
