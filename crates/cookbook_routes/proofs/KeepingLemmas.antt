-- What is done to cookbooks, sandboxes and files keeps the conditions of the organisation's state.
use Rattle.std.proofs.Common.{◌≡◌, Bool, true, false, not, ◌&&◌, cond, List, ℕ, [], ◌∷◌, Option, Some, None, is_some, refl, Result, Ok, Err}
use Rattle.access_lists.specs.declared.acl.Acl.{Acl}
use Rattle.access_lists.specs.declared.starting.Container.TheVariants as container
use Rattle.org_shelves.proofs.FrozenLemmas.{frozen_stays}
use Rattle.org_shelves.specs.Frozen.{freeze}
use Rattle.org_shelves.specs.Universes.{universe_of}
use Rattle.dep_solver.specs.declared.roots.Pin.{Pin}
use Rattle.dep_solver.proofs.VersionLemmas.{versions_total}
use Rattle.doc_tree.specs.Doc.{Doc}
use Rattle.doc_tree.specs.Name.{is_name}
use Rattle.doc_tree.specs.declared.kind.Kind.TheVariants as kinds
use Rattle.object_store.specs.Objects.{key}
use Rattle.object_store.specs.declared.key.Key.{Key}
use Rattle.sandboxes.specs.Sums.{Sums}
use Rattle.shelves.proofs.ShelfLaws.{value-has_shelf}
use Rattle.shelves.specs.Shelves.{has_shelf, value_at}
use Rattle.version_rules.specs.declared.versions.Version.{Version}
use Rattle.org_core.proofs.ConditionsLemmas.{created_known}
use Rattle.org_core.proofs.ShelfConditionsLemmas.{first_version_keeps, last_version_keeps, put_version_keeps, take_version_keeps}
use Rattle.org_core.specs.declared.file_moves.FileMove.{FileMove}
use Rattle.org_core.specs.declared.file_moves.FileMove.TheVariants as files
use Rattle.org_core.specs.declared.moves.Move.{Move}
use Rattle.org_shelves.specs.declared.shelf_moves.ShelfMove.TheVariants.{PutVersion, TakeVersion}
use Rattle.org_core.specs.declared.moves.Move.TheVariants.{OnShelves, OnFiles, PutList, TakeList}
use Rattle.org_core.specs.Conditions.{MeetsConditions}
use Rattle.org_core.specs.Contexts.{Context, in_state}
use Rattle.org_shelves.specs.Conditions.{IsVersionOf}
use Rattle.org_core.specs.Creating.{created_list}
use Rattle.org_core.specs.Keeping.{KeepsConditions, LeadsToConditions, Someone}
use Rattle.org_core.specs.Moves.{after_moves}
use Rattle.org_core.specs.Needs.{is_known}
use Rattle.org_core.specs.States.{Organisation, State, cookbooks_of, object_in}
use Rattle.org_requests.specs.declared.refusals.Refusal.{Refusal}
use Rattle.cookbook_routes.proofs.ReadLemmas.{WasRead, was_read}
use Rattle.cookbook_routes.specs.declared.operations.CookbookOperation.{CookbookOperation}
use Rattle.cookbook_routes.specs.declared.operations.CookbookOperation.TheVariants as operation
use Rattle.cookbook_routes.specs.CookbookRules.{cookbook_rules, cookbook_does, cookbook_lacks}
use Rattle.cookbook_routes.specs.Sandboxes.{id_of_next, begun_if}
use Rattle.cookbook_routes.specs.Solving.{chosen, rules_of, solved_as}
use Rattle.cookbook_routes.specs.Versions.{is_frozen_found, keeps_others, put_moves, removal, stored_at, stored_over}

-- ---- files

-- a move on files changes no state
still_meets : (state : State) (move : FileMove) → MeetsConditions state → MeetsConditions (after_moves (OnFiles move ∷ []) state)
still_meets None move meets = meets
still_meets (Some organisation) move meets = meets

begun_keeps : (context : Context) (sums : Sums) (id : Option (List ℕ)) → MeetsConditions context.state → LeadsToConditions context.state (begun_if context sums id)
begun_keeps context sums None meets = meets
begun_keeps context sums (Some id) meets = still_meets context.state (files.Begin sums) meets

-- ---- versions

-- what is stored over a frozen version is what is stored of its name and version too
over_is : (found : Option Doc) (name : List ℕ) (version : Version) (manifest : Doc) → IsVersionOf name version manifest → IsVersionOf name version (stored_over found manifest)
over_is found name version manifest (named, stored) =
    elim (is_frozen_found found) as (λ b. IsVersionOf name version (cond b (freeze manifest) manifest)) [
      | true ↦ (named, (frozen_stays name version manifest stored).stored)
      | false ↦ (named, stored)
    ]

-- a version is put in, with the list of a cookbook that isn't there
abbrev put_first : Bool → List ℕ → Version → Doc → Acl → List Move
put_first b name version manifest list = OnShelves (PutVersion name version manifest) ∷ cond b [] (PutList (key kinds.Cookbook name) list ∷ [])

-- a version goes, with the list of a cookbook that isn't there without it
abbrev take_last : Bool → List ℕ → Version → List Move
take_last b name version = OnShelves (TakeVersion name version) ∷ cond b [] (TakeList (key kinds.Cookbook name) ∷ [])

-- who isn't there stays so
nobody_put : (b : Bool) (k : Key) (list : Acl) → MeetsConditions (after_moves (cond b [] (PutList k list ∷ [])) None)
nobody_put true k list = tt
nobody_put false k list = tt

nobody_taken : (b : Bool) (k : Key) → MeetsConditions (after_moves (cond b [] (TakeList k ∷ [])) None)
nobody_taken true k = tt
nobody_taken false k = tt

put_if : (context : Context) (o : Organisation) (name : List ℕ) (version : Version) (manifest : Doc) (b : Bool) → MeetsConditions (Some o) → is_known (in_state (Some o) context) ≡ true → IsVersionOf name version manifest
    → has_shelf o.shelved.cookbooks name ≡ b
    → MeetsConditions (after_moves (put_first b name version manifest (created_list container.Cookbooks (in_state (Some o) context))) (Some o))
put_if context o name version manifest true meets known is there = put_version_keeps o name version manifest meets is there
put_if context o name version manifest false meets known is none =
    let (objects, (access, rest)) = meets in
    first_version_keeps o name version manifest (created_list container.Cookbooks (in_state (Some o) context)) meets is (created_known container.Cookbooks context o access known)

put_keeps : (context : Context) (state : State) (name : List ℕ) (version : Version) (manifest : Doc) → MeetsConditions state → is_known (in_state state context) ≡ true → IsVersionOf name version manifest
    → MeetsConditions (after_moves (put_moves (in_state state context) name version manifest) state)
put_keeps context None name version manifest meets known is = nobody_put (has_shelf _ name) (key kinds.Cookbook name) (created_list container.Cookbooks (in_state None context))
put_keeps context (Some o) name version manifest meets known is = put_if context o name version manifest (has_shelf o.shelved.cookbooks name) meets known is refl

remove_if : (o : Organisation) (name : List ℕ) (version : Version) (b : Bool) → MeetsConditions (Some o) → has_shelf o.shelved.cookbooks name ≡ true → keeps_others o.shelved.cookbooks name version ≡ b
    → MeetsConditions (after_moves (take_last b name version) (Some o))
remove_if o name version true meets there stays = take_version_keeps o name version meets there stays
remove_if o name version false meets there gone = last_version_keeps o name version meets there gone

some_there : (found : Option Doc) → is_some found ≡ true → (manifest : Doc) × (found ≡ Some manifest)
some_there None is = cc
some_there (Some manifest) is = (manifest, refl)

remove_keeps : (context : Context) (state : State) (name : List ℕ) (version : Version) → MeetsConditions state → is_some (stored_at (in_state state context) name version) ≡ true
    → MeetsConditions (after_moves (removal (in_state state context) name version) state)
remove_keeps context None name version meets there = nobody_taken (keeps_others _ name version) (key kinds.Cookbook name)
remove_keeps context (Some o) name version meets there =
    let (manifest, stands) = some_there (value_at o.shelved.cookbooks name version) there in
    remove_if o name version (keeps_others o.shelved.cookbooks name version) meets (value-has_shelf versions_total o.shelved.cookbooks name version manifest stands) refl

not_lacking : (named : Bool) (there : Bool) → not (named && there) ≡ false → there ≡ true
not_lacking true true is = refl
not_lacking true false is = cc
not_lacking false there is = cc

solved_keeps : (context : Context) (chosen : Result (List Pin) Refusal) → MeetsConditions context.state → LeadsToConditions context.state (solved_as context chosen)
solved_keeps context (Ok pins) meets = meets
solved_keeps context (Err refusal) meets = meets

does_keep : (context : Context) (asked : CookbookOperation) → MeetsConditions context.state → is_known context ≡ true → WasRead asked → cookbook_lacks context asked ≡ false
    → LeadsToConditions context.state (cookbook_does context asked)
does_keep context (operation.BeginSandbox sums) meets known read found = begun_keeps context sums (id_of_next context.org context.files) meets
does_keep context (operation.CommitSandbox id) meets known read found = still_meets context.state (files.Commit id) meets
does_keep context (operation.Upload sum file) meets known read found = still_meets context.state (files.Upload sum file) meets
does_keep context (operation.ShowFile sum) meets known read found = meets
does_keep context (operation.ListCookbooks count) meets known read found = meets
does_keep context (operation.ListVersions name) meets known read found = meets
does_keep context (operation.ShowVersion name wanted) meets known read found = meets
does_keep context (operation.PutVersion name version manifest forced) meets known read found =
    put_keeps context context.state name version (stored_over (stored_at context name version) manifest) meets known (over_is (stored_at context name version) name version manifest read)
does_keep context (operation.RemoveVersion name version) meets known read found =
    remove_keeps context context.state name version meets (not_lacking (is_name name) (is_some (stored_at context name version)) found)
does_keep context operation.ShowUniverse meets known read found = meets
does_keep context (operation.SolveVersions environment roots) meets known read found =
    solved_keeps context (chosen (universe_of (cookbooks_of context.state)) (rules_of (object_in context.state kinds.Environment environment)) roots) meets

pub cookbooks_keep : KeepsConditions Someone cookbook_rules
cookbooks_keep context route request asked meets known is found free = does_keep context asked meets known (was_read route request.verb request.parameters request.body asked is) found
