-- What visiting the items of a run list gives, role by role, depth first.
use Rattle.std.specs.Prelude.{◌≡◌, ℕ, Bool, true, false, List, [], ◌∷◌, ◌++◌, Option, Some, None, bytes_eq}
use Rattle.std.specs.List.{list_any}
use Rattle.version_rules.specs.declared.versions.Version.{Version}
use Rattle.run_lists.specs.Stored.{Stored}
use Rattle.run_lists.specs.declared.names.Named.TheVariants.{Recipe, Role}
use Rattle.run_lists.specs.declared.names.RecipeName.{RecipeName}
use Rattle.run_lists.specs.declared.roles.RunLists.{RunLists}
use Rattle.run_lists.specs.Roles.{run_list_in}

-- a recipe to be run: its item, and the name and the version that the item gives
pub record Run : Type 0 where
  pub item : Stored
  pub name : RecipeName
  pub version : Option Version

-- a recipe is to be run, a role isn't there, or the visit of a role ends
pub data Event : Type 0 where
  run : Run → Event
  missing : List ℕ → Event
  leave : List ℕ → Event

-- the name is among these
abbrev pub is_among : List (List ℕ) → List ℕ → Bool
is_among names name = list_any (bytes_eq name) names

-- visiting these items, where some roles are met, gives these events, and then these roles are met
pub data Visit (roles : List (List ℕ × RunLists)) (env : List ℕ) : List (List ℕ) → List Stored → List Event → List (List ℕ) → Type 0 where
  -- no item gives no event
  no_item : {met : List (List ℕ)} → Visit roles env met [] [] met
  -- the item of a recipe gives its event
  recipe : {met after : List (List ℕ)} {item : Stored} {rest : List Stored} {events : List Event} (name : RecipeName) (version : Option Version)
      → item.named ≡ Recipe name version
      → Visit roles env met rest events after
      → Visit roles env met (item ∷ rest) (run (record { item = item; name = name; version = version }) ∷ events) after
  -- a role that is met gives none
  met_again : {met after : List (List ℕ)} {item : Stored} {rest : List Stored} {events : List Event} (role : List ℕ)
      → item.named ≡ Role role
      → is_among met role ≡ true
      → Visit roles env met rest events after
      → Visit roles env met (item ∷ rest) events after
  -- a role that isn't there is missing
  not_there : {met after : List (List ℕ)} {item : Stored} {rest : List Stored} {events : List Event} (role : List ℕ)
      → item.named ≡ Role role
      → is_among met role ≡ false
      → run_list_in roles env role ≡ None
      → Visit roles env met rest events after
      → Visit roles env met (item ∷ rest) (missing role ∷ events) after
  -- any other role gives the visit of its run list, where it is met too, and then its leave; the rest follows with all that was met
  enter : {met between after : List (List ℕ)} {item : Stored} {rest : List Stored} {below events : List Event} (role : List ℕ) (items : List Stored)
      → item.named ≡ Role role
      → is_among met role ≡ false
      → run_list_in roles env role ≡ Some items
      → Visit roles env (met ++ role ∷ []) items below between
      → Visit roles env between rest events after
      → Visit roles env met (item ∷ rest) (below ++ leave role ∷ events) after

-- visiting a run list, where no role is met, gives these events
abbrev pub Visits : List (List ℕ × RunLists) → List ℕ → List Stored → List Event → Type 0
Visits roles env items events = (met : List (List ℕ)) × Visit roles env [] items events met
