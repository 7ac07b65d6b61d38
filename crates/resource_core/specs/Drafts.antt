-- The resources of the recipes one by one, or the first fault among them.
use Rattle.std.specs.Prelude.{ℕ, suc, Bool, false, not, ◌&&◌, ◌||◌, List, [], ◌∷◌, ◌++◌, length, map, Option, Some, None, option_map, bytes_eq, codes, if◌then◌else◌, Result, Ok, Err}
use Rattle.std.specs.List.{list_any}
use Rattle.doc_tree.specs.Doc.{Doc, Pairs}
use Rattle.doc_tree.specs.Part.{pair_at}
use Rattle.resource_core.specs.Entries.{is_to_create, stated_in}
use Rattle.resource_core.specs.Outcomes.{or_fault, then_do}
use Rattle.host_tree.specs.Paths.{is_normal}
use Rattle.resource_core.specs.Resources.{actions_in, are_known, path_of, resource, title, title_of, type_in, words_at}
use Rattle.resource_core.specs.Types.{is_create, properties}
use Rattle.resource_core.specs.Values.{first_bad, first_missing}
use Rattle.resource_core.specs.declared.fault.CompileFault.{CompileFault}
use Rattle.resource_core.specs.declared.fault.CompileFault.TheVariants.{UnknownType, UnknownAction, UnknownProperty, BadValue, MissingAttribute, PathNotNormal}
use Rattle.resource_core.specs.declared.resources.Resource.{Resource}
use Rattle.resource_core.specs.declared.types.Action.{Action}
use Rattle.resource_core.specs.declared.types.ResourceType.{ResourceType}

-- what each resource is read by: the merged attributes, and which titles a notification of any resource is to create
pub record Given : Type 0 where
  pub attributes : Doc
  pub is_created : List ℕ → Bool

-- the titles of these resources
abbrev pub titles : List Resource → List (List ℕ)
titles = map title_of

-- the first place at which a title stands among others
abbrev pub place_of : List ℕ → List (List ℕ) → Option ℕ
place_of text [] = None
place_of text (title ∷ more) = if bytes_eq text title then Some 0 else option_map (λ place. suc place) (place_of text more)

-- a notification is to create the resource of this title: it states the title, and no earlier resource has it
abbrev pub is_notified : (List ℕ → Bool) → List (List ℕ) → Option (List ℕ) → Bool
is_notified is_created earlier None = false
is_notified is_created earlier (Some own) = is_created own && not (list_any (bytes_eq own) earlier)

-- the title that pairs state, if their name has its attributes
abbrev pub title_in : Doc → ResourceType → Pairs → Option (List ℕ)
title_in attributes kind ps = option_map (title kind) (words_at attributes (codes "name") ps)

-- `create` is among its own actions, or one that it is notified of: in a `notifies` of any resource or in its own `subscribes`
abbrev pub creates : Given → List Resource → ResourceType → List Action → Pairs → Bool
creates given made kind actions ps =
    list_any is_create actions
    || (list_any is_to_create (stated_in (pair_at (codes "subscribes") ps)) || is_notified given.is_created (titles made) (title_in given.attributes kind ps))

-- the fault of what there is, or what comes next where there is nothing
abbrev pub unless : {X A : Type 0} → (X → CompileFault) → Option X → Result A CompileFault → Result A CompileFault
unless fault None next = next
unless fault (Some x) next = Err (fault x)

-- the last look: at the path
abbrev pub placed : Given → List Resource → ResourceType → List Action → Pairs → Result Resource CompileFault
placed given made kind actions ps =
    if is_normal (path_of given.attributes kind ps) then Ok (resource given.attributes kind actions ps) else Err (PathNotNormal (length made))

-- before it, at the attributes
abbrev pub attributed : Given → List Resource → ResourceType → List Action → Pairs → Result Resource CompileFault
attributed given made kind actions ps =
    unless (MissingAttribute (length made)) (first_missing given.attributes ps (properties kind)) (placed given made kind actions ps)

-- before them, at the values
abbrev pub valued : Given → List Resource → ResourceType → List Action → Pairs → Result Resource CompileFault
valued given made kind actions ps =
    unless (BadValue (length made)) (first_bad given.attributes (creates given made kind actions ps) ps (properties kind)) (attributed given made kind actions ps)

-- before them, at the properties
abbrev pub acting : Given → List Resource → ResourceType → Pairs → List Action → Result Resource CompileFault
acting given made kind ps actions = if are_known kind ps then valued given made kind actions ps else Err (UnknownProperty (length made))

-- before them, at the actions
abbrev pub typed : Given → List Resource → Pairs → ResourceType → Result Resource CompileFault
typed given made ps kind = then_do (or_fault (UnknownAction (length made)) (actions_in kind (pair_at (codes "action") ps))) (acting given made kind ps)

-- the resource behind those that are made, or its first fault: the first look is at the type
abbrev pub draft : Given → List Resource → Pairs → Result Resource CompileFault
draft given made ps = then_do (or_fault (UnknownType (length made)) (type_in ps)) (typed given made ps)

-- these resources behind those that are made, or the first fault, resource by resource
abbrev pub drafts : Given → List Pairs → List Resource → Result (List Resource) CompileFault
drafts given [] made = Ok made
drafts given (ps ∷ more) made = then_do (draft given made ps) (λ r. drafts given more (made ++ r ∷ []))
