-- A resource, by what its pairs state.
use Rattle.std.specs.Prelude.{ℕ, Bool, true, false, List, [], ◌∷◌, ◌++◌, take, Option, Some, None, option_and_then, option_map, unwrap_or, codes, if◌then◌else◌}
use Rattle.doc_tree.specs.Text.{text_of}
use Rattle.doc_tree.specs.Doc.{Doc, null, boolean, whole, words, list, dict, docs_list, Pairs, no_pairs, then_pair}
use Rattle.doc_tree.specs.Part.{pair_at}
use Rattle.resource_core.specs.Entries.{entries_of}
use Rattle.resource_core.specs.Outcomes.{each_of}
use Rattle.resource_core.specs.Modes.{mode_of}
use Rattle.resource_core.specs.Templates.{stated, words_of}
use Rattle.resource_core.specs.Types.{action_in, is_known, row, type_named}
use Rattle.resource_core.specs.Values.{truth_of}
use Rattle.resource_core.specs.declared.entries.Entry.{Entry}
use Rattle.resource_core.specs.declared.resources.Resource.{Resource}
use Rattle.resource_core.specs.declared.types.Action.{Action}
use Rattle.resource_core.specs.declared.types.ResourceType.{ResourceType}

-- `type[name]`
abbrev pub title : ResourceType → List ℕ → List ℕ
title kind name = (row kind).word ++ (codes "[" ++ (name ++ codes "]"))

-- the title of a resource
abbrev pub title_of : Resource → List ℕ
title_of r = title r.kind r.name

-- the type that pairs state
abbrev pub type_in : Pairs → Option ResourceType
type_in ps = option_and_then type_named (option_and_then text_of (pair_at (codes "type") ps))

-- the action of the type that a document names
abbrev pub action_of : ResourceType → Doc → Option Action
action_of kind d = option_and_then (action_in kind) (text_of d)

-- the actions that a document names: a text or a list of texts
abbrev pub actions_of : ResourceType → Doc → Option (List Action)
actions_of kind null = None
actions_of kind (boolean b) = None
actions_of kind (whole z) = None
actions_of kind (words word) = option_map (λ action. action ∷ []) (action_in kind word)
actions_of kind (list ds) = each_of (action_of kind) (docs_list ds)
actions_of kind (dict ps) = None

-- the own actions: the default of the type where none is stated
abbrev pub actions_in : ResourceType → Option Doc → Option (List Action)
actions_in kind None = Some (take 1 (row kind).actions)
actions_in kind (Some d) = actions_of kind d

-- each key is one that a resource of this type may have
abbrev pub are_known : ResourceType → Pairs → Bool
are_known kind no_pairs = true
are_known kind (then_pair key d ps) = if is_known kind key then are_known kind ps else false

-- the text that is stated for a property, with its attributes
abbrev pub words_at : Doc → List ℕ → Pairs → Option (List ℕ)
words_at attributes key ps = words_of (stated attributes (pair_at key ps))

-- the truth value that is stated for a property, else false
abbrev pub truth_at : List ℕ → Pairs → Bool
truth_at key ps = unwrap_or (option_and_then truth_of (pair_at key ps)) false

-- the entries that are stated, else none
abbrev pub entries_at : List ℕ → Pairs → List Entry
entries_at key ps = unwrap_or (option_and_then entries_of (pair_at key ps)) []

-- the name, with its attributes
abbrev pub name_at : Doc → Pairs → List ℕ
name_at attributes ps = unwrap_or (words_at attributes (codes "name") ps) []

-- where it lies: at its path, which is its name where none is stated
abbrev pub path_of : Doc → ResourceType → Pairs → List ℕ
path_of attributes kind ps = unwrap_or (words_at attributes (row kind).path ps) (name_at attributes ps)

-- the resource of this type and these own actions
abbrev pub resource : Doc → ResourceType → List Action → Pairs → Resource
resource attributes kind actions ps = record {
  kind = kind;
  name = name_at attributes ps;
  path = path_of attributes kind ps;
  actions = actions;
  content = words_at attributes (codes "content") ps;
  mode = option_and_then mode_of (pair_at (codes "mode") ps);
  to = words_at attributes (codes "to") ps;
  force_unlink = truth_at (codes "force_unlink") ps;
  recursive = truth_at (codes "recursive") ps;
  notifies = entries_at (codes "notifies") ps;
  subscribes = entries_at (codes "subscribes") ps;
}
