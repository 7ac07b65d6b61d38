-- The lock that is made of a source: the best versions of what it asks for, each with its identifier.
use Rattle.std.specs.Prelude.{◌≡◌, ⊤, ℕ, Bool, ◌&&◌, List, [], ◌∷◌, ◌++◌, map, find, Option, Some, is_none, option_map, codes}
use Rattle.std.specs.List.{flat_map}
use Rattle.std.specs.List.Sorted.{IsStrictlySortedBy}
use Rattle.doc_tree.specs.Text.{text_cmp}
use Rattle.doc_tree.specs.Doc.{Doc, words, list, dict, docs_of, pairs_of}
use Rattle.doc_tree.specs.declared.tree.Tree.TheVariants as tree
use Rattle.version_rules.specs.Constraints.{constraint_text}
use Rattle.version_rules.specs.Versions.{version_text}
use Rattle.version_rules.specs.declared.needs.Need.{Need}
use Rattle.run_lists.specs.Stored.{Stored}
use Rattle.dep_solver.specs.Best.{IsBest}
use Rattle.dep_solver.specs.Names.{same_name}
use Rattle.dep_solver.specs.Refusals.{TellsWhy}
use Rattle.dep_solver.specs.Solutions.{choice_of}
use Rattle.dep_solver.specs.Universes.{needs_in, same_version}
use Rattle.dep_solver.specs.declared.roots.Pin.{Pin}
use Rattle.dep_solver.specs.declared.roots.Roots.{Roots}
use Rattle.dep_solver.specs.declared.universe.Universe.{Universe}
use Rattle.run_lists.specs.Asking.{names_in, pins_in}
use Rattle.run_lists.specs.Reading.{each_of}
use Rattle.cookbook_meta.specs.Stored.{with_pairs}
use Rattle.policy_locks.specs.Digests.{lines_by, revision_of}
use Rattle.policy_locks.specs.Stored.{settled_fields}
use Rattle.policy_locks.specs.declared.identifiers.Identified.{Identified}
use Rattle.policy_locks.specs.declared.lock.CookbookLock.{CookbookLock}
use Rattle.policy_locks.specs.declared.lock.Lock.{Lock}
use Rattle.run_lists.specs.declared.by_name.NamedRunList.{NamedRunList}
use Rattle.policy_locks.specs.declared.make_fault.MakeFault.{MakeFault}
use Rattle.policy_locks.specs.declared.make_fault.MakeFault.TheVariants.{Unsolvable, NoIdentifier, NoMemory}
use Rattle.policy_locks.specs.declared.source.PolicySource.{PolicySource}

-- ---- what is asked for, and what is best

-- the items of all run lists of a source, list behind list
abbrev pub all_items : PolicySource → List Stored
all_items source = source.run_list ++ flat_map (λ (named : NamedRunList). named.run_list) source.named_run_lists

-- the roots are what the items of a source ask for
pub record AreRootsOf (source : PolicySource) (roots : Roots) : Type 0 where
  pub names : roots.names ≡ names_in (all_items source)
  pub pins : roots.pins ≡ pins_in (all_items source)

-- the chosen versions, in byte order of names, are the best solution of what a source asks for
pub record AreBest (source : PolicySource) (universe : Universe) (chosen : List Pin) : Type 0 where
  pub roots : Roots
  pub of_source : AreRootsOf source roots
  pub best : ∥ IsBest universe source.cookbooks roots (choice_of chosen) ∥₁
  pub in_order : IsStrictlySortedBy text_cmp (map (λ (pin : Pin). pin.name) chosen)

-- ---- identifiers

-- the identifier that was handed in for a version of a cookbook
abbrev pub identifier_for : List Identified → Pin → Option (List ℕ)
identifier_for identifiers pin =
    option_map (λ (i : Identified). i.identifier) (find (λ (i : Identified). same_name i.name pin.name && same_version i.version pin.version) identifiers)

-- a chosen version, locked under its identifier
abbrev pub locked : List Identified → Pin → Option CookbookLock
locked identifiers pin = option_map (λ identifier. record { name = pin.name; version = pin.version; identifier = identifier }) (identifier_for identifiers pin)

-- no identifier was handed in for the version
abbrev pub is_unidentified : List Identified → Pin → Bool
is_unidentified identifiers pin = is_none (identifier_for identifiers pin)

-- ---- what depends on what

-- a need: a name, and a constraint as sign, space and version
abbrev pub need_doc : Need → Doc
need_doc need = list (docs_of (words need.name ∷ words (constraint_text need.constraint) ∷ []))

-- needs, in order
abbrev pub needs_doc : List Need → Doc
needs_doc needs = list (docs_of (map need_doc needs))

-- a chosen version, and what it needs
abbrev pub dependency_of : Universe → Pin → List ℕ × Doc
dependency_of universe pin = (pin.name ++ codes " (" ++ version_text pin.version ++ codes ")", needs_doc (needs_in universe pin.name pin.version))

-- the dependencies of a solution: what the source asks of versions, and what each chosen version needs
abbrev pub solution_of : PolicySource → Universe → List Pin → List (List ℕ × Doc)
solution_of source universe chosen =
    with_pairs (
    (codes "Policyfile", needs_doc source.cookbooks.rules)
    ∷ (codes "dependencies", dict (pairs_of (with_pairs (map (dependency_of universe) chosen) [])))
    ∷ []) []

-- ---- the made lock

-- a locked cookbook, as it is stored
abbrev pub lock_pair : CookbookLock → List ℕ × Doc
lock_pair lock = (lock.name, dict (pairs_of ((codes "identifier", words lock.identifier) ∷ (codes "version", words (version_text lock.version)) ∷ [])))

-- locked cookbooks, as they are stored
abbrev pub locks_doc : List CookbookLock → Doc
locks_doc locks = dict (pairs_of (with_pairs (map lock_pair locks) []))

-- what is stored of the fields that tell which lock it is, and of its cookbooks
abbrev pub named_fields : List ℕ → List ℕ → List CookbookLock → List (List ℕ × Doc)
named_fields revision name cookbooks =
    (codes "revision_id", words revision)
    ∷ (codes "name", words name)
    ∷ (codes "cookbook_locks", locks_doc cookbooks)
    ∷ []

-- all fields of a lock, as they are stored
abbrev pub made_fields : Lock → List (List ℕ × Doc)
made_fields lock =
    named_fields lock.revision_id lock.name lock.cookbook_locks
    ++ settled_fields lock.run_list lock.named_run_lists lock.default_attributes lock.override_attributes lock.solution_dependencies

-- the lines of the lock of these cookbooks, and else of what a source states
abbrev pub source_lines : PolicySource → List CookbookLock → List (List ℕ)
source_lines source cookbooks =
    lines_by source.name source.run_list source.named_run_lists cookbooks source.default_attributes source.override_attributes

-- all fields of the lock of these cookbooks and dependencies, and else of what a source states, as they are stored
abbrev pub source_fields : List ℕ → PolicySource → List CookbookLock → List (List ℕ × Doc) → List (List ℕ × Doc)
source_fields revision source cookbooks solution =
    named_fields revision source.name cookbooks ++ settled_fields source.run_list source.named_run_lists source.default_attributes source.override_attributes solution

-- the lock has these cookbooks and dependencies, what the source states, its own revision, and its stored object
pub record IsMadeWith (source : PolicySource) (cookbooks : List CookbookLock) (solution : List (List ℕ × Doc)) (lock : Lock) : Type 0 where
  pub cookbooks_are : lock.cookbook_locks ≡ cookbooks
  pub solution_is : lock.solution_dependencies ≡ solution
  pub name_is : lock.name ≡ source.name
  pub run_list_is : lock.run_list ≡ source.run_list
  pub lists_are : lock.named_run_lists ≡ source.named_run_lists
  pub default_is : lock.default_attributes ≡ source.default_attributes
  pub override_is : lock.override_attributes ≡ source.override_attributes
  pub revision_is : lock.revision_id ≡ revision_of lock
  pub whole_is : lock.whole ≡ tree.Dict (with_pairs (made_fields lock) [])

-- the lock is made of the source: its cookbooks are the best versions, each under its identifier
pub record IsMade (source : PolicySource) (universe : Universe) (identifiers : List Identified) (lock : Lock) : Type 0 where
  pub chosen : List Pin
  pub best : AreBest source universe chosen
  pub identified : each_of (locked identifiers) chosen ≡ Some lock.cookbook_locks
  pub rest : IsMadeWith source lock.cookbook_locks (solution_of source universe chosen) lock

-- nothing solves what a source asks for, and the two lists tell why
pub record IsUnsolvable (source : PolicySource) (universe : Universe) (no_cookbook no_version : List (List ℕ)) : Type 0 where
  pub roots : Roots
  pub of_source : AreRootsOf source roots
  pub why : TellsWhy universe source.cookbooks roots no_cookbook no_version

-- of the best versions, this is the first for which no identifier was handed in
pub record LacksIdentifier (source : PolicySource) (universe : Universe) (identifiers : List Identified) (name : List ℕ) : Type 0 where
  pub chosen : List Pin
  pub best : AreBest source universe chosen
  pub pin : Pin
  pub first : find (is_unidentified identifiers) chosen ≡ Some pin
  pub named : pin.name ≡ name

-- what a fault says where no versions were chosen
abbrev pub TellsUnsolved : PolicySource → Universe → MakeFault → Type 0
TellsUnsolved source universe (Unsolvable no_cookbook no_version) = IsUnsolvable source universe no_cookbook no_version
TellsUnsolved source universe (NoIdentifier name) = ⊥
TellsUnsolved source universe NoMemory = ⊤

-- what a fault says where versions were chosen
abbrev pub TellsLacking : List Identified → List Pin → MakeFault → Type 0
TellsLacking identifiers chosen (Unsolvable no_cookbook no_version) = ⊥
TellsLacking identifiers chosen (NoIdentifier name) = (pin : Pin) × (find (is_unidentified identifiers) chosen ≡ Some pin) × (pin.name ≡ name)
TellsLacking identifiers chosen NoMemory = ⊤

-- what a fault says
abbrev pub Tells : PolicySource → Universe → List Identified → MakeFault → Type 0
Tells source universe identifiers (Unsolvable no_cookbook no_version) = IsUnsolvable source universe no_cookbook no_version
Tells source universe identifiers (NoIdentifier name) = LacksIdentifier source universe identifiers name
Tells source universe identifiers NoMemory = ⊤
