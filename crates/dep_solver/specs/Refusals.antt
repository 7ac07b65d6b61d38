-- What a refusal tells: that there is no solution, and which roots have no version that can be chosen.
use Rattle.std.specs.Prelude.{◌≡◌, ◌↔◌, List, Contains, None}
use Rattle.std.specs.List.Sorted.{IsStrictlySortedBy}
use Rattle.doc_tree.specs.Text.{text_cmp}
use Rattle.version_rules.specs.declared.versions.Version.{Version}
use Rattle.dep_solver.specs.declared.no_solution.NoSolution.{NoSolution}
use Rattle.dep_solver.specs.declared.no_solution.NoSolution.TheVariants.{Unsolvable, NoMemory}
use Rattle.dep_solver.specs.declared.roots.Roots.{Roots}
use Rattle.dep_solver.specs.declared.rules.EnvRules.{EnvRules}
use Rattle.dep_solver.specs.declared.universe.Universe.{Universe}
use Rattle.dep_solver.specs.Chosen.{best_of, lacking, without_version}
use Rattle.dep_solver.specs.Names.{CookbookName}
use Rattle.dep_solver.specs.Solutions.{Choice, IsAllowed, IsSolution}
use Rattle.dep_solver.specs.Universes.{cookbook_in}

-- the universe has no cookbook of this name
abbrev pub IsLacking : Universe → CookbookName → Type 0
IsLacking universe name = cookbook_in universe name ≡ None

-- the universe has the cookbook, and no version of it meets the pins and the rules
pub record HasNoVersion (universe : Universe) (rules : EnvRules) (roots : Roots) (name : CookbookName) : Type 0 where
  pub there : ¬ (IsLacking universe name)
  pub none : (version : Version) → ¬ (IsAllowed universe rules roots name version)

-- these are, in byte order and each once, the names of which P holds
pub record AreThose (P : CookbookName → Type 0) (names these : List CookbookName) : Type 0 where
  pub in_order : IsStrictlySortedBy text_cmp these
  pub those : (name : CookbookName) → Contains these name ↔ (Contains names name × P name)

-- no choice is a solution, and the two lists have the roots that the universe lacks and those without a version
pub record TellsWhy (universe : Universe) (rules : EnvRules) (roots : Roots) (no_cookbook no_version : List CookbookName) : Type 0 where
  pub none : (choice : Choice) → ¬ (IsSolution universe rules roots choice)
  pub no_cookbook_is : AreThose (IsLacking universe) roots.names no_cookbook
  pub no_version_is : AreThose (HasNoVersion universe rules roots) roots.names no_version

-- what a refusal says
abbrev pub Tells : Universe → EnvRules → Roots → NoSolution → Type 0
Tells universe rules roots NoMemory = Unit {0}
Tells universe rules roots (Unsolvable no_cookbook no_version) = TellsWhy universe rules roots no_cookbook no_version

-- there is no best solution, and the two lists are those of the functions
pub record IsRefusal (universe : Universe) (rules : EnvRules) (roots : Roots) (no_cookbook no_version : List CookbookName) : Type 0 where
  pub no_best : best_of universe rules roots ≡ None
  pub no_cookbook_are : no_cookbook ≡ lacking universe roots
  pub no_version_are : no_version ≡ without_version universe rules roots

-- the one refusal that universe, rules and roots allow, or want of memory
abbrev pub Refuses : Universe → EnvRules → Roots → NoSolution → Type 0
Refuses universe rules roots NoMemory = Unit {0}
Refuses universe rules roots (Unsolvable no_cookbook no_version) = IsRefusal universe rules roots no_cookbook no_version
