-- The best solution as a function: the first solution among all walks, those with greater versions first. And the lists of a refusal, as functions.
use Rattle.std.specs.Prelude.{Bool, false, not, ◌+◌, ◌&&◌, ◌||◌, ℕ, zero, suc, List, [], ◌∷◌, ◌++◌, map, reverse, length, filter, find, flat_map, is_none, is_some, Option, Some, None, option_map, unwrap_or}
use Rattle.std.specs.FinMap as finite
use Rattle.std.specs.List.{list_all, list_any}
use Rattle.std.specs.Ordering.{is_le, is_lt}
use Rattle.doc_tree.specs.Text.{text_cmp}
use Rattle.version_rules.specs.declared.constraints.Sign.{Sign}
use Rattle.version_rules.specs.declared.constraints.Sign.TheVariants.{Equal, Less, Greater, AtMost, AtLeast, Close}
use Rattle.version_rules.specs.declared.needs.Need.{Need}
use Rattle.version_rules.specs.declared.versions.Version.{Version}
use Rattle.version_rules.specs.Meets.{end_of}
use Rattle.version_rules.specs.Order.{version_cmp}
use Rattle.version_rules.specs.Terms.{Terms}
use Rattle.dep_solver.specs.declared.roots.Pin.{Pin}
use Rattle.dep_solver.specs.declared.roots.Roots.{Roots}
use Rattle.dep_solver.specs.declared.rules.EnvRules.{EnvRules}
use Rattle.dep_solver.specs.declared.universe.Universe.{Universe}
use Rattle.dep_solver.specs.Names.{CookbookName, same_name}
use Rattle.dep_solver.specs.Solutions.{Choice, choice_of}
use Rattle.dep_solver.specs.Universes.{cookbook_in, needs_in, releases_in, same_version}
use Rattle.dep_solver.specs.Walks.{next}

-- v is less than w
abbrev pub is_below : Version → Version → Bool
is_below v w = is_lt (version_cmp v w)

-- v is less than w, or is w
abbrev pub is_at_most : Version → Version → Bool
is_at_most v w = is_le (version_cmp v w)

-- v stands to w as the sign says
abbrev pub meets_sign : Sign → Version → Version → ℕ → Bool
meets_sign Equal v w parts = same_version v w
meets_sign Less v w parts = is_below v w
meets_sign Greater v w parts = is_below w v
meets_sign AtMost v w parts = is_at_most v w
meets_sign AtLeast v w parts = is_at_most w v
meets_sign Close v w parts = is_at_most w v && is_below v (end_of w parts)

-- the version meets the constraint
abbrev pub meets : Version → Terms → Bool
meets v c = meets_sign c.sign v c.version c.parts

-- the version is the one to which each pin holds the name
abbrev pub meets_pins : Roots → CookbookName → Version → Bool
meets_pins roots name version = list_all (λ pin. not (same_name pin.name name) || same_version version pin.version) roots.pins

-- the version meets each rule on the name
abbrev pub meets_rules : EnvRules → CookbookName → Version → Bool
meets_rules rules name version = list_all (λ rule. not (same_name rule.name name) || meets version rule.constraint) rules.rules

-- the version of the name is released, and meets the pins and the rules
unfoldable pub is_allowed : Universe → EnvRules → Roots → CookbookName → Version → Bool
is_allowed universe rules roots name version =
    list_any (λ release. same_version release.version version) (releases_in universe name) && (meets_pins roots name version && meets_rules rules name version)

-- the choice has the needed name at a version that meets the need
abbrev pub is_met : Choice → Need → Bool
is_met choice need = unwrap_or (option_map (λ version. meets version need.constraint) (finite.get choice need.name)) false

-- the version at each place is allowed, and the places meet each of its needs
unfoldable pub is_solution : Universe → EnvRules → Roots → List Pin → Bool
is_solution universe rules roots places =
    list_all (λ place. is_allowed universe rules roots place.name place.version && list_all (is_met (choice_of places)) (needs_in universe place.name place.version)) places

-- the places, and at the next name each version of it, greatest first; where no name is next, the places are a walk
abbrev pub with_each : (List Pin → List (List Pin)) → Universe → List Pin → Option CookbookName → List (List Pin)
with_each go_on universe places None = places ∷ []
with_each go_on universe places (Some name) = flat_map (λ release. go_on (places ++ record { name = name; version = release.version } ∷ [])) (reverse (releases_in universe name))

-- all walks that begin with these places and end within so many steps, those with greater versions first
unfoldable pub walks_from : Universe → List CookbookName → ℕ → List Pin → List (List Pin)
walks_from universe roots zero places = []
walks_from universe roots (suc steps) places = with_each (walks_from universe roots steps) universe places (next universe roots places)

-- all walks, those with greater versions first: none has more places than there are cookbooks
unfoldable pub all_walks : Universe → Roots → List (List Pin)
all_walks universe roots = walks_from universe roots.names (length universe.cookbooks + 1) []

-- the versions of a choice, in the byte order of the names
abbrev pub pins_of : Choice → List Pin
pins_of choice = map (λ entry. record { name = entry.0; version = entry.1 }) (finite.entries choice)

-- the versions of the best solution, in the byte order of the names: those of the first walk that is a solution
unfoldable pub best_of : Universe → EnvRules → Roots → Option (List Pin)
best_of universe rules roots = option_map (λ places. pins_of (choice_of places)) (find (is_solution universe rules roots) (all_walks universe roots))

-- a finite map that has these names, and nothing at each
abbrev pub as_keys : List CookbookName → finite.FinMap text_cmp (Unit {0})
as_keys names = finite.from_entries (map (λ name. (name, tt)) names)

-- the names, in byte order and each once
unfoldable pub in_order : List CookbookName → List CookbookName
in_order names = finite.keys (as_keys names)

-- the roots of which the universe has no cookbook
unfoldable pub lacking : Universe → Roots → List CookbookName
lacking universe roots = in_order (filter (λ name. is_none (cookbook_in universe name)) roots.names)

-- the universe has the cookbook, and no version of it is allowed
abbrev pub has_no_version : Universe → EnvRules → Roots → CookbookName → Bool
has_no_version universe rules roots name =
    is_some (cookbook_in universe name) && not (list_any (λ release. is_allowed universe rules roots name release.version) (releases_in universe name))

-- the roots of which the universe has the cookbook, and no version of it is allowed
unfoldable pub without_version : Universe → EnvRules → Roots → List CookbookName
without_version universe rules roots = in_order (filter (has_no_version universe rules roots) roots.names)
