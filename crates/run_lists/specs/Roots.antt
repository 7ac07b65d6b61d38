-- The roots of a run list, as the solver takes them.
use Rattle.std.specs.Prelude.{◌≡◌, Bool, true, false, not, cond, List, [], ◌∷◌, refl}
use Rattle.std.specs.List.{AllByRecursion, IsDistinct, filter, filter_map}
use Rattle.run_lists.specs.Stored.{Stored}
use Rattle.dep_solver.specs.Names.{CookbookName, same_name}
use Rattle.dep_solver.specs.declared.roots.Roots.{Roots}
use Rattle.run_lists.specs.Asking.{cookbook_named, names_in, pins_in}
use Rattle.run_lists.specs.Firsts.{firsts}

-- the names that aren't the same as this one
abbrev others : CookbookName → List CookbookName → List CookbookName
others name names = filter (λ other. not (same_name name other)) names

apart_by : (name other : CookbookName) (rest : List CookbookName) (b : Bool) → same_name name other ≡ b → AllByRecursion (λ y. same_name name y ≡ false) rest
    → AllByRecursion (λ y. same_name name y ≡ false) (cond (not b) (other ∷ rest) rest)
apart_by name other rest true is all = all
apart_by name other rest false is all = (is, all)

apart : (name : CookbookName) (names : List CookbookName) → AllByRecursion (λ y. same_name name y ≡ false) (others name names)
apart name [] = tt
apart name (other ∷ names) = apart_by name other (others name names) (same_name name other) refl (apart name names)

abbrev AreApart : CookbookName → List CookbookName → Type 0
AreApart name names = AllByRecursion (λ y. same_name name y ≡ false) names

left_apart_by : (name other : CookbookName) (rest : List CookbookName) (b : Bool) → same_name name other ≡ false → AreApart name rest → AreApart name (cond b (other ∷ rest) rest)
left_apart_by name other rest true is all = (is, all)
left_apart_by name other rest false is all = all

-- names apart from one stay so where some go
left_apart : (test : CookbookName → Bool) (name : CookbookName) (names : List CookbookName) → AreApart name names → AreApart name (filter test names)
left_apart test name [] all = tt
left_apart test name (other ∷ names) all = left_apart_by name other (filter test names) (test other) all.0 (left_apart test name names all.1)

left_distinct_by : (name : CookbookName) (rest : List CookbookName) (b : Bool) → AreApart name rest → IsDistinct same_name rest → IsDistinct same_name (cond b (name ∷ rest) rest)
unfolding IsDistinct
left_distinct_by name rest true all distinct = (all, distinct)
left_distinct_by name rest false all distinct = distinct

-- distinct names stay so where some go
left_distinct : (test : CookbookName → Bool) (names : List CookbookName) → IsDistinct same_name names → IsDistinct same_name (filter test names)
unfolding IsDistinct
left_distinct test [] distinct = tt
left_distinct test (name ∷ names) distinct = left_distinct_by name (filter test names) (test name) (left_apart test name names distinct.0) (left_distinct test names distinct.1)

-- the first occurrences of names are distinct
pub firsts_distinct : (names : List CookbookName) → IsDistinct same_name (firsts same_name names)
unfolding IsDistinct
firsts_distinct [] = tt
firsts_distinct (name ∷ names) =
    (apart name (firsts same_name names), left_distinct (λ other. not (same_name name other)) (firsts same_name names) (firsts_distinct names))

-- the cookbooks that the items name, each once, and the versions that they state
abbrev pub roots_in : List Stored → Roots
roots_in items = record { names = names_in items; pins = pins_in items; distinct = firsts_distinct (filter_map cookbook_named items) }
