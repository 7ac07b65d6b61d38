-- Texts under numbers, and the free numbers, for the private clauses.
use Rattle.std.specs.Prelude.{◌≡◌, ◌+◌, ◌<◌, ◌≤◌, ℕ, List, length, Option, Some, None}
use Rattle.std.specs.List.{sum_by}
use Rattle.ordered_keys.specs.Keys.{key_in}
use Rattle.ordered_keys.specs.Numbers.{Among, AreApart}
use Rattle.search_index.specs.Place.{no_number}

-- one, where there is a text
abbrev pub one_there : Option (List ℕ) → ℕ
one_there None = 0
one_there (Some text) = 1

-- each free number is one of those without a text and is there once, each number has a text or is free, and all numbers may be free without more memory
pub record AreNumbered (slots : List (Option (List ℕ))) (free : List ℕ) (capacity : ℕ) : Type 0 where
  pub none : (i : ℕ) → Among free i → (i < length slots) × (key_in slots i ≡ None)
  pub apart : AreApart free
  pub all : length free + sum_by one_there slots ≡ length slots
  pub holds : length slots ≤ capacity
  pub few : length slots < no_number
