-- What is kept beside the items, for the private clauses.
use Rattle.std.specs.Prelude.{◌≡◌, ◌↔◌, ℕ, ◌+◌, ◌<◌, ◌≤◌, List, length, Option, None}
use Rattle.ordered_keys.specs.Numbers.{Among, AreApart}
use Rattle.ordered_keys.specs.Keys.{key_in}
use Rattle.ordered_keys.specs.Arranged.{IsListing}
use Rattle.ordered_keys.specs.declared.nodes.Node.{Node}
use Rattle.ordered_keys.specs.Nodes.{IsChain, IsTree, none, numbers_in}

module _ {T : Type 0} where
  -- these are the numbers that are free
  pub record AreFree (slots : List (Option T)) (free : List ℕ) : Type 0 where
    pub members : (i : ℕ) → Among free i ↔ ((i < length slots) × (key_in slots i ≡ None))
    pub apart : AreApart free

  -- each number has a node, in the tree of the order or in the chain of the free numbers, which are all numbers
  pub record IsStored (slots : List (Option T)) (nodes : List Node) (top free room : ℕ) : Type 0 where
    pub tree : IsTree nodes top
    pub listed : IsListing (key_in slots) (numbers_in nodes top)
    pub unused : List ℕ
    pub chain : IsChain nodes free unused
    pub free_are : AreFree slots unused
    pub count : length unused ≡ room
    pub total : length (numbers_in nodes top) + room ≡ length slots
    pub even : length nodes ≡ length slots
    pub bound : length slots ≤ none
