-- A tree of numbers whose nodes stand in a list, each under its number.
use Rattle.std.specs.Prelude.{◌≡◌, ℕ, zero, suc, ◌+◌, ◌<◌, ◌≤◌, cond, ◌==◌, List, [], ◌∷◌, ◌++◌, length, slice_index_or}
use Rattle.ordered_keys.specs.declared.nodes.Node.{Node}
use Rattle.ordered_keys.specs.Numbers.{Among, AreApart}

-- no number
abbrev pub none : ℕ
none = 4294967295

-- the node of a number
abbrev pub node_in : List Node → ℕ → Node
node_in nodes i = slice_index_or nodes i (record { left = 0; right = 0 })

-- the topmost of the numbers before one
abbrev pub left_in : List Node → ℕ → ℕ
left_in nodes i = (node_in nodes i).left

-- the topmost of the numbers behind one
abbrev pub right_in : List Node → ℕ → ℕ
right_in nodes i = (node_in nodes i).right

-- the form of a tree
pub data Shape : Type 0 where
  leaf : Shape
  fork : (left : Shape) (number : ℕ) (right : Shape) → Shape

-- its numbers, in order
abbrev pub listed : Shape → List ℕ
listed leaf = []
listed (fork l i r) = listed l ++ i ∷ listed r

-- the tree below a number, down to a depth
abbrev pub shape_in : ℕ → List Node → ℕ → Shape
shape_in zero nodes root = leaf
shape_in (suc depth) nodes root = cond (root == none) leaf (fork (shape_in depth nodes (left_in nodes root)) root (shape_in depth nodes (right_in nodes root)))

-- the numbers of the tree below a number, in order
abbrev pub numbers_in : List Node → ℕ → List ℕ
numbers_in nodes root = listed (shape_in (length nodes) nodes root)

-- the tree below a number has this form
abbrev pub Stands : List Node → ℕ → Shape → Type 0
Stands nodes root leaf = root ≡ none
Stands nodes root (fork l i r) = (root ≡ i) × (i < none) × (i < length nodes) × Stands nodes (left_in nodes i) l × Stands nodes (right_in nodes i) r

-- a tree hangs below a number, or there is none
pub record IsTree (nodes : List Node) (root : ℕ) : Type 0 where
  pub stands : Stands nodes root (shape_in (length nodes) nodes root)
  pub fits : length (numbers_in nodes root) ≤ length nodes

-- the nodes of other numbers are as they were
pub record Changes (old new : List Node) (touched : List ℕ) : Type 0 where
  pub size : length new ≡ length old
  pub others : (i : ℕ) → (Among touched i → ⊥) → node_in new i ≡ node_in old i

-- from one number each leads to the next by its right side
abbrev pub IsChain : List Node → ℕ → List ℕ → Type 0
IsChain nodes first [] = first ≡ none
IsChain nodes first (i ∷ is) = (first ≡ i) × (i < none) × (i < length nodes) × IsChain nodes (right_in nodes i) is

-- two trees of which the one may stand before the other
pub record CanJoin (nodes : List Node) (front back : ℕ) : Type 0 where
  pub front_tree : IsTree nodes front
  pub back_tree : IsTree nodes back
  pub apart : AreApart (numbers_in nodes front ++ numbers_in nodes back)
  pub fits : length (numbers_in nodes front) + length (numbers_in nodes back) ≤ length nodes

-- the numbers of two trees became one tree's, one behind the other
pub record Joins (old new : List Node) (front back all : ℕ) : Type 0 where
  pub tree : IsTree new all
  pub numbers_are : numbers_in new all ≡ numbers_in old front ++ numbers_in old back
  pub changes : Changes old new (numbers_in old front ++ numbers_in old back)

-- a tree that may be changed
pub record IsWhole (nodes : List Node) (root : ℕ) : Type 0 where
  pub tree : IsTree nodes root
  pub apart : AreApart (numbers_in nodes root)

-- a number that may be put into a tree
pub record IsNew (nodes : List Node) (root id : ℕ) : Type 0 where
  pub whole : IsWhole nodes root
  pub other : Among (numbers_in nodes root) id → ⊥
  pub small : id < none
  pub within : id < length nodes
  pub fits : length (numbers_in nodes root) + 1 ≤ length nodes
