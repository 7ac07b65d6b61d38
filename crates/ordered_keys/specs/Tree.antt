-- What the changes of a tree do to its numbers, for the private clauses.
use Rattle.std.specs.Prelude.{◌≡◌, ◌≢◌, ◌↔◌, ℕ, ◌≤◌, List, [], ◌∷◌, ◌++◌, length, Option, Some, None, IsSome}
use Rattle.std.specs.declared.cmp.Ordering.{Ordering}
use Rattle.std.specs.declared.cmp.Ordering.TheVariants.{Less, Equal, Greater}
use Rattle.ordered_keys.specs.Numbers.{Among, Loses}
use Rattle.ordered_keys.specs.Arranged.{AllAre, IsWithin}
use Rattle.ordered_keys.specs.declared.nodes.Node.{Node}
use Rattle.ordered_keys.specs.Nodes.{Changes, IsTree, numbers_in}

module _ {T : Type 0} (standing : T → Ordering) where
  -- how what is under a number stands to what is sought; where there is nothing, as below it
  abbrev pub stand : Option T → Ordering
  stand (Some x) = standing x
  stand None = Less

  module _ (item : ℕ → Option T) where
    -- the item under the number is below what is sought
    abbrev pub IsBelow : ℕ → Type 0
    IsBelow i = (x : T) × (item i ≡ Some x) × (standing x ≡ Less)

    -- the item under the number is not below what is sought
    abbrev pub IsFrom : ℕ → Type 0
    IsFrom i = (x : T) × (item i ≡ Some x) × (standing x ≢ Less)

    -- the item under the second number is below what is sought only where that under the first is, and that under the first is above it only where that under the second is
    abbrev pub IsUpTo : ℕ → ℕ → Type 0
    IsUpTo i j = (x y : T) × (item i ≡ Some x) × (item j ≡ Some y) × (standing y ≡ Less → standing x ≡ Less) × (standing x ≡ Greater → standing y ≡ Greater)

    -- the items under these numbers come in the order in which they stand to what is sought
    abbrev pub AreOrderly : List ℕ → Type 0
    AreOrderly [] = Unit {0}
    AreOrderly (i ∷ is) = ((j : ℕ) → Among is j → IsUpTo i j) × AreOrderly is

    -- each of these numbers has an item, and these come in the order in which they stand to what is sought
    pub record IsRun (order : List ℕ) : Type 0 where
      pub live : (i : ℕ) → Among order i → IsSome (item i)
      pub orderly : AreOrderly order

    -- the numbers are cut in two: the items of the first part are below what is sought, and those of the second are not
    pub record IsParted (all front back : List ℕ) : Type 0 where
      pub whole : all ≡ front ++ back
      pub below : IsRun all → AllAre standing item Less front
      pub rest : IsRun all → (i : ℕ) → Among back i → IsFrom i

    -- one number more, behind those whose items are below what is sought
    pub record IsPlaced (all : List ℕ) (id : ℕ) (now : List ℕ) : Type 0 where
      pub front : List ℕ
      pub back : List ℕ
      pub parted : IsParted all front back
      pub placed : now ≡ front ++ id ∷ back

    -- the item under this number of these alone is equal to what is sought
    pub record IsTheOne (all : List ℕ) (id : ℕ) : Type 0 where
      pub among : Among all id
      pub equal : stand (item id) ≡ Equal
      pub alone : (j : ℕ) → Among all j → stand (item j) ≡ Equal → j ≡ id

    -- the number of the one equal item is gone
    abbrev pub LeavesOut : List ℕ → List ℕ → Type 0
    LeavesOut all now = IsRun all → (id : ℕ) → IsTheOne all id → Loses all id now

    -- a tree became two, that of the items below what is sought and that of the others
    pub record Parts (old new : List Node) (root front back : ℕ) : Type 0 where
      pub front_tree : IsTree new front
      pub back_tree : IsTree new back
      pub parted : IsParted (numbers_in old root) (numbers_in new front) (numbers_in new back)
      pub changes : Changes old new (numbers_in old root)

    -- a tree has one number more
    pub record TakesIn (old new : List Node) (root id now : ℕ) : Type 0 where
      pub tree : IsTree new now
      pub placed : IsPlaced (numbers_in old root) id (numbers_in new now)
      pub changes : Changes old new (id ∷ numbers_in old root)

    -- a tree no longer has the number of the one equal item
    pub record GivesUp (old new : List Node) (root now : ℕ) : Type 0 where
      pub tree : IsTree new now
      pub left_out : LeavesOut (numbers_in old root) (numbers_in new now)
      pub from : (i : ℕ) → Among (numbers_in new now) i → Among (numbers_in old root) i
      pub fewer : length (numbers_in new now) ≤ length (numbers_in old root)
      pub changes : Changes old new (numbers_in old root)

-- the numbers of the items from one bound to below the other were put behind those that were there
abbrev pub Gathers : {T : Type 0} → (T → Ordering) → (T → Ordering) → (ℕ → Option T) → List ℕ → List ℕ → List ℕ → Type 0
Gathers low high item all old new = IsRun low item all → IsRun high item all → (more : List ℕ) × (new ≡ old ++ more) × ((i : ℕ) → Among more i ↔ (Among all i × IsWithin low high item i))
