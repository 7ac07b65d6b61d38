-- What a query holds is smaller than it.
use Rattle.std.specs.Prelude.{◌≤◌, ◌≡◌, ◌+◌, ℕ, zero, suc, ◌∷◌, [], List, refl}
use Rattle.std.proofs.Common.{arith}
use denote.Param.Weighed.{most}
use Rattle.query_text.specs.Query.{Ands, Item, ors_of, ors_size, ands_of, ands_size, item_size, negated, under}
use Rattle.query_text.specs.Items.{what_of, item_with}
use Rattle.query_text.specs.declared.query.What.{What}
use Rattle.query_text.specs.declared.query.What.TheVariants as what
use Rattle.query_text.specs.declared.query.AllOf.TheDeep.{deep-What}

-- what AND joins is smaller than what OR joins of it
pub most_le-ors_size : (parts : List Ands) → most (λ y. ands_size y + 1) parts ≤ ors_size (ors_of parts)
most_le-ors_size [] = omega arith
most_le-ors_size (a ∷ parts) = let rest = most_le-ors_size parts in omega arith

-- an item is smaller than what AND joins of it
pub most_le-ands_size : (xs : List Item) → most (λ y. item_size y + 1) xs ≤ ands_size (ands_of xs)
most_le-ands_size [] = omega arith
most_le-ands_size (x ∷ xs) = let rest = most_le-ands_size xs in omega arith

-- NOTs make nothing larger
item_size-under : (n : ℕ) (x : Item) → item_size (under n x) ≡ item_size x
item_size-under zero x = refl
item_size-under (suc n) x = item_size-under n (negated x)

-- a group is larger than what is in it
pub deep_le-item_size : (nots : ℕ) (w : What) → deep-What w ≤ item_size (item_with nots w)
deep_le-item_size nots (what.Term t) = omega arith
deep_le-item_size nots (what.Group q) = let same = item_size-under nots (what_of (what.Group q)) in omega arith
