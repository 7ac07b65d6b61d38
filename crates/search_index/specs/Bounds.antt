-- Between which terms those with a value that is wanted lie, for the private clauses.
use Rattle.std.specs.Prelude.{◌≡◌, ◌≢◌, ◌⊎◌, ◌+◌, ◌++◌, ℕ, Bool, true, false, List, [], ◌∷◌, Option, Some, None}
use Rattle.std.specs.declared.cmp.Ordering.TheVariants.{Less}
use Rattle.query_text.specs.declared.term.Wanted.{Wanted}
use Rattle.query_text.specs.declared.term.Sign.{Sign}
use Rattle.query_text.specs.declared.term.Sign.TheVariants.{Any, One, Byte}
use Rattle.search_query.specs.Pair.{Pair, pair, pair_cmp}
use Rattle.search_query.specs.Matching.{IsWanted}
use Rattle.search_index.specs.declared.bounds.Bounds.{Bounds}

-- the bytes with which the signs begin
abbrev pub front_of : List Sign → List ℕ
front_of [] = []
front_of (Any ∷ signs) = []
front_of (One ∷ signs) = []
front_of (Byte c ∷ signs) = c ∷ front_of signs

-- the signs are bytes alone
abbrev pub is_plain : List Sign → Bool
is_plain [] = true
is_plain (Any ∷ signs) = false
is_plain (One ∷ signs) = false
is_plain (Byte c ∷ signs) = is_plain signs

-- where a range begins: at nothing where it has no lower bound
abbrev pub low_of : Option (List ℕ) → List ℕ
low_of None = []
low_of (Some low) = low

-- the terms of the field with a value that is wanted lie between the bounds
abbrev pub IsBounded : List ℕ → Wanted → Bounds → Type 0
IsBounded field w b = (p : Pair) → p.field ≡ field → IsWanted w p.value → (pair_cmp p (pair field b.low.items) ≢ Less) × (pair_cmp p (pair b.past.items b.high.items) ≡ Less)

-- the bounds begin at a text, and end with its field, or at the text with its last byte one greater
abbrev pub HoldsFront : List ℕ → List ℕ → Bounds → Type 0
HoldsFront field front b =
    (b.low.items ≡ front) × ((b.past.items ≡ field ++ 0 ∷ []) ⊎ ((b.past.items ≡ field) × ((rest : List ℕ) × (last : ℕ) × (front ≡ rest ++ last ∷ []) × (b.high.items ≡ rest ++ (last + 1) ∷ []))))
