-- A query: terms that NOT, AND and OR join, as the grammar joins them.
use Rattle.std.specs.Prelude.{ℕ, zero, suc, max, List, [], ◌∷◌}
use Rattle.query_text.specs.declared.term.Term.{Term}

mutual
  -- what OR joins
  pub data Ors : Type 0 where
    no_ors : Ors
    then_ands : Ands → Ors → Ors

  -- what AND joins
  pub data Ands : Type 0 where
    no_ands : Ands
    then_item : Item → Ands → Ands

  -- a term, what NOT stands before, or a query in parentheses
  pub data Item : Type 0 where
    term : Term → Item
    negated : Item → Item
    group : Ors → Item

-- these items, and then those that AND joins
abbrev pub ands_with : List Item → Ands → Ands
ands_with [] more = more
ands_with (x ∷ xs) more = then_item x (ands_with xs more)

-- these items, joined by AND
abbrev pub ands_of : List Item → Ands
ands_of xs = ands_with xs no_ands

-- these parts, and then those that OR joins
abbrev pub ors_with : List Ands → Ors → Ors
ors_with [] more = more
ors_with (a ∷ more_ands) more = then_ands a (ors_with more_ands more)

-- these parts, joined by OR
abbrev pub ors_of : List Ands → Ors
ors_of parts = ors_with parts no_ors

-- an item under so many NOTs
abbrev pub under : ℕ → Item → Item
under zero x = x
under (suc n) x = under n (negated x)

abbrev mutual
  -- how deep parentheses nest in a query, in steps of three
  pub ors_size : Ors → ℕ
  ors_size no_ors = 0
  ors_size (then_ands a more) = max (suc (ands_size a)) (ors_size more)

  pub ands_size : Ands → ℕ
  ands_size no_ands = 0
  ands_size (then_item x more) = max (suc (item_size x)) (ands_size more)

  pub item_size : Item → ℕ
  item_size (term t) = 0
  item_size (negated x) = item_size x
  item_size (group q) = suc (ors_size q)
