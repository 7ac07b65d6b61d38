-- The grammar of queries: which texts spell which query, a rule for each case of a query. All is said by bytes: a `\` stands before the first byte of a character, whose others stand for themselves.
use Rattle.std.specs.Prelude.{◌≡◌, ◌⊎◌, ℕ, suc, Bool, true, false, ◌&&◌, if◌then◌else◌, List, [], ◌∷◌, ◌++◌, codes, Option, Some, None}
use Rattle.std.specs.List.{list_all}
use Rattle.query_text.specs.Signs.{is_space, is_field_byte, is_field_start, is_quoted_byte, is_word_byte}
use Rattle.query_text.specs.Query.{Ors, no_ors, then_ands, Ands, no_ands, then_item, Item, term, negated, group}
use Rattle.query_text.specs.declared.term.Term.{Term}
use Rattle.query_text.specs.declared.term.Term.TheVariants.{Every, AtField}
use Rattle.query_text.specs.declared.term.Wanted.{Wanted}
use Rattle.query_text.specs.declared.term.Wanted.TheVariants.{Equal, Like, Between}
use Rattle.query_text.specs.declared.term.Sign.{Sign}
use Rattle.query_text.specs.declared.term.Sign.TheVariants.{Any, One, Byte}

-- the text is this byte, standing for itself where it may or behind `\`, and then the rest
abbrev pub Stands : (ℕ → Bool) → ℕ → List ℕ → List ℕ → Type 0
Stands stands b text rest = ((text ≡ b ∷ rest) × (stands b ≡ true)) ⊎ (text ≡ 92 ∷ b ∷ rest)

-- these bytes, each standing for itself where it may or behind `\`
abbrev pub SpellsBytes : (ℕ → Bool) → List ℕ → List ℕ → Type 0
SpellsBytes stands [] text = text ≡ []
SpellsBytes stands (b ∷ bytes) text = (rest : List ℕ) × Stands stands b text rest × SpellsBytes stands bytes rest

-- a field: one or more bytes; it doesn't begin with a `-` that stands for itself
abbrev pub SpellsField : List ℕ → List ℕ → Type 0
SpellsField [] text = ⊥
SpellsField (b ∷ field) text = (rest : List ℕ) × Stands is_field_start b text rest × SpellsBytes is_field_byte field rest

-- bytes in quotes, also none
abbrev pub SpellsQuoted : List ℕ → List ℕ → Type 0
SpellsQuoted bytes text = (inner : List ℕ) × (text ≡ 34 ∷ (inner ++ 34 ∷ [])) × SpellsBytes is_quoted_byte bytes inner

-- the signs of a word: `*`, `?`, and bytes
abbrev pub SpellsSigns : List Sign → List ℕ → Type 0
SpellsSigns [] text = text ≡ []
SpellsSigns (Any ∷ signs) text = (rest : List ℕ) × (text ≡ 42 ∷ rest) × SpellsSigns signs rest
SpellsSigns (One ∷ signs) text = (rest : List ℕ) × (text ≡ 63 ∷ rest) × SpellsSigns signs rest
SpellsSigns (Byte b ∷ signs) text = (rest : List ℕ) × Stands is_word_byte b text rest × SpellsSigns signs rest

-- a word has one sign or more
abbrev pub SpellsWord : List Sign → List ℕ → Type 0
SpellsWord [] text = ⊥
SpellsWord (sign ∷ signs) text = SpellsSigns (sign ∷ signs) text

-- a word without `*` and `?`
abbrev pub SpellsPlain : List ℕ → List ℕ → Type 0
SpellsPlain [] text = ⊥
SpellsPlain (b ∷ bytes) text = SpellsBytes is_word_byte (b ∷ bytes) text

-- a bound of a range: such a word or quoted bytes, and `*` for no bound
abbrev pub SpellsBound : Option (List ℕ) → List ℕ → Type 0
SpellsBound None text = text ≡ codes "*"
SpellsBound (Some bytes) text = SpellsPlain bytes text ⊎ SpellsQuoted bytes text

-- `[`, or `{` where the ends aren't in the range
abbrev pub opening : Bool → ℕ
opening with_ends = if with_ends then 91 else 123

-- `]`, or `}` where the ends aren't in the range
abbrev pub closing : Bool → ℕ
closing with_ends = if with_ends then 93 else 125

-- what a value has to be
abbrev pub SpellsWanted : Wanted → List ℕ → Type 0
SpellsWanted (Equal bytes) text = SpellsQuoted bytes text
SpellsWanted (Like signs) text = SpellsWord signs text
SpellsWanted (Between range) text =
    (low high : List ℕ)
    × (text ≡ opening range.with_ends ∷ (low ++ (codes " TO " ++ (high ++ closing range.with_ends ∷ []))))
    × SpellsBound range.low low
    × SpellsBound range.high high

-- a term: `*:*`, or a field, a colon and a value
abbrev pub SpellsTerm : Term → List ℕ → Type 0
SpellsTerm Every text = text ≡ codes "*:*"
SpellsTerm (AtField field wanted) text =
    (front value : List ℕ) × (text ≡ front ++ 58 ∷ value) × SpellsField field front × SpellsWanted wanted value

-- white space, which may be missing only where that is said
abbrev pub is_gap : Bool → List ℕ → Bool
is_gap may_lack [] = may_lack
is_gap may_lack (b ∷ gap) = is_space b && list_all is_space gap

-- the item begins with `(`
abbrev pub is_open : Item → Bool
is_open (term t) = false
is_open (negated x) = false
is_open (group q) = true

-- the item ends with the `)` of a group
abbrev pub is_closed : Item → Bool
is_closed (term t) = false
is_closed (negated x) = is_closed x
is_closed (group q) = true

-- the first of these begins with `(`
abbrev pub begins_open : Ands → Bool
begins_open no_ands = false
begins_open (then_item x more) = is_open x

-- the last of these, or what stands before them, ends with the `)` of a group
abbrev pub ends_closed : Bool → Ands → Bool
ends_closed before no_ands = before
ends_closed before (then_item x more) = ends_closed (is_closed x) more

abbrev mutual
  -- an item, with room for so many parentheses and NOTs, one in another
  pub SpellsItem : Item → ℕ → List ℕ → Type 0
  SpellsItem (term t) room text = SpellsTerm t text
  SpellsItem (negated x) room text =
      (less : ℕ) × (gap back : List ℕ)
      × (room ≡ suc less)
      × (text ≡ codes "NOT" ++ (gap ++ back))
      × (is_gap (is_open x) gap ≡ true)
      × SpellsItem x less back
  SpellsItem (group q) room text =
      (less : ℕ) × (gap inner end : List ℕ)
      × (room ≡ suc less)
      × (text ≡ 40 ∷ (gap ++ (inner ++ (end ++ 41 ∷ []))))
      × (list_all is_space gap ≡ true)
      × (list_all is_space end ≡ true)
      × SpellsOrs q less inner

  -- an item, and then any number of AND with an item
  pub SpellsAnds : Ands → ℕ → List ℕ → Type 0
  SpellsAnds no_ands room text = ⊥
  SpellsAnds (then_item x more) room text =
      (front back : List ℕ) × (text ≡ front ++ back) × SpellsItem x room front × SpellsMoreAnds more room (is_closed x) back

  -- any number of AND with an item, behind what is closed or not
  pub SpellsMoreAnds : Ands → ℕ → Bool → List ℕ → Type 0
  SpellsMoreAnds no_ands room closed text = text ≡ []
  SpellsMoreAnds (then_item x more) room closed text =
      (before behind front back : List ℕ)
      × (text ≡ before ++ (codes "AND" ++ (behind ++ (front ++ back))))
      × (is_gap closed before ≡ true)
      × (is_gap (is_open x) behind ≡ true)
      × SpellsItem x room front
      × SpellsMoreAnds more room (is_closed x) back

  -- what AND joins, and then any number of OR with what AND joins
  pub SpellsOrs : Ors → ℕ → List ℕ → Type 0
  SpellsOrs no_ors room text = ⊥
  SpellsOrs (then_ands a more) room text =
      (front back : List ℕ) × (text ≡ front ++ back) × SpellsAnds a room front × SpellsMoreOrs more room (ends_closed false a) back

  -- any number of OR with what AND joins, behind what is closed or not
  pub SpellsMoreOrs : Ors → ℕ → Bool → List ℕ → Type 0
  SpellsMoreOrs no_ors room closed text = text ≡ []
  SpellsMoreOrs (then_ands a more) room closed text =
      (before behind front back : List ℕ)
      × (text ≡ before ++ (codes "OR" ++ (behind ++ (front ++ back))))
      × (is_gap closed before ≡ true)
      × (is_gap (begins_open a) behind ≡ true)
      × SpellsAnds a room front
      × SpellsMoreOrs more room (ends_closed false a) back

-- the text spells the query: white space may stand around it, and parentheses and NOTs nest at most 100 deep
abbrev pub Spells : List ℕ → Ors → Type 0
Spells text q =
    (gap inner end : List ℕ)
    × (text ≡ gap ++ (inner ++ end))
    × (list_all is_space gap ≡ true)
    × (list_all is_space end ≡ true)
    × SpellsOrs q 100 inner
