-- Which pairs meet a query.
use Rattle.std.specs.Prelude.{◌≡◌, ◌⊎◌, ◌==◌, ℕ, zero, suc, not, Bool, true, false, if◌then◌else◌, nat_le, nat_lt, ◌&&◌, List, [], ◌∷◌, ◌++◌, Option, Some, None}
use Rattle.std.specs.Ordering.{nat_cmp}
use Rattle.std.specs.declared.cmp.Ordering.{Ordering}
use Rattle.std.specs.declared.cmp.Ordering.TheVariants.{Less, Equal, Greater}
use Rattle.std.specs.Cmp.Lexicographic.{slice_cmp}
use Rattle.query_text.specs.Query.{Ors, no_ors, then_ands, Ands, no_ands, then_item, Item, term, negated, group}
use Rattle.query_text.specs.declared.term.Term.{Term}
use Rattle.query_text.specs.declared.term.Term.TheVariants.{Every, AtField}
use Rattle.query_text.specs.declared.term.Wanted.{Wanted}
use Rattle.query_text.specs.declared.term.Wanted.TheVariants as wanted
use Rattle.query_text.specs.declared.term.Sign.{Sign}
use Rattle.query_text.specs.declared.term.Sign.TheVariants.{Any, One, Byte}
use Rattle.query_text.specs.declared.term.Range.{Range}
use Rattle.search_query.specs.Pair.{Pair}

-- a byte of a character other than its first
abbrev pub is_rest : ℕ → Bool
is_rest b = nat_le 128 b && nat_lt b 192

-- what stands behind the bytes of a character other than its first
abbrev pub without_rest : List ℕ → List ℕ
without_rest [] = []
without_rest (b ∷ text) = if is_rest b then without_rest text else b ∷ text

-- what stands behind one character, or behind this byte
abbrev pub one_off : Sign → List ℕ → Option (List ℕ)
one_off sign [] = None
one_off Any (b ∷ text) = None
one_off One (b ∷ text) = if is_rest b then None else Some (without_rest text)
one_off (Byte c) (b ∷ text) = if b == c then Some text else None

-- the text is what the signs stand for: `*` for any bytes, `?` for a character, and a byte for itself
abbrev pub Fits : List Sign → List ℕ → Type 0
Fits [] text = text ≡ []
Fits (Any ∷ signs) text = (front back : List ℕ) × (text ≡ front ++ back) × Fits signs back
Fits (One ∷ signs) text = (back : List ℕ) × (one_off One text ≡ Some back) × Fits signs back
Fits (Byte c ∷ signs) text = (back : List ℕ) × (one_off (Byte c) text ≡ Some back) × Fits signs back

-- the order lets a value stand behind a bound, or at it where the ends are in the range
abbrev pub is_before : Bool → Ordering → Bool
is_before with_ends Less = true
is_before with_ends Equal = with_ends
is_before with_ends Greater = false

-- the value isn't below the range
abbrev pub is_above : Bool → Option (List ℕ) → List ℕ → Bool
is_above with_ends None value = true
is_above with_ends (Some low) value = is_before with_ends (slice_cmp nat_cmp low value)

-- the value isn't above the range
abbrev pub is_below : Bool → Option (List ℕ) → List ℕ → Bool
is_below with_ends None value = true
is_below with_ends (Some high) value = is_before with_ends (slice_cmp nat_cmp value high)

-- the value lies in the range, in the order of bytes
abbrev pub is_between : Range → List ℕ → Bool
is_between range value = is_above range.with_ends range.low value && is_below range.with_ends range.high value

-- the value is what is wanted
abbrev pub IsWanted : Wanted → List ℕ → Type 0
IsWanted (wanted.Equal text) value = value ≡ text
IsWanted (wanted.Like signs) value = Fits signs value
IsWanted (wanted.Between range) value = is_between range value ≡ true

-- some pair has the field and a value that is wanted
abbrev pub HasWanted : List ℕ → Wanted → List Pair → Type 0
HasWanted field w [] = ⊥
HasWanted field w (p ∷ pairs) = ((p.field ≡ field) × IsWanted w p.value) ⊎ HasWanted field w pairs

-- the pairs meet a term: every object meets `*:*`
abbrev pub MeetsTerm : Term → List Pair → Type 0
MeetsTerm Every pairs = Unit {0}
MeetsTerm (AtField field w) pairs = HasWanted field w pairs

abbrev mutual
  -- the pairs meet an item: NOT turns it round
  pub MeetsItem : Item → List Pair → Type 0
  MeetsItem (term t) pairs = MeetsTerm t pairs
  MeetsItem (negated x) pairs = MeetsItem x pairs → ⊥
  MeetsItem (group q) pairs = Meets q pairs

  -- the pairs meet all that AND joins
  pub MeetsAll : Ands → List Pair → Type 0
  MeetsAll no_ands pairs = Unit {0}
  MeetsAll (then_item x more) pairs = MeetsItem x pairs × MeetsAll more pairs

  -- the pairs meet one of those that OR joins
  pub Meets : Ors → List Pair → Type 0
  Meets no_ors pairs = ⊥
  Meets (then_ands a more) pairs = MeetsAll a pairs ⊎ Meets more pairs

-- an answer under so many NOTs
abbrev pub turned : ℕ → Bool → Bool
turned zero b = b
turned (suc n) b = not (turned n b)
