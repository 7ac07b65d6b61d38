-- Whether pairs meet a query, as a truth value.
use Rattle.std.specs.Prelude.{◌≡◌, ◌⊎◌, ◌==◌, ℕ, Bool, true, false, List, [], ◌∷◌, ◌++◌, Option, Some, None, is_some, refl}
use Rattle.std.proofs.Common.{ap, sym, subst, inl, inr, true≢false}
use Rattle.std.specs.Cmp.Lexicographic.{bytes_decides, pointwise}
use Rattle.query_text.specs.Query.{Ors, no_ors, then_ands, Ands, no_ands, then_item, Item, term, negated, group}
use Rattle.query_text.specs.declared.term.Term.{Term}
use Rattle.query_text.specs.declared.term.Term.TheVariants.{Every, AtField}
use Rattle.query_text.specs.declared.term.Wanted.{Wanted}
use Rattle.query_text.specs.declared.term.Wanted.TheVariants as wanted
use Rattle.query_text.specs.declared.term.Sign.{Sign}
use Rattle.query_text.specs.declared.term.Sign.TheVariants.{Any, One, Byte}
use Rattle.search_query.specs.Matching.{Fits, HasWanted, IsWanted, Meets, MeetsAll, MeetsItem, MeetsTerm, is_between, one_off}
use Rattle.search_query.specs.Pair.{Pair}

-- the claim holds, or it doesn't
abbrev pub Decided : Type 0 → Type 0
Decided Claim = Claim ⊎ (Claim → ⊥)

-- the claim is the one that holds
abbrev pub holds : {Claim : Type 0} → Decided Claim → Bool
holds (inl claim) = true
holds (inr not) = false

-- of two claims it is decided whether both hold
both : {P Q : Type 0} → Decided P → Decided Q → Decided (P × Q)
both (inl p) (inl q) = inl (p, q)
both (inl p) (inr not) = inr (λ h. not h.1)
both (inr not) q = inr (λ h. not h.0)

-- and whether one of them does
either : {P Q : Type 0} → Decided P → Decided Q → Decided (P ⊎ Q)
either (inl p) q = inl (inl p)
either (inr not_p) (inl q) = inl (inr q)
either (inr not_p) (inr not_q) = inr (λ h. elim h [ inl p ↦ not_p p | inr q ↦ not_q q ])

-- what is decided is decided when it is turned round
turned : {P : Type 0} → Decided P → Decided (P → ⊥)
turned (inl p) = inr (λ not. not p)
turned (inr not) = inl not

-- of two claims that imply each other one is decided as the other is
as_well : {P Q : Type 0} → (P → Q) → (Q → P) → Decided P → Decided Q
as_well there back (inl p) = inl (there p)
as_well there back (inr not) = inr (λ q. not (back q))

-- a test decides whether it is true
is_true : (b : Bool) → Decided (b ≡ true)
is_true true = inl refl
is_true false = inr (λ is. true≢false (sym is))

-- two texts are the same, or they aren't
same_text : (xs ys : List ℕ) → Decided (xs ≡ ys)
same_text xs ys = as_well (bytes_decides xs ys).0 (bytes_decides xs ys).1 (is_true (pointwise ◌==◌ xs ys))

-- the claim holds of some rest of a text
abbrev Behind : (List ℕ → Type 0) → List ℕ → Type 0
Behind Claim text = (front back : List ℕ) × (text ≡ front ++ back) × Claim back

-- what stands behind the first byte
abbrev rest_of : List ℕ → List ℕ
rest_of [] = []
rest_of (b ∷ text) = text

-- there is no byte
abbrev is_nothing : List ℕ → Bool
is_nothing [] = true
is_nothing (b ∷ text) = false

-- a rest of a text is the whole, or a rest of what stands behind the first byte
first_or_behind : (Claim : List ℕ → Type 0) (b : ℕ) (text front back : List ℕ) → b ∷ text ≡ front ++ back → Claim back → Claim (b ∷ text) ⊎ Behind Claim text
first_or_behind Claim b text [] back is claim = inl (subst Claim (sym is) claim)
first_or_behind Claim b text (x ∷ front) back is claim = inr (front, back, ap rest_of is, claim)

-- the one rest of no bytes is no bytes
at_end : (Claim : List ℕ → Type 0) (front back : List ℕ) → [] ≡ front ++ back → Claim back → Claim []
at_end Claim [] back is claim = subst Claim (sym is) claim
at_end Claim (x ∷ front) back is claim = absurd (true≢false (ap is_nothing is))

-- where the claim is decided of each text, it is decided whether it holds of some rest
behind : (Claim : List ℕ → Type 0) → ((text : List ℕ) → Decided (Claim text)) → (text : List ℕ) → Decided (Behind Claim text)
behind Claim decide [] = as_well (λ claim. ([], [], refl, claim)) (λ h. at_end Claim h.0 h.1 h.2 h.3) (decide [])
behind Claim decide (b ∷ text) =
    as_well
    (λ h. elim h [ inl claim ↦ ([], b ∷ text, refl, claim) | inr rest ↦ (b ∷ rest.0, rest.1, ap (λ xs. b ∷ xs) rest.2, rest.3) ])
    (λ h. first_or_behind Claim b text h.0 h.1 h.2 h.3)
    (either (decide (b ∷ text)) (behind Claim decide text))

-- the text that is left, or another where none is
abbrev left_or : List ℕ → Option (List ℕ) → List ℕ
left_or other None = other
left_or other (Some text) = text

-- and whether it holds of the text that is left, if one is
left : (Claim : List ℕ → Type 0) → ((text : List ℕ) → Decided (Claim text)) → (rest : Option (List ℕ)) → Decided ((back : List ℕ) × (rest ≡ Some back) × Claim back)
left Claim decide None = inr (λ h. true≢false (sym (ap is_some h.1)))
left Claim decide (Some text) = as_well (λ claim. (text, refl, claim)) (λ h. subst Claim (sym (ap (left_or text) h.1)) h.2) (decide text)

-- a text is what signs stand for, or it isn't
fits : (signs : List Sign) (text : List ℕ) → Decided (Fits signs text)
fits [] text = same_text text []
fits (Any ∷ signs) text = behind (Fits signs) (fits signs) text
fits (One ∷ signs) text = left (Fits signs) (fits signs) (one_off One text)
fits (Byte c ∷ signs) text = left (Fits signs) (fits signs) (one_off (Byte c) text)

-- a value is what is wanted, or it isn't
is_wanted : (w : Wanted) (value : List ℕ) → Decided (IsWanted w value)
is_wanted (wanted.Equal text) value = same_text value text
is_wanted (wanted.Like signs) value = fits signs value
is_wanted (wanted.Between range) value = is_true (is_between range value)

-- some pair has the field and a value that is wanted, or none has
has_wanted : (field : List ℕ) (w : Wanted) (pairs : List Pair) → Decided (HasWanted field w pairs)
has_wanted field w [] = inr (λ h. h)
has_wanted field w (p ∷ pairs) = either (both (same_text p.field field) (is_wanted w p.value)) (has_wanted field w pairs)

-- the pairs meet a term, or they don't
meets_term : (t : Term) (pairs : List Pair) → Decided (MeetsTerm t pairs)
meets_term Every pairs = inl tt
meets_term (AtField field w) pairs = has_wanted field w pairs

mutual
  -- the pairs meet an item, or they don't
  meets_item : (x : Item) (pairs : List Pair) → Decided (MeetsItem x pairs)
  meets_item (term t) pairs = meets_term t pairs
  meets_item (negated x) pairs = turned (meets_item x pairs)
  meets_item (group q) pairs = meets_or_not q pairs

  -- the pairs meet all that AND joins, or they don't
  meets_all : (a : Ands) (pairs : List Pair) → Decided (MeetsAll a pairs)
  meets_all no_ands pairs = inl tt
  meets_all (then_item x more) pairs = both (meets_item x pairs) (meets_all more pairs)

  -- the pairs meet one of those that OR joins, or they don't
  pub meets_or_not : (query : Ors) (pairs : List Pair) → Decided (Meets query pairs)
  meets_or_not no_ors pairs = inr (λ h. h)
  meets_or_not (then_ands a more) pairs = either (meets_all a pairs) (meets_or_not more pairs)

-- the pairs meet the query
abbrev pub meets : Ors → List Pair → Bool
meets query pairs = holds (meets_or_not query pairs)
