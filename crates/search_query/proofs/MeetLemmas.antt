-- Items under NOTs, and what is smaller than a query.
use Rattle.std.proofs.Common.{◌≡◌, ◌<◌, ◌≤◌, ◌↔◌, not, ℕ, zero, suc, Bool, true, false, IsTrue, List, [], ◌∷◌, length, get_or, drop, refl, ap, sym, subst, inl, inr, ◌∙◌, arith}
use Rattle.query_text.specs.Items.{what_of, item_with}
use Rattle.query_text.specs.Query.{Ors, Ands, Item, negated, ands_of, ands_size, item_size, ors_of, ors_size, under}
use Rattle.search_query.specs.Matching.{HasWanted, IsWanted, MeetsItem, turned}
use Rattle.query_text.specs.declared.query.What.{What}
use Rattle.query_text.specs.declared.term.Wanted.{Wanted}
use Rattle.search_query.specs.Pair.{Pair}

-- one NOT more, inside or outside
pub under_more : (n : ℕ) (x : Item) → under n (negated x) ≡ negated (under n x)
under_more zero x = refl
under_more (suc n) x = under_more n (negated x)

pub item_size-under : (n : ℕ) (x : Item) → item_size (under n x) ≡ item_size x
item_size-under zero x = refl
item_size-under (suc n) x = item_size-under n (negated x)

-- a part of a list is smaller than the query of the list
pub ands_within : (parts : List Ands) (i : ℕ) (a : Ands) → i < length parts → a ≡ get_or parts i a → suc (ands_size a) ≤ ors_size (ors_of parts)
ands_within [] i a within is = absurd (omega arith)
ands_within (b ∷ parts) zero a within is = let same = ap ands_size is in omega (arith, same)
ands_within (b ∷ parts) (suc i) a within is = let rest = ands_within parts i a (omega arith) is in omega (arith, rest)

pub item_within : (xs : List Item) (i : ℕ) (x : Item) → i < length xs → x ≡ get_or xs i x → suc (item_size x) ≤ ands_size (ands_of xs)
item_within [] i x within is = absurd (omega arith)
item_within (y ∷ xs) zero x within is = let same = ap item_size is in omega (arith, same)
item_within (y ∷ xs) (suc i) x within is = let rest = item_within xs i x (omega arith) is in omega (arith, rest)

-- the same of what a clause sees
pub ands_in : (q : Ors) (parts : List Ands) (i : ℕ) (a : Ands) → ors_of parts ≡ q → i < length parts → a ≡ get_or parts i a → suc (ands_size a) ≤ ors_size q
ands_in q parts i a view within is = subst (λ (p : Ors). suc (ands_size a) ≤ ors_size p) view (ands_within parts i a within is)

pub item_in : (a : Ands) (xs : List Item) (i : ℕ) (x : Item) → ands_of xs ≡ a → i < length xs → x ≡ get_or xs i x → suc (item_size x) ≤ ands_size a
item_in a xs i x view within is = subst (λ (b : Ands). suc (item_size x) ≤ ands_size b) view (item_within xs i x within is)

pub what_in : (x : Item) (n : ℕ) (w : What) → item_with n w ≡ x → item_size (what_of w) ≡ item_size x
what_in x n w view = sym (item_size-under n (what_of w)) ∙ ap item_size view

-- turned round once more
turned_once : (b : Bool) (P : Type 0) → (IsTrue b ↔ P) → IsTrue (not b) ↔ (P → ⊥)
turned_once true P is = (λ h. cc, λ other. absurd (other (is.0 refl)))
turned_once false P is = (λ h p. let here = is.1 p in cc, λ other. refl)

turned_met : (n : ℕ) (b : Bool) (x : Item) (pairs : List Pair) → (IsTrue b ↔ MeetsItem x pairs) → IsTrue (turned n b) ↔ MeetsItem (under n x) pairs
turned_met zero b x pairs is = is
turned_met (suc n) b x pairs is =
    subst (λ (y : Item). IsTrue (not (turned n b)) ↔ MeetsItem y pairs) (sym (under_more n x)) (turned_once (turned n b) (MeetsItem (under n x) pairs) (turned_met n b x pairs is))

pub item_meets : (item : Item) (n : ℕ) (w : What) (pairs : List Pair) (b r : Bool) → item_with n w ≡ item → (IsTrue b ↔ MeetsItem (what_of w) pairs) → r ≡ turned n b → IsTrue r ↔ MeetsItem item pairs
item_meets item n w pairs b r view is turns =
    subst (λ (y : Item). IsTrue r ↔ MeetsItem y pairs) view
    (subst (λ (v : Bool). IsTrue v ↔ MeetsItem (item_with n w) pairs) (sym turns) (turned_met n b (what_of w) pairs is))

-- the pair at an index
pub has_at : (field : List ℕ) (w : Wanted) (pairs : List Pair) (i : ℕ) (p : Pair) → i < length pairs → p ≡ get_or pairs i p → (p.field ≡ field) × IsWanted w p.value → HasWanted field w (drop i pairs)
has_at field w [] i p within is met = absurd (omega arith)
has_at field w (q ∷ pairs) zero p within is met = inl (subst (λ (r : Pair). (r.field ≡ field) × IsWanted w r.value) is met)
has_at field w (q ∷ pairs) (suc i) p within is met = has_at field w pairs i p (omega arith) is met

pub has_next : (field : List ℕ) (w : Wanted) (pairs : List Pair) (i : ℕ) (p : Pair) → i < length pairs → p ≡ get_or pairs i p → ((p.field ≡ field) × IsWanted w p.value → ⊥) → HasWanted field w (drop (suc i) pairs) ↔ HasWanted field w (drop i pairs)
has_next field w [] i p within is other = absurd (omega arith)
has_next field w (q ∷ pairs) zero p within is other = (
  λ rest. inr rest,
  λ has. elim has [
    | inl met ↦ absurd (other (subst (λ (r : Pair). (r.field ≡ field) × IsWanted w r.value) (sym is) met))
    | inr rest ↦ rest
  ],
)
has_next field w (q ∷ pairs) (suc i) p within is other = has_next field w pairs i p (omega arith) is other
