-- Numbers in slots: what a way tells, and what a number more leaves as it was.
use Rattle.std.proofs.Common.{◌≡◌, ◌≢◌, ℕ, ◌+◌, ◌<◌, ◌≤◌, inl, inr, Bool, List, [], length, get_or, set, Option, Some, None, IsTrue, refl, sym, ap, subst, ◌∙◌, arith}
use Rattle.std.proofs.lemmas.Bool.{cases_eq, cases_lt}
use Rattle.std.proofs.lemmas.List.{length-set, get_or-set_same, get_or-set_other}
use Rattle.search_index.specs.Place.{no_number}
use Rattle.search_index.specs.HashedNumbers.{AreMet, IsMet, Keeps, place_on_way, slot_on_way}

-- ---- on the way

-- no number before a step is meant
abbrev pub NoneMeant : (ℕ → Bool) → List ℕ → ℕ → ℕ → Type 0
NoneMeant meant slots hash step = (before : ℕ) → before < step → IsTrue (meant (slot_on_way slots hash before)) → ⊥

-- no slot before a step is free
abbrev pub NoneFree : List ℕ → ℕ → ℕ → Type 0
NoneFree slots hash step = (before : ℕ) → before < step → slot_on_way slots hash before ≢ no_number

-- one step more
one_more : {P : ℕ → Type 0} (step : ℕ) → ((before : ℕ) → before < step → P before) → P step → (before : ℕ) → before < step + 1 → P before
one_more {P} step all here before lt = elim (cases_eq before step) [
  | inl same ↦ subst P (sym same) here
  | inr differs ↦ all before (omega (arith, lt, differs))
]

pub not_meant : (meant : ℕ → Bool) (slots : List ℕ) (hash step : ℕ) → NoneMeant meant slots hash step → (IsTrue (meant (slot_on_way slots hash step)) → ⊥) → NoneMeant meant slots hash (step + 1)
not_meant meant slots hash step none here = one_more {P = λ before. IsTrue (meant (slot_on_way slots hash before)) → ⊥} step none here

pub not_free : (slots : List ℕ) (hash step : ℕ) → NoneFree slots hash step → slot_on_way slots hash step ≢ no_number → NoneFree slots hash (step + 1)
not_free slots hash step none here = one_more {P = λ before. slot_on_way slots hash before ≢ no_number} step none here

-- at a free slot no number is meant that is met
pub none_met : (meant : ℕ → Bool) (slots : List ℕ) (hash step : ℕ) → NoneMeant meant slots hash step → step < length slots → slot_on_way slots hash step ≡ no_number → (number : ℕ) → IsMet slots hash number → IsTrue (meant number) → ⊥
none_met meant slots hash step none within free number met is =
    let before = met step within free in
    none before.0 before.1 (subst (λ n. IsTrue (meant n)) (sym before.2) is)

-- where no slot is free, each number is met
pub met_anyway : (slots : List ℕ) (hash number : ℕ) → NoneFree slots hash (length slots) → IsMet slots hash number
met_anyway slots hash number none step within free = absurd (none step within free)

-- without slots, each number is met
pub met_without : (slots : List ℕ) (hash number : ℕ) → slots ≡ [] → IsMet slots hash number
met_without slots hash number is step within free = absurd (let none : length slots ≡ 0 = ap length is in omega (arith, within, none))

-- ---- a number more

module _ (slots : List ℕ) (hash step number : ℕ) (is : number ≢ no_number) (within : place_on_way (length slots) hash step < length slots) (free : slot_on_way slots hash step ≡ no_number) where
  abbrev pub place : ℕ
  place = place_on_way (length slots) hash step

  abbrev pub now : List ℕ
  now = set slots place number

  on_way : (h i : ℕ) → slot_on_way now h i ≡ get_or now (place_on_way (length slots) h i) no_number
  on_way h i = ap (λ n. get_or now (place_on_way n h i) no_number) (length-set slots place number)

  here : (h i : ℕ) → place_on_way (length slots) h i ≡ place → slot_on_way now h i ≡ number
  here h i same = on_way h i ∙ ap (λ n. get_or now n no_number) same ∙ get_or-set_same slots place number no_number within

  there : (h i : ℕ) → place_on_way (length slots) h i ≢ place → slot_on_way now h i ≡ slot_on_way slots h i
  there h i differs = on_way h i ∙ get_or-set_other slots place (place_on_way (length slots) h i) number no_number differs

  was_free : (h i : ℕ) → slot_on_way now h i ≡ no_number → slot_on_way slots h i ≡ no_number
  was_free h i e = elim (cases_eq (place_on_way (length slots) h i) place) [
    | inl same ↦ absurd (is (sym (here h i same) ∙ e))
    | inr differs ↦ sym (there h i differs) ∙ e
  ]

  stays : (h i n : ℕ) → n ≢ no_number → slot_on_way slots h i ≡ n → slot_on_way now h i ≡ n
  stays h i n some at = elim (cases_eq (place_on_way (length slots) h i) place) [
    | inl same ↦ absurd (some (sym at ∙ ap (λ p. get_or slots p no_number) same ∙ free))
    | inr differs ↦ there h i differs ∙ at
  ]

  pub keeps_put : Keeps slots now
  keeps_put h n some met i lt e =
      let before = met i (let size = length-set slots place number in omega (arith, lt, size)) (was_free h i e) in
      (before.0, before.1, stays h before.0 n some before.2)

  pub met_put : NoneFree slots hash step → IsMet now hash number
  met_put none i lt e = elim (cases_lt step i) [
    | inl behind ↦ (step, behind, here hash step refl)
    | inr up_to ↦ elim (cases_eq i step) [
      | inl same ↦ absurd (is (sym (here hash i (ap (λ n. place_on_way (length slots) hash n) same)) ∙ e))
      | inr differs ↦ absurd (none i (omega (arith, up_to, differs)) (was_free hash i e))
    ]
  ]

-- a slot that was free, as it is read
read_free : (slots : List ℕ) (at read : ℕ) → read ≡ get_or slots at read → read ≡ no_number → get_or slots at no_number ≡ no_number
read_free slots at read is none = sym (subst (λ z. z ≡ get_or slots at z) none is)

pub put_met : (seen slots : List ℕ) (hash step number at read : ℕ) → slots ≡ seen → number ≢ no_number → at ≡ place_on_way (length seen) hash step → at < length seen → read ≡ get_or slots at read → read ≡ no_number → NoneFree seen hash step → IsMet (set slots at number) hash number
put_met seen slots hash step number at read same is where_ within reads free none =
    let whole : at ≡ place_on_way (length slots) hash step = where_ ∙ ap (λ (z : List ℕ). place_on_way (length z) hash step) (sym same) in
    subst (λ p. IsMet (set slots p number) hash number) (sym whole)
    (met_put slots hash step number is (subst (λ p. p < length slots) whole (subst (λ (z : List ℕ). at < length z) (sym same) within)) (subst (λ p. get_or slots p no_number ≡ no_number) whole (read_free slots at read reads free)) (subst (λ z. NoneFree z hash step) (sym same) none))

pub put_keeps : (old seen slots : List ℕ) (hash step number at read : ℕ) → seen ≡ old → slots ≡ seen → number ≢ no_number → at ≡ place_on_way (length seen) hash step → at < length seen → read ≡ get_or slots at read → read ≡ no_number → Keeps old (set slots at number)
put_keeps old seen slots hash step number at read stays same is where_ within reads free =
    let whole : at ≡ place_on_way (length slots) hash step = where_ ∙ ap (λ (z : List ℕ). place_on_way (length z) hash step) (sym same) in
    subst (λ z. Keeps z (set slots at number)) (same ∙ stays)
    (subst (λ p. Keeps slots (set slots p number)) (sym whole)
    (keeps_put slots hash step number is (subst (λ p. p < length slots) whole (subst (λ (z : List ℕ). at < length z) (sym same) within)) (subst (λ p. get_or slots p no_number ≡ no_number) whole (read_free slots at read reads free))))

-- ---- all anew

-- each number before one is met that has a hash
abbrev pub AreMetBefore : (ℕ → Option ℕ) → List ℕ → ℕ → Type 0
AreMetBefore hash slots end = (number h : ℕ) → number < end → hash number ≡ Some h → IsMet slots h number

-- what has a hash stands under a number that is one
pub small_of : (hash : ℕ → Option ℕ) (number h : ℕ) → ((i : ℕ) → no_number ≤ i → hash i ≡ None) → hash number ≡ Some h → number < no_number
small_of hash number h past at = elim (cases_lt number no_number) [
  | inl small ↦ small
  | inr large ↦ absurd (never (sym at ∙ past number large))
]
  where
    never : {x : ℕ} → Some x ≡ None → ⊥
    never e = absurd (cc)

pub one_met : (hash : ℕ → Option ℕ) (old new : List ℕ) (number h : ℕ) → AreMetBefore hash old number → number < no_number → hash number ≡ Some h → IsMet new h number → Keeps old new → AreMetBefore hash new (number + 1)
one_met hash old new number h before small at met keeps n k lt is = elim (cases_eq n number) [
  | inl same ↦ let k_is : k ≡ h = same_some (sym is ∙ ap hash same ∙ at) in subst (λ z. IsMet new z n) (sym k_is) (subst (IsMet new h) (sym same) met)
  | inr differs ↦ keeps k n (λ e. absurd (omega (arith, e, lt, small))) (before n k (omega (arith, lt, differs)) is)
]
  where
    same_some : {x y : ℕ} → Some x ≡ Some y → x ≡ y
    same_some e = cc

pub none_here : (hash : ℕ → Option ℕ) (slots : List ℕ) (number : ℕ) → AreMetBefore hash slots number → ((h : ℕ) → hash number ≡ Some h → ⊥) → AreMetBefore hash slots (number + 1)
none_here hash slots number before none n h lt is = elim (cases_eq n number) [
  | inl same ↦ absurd (none h (sym (ap hash same) ∙ is))
  | inr differs ↦ before n h (omega (arith, lt, differs)) is
]

pub all_met : (hash : ℕ → Option ℕ) (slots : List ℕ) (end : ℕ) → AreMetBefore hash slots end → ((i : ℕ) → end ≤ i → hash i ≡ None) → AreMet hash slots
all_met hash slots end before past number h is = elim (cases_lt number end) [
  | inl within ↦ before number h within is
  | inr behind ↦ absurd (never (sym is ∙ past number behind))
]
  where
    never : {x : ℕ} → Some x ≡ None → ⊥
    never e = absurd (cc)

-- ---- something more, and something fewer

-- what is hashed stays met with one number more
pub met_with : (was is_now : ℕ → Option ℕ) (slots new : List ℕ) (id h : ℕ) → AreMet was slots → is_now id ≡ Some h → ((i : ℕ) → i ≢ id → is_now i ≡ was i) → IsMet new h id → Keeps slots new → ((i k : ℕ) → was i ≡ Some k → i ≢ no_number) → AreMet is_now new
met_with was is_now slots new id h met put others here keeps some number k is = elim (cases_eq number id) [
  | inl same ↦ let k_is : k ≡ h = same_some (sym is ∙ ap is_now same ∙ put) in subst (λ z. IsMet new z number) (sym k_is) (subst (IsMet new h) (sym same) here)
  | inr differs ↦ let was_is : was number ≡ Some k = sym (others number differs) ∙ is in keeps k number (some number k was_is) (met number k was_is)
]
  where
    same_some : {x y : ℕ} → Some x ≡ Some y → x ≡ y
    same_some e = cc

-- and where no more is there than was
pub met_fewer : (was is_now : ℕ → Option ℕ) (slots : List ℕ) → AreMet was slots → ((i h : ℕ) → is_now i ≡ Some h → was i ≡ Some h) → AreMet is_now slots
met_fewer was is_now slots met from number h is = met number h (from number h is)
