-- Terms by the numbers of their words: what is seen of them, a term more and a term fewer.
use Rattle.std.proofs.Common.{◌≡◌, ◌≢◌, ℕ, zero, suc, ◌+◌, ◌<◌, ◌≤◌, ◌^◌, inl, inr, List, [], ◌∷◌, length, map, Option, Some, None, is_some, IsSome, IsTrue, Bool, true, false, eqb, ◌&&◌, option_map, MatchOption, Result, Ok, Err, IfOk, OnErr, OnOk, refl, sym, ap, ap₂, subst, ◌∙◌, arith}
use Rattle.std.proofs.lemmas.Bool.{cases_eq, eqb-true, eq-eqb}
use Rattle.std.proofs.lemmas.List.{get_or_past, length-map}
use Rattle.std.proofs.lemmas.Result.{on_err_weaker}
use Rattle.std.specs.Global.{Vec}
use Rattle.std.specs.Cmp.{nat_cmp_total, tied_itself}
use Rattle.std.specs.Cmp.Lexicographic.{nat_list_cmp_total, slice_cmp}
use Rattle.std.specs.Ordering.{nat_cmp, ordering_then}
use Rattle.std.specs.declared.cmp.Ordering.{Ordering}
use Rattle.std.specs.declared.cmp.Ordering.TheVariants.{Less, Equal, Greater}
use Rattle.ordered_keys.specs.Numbers.{Loses}
use Rattle.ordered_keys.specs.Keys.{AreBetween, Grows, Inserts, IsAbsent, IsOnce, Numbers, Removes, key_in, key_of}
use Rattle.ordered_keys.specs.Arranged.{AllAre, AreWithin, Arrangement, CanLeave, IsCut, IsListing, NoneStands, Places, StandsAt, item_of, keys_of}
use Rattle.ordered_keys.specs.Order.{IsInOrder, IsRising}
use Rattle.ordered_keys.proofs.OrderLemmas.{can_leave, cut_by, equal_once, in_order_grown, in_order_in, in_order_out, rising_kept}
use Rattle.ordered_keys.proofs.ItemLemmas.{listing_kept}
use Rattle.std.specs.declared.random_state.RandomState.{RandomState}
use Rattle.search_index.specs.Place.{no_number}
use Rattle.search_index.specs.HashedNumbers.{AreMet, Finds, IsMet, Keeps}
use Rattle.search_index.specs.declared.hashed_numbers.End.TheVariants.{FreeSlot}
use Rattle.search_index.specs.Hashing.{is_same, is_term, term_hash, term_hash_at}
use Rattle.search_index.specs.KeyOrder.{TermKey, term_cmp, term_cmp_total, term_key}
use Rattle.search_index.specs.Words.{HasNoWord, IsCounted, Releases, SameWords, TakesIn, Vocabulary, uses_at, word_at, word_or_empty}
use Rattle.search_index.specs.Terms.{AreKept, AreTerms, MakesRoom, TakesOut, all_uses, spelled, term_in, terms_in, uses_of}
use Rattle.search_index.specs.declared.key.TermNumbers.{TermNumbers}
use Rattle.search_index.proofs.EqualKeys.{same_terms}
use Rattle.search_index.proofs.HashedLemmas.{met_fewer, met_with}
use Rattle.search_index.proofs.NetLemmas.{cases_option}
use Rattle.search_index.proofs.UseLemmas.{one_here, released_one, taken_most, taken_one, uses_changed, uses_few, uses_field, uses_hold, uses_same, uses_value}
use Rattle.search_index.proofs.WordLemmas.{GrowsAtMost, grows_at_most, never_none, some_of, within}

-- ---- what is seen of the terms

seen : {X Y : Type 0} (f : X → Y) (slots : List (Option X)) (i : ℕ) → key_in (map (option_map f) slots) i ≡ option_map f (key_in slots i)
seen f [] i = get_or_past [] i None (omega arith) ∙ ap (option_map f) (sym (get_or_past [] i None (omega arith)))
seen f (x ∷ slots) zero = refl
seen f (x ∷ slots) (suc i) = seen f slots i

module _ (v : Vocabulary) (a : Arrangement TermNumbers) where
  pub item_seen : (i : ℕ) → item_of (spelled v a) i ≡ option_map (term_in v) (item_of a i)
  item_seen i = seen (term_in v) a.slots i

  pub item_is : (i : ℕ) (t : TermNumbers) → item_of a i ≡ Some t → item_of (spelled v a) i ≡ Some (term_in v t)
  item_is i t is = item_seen i ∙ ap (option_map (term_in v)) is

  pub item_none : (i : ℕ) → item_of a i ≡ None → item_of (spelled v a) i ≡ None
  item_none i is = item_seen i ∙ ap (option_map (term_in v)) is

  pub item_from : (i : ℕ) (y : TermKey) → item_of (spelled v a) i ≡ Some y → (t : TermNumbers) × (item_of a i ≡ Some t) × (term_in v t ≡ y)
  item_from i y is = elim (cases_option (item_of a i)) [
    | inl none ↦ let gone : item_of (spelled v a) i ≡ None = item_none i none in absurd (cc)
    | inr (t, at) ↦ let here : item_of (spelled v a) i ≡ Some (term_in v t) = item_is i t at in (t, at, (let same : term_in v t ≡ y = cc in same))
  ]

  pub item_there : (i : ℕ) → IsSome (item_of (spelled v a) i) → IsSome (item_of a i)
  item_there i some = let y = some_of (item_of (spelled v a) i) some in ap is_some (item_from i y.0 y.1).1

  size_seen : length (spelled v a).slots ≡ length a.slots
  size_seen = length-map a.slots (option_map (term_in v))

  numbers_stand : (k : TermKey) (how : Ordering) (ids : List ℕ) → AllAre (λ y. term_cmp y k) (item_of (spelled v a)) how ids → AllAre (λ t. term_cmp (term_in v t) k) (item_of a) how ids
  numbers_stand k how ids all i among = let y = all i among in let t = item_from i y.0 y.1 in (t.0, t.1, ap (λ z. term_cmp z k) t.2 ∙ y.2)

  terms_stand : (k : TermKey) (how : Ordering) (ids : List ℕ) → AllAre (λ t. term_cmp (term_in v t) k) (item_of a) how ids → AllAre (λ y. term_cmp y k) (item_of (spelled v a)) how ids
  terms_stand k how ids all i among = let t = all i among in (term_in v t.0, item_is i t.0 t.1, t.2)

  -- the terms are cut by any
  pub cut_words : (k : TermKey) → IsInOrder term_cmp (spelled v a) → IsCut (λ t. term_cmp (term_in v t) k) a
  cut_words k in_order =
      let cut = cut_by term_cmp term_cmp_total (spelled v a) k in_order in
      record {
        front = cut.front;
        same = cut.same;
        back = cut.back;
        whole = cut.whole;
        below = numbers_stand k Less cut.front cut.below;
        equal = numbers_stand k Equal cut.same cut.equal;
        above = numbers_stand k Greater cut.back cut.above;
      }

  pub once_words : IsInOrder term_cmp (spelled v a) → IsOnce (terms_in a v)
  once_words in_order i j x one two = equal_once term_cmp term_cmp_total (item_of (spelled v a)) a.order x x x i j in_order.rising ((in_order.listed.live i).1 (ap is_some one)) ((in_order.listed.live j).1 (ap is_some two)) one two (tied_itself term_cmp_total x) (tied_itself term_cmp_total x)

  pub can_leave_words : (i : ℕ) → IsInOrder term_cmp (spelled v a) → IsSome (item_of (spelled v a) i) → CanLeave (λ x y. term_cmp (term_in v x) (term_in v y)) a i
  can_leave_words i in_order some =
      let leaves = can_leave term_cmp term_cmp_total (spelled v a) i in_order some in
      let t = item_from i leaves.item leaves.there in
      record {
        item = t.0;
        there = t.1;
        cut = cut_words (term_in v t.0) in_order;
        equal = tied_itself term_cmp_total (term_in v t.0);
        alone = λ j x at equal. leaves.alone j (term_in v x) (item_is j x at) (ap (term_cmp (term_in v x)) (sym t.2) ∙ equal);
      }

  -- ---- what is found

  pub found_words : (k : TermKey) (found : Option ℕ) → MatchOption found (NoneStands (λ t. term_cmp (term_in v t) k) a) (StandsAt (λ t. term_cmp (term_in v t) k) a) → MatchOption found (IsAbsent term_cmp (terms_in a v) k) (λ i. key_of (terms_in a v) i ≡ Some k)
  found_words k None none = λ j x is equal. let t = item_from j x is in none j t.0 t.1 (ap (λ z. term_cmp z k) t.2 ∙ equal)
  found_words k (Some i) at = item_is i at.0 at.1 ∙ ap Some (same_terms (term_in v at.0) k at.2)

  pub between_words : (low high : TermKey) (numbers : List ℕ) → AreWithin (λ t. term_cmp (term_in v t) low) (λ t. term_cmp (term_in v t) high) a numbers → AreBetween term_cmp (terms_in a v) low high numbers
  between_words low high numbers are i = (
    λ among. let t = (are i).0 among in (term_in v t.0, item_is i t.0 t.1, t.2, t.3),
    λ y. let t = item_from i y.0 y.1 in (are i).1 (t.0, t.1, subst (λ z. term_cmp z low ≢ Less) (sym t.2) y.2, subst (λ z. term_cmp z high ≡ Less) (sym t.2) y.3),
  )

  pub between_ok : {E : Type 0} (low high : TermKey) (r : Result (Vec ℕ) E) → IfOk r (λ numbers. AreWithin (λ t. term_cmp (term_in v t) low) (λ t. term_cmp (term_in v t) high) a numbers.items) → IfOk r (λ numbers. AreBetween term_cmp (terms_in a v) low high numbers.items)
  between_ok low high (Ok numbers) are = between_words low high numbers.items are
  between_ok low high (Err e) are = tt

  -- ---- the words of each term are there

  module _ (are : AreTerms a v) (counted : IsCounted v) where
    pub field_there : (i : ℕ) (t : TermNumbers) → item_of a i ≡ Some t → IsSome (key_of v.texts t.field)
    field_there i t at = (counted.there t.field).1 (let one = uses_field t in let all = uses_hold t.field a.slots i t at in let same = are.counted t.field in omega arith)

    pub value_there : (i : ℕ) (t : TermNumbers) → item_of a i ≡ Some t → IsSome (key_of v.texts t.value)
    value_there i t at = (counted.there t.value).1 (let one = uses_value t in let all = uses_hold t.value a.slots i t at in let same = are.counted t.value in omega arith)

    -- so a word may be used once more, and again
    pub uses_fit : (i : ℕ) → uses_at v i < 2 ^ 63
    uses_fit i = let same = are.counted i in let most = uses_few i a.slots in let few = are.few in omega arith

    pub uses_fit_then : (w : Vocabulary) (word : List ℕ) (n i : ℕ) → TakesIn v w word n → uses_at w i < 2 ^ 63
    uses_fit_then w word n i takes = let more = taken_most v w word n i takes in let same = are.counted i in let most = uses_few i a.slots in let few = are.few in omega arith

-- a term with the same words is the same
same_spelled : (v w : Vocabulary) (t : TermNumbers) → key_of w.texts t.field ≡ key_of v.texts t.field → key_of w.texts t.value ≡ key_of v.texts t.value → term_in w t ≡ term_in v t
same_spelled v w t field value = ap₂ (term_key t.scope) (ap word_or_empty field) (ap word_or_empty value)

-- the terms stay in order where their words stay
respelled : (v w : Vocabulary) (a : Arrangement TermNumbers) → IsInOrder term_cmp (spelled v a) → ((i : ℕ) (t : TermNumbers) → item_of a i ≡ Some t → term_in w t ≡ term_in v t) → IsInOrder term_cmp (spelled w a)
respelled v w a in_order stays = in_order_grown term_cmp term_cmp_total (spelled v a) (spelled w a) 0 in_order (record {
  same = λ i. elim (cases_option (item_of a i)) [
    | inl none ↦ item_none w a i none ∙ sym (item_none v a i none)
    | inr (t, at) ↦ item_is w a i t at ∙ ap Some (stays i t at) ∙ sym (item_is v a i t at)
  ];
  room = omega arith;
  size = (let one = size_seen v a in let two = size_seen w a in omega arith);
}) refl

-- ---- more room

-- no number more
pub grows_none : (a : Arrangement TermNumbers) → GrowsAtMost (keys_of a) (keys_of a) 0
grows_none a = record { same = λ i. refl; room = omega arith; size = omega arith }

-- as many numbers more as there was memory for
pub grows_some : {A E : Type 0} (r : Result A E) (a b : Arrangement TermNumbers) (more : ℕ) → OnOk r (Grows (keys_of a) (keys_of b) more) → OnErr r (b ≡ a) → GrowsAtMost (keys_of a) (keys_of b) more
grows_some r a b more ok err = grows_at_most r (keys_of a) (keys_of b) more ok (on_err_weaker r (ap keys_of) err)

pub record HasRoomMade (a b : Arrangement TermNumbers) (v w : Vocabulary) (terms : ℕ) : Type 0 where
  pub are : AreTerms b w
  pub makes : MakesRoom (terms_in a v) (terms_in b w) terms

pub room_made : (a b : Arrangement TermNumbers) (v w : Vocabulary) (more terms : ℕ) → AreTerms a v → SameWords v w → GrowsAtMost (keys_of a) (keys_of b) more → more ≤ terms → b.order ≡ a.order → length b.slots ≤ 4294967294 → HasRoomMade a b v w terms
room_made a b v w more terms are same grows less order few = record {
  are = record {
    counted = λ i. same.uses i ∙ are.counted i ∙ sym (uses_same i a.slots b.slots grows.same);
    in_order = respelled v w b in_order_now (λ i t at. stays i t at);
    few = few;
  };
  makes = record {
    same = λ i. elim (cases_option (item_of b i)) [
      | inl none ↦ item_none w b i none ∙ sym (item_none v a i (sym (grows.same i) ∙ none))
      | inr (t, at) ↦ item_is w b i t at ∙ ap Some (stays i t at) ∙ sym (item_is v a i t (sym (grows.same i) ∙ at))
    ];
    room = (let one = same.room in let two = grows.room in omega arith);
    size = (let one = size_seen v a in let two = size_seen w b in let three = grows.size in omega arith);
  };
}
  where
    stays : (i : ℕ) (t : TermNumbers) → item_of b i ≡ Some t → term_in w t ≡ term_in v t
    stays i t at = same_spelled v w t (same.words t.field) (same.words t.value)

    item_same : (i : ℕ) → item_of (spelled v b) i ≡ item_of (spelled v a) i
    item_same i = item_seen v b i ∙ ap (option_map (term_in v)) (grows.same i) ∙ sym (item_seen v a i)

    in_order_now : IsInOrder term_cmp (spelled v b)
    in_order_now = record {
      listed = subst (λ z. IsListing (item_of (spelled v b)) z) (sym order) (listing_kept (item_of (spelled v a)) (item_of (spelled v b)) a.order are.in_order.listed item_same);
      rising = subst (λ z. IsRising term_cmp (item_of (spelled v b)) z) (sym order) (rising_kept term_cmp (item_of (spelled v a)) (item_of (spelled v b)) a.order (λ i among. item_same i) are.in_order.rising);
    }

-- ---- a term more

pub record IsPutIn (a b : Arrangement TermNumbers) (v w : Vocabulary) (key : TermKey) (id : ℕ) : Type 0 where
  pub are : AreTerms b w
  pub numbers : Numbers (terms_in a v) (terms_in b w) key id

module _ (a : Arrangement TermNumbers) (v v1 w : Vocabulary) (field value : List ℕ) (t : TermNumbers) (are : AreTerms a v) (counted : IsCounted v) (one : TakesIn v v1 field t.field) (two : TakesIn v1 w value t.value) where
  word_stays : (i : ℕ) → IsSome (key_of v.texts i) → key_of w.texts i ≡ key_of v.texts i
  word_stays i some = let x = some_of (key_of v.texts i) some in two.numbers.kept i x.0 (one.numbers.kept i x.0 x.1) ∙ sym x.1

  term_stays : (i : ℕ) (x : TermNumbers) → item_of a i ≡ Some x → term_in w x ≡ term_in v x
  term_stays i x at = same_spelled v w x (word_stays x.field (field_there v a are counted i x at)) (word_stays x.value (value_there v a are counted i x at))

  mine : term_in w t ≡ term_key t.scope field value
  mine = ap₂ (term_key t.scope) (ap word_or_empty (two.numbers.kept t.field field one.numbers.put)) (ap word_or_empty two.numbers.put)

  in_order_then : IsInOrder term_cmp (spelled w a)
  in_order_then = respelled v w a are.in_order term_stays

  pub cut_then : IsCut (λ x. term_cmp (term_in w x) (term_in w t)) a
  cut_then = cut_words w a (term_in w t) in_order_then

  pub none_then : IsAbsent term_cmp (terms_in a v) (term_key t.scope field value) → NoneStands (λ x. term_cmp (term_in w x) (term_in w t)) a
  none_then absent i x at equal = absent i (term_in v x) (item_is v a i x at) (ap₂ term_cmp (sym (term_stays i x at)) (sym mine) ∙ equal)

  pub put_in : (b : Arrangement TermNumbers) (id : ℕ) → Inserts (keys_of a) (keys_of b) t id → Places (λ x. term_cmp (term_in w x) (term_in w t)) a b id → IsPutIn a b v w (term_key t.scope field value) id
  put_in b id put places = record {
    are = record {
      counted = λ i.
          let here = within b.slots id (ap is_some put.put) in
          let size = put.size in
          let sums = uses_changed i a.slots b.slots id size (omega arith) put.others in
          let was = are.counted i in
          let first = taken_one v v1 field t.field i one in
          let second = taken_one v1 w value t.value i two in
          let none = ap (uses_of i) put.free in
          let some = ap (uses_of i) put.put in
          omega arith;
      in_order = in_order_now;
      few = (let size = put.size in let few = are.few in omega arith);
    };
    numbers = record {
      put = item_is w b id t put.put ∙ ap Some mine;
      kept = λ j y is.
          let x = item_from v a j y is in
          let differs : j ≢ id = λ e. never_none (item_of a j) (ap (item_of a) e ∙ put.free) (ap is_some x.1) in
          item_is w b j x.0 (put.others j differs ∙ x.1) ∙ ap Some (term_stays j x.0 x.1 ∙ x.2);
      from = λ j y is.
          let x = item_from w b j y is in
          elim (cases_eq j id) [
            | inl e ↦ inr (e, (let here : item_of b j ≡ Some t = ap (item_of b) e ∙ put.put in let there = x.1 in let same : x.0 ≡ t = cc in sym x.2 ∙ ap (term_in w) same ∙ mine))
            | inr differs ↦ let was = sym (put.others j differs) ∙ x.1 in inl (item_is v a j x.0 was ∙ ap Some (sym (term_stays j x.0 was) ∙ x.2))
          ];
      once = once_words w b in_order_now;
      room = (let one_less = put.less in let first = one.numbers.room in let second = two.numbers.room in omega arith);
      size = (let before = size_seen v a in let after = size_seen w b in let size = put.size in omega arith);
    };
  }
    where
      in_order_now : IsInOrder term_cmp (spelled w b)
      in_order_now = in_order_in term_cmp term_cmp_total (spelled w a) (spelled w b) (term_in w t) id in_order_then
          (record {
            free = item_none w a id put.free;
            put = item_is w b id t put.put;
            others = λ i differs. item_seen w b i ∙ ap (option_map (term_in w)) (put.others i differs) ∙ sym (item_seen w a i);
            less = put.less;
            size = (let before = size_seen w a in let after = size_seen w b in let size = put.size in omega arith);
          })
          (record {
            front = places.front;
            back = places.back;
            was = places.was;
            now = places.now;
            below = terms_stand w a (term_in w t) Less places.front places.below;
            above = terms_stand w a (term_in w t) Greater places.back places.above;
          })

-- ---- a term fewer

pub record IsTakenOut (a b : Arrangement TermNumbers) (v w : Vocabulary) (id : ℕ) : Type 0 where
  pub are : AreTerms b w
  pub takes : TakesOut (terms_in a v) (terms_in b w) id

module _ (a b : Arrangement TermNumbers) (v v1 : Vocabulary) (t : TermNumbers) (id : ℕ) (are : AreTerms a v) (counted : IsCounted v) (at_id : item_of a id ≡ Some t) (out : Removes (keys_of a) (keys_of b) id) (one : Releases v v1 t.field) where
  fewer : (i : ℕ) → all_uses b.slots i + uses_of i (Some t) ≡ all_uses a.slots i
  fewer i =
      let here = within a.slots id (ap is_some at_id) in
      let sums = uses_changed i a.slots b.slots id out.size here out.others in
      let was = ap (uses_of i) at_id in
      let now = ap (uses_of i) out.gone in
      omega arith

  -- the value's word is still there when the field's use is taken back
  pub value_left : IsSome (key_of v1.texts t.value)
  value_left =
      let x = some_of (key_of v.texts t.value) (value_there v a are counted id t at_id) in
      ap is_some (one.kept t.value x.0 x.1 (let less = released_one v v1 t.field t.value one in let same = are.counted t.value in let all = fewer t.value in let used = one_here t.value t.value refl in omega arith))

  pub taken_out : (w : Vocabulary) → Loses a.order id b.order → Releases v1 w t.value → IsTakenOut a b v w id
  taken_out w loses two = record {
    are = record {
      counted = uses_now;
      in_order = in_order_now;
      few = (let size = out.size in let few = are.few in omega arith);
    };
    takes = record {
      gone = item_none w b id out.gone;
      others = λ i differs. elim (cases_option (item_of b i)) [
        | inl none ↦ item_none w b i none ∙ sym (item_none v a i (sym (out.others i differs) ∙ none))
        | inr (x, at) ↦ item_is w b i x at ∙ ap Some (rest_stays i x at) ∙ sym (item_is v a i x (sym (out.others i differs) ∙ at))
      ];
      room = (let more = out.more in let first = one.room in let second = two.room in omega arith);
      size = (let before = size_seen v a in let after = size_seen w b in let size = out.size in omega arith);
    };
  }
    where
      uses_now : (i : ℕ) → uses_at w i ≡ all_uses b.slots i
      uses_now i =
          let first = released_one v v1 t.field i one in
          let second = released_one v1 w t.value i two in
          let was = are.counted i in
          let all = fewer i in
          omega arith

      rest_word : (i : ℕ) → IsSome (key_of v.texts i) → 1 ≤ uses_at w i → key_of w.texts i ≡ key_of v.texts i
      rest_word i some used =
          let x = some_of (key_of v.texts i) some in
          two.kept i x.0 (one.kept i x.0 x.1 (let second = released_one v1 w t.value i two in omega arith)) used ∙ sym x.1

      was_there : (i : ℕ) (x : TermNumbers) → item_of b i ≡ Some x → item_of a i ≡ Some x
      was_there i x at = elim (cases_eq i id) [
        | inl e ↦ absurd (never_none (item_of b i) (ap (item_of b) e ∙ out.gone) (ap is_some at))
        | inr differs ↦ sym (out.others i differs) ∙ at
      ]

      rest_stays : (i : ℕ) (x : TermNumbers) → item_of b i ≡ Some x → term_in w x ≡ term_in v x
      rest_stays i x at =
          let was = was_there i x at in
          same_spelled v w x
          (rest_word x.field (field_there v a are counted i x was) (let used = uses_field x in let all = uses_hold x.field b.slots i x at in let same = uses_now x.field in omega arith))
          (rest_word x.value (value_there v a are counted i x was) (let used = uses_value x in let all = uses_hold x.value b.slots i x at in let same = uses_now x.value in omega arith))

      in_order_now : IsInOrder term_cmp (spelled w b)
      in_order_now = respelled v w b (in_order_out term_cmp term_cmp_total (spelled v a) (spelled v b) id are.in_order
          (record {
            gone = item_none v b id out.gone;
            others = λ i differs. item_seen v b i ∙ ap (option_map (term_in v)) (out.others i differs) ∙ sym (item_seen v a i);
            more = out.more;
            size = (let before = size_seen v a in let after = size_seen v b in let size = out.size in omega arith);
          }) loses) rest_stays

-- ---- terms by their hashes

both : (a b : Bool) → (a && b) ≡ true → (a ≡ true) × (b ≡ true)
both true true is = (refl, refl)
both true false is = absurd (cc)
both false b is = absurd (cc)

abbrev numbers_of : ℕ → ℕ → ℕ → TermNumbers
numbers_of scope field value = record { scope = scope; field = field; value = value }

numbers_are : (u : TermNumbers) (scope field value : ℕ) → u.scope ≡ scope → u.field ≡ field → u.value ≡ value → u ≡ numbers_of scope field value
numbers_are u scope field value one two three = ap (λ n. numbers_of n u.field u.value) one ∙ ap (λ n. numbers_of scope n u.value) two ∙ ap (numbers_of scope field) three

same_numbers : (u t : TermNumbers) → IsTrue (is_same u t) → u ≡ t
same_numbers u t is =
    let parts = both (eqb u.value t.value && eqb u.field t.field) (eqb u.scope t.scope) is in
    let words = both (eqb u.value t.value) (eqb u.field t.field) parts.0 in
    numbers_are u t.scope t.field t.value (eqb-true u.scope t.scope parts.1) (eqb-true u.field t.field words.1) (eqb-true u.value t.value words.0)

itself : (t : TermNumbers) → IsTrue (is_same t t)
itself t =
    ap₂ (λ a b. a && b) (ap₂ (λ a b. a && b) (eq-eqb t.value t.value refl) (eq-eqb t.field t.field refl)) (eq-eqb t.scope t.scope refl)

-- what is the term
pub is_the_term : (o : Option TermNumbers) (t : TermNumbers) → IsTrue (is_term o t) → o ≡ Some t
is_the_term None t is = absurd (cc)
is_the_term (Some u) t is = ap Some (same_numbers u t is)

the_term_is : (o : Option TermNumbers) (t : TermNumbers) → o ≡ Some t → IsTrue (is_term o t)
the_term_is o t is = ap (λ z. is_term z t) is ∙ itself t

-- what has a hash is a term
hashed_term : (hasher : RandomState) (o : Option TermNumbers) (h : ℕ) → option_map (term_hash hasher) o ≡ Some h → (t : TermNumbers) × (o ≡ Some t)
hashed_term hasher (Some t) h is = (t, refl)
hashed_term hasher None h is = absurd (cc)

module _ (a : Arrangement TermNumbers) (v : Vocabulary) (are : AreTerms a v) (counted : IsCounted v) (scope : ℕ) (field value : List ℕ) where
  -- an equal term has the same words
  record Equals (i : ℕ) : Type 0 where
    numbers : TermNumbers
    there : item_of a i ≡ Some numbers
    scope_is : numbers.scope ≡ scope
    field_is : key_of v.texts numbers.field ≡ Some field
    value_is : key_of v.texts numbers.value ≡ Some value

  word_is : (n : ℕ) (word : List ℕ) → IsSome (key_of v.texts n) → word_at v n ≡ word → key_of v.texts n ≡ Some word
  word_is n word some is = let w = some_of (key_of v.texts n) some in w.1 ∙ ap Some (sym (ap word_or_empty w.1) ∙ is)

  equals : (i : ℕ) (x : TermKey) → key_of (terms_in a v) i ≡ Some x → term_cmp x (term_key scope field value) ≡ Equal → Equals i
  equals i x is equal =
      let y = item_from v a i x is in
      let same : term_in v y.0 ≡ term_key scope field value = y.2 ∙ same_terms x (term_key scope field value) equal in
      record {
        numbers = y.0;
        there = y.1;
        scope_is = ap (λ (z : TermKey). z.scope) same;
        field_is = word_is y.0.field field (field_there v a are counted i y.0 y.1) (ap (λ (z : TermKey). z.pair.field) same);
        value_is = word_is y.0.value value (value_there v a are counted i y.0 y.1) (ap (λ (z : TermKey). z.pair.value) same);
      }

  pub no_field : HasNoWord v field → IsAbsent term_cmp (terms_in a v) (term_key scope field value)
  no_field none i x is equal = let e = equals i x is equal in none e.numbers.field e.field_is

  pub no_value : HasNoWord v value → IsAbsent term_cmp (terms_in a v) (term_key scope field value)
  no_value none i x is equal = let e = equals i x is equal in none e.numbers.value e.value_is

  module _ (f w : ℕ) (one : key_of v.texts f ≡ Some field) (two : key_of v.texts w ≡ Some value) where
    abbrev pub sought : TermNumbers
    sought = record { scope = scope; field = f; value = w }

    -- where a way ends at a free slot, the term isn't there
    pub no_term : (hasher : RandomState) (slots : List ℕ) → AreMet (term_hash_at hasher a) slots → Finds (λ n. is_term (item_of a n) sought) slots (term_hash hasher sought) FreeSlot → IsAbsent term_cmp (terms_in a v) (term_key scope field value)
    no_term hasher slots met finds i x is equal =
        let e = equals i x is equal in
        let same : e.numbers ≡ sought = numbers_are e.numbers scope f w e.scope_is (counted.once e.numbers.field f field e.field_is one) (counted.once e.numbers.value w value e.value_is two) in
        let there : item_of a i ≡ Some sought = e.there ∙ ap Some same in
        finds i (met i (term_hash hasher sought) (ap (option_map (term_hash hasher)) there)) (the_term_is (item_of a i) sought there)

    -- and where the term stands under a number, it is the one
    pub term_found : (n : ℕ) → IsTrue (is_term (item_of a n) sought) → key_of (terms_in a v) n ≡ Some (term_key scope field value)
    term_found n is = item_is v a n sought (is_the_term (item_of a n) sought is) ∙ ap Some (ap₂ (term_key scope) (ap word_or_empty one) (ap word_or_empty two))

-- the terms are met with one more
pub terms_met_with : (hasher : RandomState) (a b : Arrangement TermNumbers) (t : TermNumbers) (id : ℕ) (slots more : List ℕ) → length a.slots ≤ 4294967294 → Inserts (keys_of a) (keys_of b) t id → AreMet (term_hash_at hasher a) slots → IsMet more (term_hash hasher t) id → Keeps slots more → AreMet (term_hash_at hasher b) more
terms_met_with hasher a b t id slots more few inserts met here keeps =
    met_with (term_hash_at hasher a) (term_hash_at hasher b) slots more id (term_hash hasher t) met (ap (option_map (term_hash hasher)) inserts.put) (λ i differs. ap (option_map (term_hash hasher)) (inserts.others i differs)) here keeps
    (λ i h is e. let u = hashed_term hasher (item_of a i) h is in let small = within a.slots i (ap is_some u.1) in omega (arith, small, few, e))

-- and with no more than there were
pub terms_met : (hasher : RandomState) (a b : Arrangement TermNumbers) (slots : List ℕ) → ((i : ℕ) (t : TermNumbers) → item_of b i ≡ Some t → item_of a i ≡ Some t) → AreMet (term_hash_at hasher a) slots → AreMet (term_hash_at hasher b) slots
terms_met hasher a b slots kept met = met_fewer (term_hash_at hasher a) (term_hash_at hasher b) slots met
    (λ i h is. let t = hashed_term hasher (item_of b i) h is in ap (option_map (term_hash hasher)) (kept i t.0 t.1 ∙ sym t.1) ∙ is)

-- nothing stands under a number past 32 bits
pub no_term_past : (hasher : RandomState) (a : Arrangement TermNumbers) → length a.slots ≤ 4294967294 → (i : ℕ) → no_number ≤ i → term_hash_at hasher a i ≡ None
no_term_past hasher a few i past = ap (option_map (term_hash hasher)) (get_or_past a.slots i None (omega (arith, few, past)))

-- what is left was there
pub left_before : (a b : Arrangement TermNumbers) (id : ℕ) → Removes (keys_of a) (keys_of b) id → (i : ℕ) (t : TermNumbers) → item_of b i ≡ Some t → item_of a i ≡ Some t
left_before a b id gone i t is = elim (cases_eq i id) [
  | inl same ↦ absurd (never (sym is ∙ ap (item_of b) same ∙ gone.gone))
  | inr differs ↦ sym (gone.others i differs) ∙ is
]
  where
    never : {u : TermNumbers} → Some u ≡ None → ⊥
    never e = absurd (cc)

-- the terms with more numbers, where there was memory for them
pub record AreGrown (a b : Arrangement TermNumbers) (v w : Vocabulary) (hashed : List ℕ) (hasher : RandomState) (terms : ℕ) : Type 0 where
  pub kept : AreKept b w hashed hasher
  pub makes : MakesRoom (terms_in a v) (terms_in b w) terms

pub grown_terms : (a b : Arrangement TermNumbers) (v w : Vocabulary) (hashed : List ℕ) (hasher : RandomState) (more terms : ℕ) → AreKept a v hashed hasher → SameWords v w → GrowsAtMost (keys_of a) (keys_of b) more → more ≤ terms → b.order ≡ a.order → length b.slots ≤ 4294967294 → AreGrown a b v w hashed hasher terms
grown_terms a b v w hashed hasher more terms kept same grows less order few =
    let made = room_made a b v w more terms kept.are same grows less order few in
    record {
      kept = record { are = made.are; met = terms_met hasher a b hashed (λ i t is. sym (grows.same i) ∙ is) kept.met };
      makes = made.makes;
    }

-- ---- the order of terms of one field

pub one_field : (v : Vocabulary) (x y : TermNumbers) → x.scope ≡ y.scope → x.field ≡ y.field → term_cmp (term_in v x) (term_in v y) ≡ slice_cmp nat_cmp (word_at v x.value) (word_at v y.value)
one_field v x y scope field =
    let values : Ordering = slice_cmp nat_cmp (word_at v x.value) (word_at v y.value) in
    ap₂ ordering_then (ap (nat_cmp x.scope) (sym scope) ∙ tied_itself nat_cmp_total x.scope)
    (ap (λ o. ordering_then o values) (ap (slice_cmp nat_cmp (word_at v x.field)) (ap (word_at v) (sym field)) ∙ tied_itself nat_list_cmp_total (word_at v x.field)))
