-- New pairs settled beside old postings, and what is left of these taken out.
use Rattle.std.proofs.Common.{◌≡◌, ◌≢◌, ◌⊎◌, ◌↔◌, ◌∙◌, ◌++◌, ◌∷◌, [], ℕ, ◌+◌, ◌-◌, ◌<◌, ◌≤◌, List, Option, Some, None, IsSome, ap, arith, inl, inr, length, refl, reverse, subst, sym}
use Rattle.std.proofs.lemmas.Bool.{cases_eq, cases_lt}
use Rattle.std.proofs.lemmas.List.{append-nil, append_assoc, get_or_past, length-append, reverse-append}
use Rattle.std.specs.declared.cmp.Ordering.{Ordering}
use Rattle.std.specs.declared.cmp.Ordering.TheVariants.{Equal}
use Rattle.search_query.specs.Pair.{Pair, pair_cmp}
use Rattle.search_index.specs.declared.scope.Scope.{Scope}
use Rattle.search_index.specs.declared.key.ObjectKey.{ObjectKey}
use Rattle.ordered_keys.specs.Keys.{IsOnce, Keys, key_of}
use Rattle.ordered_keys.specs.Numbers.{Among}
use Rattle.ordered_keys.proofs.NumberLemmas.{Among-left, Among-right, Among-split}
use Rattle.search_index.specs.Chains.{first_in, last_from}
use Rattle.search_index.specs.KeyOrder.{TermKey, object_key}
use Rattle.search_index.specs.Net.{IsBehind, IsCut, IsListed, IsOf, Net, held, order_of, used}
use Rattle.search_index.specs.Arena.{AddsBehind, AddsObject, Contents, DropsAt, DropsFirst, HasObject, Holds, IsTied, IsWhole, LosesRoom, Member, ReplacesObject, StandsAt}
use Rattle.search_index.specs.Merge.{HasAll, HasNext, Merges, Start, pair_in}
use Rattle.search_index.proofs.EqualKeys.{same_pairs}
use Rattle.search_index.proofs.PlaceLemmas.{one_object}
use Rattle.search_index.proofs.GivenLemmas.{term_of, tied_adds}
use Rattle.search_index.proofs.GoneLemmas.{tied_drops}

some_is : (p q : ℕ × ℕ) → Some p ≡ Some q → p ≡ q
some_is p q e = cc

both : (i j a b : ℕ) → ◌≡◌ {A = Option (ℕ × ℕ)} (Some (i, j)) (Some (a, b)) → (i ≡ a) × (j ≡ b)
both i j a b e = let pairs = some_is (i, j) (a, b) e in (ap (λ (p : ℕ × ℕ). p.0) pairs, ap (λ (p : ℕ × ℕ). p.1) pairs)

-- ---- before the first of the new pairs

abbrev pub start : Contents → List ℕ → List Pair → Start
start old name pairs = record { objects = old.objects; terms = old.terms; net = old.net; name = name; pairs = pairs }

pub merges_first : (old : Contents) (number object : ℕ) (name : List ℕ) (pairs : List Pair) → IsWhole old → key_of old.objects object ≡ Some (object_key number name) → length pairs ≤ old.terms.room → length pairs ≤ old.net.capacity - used old.net → Merges (start old name pairs) old.terms old.net number object pairs None
merges_first old number object name pairs whole mine room place = record {
  done = [];
  parts = sym (append-nil pairs);
  front = [];
  back = order_of old.net object;
  cut = record { parts = refl; last = refl };
  mine = mine;
  tied = whole.tied;
  others_kept = λ q i j differs is. is;
  others_from = λ q i j differs is. is;
  terms_kept = λ q i j y differs is at. at;
  given = λ p m. absurd m;
  only = λ q a. absurd a;
  used_is = omega arith;
  capacity = refl;
  room = omega arith;
  room_first = room;
  place_first = place;
}

-- ---- the place behind those that are settled

first_rest : (back : List ℕ) (place : ℕ) → first_in back ≡ Some place → (rest : List ℕ) × (back ≡ place ∷ rest)
first_rest [] place e = absurd (cc)
first_rest (p ∷ rest) place e = let same : p ≡ place = cc in (rest, ap (λ z. z ∷ rest) same)

last_push : (b : Option ℕ) (front : List ℕ) (place : ℕ) → last_from b (front ++ place ∷ []) ≡ Some place
last_push b [] place = refl
last_push b (x ∷ front) place = last_push (Some x) front place

-- a posting of the object is in it
pub next_held : (net : Net) (object : ℕ) (before : Option ℕ) (front back : List ℕ) (place : ℕ) → IsCut net object before front back → first_in back ≡ Some place → IsListed net object → IsOf net object place
next_held net object before front back place cut e listed =
    let rest = first_rest back place e in
    (listed place).0 (subst (λ z. Among z place) (sym (cut.parts ∙ ap (λ z. front ++ z) rest.1)) (Among-right front (place ∷ rest.0) place (inl refl)))

-- what comes next is the first of the places behind
pub next_first : (net : Net) (object : ℕ) (before next : Option ℕ) (front back : List ℕ) (place : ℕ) → ((front back : List ℕ) → IsCut net object before front back → next ≡ first_in back) → next ≡ Some place → IsCut net object before front back → first_in back ≡ Some place
next_first net object before next front back place told e cut = sym (told front back cut) ∙ e

-- an equal pair comes next
pub has_next : (was : Start) (terms : Keys TermKey) (net : Net) (number object : ℕ) (left : List Pair) (before next : Option ℕ) (place i j : ℕ) (p : Pair) (order : Ordering) → Merges was terms net number object left before
    → ((front back : List ℕ) → IsCut net object before front back → next ≡ first_in back) → next ≡ Some place → IsListed net object → held net place ≡ Some (i, j) → ((y : TermKey) → key_of terms j ≡ Some y → order ≡ pair_cmp (pair_in y) p) → order ≡ Equal → HasNext terms net object before p
has_next was terms net number object left before next place i j p order m told e listed is orders equal front back cut =
    let first = next_first net object before next front back place told e cut in
    let own = next_held net object before front back place cut first listed in
    let same : i ≡ object = one_object net place i j object own.0 is own.1 in
    let tie = m.tied.joined place i j is in
    (place, j, tie.term, first, is ∙ ap (λ z. Some (z, j)) same, tie.term_at, same_pairs (pair_in tie.term) p (sym (orders tie.term tie.term_at) ∙ equal))

-- nothing comes next
pub has_all : (net : Net) (object : ℕ) (before next : Option ℕ) → ((front back : List ℕ) → IsCut net object before front back → next ≡ first_in back) → next ≡ None → IsListed net object → HasAll net object before
has_all net object before next told none listed front back cut q is =
    let last : back ≡ [] = no_rest back (sym (told front back cut) ∙ none) in
    subst (λ z. Among z q) (cut.parts ∙ ap (λ z. front ++ z) last ∙ append-nil front) ((listed q).1 is)
  where
    no_rest : (back : List ℕ) → first_in back ≡ None → back ≡ []
    no_rest [] e = refl
    no_rest (p ∷ back) e = absurd (cc)

-- ---- a posting goes

pub merges_drop : (was : Start) (terms fewer : Keys TermKey) (net less : Net) (number object : ℕ) (left : List Pair) (before : Option ℕ) (place : ℕ) → (m : Merges was terms net number object left before) → first_in m.back ≡ Some place → IsListed net object → DropsAt terms fewer net less place
    → Merges was fewer less number object left before
merges_drop was terms fewer net less number object left before place m e listed drops = record {
  done = m.done;
  parts = m.parts;
  front = m.front;
  back = rest.0;
  cut = record { parts = parts; last = m.cut.last };
  mine = m.mine;
  tied = tied_drops was.objects terms fewer net less object m.tied (subst (λ o. DropsFirst terms fewer net less o) same drops.first);
  others_kept = others_kept;
  others_from = λ q i j differs is. m.others_from q i j differs (elim (cases_eq q place) [
    | inl f ↦ let none : held less q ≡ None = ap (held less) f ∙ gone in absurd (cc)
    | inr off ↦ sym (others q off) ∙ is
  ]);
  terms_kept = λ q i j y differs is at. term_kept q i j y (others_kept q i j differs is) (m.terms_kept q i j y differs is at);
  given = λ p given. let old = m.given p given in let is = others old.0 (not_front old.0 old.2) ∙ old.3 in (old.0, old.1, old.2, is, term_kept old.0 object old.1 (term_of number p) is old.4);
  only = λ q a. let old = m.only q a in let is = others q (not_front q a) ∙ old.2 in (old.0, old.1, is, term_kept q object old.0 (term_of number old.1) is old.3, old.4);
  used_is = omega (arith, m.used_is, drops.first.takes.used);
  capacity = drops.first.takes.size.capacity ∙ m.capacity;
  room = omega (arith, m.room, drops.first.drops.room);
  room_first = m.room_first;
  place_first = m.place_first;
}
  where
    rest : (rest : List ℕ) × (m.back ≡ place ∷ rest)
    rest = first_rest m.back place e

    own : IsOf net object place
    own = next_held net object before m.front m.back place m.cut e listed

    same : drops.object ≡ object
    same = (both drops.object drops.first.term object own.0 (sym (ap (held net) (sym drops.at) ∙ drops.first.takes.was) ∙ own.1)).0

    others : (q : ℕ) → q ≢ place → held less q ≡ held net q
    others q differs = drops.first.takes.changes.others q (λ f. differs (f ∙ drops.at))

    gone : held less place ≡ None
    gone = ap (held less) (sym drops.at) ∙ drops.first.takes.changes.at

    parts : order_of less object ≡ m.front ++ rest.0
    parts = drops.order object m.front rest.0 (m.cut.parts ∙ ap (λ z. m.front ++ z) rest.1)

    not_front : (q : ℕ) → Among m.front q → q ≢ place
    not_front q a f =
        let told = (drops.listed object q).0 (subst (λ z. Among z q) (sym parts) (Among-left m.front rest.0 q a)) in
        let there : held less q ≡ Some (object, told.0) = told.1 in
        let none : held less q ≡ None = ap (held less) f ∙ gone in
        absurd (cc)

    term_kept : (q i j : ℕ) (y : TermKey) → held less q ≡ Some (i, j) → key_of terms j ≡ Some y → key_of fewer j ≡ Some y
    term_kept q i j y is at = drops.first.drops.kept j y at (λ f unused. unused i (q, is ∙ ap (λ z. Some (i, z)) f))

    others_kept : (q i j : ℕ) → i ≢ object → held was.net q ≡ Some (i, j) → held less q ≡ Some (i, j)
    others_kept q i j differs is =
        let kept = m.others_kept q i j differs is in
        others q (λ f. differs (both i j object own.0 (sym kept ∙ ap (held net) f ∙ own.1)).0) ∙ kept

-- ---- a posting stays

pub merges_keep : (was : Start) (terms : Keys TermKey) (net : Net) (number object : ℕ) (left : List Pair) (p : Pair) (before : Option ℕ) (place j : ℕ) (y : TermKey) → (m : Merges was terms net number object (left ++ p ∷ []) before)
    → first_in m.back ≡ Some place → held net place ≡ Some (object, j) → key_of terms j ≡ Some y → pair_in y ≡ p → Merges was terms net number object left (Some place)
merges_keep was terms net number object left p before place j y m e is at same = record {
  done = p ∷ m.done;
  parts = m.parts ∙ append_assoc left (p ∷ []) m.done;
  front = m.front ++ place ∷ [];
  back = rest.0;
  cut = record { parts = m.cut.parts ∙ ap (λ z. m.front ++ z) rest.1 ∙ sym (append_assoc m.front (place ∷ []) rest.0); last = last_push None m.front place };
  mine = m.mine;
  tied = m.tied;
  others_kept = m.others_kept;
  others_from = m.others_from;
  terms_kept = m.terms_kept;
  given = λ x given. elim given [
    | inl f ↦ (place, j, Among-right m.front (place ∷ []) place (inl refl), is, key ∙ ap (λ z. Some (term_of number z)) f)
    | inr old ↦ let had = m.given x old in (had.0, had.1, Among-left m.front (place ∷ []) had.0 had.2, had.3, had.4)
  ];
  only = λ q a. elim (Among-split m.front (place ∷ []) q a) [
    | inl b ↦ let had = m.only q b in (had.0, had.1, had.2, had.3, inr had.4)
    | inr (inl s) ↦ (j, p, ap (held net) (sym s) ∙ is, key, inl refl)
    | inr (inr b) ↦ absurd b
  ];
  used_is = omega (arith, m.used_is);
  capacity = m.capacity;
  room = omega (arith, m.room);
  room_first = m.room_first;
  place_first = m.place_first;
}
  where
    rest : (rest : List ℕ) × (m.back ≡ place ∷ rest)
    rest = first_rest m.back place e

    -- the term is of the object's scope
    key : key_of terms j ≡ Some (term_of number p)
    key =
        let tie = m.tied.joined place object j is in
        let mine = m.mine in
        let object_at = tie.object_at in
        let object_is : tie.object ≡ object_key number was.name = cc in
        let term_at = tie.term_at in
        let term_is : tie.term ≡ y = cc in
        let scope : y.scope ≡ number = ap (λ (k : TermKey). k.scope) (sym term_is) ∙ sym tie.scope ∙ ap (λ (k : ObjectKey). k.scope) object_is in
        at ∙ ap (λ z. Some (term_of z (pair_in y))) scope ∙ ap (λ z. Some (term_of number z)) same

-- ---- a posting comes

pub merges_put : (was : Start) (terms more : Keys TermKey) (net wider : Net) (number object : ℕ) (left : List Pair) (p : Pair) (before at : Option ℕ) → Merges was terms net number object (left ++ p ∷ []) before → AddsBehind terms more net wider object (term_of number p) before at
    → Merges was more wider number object left at
merges_put was terms more net wider number object left p before at m adds = record {
  done = p ∷ m.done;
  parts = m.parts ∙ append_assoc left (p ∷ []) m.done;
  front = m.front ++ place ∷ [];
  back = m.back;
  cut = record { parts = adds.order m.front m.back m.cut ∙ sym (append_assoc m.front (place ∷ []) m.back); last = last_push None m.front place ∙ sym adds.at };
  mine = m.mine;
  tied = tied_adds was.objects terms more net wider object number was.name p m.mine m.tied adds.first;
  others_kept = λ q i j differs is. kept q i j (m.others_kept q i j differs is);
  others_from = λ q i j differs is. m.others_from q i j differs (elim (cases_eq q place) [
    | inl f ↦ absurd (differs (both i j object adds.first.term (sym is ∙ ap (held wider) f ∙ adds.first.adds.changes.at)).0)
    | inr off ↦ sym (adds.first.adds.changes.others q off) ∙ is
  ]);
  terms_kept = λ q i j y differs is key. adds.first.numbers.kept j y (m.terms_kept q i j y differs is key);
  given = λ x given. elim given [
    | inl f ↦ (place, adds.first.term, Among-right m.front (place ∷ []) place (inl refl), adds.first.adds.changes.at, adds.first.numbers.put ∙ ap (λ z. Some (term_of number z)) f)
    | inr old ↦ let had = m.given x old in (had.0, had.1, Among-left m.front (place ∷ []) had.0 had.2, kept had.0 object had.1 had.3, adds.first.numbers.kept had.1 (term_of number x) had.4)
  ];
  only = λ q a. elim (Among-split m.front (place ∷ []) q a) [
    | inl b ↦ let had = m.only q b in (had.0, had.1, kept q object had.0 had.2, adds.first.numbers.kept had.0 (term_of number had.1) had.3, inr had.4)
    | inr (inl s) ↦ (adds.first.term, p, ap (held wider) (sym s) ∙ adds.first.adds.changes.at, adds.first.numbers.put, inl refl)
    | inr (inr b) ↦ absurd b
  ];
  used_is = omega (arith, m.used_is, adds.first.adds.used);
  capacity = adds.first.adds.size.capacity ∙ m.capacity;
  room = omega (arith, m.room, adds.first.numbers.room);
  room_first = m.room_first;
  place_first = m.place_first;
}
  where
    place : ℕ
    place = adds.first.adds.place

    kept : (q i j : ℕ) → held net q ≡ Some (i, j) → held wider q ≡ Some (i, j)
    kept q i j is = elim (cases_eq q adds.first.adds.place) [
      | inl here ↦ let none : held net q ≡ None = ap (held net) here ∙ adds.first.adds.was in absurd (cc)
      | inr differs ↦ adds.first.adds.changes.others q differs ∙ is
    ]

-- there is room for it
pub record IsReady (terms : Keys TermKey) (net : Net) (object : ℕ) (before : Option ℕ) : Type 0 where
  pub head : object < net.objects
  pub heads : length terms.slots ≤ net.terms
  pub room : 1 ≤ terms.room
  pub place : used net + 1 ≤ net.capacity
  pub once : IsOnce terms
  pub behind : IsBehind net object before

pub merges_ready : (was : Start) (terms : Keys TermKey) (net : Net) (number object : ℕ) (left : List Pair) (p : Pair) (before : Option ℕ) → Merges was terms net number object (left ++ p ∷ []) before → IsReady terms net object before
merges_ready was terms net number object left p before m =
    let sizes : length was.pairs ≡ length left + 1 + length m.done = omega (arith, ap length m.parts, length-append (left ++ p ∷ []) m.done, length-append left (p ∷ [])) in
    record {
      head = elim (cases_lt object (length was.objects.slots)) [
        | inl within ↦ omega (arith, within, m.tied.object_heads)
        | inr past ↦ let none : key_of was.objects object ≡ None = get_or_past was.objects.slots object None past in let mine = m.mine in absurd (cc)
      ];
      heads = m.tied.term_heads;
      room = omega (arith, sizes, m.room, m.room_first);
      place = omega (arith, sizes, m.used_is, m.capacity, m.place_first);
      once = m.tied.terms_once;
      behind = (m.front, m.back, m.cut);
    }

-- ---- the pairs in the other order

member_left : (xs ys : List Pair) (p : Pair) → Member xs p → Member (xs ++ ys) p
member_left [] ys p m = absurd m
member_left (x ∷ xs) ys p (inl e) = inl e
member_left (x ∷ xs) ys p (inr m) = inr (member_left xs ys p m)

member_right : (xs ys : List Pair) (p : Pair) → Member ys p → Member (xs ++ ys) p
member_right [] ys p m = m
member_right (x ∷ xs) ys p m = inr (member_right xs ys p m)

member_split : (xs ys : List Pair) (p : Pair) → Member (xs ++ ys) p → Member xs p ⊎ Member ys p
member_split [] ys p m = inr m
member_split (x ∷ xs) ys p (inl e) = inl (inl e)
member_split (x ∷ xs) ys p (inr m) = elim (member_split xs ys p m) [ inl a ↦ inl (inr a) | inr b ↦ inr b ]

pub member_reverse : (xs : List Pair) (p : Pair) → Member (reverse xs) p ↔ Member xs p
member_reverse [] p = (λ m. m, λ m. m)
member_reverse (x ∷ xs) p =
    let turned : reverse (x ∷ xs) ≡ reverse xs ++ x ∷ [] = reverse-append (x ∷ []) xs in
    let later = member_reverse xs p in (
      λ m. elim (member_split (reverse xs) (x ∷ []) p (subst (λ z. Member z p) turned m)) [
        | inl a ↦ inr (later.0 a)
        | inr (inl e) ↦ inl e
        | inr (inr b) ↦ absurd b
      ],
      λ m. subst (λ z. Member z p) (sym turned) (elim m [
        | inl e ↦ member_right (reverse xs) (x ∷ []) p (inl e)
        | inr a ↦ member_left (reverse xs) (x ∷ []) p (later.1 a)
      ]),
    )

-- ---- all are settled, and the rest is out

pub record IsReplaced (old new : Contents) (scope : Scope) (name : List ℕ) (pairs : List Pair) : Type 0 where
  pub whole : IsWhole new
  pub replaces : ReplacesObject old new scope name pairs
  pub room : LosesRoom old new 1 (length pairs) (length pairs)

pub replaced : (old now : Contents) (scope : Scope) (number object : ℕ) (name given : List ℕ) (pairs turned left : List Pair) (before : Option ℕ) → IsWhole old → StandsAt old scope name number object → Merges (start old given turned) now.terms now.net number object left before → left ≡ [] → HasAll now.net object before
    → ((p : Pair) → Member turned p ↔ Member pairs p) → length turned ≡ length pairs → now.scopes ≡ old.scopes → now.objects ≡ old.objects → IsReplaced old now scope name pairs
replaced old now scope number object name given pairs turned left before whole stands m none all members sizes scopes objects = record {
  whole = record {
    tied = subst (λ z. IsTied z now.terms now.net) (sym objects) m.tied;
    scopes_once = subst IsOnce (sym scopes) whole.scopes_once;
    scoped = λ i x is. subst (λ z. IsSome (key_of z x.scope)) (sym scopes) (whole.scoped i x (ap (λ z. key_of z i) (sym objects) ∙ is));
  };
  replaces = record {
    objects = λ s n. (
      λ h.
          let at = ap (λ z. key_of z h.0) (sym scopes) ∙ h.2 in
          let is = ap (λ z. key_of z h.1) (sym objects) ∙ h.3 in
          elim (cases_eq h.1 object) [
            | inl e ↦ inr (mine_is s n h.0 h.1 at is e)
            | inr differs ↦ inl ((h.0, h.1, at, is), λ e. differs (is_mine s n h.0 h.1 at is e.0 e.1))
          ],
      elim [
        | inl (h, differs) ↦ (h.0, h.1, ap (λ z. key_of z h.0) scopes ∙ h.2, ap (λ z. key_of z h.1) objects ∙ h.3)
        | inr (e, f) ↦ (number, object, ap (λ z. key_of z number) scopes ∙ stands.scope_at ∙ ap Some (sym e), ap (λ z. key_of z object) objects ∙ stands.object_at ∙ ap (λ z. Some (object_key number z)) (sym f))
      ],
    );
    pairs_are = λ s n p. (
      λ h. held_was s n p h.0 h.1 h.2 h.3 (ap (λ z. key_of z h.0) (sym scopes) ∙ h.4) (ap (λ z. key_of z h.1) (sym objects) ∙ h.5) h.6 h.7,
      elim [
        | inl (h, differs) ↦
            let other : h.1 ≢ object = λ e. differs (mine_is s n h.0 h.1 h.4 h.5 e) in
            (h.0, h.1, h.2, h.3, ap (λ z. key_of z h.0) scopes ∙ h.4, ap (λ z. key_of z h.1) objects ∙ h.5, m.terms_kept h.3 h.1 h.2 (term_of h.0 p) other h.7 h.6, m.others_kept h.3 h.1 h.2 other h.7)
        | inr (e, f, mine) ↦
            let own = m.given p (subst (λ z. Member z p) done ((members p).1 mine)) in
            (number, object, own.1, own.0, ap (λ z. key_of z number) scopes ∙ stands.scope_at ∙ ap Some (sym e), ap (λ z. key_of z object) objects ∙ stands.object_at ∙ ap (λ z. Some (object_key number z)) (sym f), own.4, own.3)
      ],
    );
  };
  room = record {
    for_objects = omega (arith, ap (λ (z : Keys Scope). z.room) scopes, ap (λ (z : Keys ObjectKey). z.room) objects);
    for_postings = omega (arith, m.used_is, m.capacity, ap length done, sizes);
    for_terms = omega (arith, m.room, ap length done, sizes);
  };
}
  where
    done : turned ≡ m.done
    done = m.parts ∙ ap (λ z. z ++ m.done) none

    is_mine : (s : Scope) (n : List ℕ) (a i : ℕ) → key_of old.scopes a ≡ Some s → key_of old.objects i ≡ Some (object_key a n) → s ≡ scope → n ≡ name → i ≡ object
    is_mine s n a i at is e f =
        let same : a ≡ number = whole.scopes_once a number scope (at ∙ ap Some e) stands.scope_at in
        whole.tied.objects_once i object (object_key number name) (is ∙ ap (λ z. Some (object_key z n)) same ∙ ap (λ z. Some (object_key number z)) f) stands.object_at

    mine_is : (s : Scope) (n : List ℕ) (a i : ℕ) → key_of old.scopes a ≡ Some s → key_of old.objects i ≡ Some (object_key a n) → i ≡ object → (s ≡ scope) × (n ≡ name)
    mine_is s n a i at is e =
        let here : key_of old.objects i ≡ Some (object_key number name) = ap (key_of old.objects) e ∙ stands.object_at in
        let keys : object_key a n ≡ object_key number name = cc in
        let same : a ≡ number = ap (λ (k : ObjectKey). k.scope) keys in
        let there : key_of old.scopes a ≡ Some scope = ap (key_of old.scopes) same ∙ stands.scope_at in
        ((let f : s ≡ scope = cc in f), ap (λ (k : ObjectKey). k.name) keys)

    held_was : (s : Scope) (n : List ℕ) (p : Pair) (a i j q : ℕ) → key_of old.scopes a ≡ Some s → key_of old.objects i ≡ Some (object_key a n) → key_of now.terms j ≡ Some (term_of a p) → held now.net q ≡ Some (i, j)
        → (Holds old s n p × (((s ≡ scope) × (n ≡ name)) → ⊥)) ⊎ ((s ≡ scope) × (n ≡ name) × Member pairs p)
    held_was s n p a i j q at is term posting = elim (cases_eq i object) [
      | inl e ↦
          let names = mine_is s n a i at is e in
          let own = m.only q (all m.front m.back m.cut q (j, posting ∙ ap (λ z. Some (z, j)) e)) in
          let number_same : j ≡ own.0 = (both i j object own.0 (sym posting ∙ own.2)).1 in
          let key : key_of now.terms j ≡ Some (term_of number own.1) = ap (key_of now.terms) number_same ∙ own.3 in
          let same : term_of a p ≡ term_of number own.1 = cc in
          let pair : own.1 ≡ p = sym (ap pair_in same) in
          inr (names.0, names.1, (members p).0 (subst (λ z. Member z p) (sym done) (subst (λ z. Member m.done z) pair own.4)))
      | inr differs ↦
          let before = m.others_from q i j differs posting in
          let tie = whole.tied.joined q i j before in
          let after = m.terms_kept q i j tie.term differs before tie.term_at in
          let same : tie.term ≡ term_of a p = cc in
          inl ((a, i, j, q, at, is, tie.term_at ∙ ap Some same, before), λ e. differs (is_mine s n a i at is e.0 e.1))
    ]

-- ---- an object that isn't there is put in

pub put_in_place : (old new : Contents) (scope : Scope) (name : List ℕ) (pairs : List Pair) → (HasObject old scope name → ⊥) → AddsObject old new scope name pairs → ReplacesObject old new scope name pairs
put_in_place old new scope name pairs absent adds = record {
  objects = λ s n. (
    λ h. elim ((adds.objects s n).0 h) [ inl had ↦ inl (had, λ e. out s n had e) | inr e ↦ inr e ],
    λ t. (adds.objects s n).1 (elim t [ inl had ↦ inl had.0 | inr e ↦ inr e ]),
  );
  pairs_are = λ s n p. (
    λ h. elim ((adds.pairs_are s n p).0 h) [ inl had ↦ inl (had, λ e. out s n (had.0, had.1, had.4, had.5) e) | inr e ↦ inr e ],
    λ t. (adds.pairs_are s n p).1 (elim t [ inl had ↦ inl had.0 | inr e ↦ inr e ]),
  );
}
  where
    out : (s : Scope) (n : List ℕ) → HasObject old s n → ((s ≡ scope) × (n ≡ name)) → ⊥
    out s n h e = absent (h.0, h.1, h.2 ∙ ap Some e.0, h.3 ∙ ap (λ z. Some (object_key h.0 z)) e.1)
