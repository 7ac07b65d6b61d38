-- An object is put in: its scope, its name, and then its pairs one by one.
use Rattle.std.proofs.Common.{◌≡◌, ◌⊎◌, ℕ, ◌+◌, ◌-◌, ◌≤◌, inl, inr, List, [], ◌∷◌, ◌++◌, length, Option, Some, None, is_some, IsSome, refl, sym, ap, subst, ◌∙◌, arith}
use Rattle.std.proofs.lemmas.Bool.{cases_eq}
use Rattle.std.proofs.lemmas.List.{append_assoc, append-nil, length-append}
use Rattle.search_query.specs.Pair.{Pair}
use Rattle.search_index.specs.declared.scope.Scope.{Scope}
use Rattle.search_index.specs.declared.key.ObjectKey.{ObjectKey}
use Rattle.ordered_keys.specs.Keys.{Keys, Inserts, IsAbsent, IsOnce, Numbers, key_of}
use Rattle.search_index.specs.KeyOrder.{TermKey, object_cmp, object_cmp_total, object_key}
use Rattle.search_index.specs.Net.{Net, held, used}
use Rattle.search_index.specs.Arena.{Contents, Member, HasObject, Holds, LosesRoom, AddsObject, IsTied, IsWhole, AddsTerm}
use Rattle.search_index.proofs.EqualKeys.{same_objects}
use Rattle.ordered_keys.proofs.KeyLemmas.{numbers_new}
use Rattle.search_index.proofs.NetLemmas.{cases_option}

-- the term of a pair
abbrev pub term_of : ℕ → Pair → TermKey
term_of a p = record { scope = a; pair = p }

-- so many pairs have been given to an object, the last first
pub record Given (was now : Contents) (number object : ℕ) (name : List ℕ) (pairs left : List Pair) : Type 0 where
  pub done : List Pair
  pub parts : pairs ≡ left ++ done
  pub scopes : now.scopes ≡ was.scopes
  pub objects : now.objects ≡ was.objects
  pub mine : key_of was.objects object ≡ Some (object_key number name)
  pub tied : IsTied was.objects now.terms now.net
  pub terms_kept : (j : ℕ) (y : TermKey) → key_of was.terms j ≡ Some y → key_of now.terms j ≡ Some y
  pub net_kept : (q i j : ℕ) → held was.net q ≡ Some (i, j) → held now.net q ≡ Some (i, j)
  pub from : (q i j : ℕ) → held now.net q ≡ Some (i, j) → (held was.net q ≡ Some (i, j)) ⊎ ((i ≡ object) × ((p : Pair) × Member done p × (key_of now.terms j ≡ Some (term_of number p))))
  pub given : (p : Pair) → Member done p → (q j : ℕ) × (held was.net q ≡ None) × (held now.net q ≡ Some (object, j)) × (key_of now.terms j ≡ Some (term_of number p))
  pub used_is : used now.net ≡ used was.net + length done
  pub capacity : now.net.capacity ≡ was.net.capacity
  pub room : was.terms.room ≤ now.terms.room + length done
  pub room_left : length left ≤ now.terms.room
  pub place_left : length left ≤ now.net.capacity - used now.net

-- an object's number and a term's, told apart from another posting's
some_is : (p q : ℕ × ℕ) → Some p ≡ Some q → p ≡ q
some_is p q e = cc

both : (i j a b : ℕ) → ◌≡◌ {A = Option (ℕ × ℕ)} (Some (i, j)) (Some (a, b)) → (i ≡ a) × (j ≡ b)
both i j a b e = let pairs = some_is (i, j) (a, b) e in (ap (λ (p : ℕ × ℕ). p.0) pairs, ap (λ (p : ℕ × ℕ). p.1) pairs)

pub tied_adds : (objects : Keys ObjectKey) (terms more : Keys TermKey) (net wider : Net) (object number : ℕ) (name : List ℕ) (p : Pair) → key_of objects object ≡ Some (object_key number name) → IsTied objects terms net → AddsTerm terms more net wider object (term_of number p) → IsTied objects more wider
tied_adds objects terms more net wider object number name p mine tied adds = record {
  joined = λ q i j is. elim (cases_eq q adds.adds.place) [
    | inl here ↦
        let put : held wider q ≡ Some (object, adds.term) = ap (held wider) here ∙ adds.adds.changes.at in
        let are = both i j object adds.term (sym is ∙ put) in
        record { object = object_key number name; term = term_of number p; object_at = ap (key_of objects) are.0 ∙ mine; term_at = ap (key_of more) are.1 ∙ adds.numbers.put; scope = refl }
    | inr differs ↦
        let old = tied.joined q i j (sym (adds.adds.changes.others q differs) ∙ is) in
        record { object = old.object; term = old.term; object_at = old.object_at; term_at = adds.numbers.kept j old.term old.term_at; scope = old.scope }
  ];
  used_terms = λ j y is unused. elim (adds.numbers.from j y is) [
    | inl old ↦ tied.used_terms j y old (λ o has. unused o (has.0, kept has.0 o j has.1))
    | inr (e, f) ↦ unused object (adds.adds.place, adds.adds.changes.at ∙ ap (λ z. Some (object, z)) (sym e))
  ];
  objects_once = tied.objects_once;
  terms_once = adds.numbers.once;
  object_heads = omega (arith, tied.object_heads, adds.adds.size.objects);
  term_heads = omega (arith, tied.term_heads, adds.numbers.size, adds.adds.size.terms);
}
  where
    kept : (q i j : ℕ) → held net q ≡ Some (i, j) → held wider q ≡ Some (i, j)
    kept q i j is = elim (cases_eq q adds.adds.place) [
      | inl here ↦ let none : held net q ≡ None = ap (held net) here ∙ adds.adds.was in absurd (cc)
      | inr differs ↦ adds.adds.changes.others q differs ∙ is
    ]

pub given_more : (was now : Contents) (more : Keys TermKey) (wider : Net) (number object : ℕ) (name : List ℕ) (pairs left rest : List Pair) (p : Pair) → Given was now number object name pairs left → left ≡ rest ++ p ∷ []
    → AddsTerm now.terms more now.net wider object (term_of number p) → Given was (record { scopes = now.scopes; objects = now.objects; terms = more; net = wider }) number object name pairs rest
given_more was now more wider number object name pairs left rest p g last adds =
    record {
      done = p ∷ g.done;
      parts = g.parts ∙ ap (λ z. z ++ g.done) last ∙ append_assoc rest (p ∷ []) g.done;
      scopes = g.scopes;
      objects = g.objects;
      mine = g.mine;
      tied = tied_adds was.objects now.terms more now.net wider object number name p g.mine g.tied adds;
      terms_kept = λ j y is. adds.numbers.kept j y (g.terms_kept j y is);
      net_kept = λ q i j is. kept q i j (g.net_kept q i j is);
      from = λ q i j is. elim (cases_eq q adds.adds.place) [
        | inl here ↦
            let put : held wider q ≡ Some (object, adds.term) = ap (held wider) here ∙ adds.adds.changes.at in
            let are = both i j object adds.term (sym is ∙ put) in
            inr (are.0, (p, inl refl, ap (key_of more) are.1 ∙ adds.numbers.put))
        | inr differs ↦ elim (g.from q i j (sym (adds.adds.changes.others q differs) ∙ is)) [
          | inl old ↦ inl old
          | inr (e, (x, m, at)) ↦ inr (e, (x, inr m, adds.numbers.kept j (term_of number x) at))
        ]
      ];
      given = λ x m. elim m [
        | inl e ↦ (adds.adds.place, adds.term, fresh, adds.adds.changes.at, adds.numbers.put ∙ ap (λ z. Some (term_of number z)) e)
        | inr m ↦ let old = g.given x m in (old.0, old.1, old.2, kept old.0 object old.1 old.3, adds.numbers.kept old.1 (term_of number x) old.4)
      ];
      used_is = omega (arith, g.used_is, adds.adds.used);
      capacity = adds.adds.size.capacity ∙ g.capacity;
      room = omega (arith, g.room, adds.numbers.room);
      room_left = omega (arith, g.room_left, adds.numbers.room, ap length last, length-append rest (p ∷ []));
      place_left = omega (arith, g.place_left, adds.adds.used, adds.adds.size.capacity, ap length last, length-append rest (p ∷ []));
    }
  where
    kept : (q i j : ℕ) → held now.net q ≡ Some (i, j) → held wider q ≡ Some (i, j)
    kept q i j is = elim (cases_eq q adds.adds.place) [
      | inl here ↦ let none : held now.net q ≡ None = ap (held now.net) here ∙ adds.adds.was in absurd (cc)
      | inr differs ↦ adds.adds.changes.others q differs ∙ is
    ]

    -- what is free now was free before the first pair
    fresh : held was.net adds.adds.place ≡ None
    fresh = elim (cases_option (held was.net adds.adds.place)) [
      | inl none ↦ none
      | inr ((i, j), is) ↦ let kept_one : held now.net adds.adds.place ≡ Some (i, j) = g.net_kept adds.adds.place i j is in let none = adds.adds.was in absurd (cc)
    ]

-- before the first pair: the object is there, and has none
pub given_begins : (old : Contents) (scopes : Keys Scope) (objects : Keys ObjectKey) (number object : ℕ) (name : List ℕ) (pairs : List Pair) → IsWhole old → Numbers old.objects objects (object_key number name) object → length pairs ≤ old.terms.room → length pairs ≤ old.net.capacity - used old.net
    → Given (record { scopes = scopes; objects = objects; terms = old.terms; net = old.net }) (record { scopes = scopes; objects = objects; terms = old.terms; net = old.net }) number object name pairs pairs
given_begins old scopes objects number object name pairs whole numbers room place = record {
  done = [];
  parts = sym (append-nil pairs);
  scopes = refl;
  objects = refl;
  mine = numbers.put;
  tied = record {
    joined = λ q i j is. let was = whole.tied.joined q i j is in record { object = was.object; term = was.term; object_at = numbers.kept i was.object was.object_at; term_at = was.term_at; scope = was.scope };
    used_terms = whole.tied.used_terms;
    objects_once = numbers.once;
    terms_once = whole.tied.terms_once;
    object_heads = omega (arith, whole.tied.object_heads, numbers.size);
    term_heads = whole.tied.term_heads;
  };
  terms_kept = λ j y is. is;
  net_kept = λ q i j is. is;
  from = λ q i j is. inl is;
  given = λ p m. absurd m;
  used_is = omega arith;
  capacity = refl;
  room = omega arith;
  room_left = room;
  place_left = place;
}

-- after the last
pub record IsPutIn (old new : Contents) (scope : Scope) (name : List ℕ) (pairs : List Pair) : Type 0 where
  pub whole : IsWhole new
  pub adds : AddsObject old new scope name pairs
  pub room : LosesRoom old new 1 (length pairs) (length pairs)

pub given_all : (old was now : Contents) (scope : Scope) (number object : ℕ) (name : List ℕ) (pairs left : List Pair) → IsWhole old → Numbers old.scopes was.scopes scope number → Numbers old.objects was.objects (object_key number name) object
    → was.terms ≡ old.terms → was.net ≡ old.net → Given was now number object name pairs left → left ≡ [] → IsPutIn old now scope name pairs
given_all old was now scope number object name pairs left whole scopes objects same_terms same_net g none = record {
  whole = record {
    tied = subst (λ z. IsTied z now.terms now.net) (sym g.objects) g.tied;
    scopes_once = subst IsOnce (sym g.scopes) scopes.once;
    scoped = λ i x is. subst (λ z. IsSome (key_of z x.scope)) (sym g.scopes) (scoped i x (ap (λ z. key_of z i) (sym g.objects) ∙ is));
  };
  adds = record {
    objects = λ s n. (
      λ h. was_there s n h.0 h.1 (ap (λ z. key_of z h.0) (sym g.scopes) ∙ h.2) (ap (λ z. key_of z h.1) (sym g.objects) ∙ h.3),
      elim [
        | inl h ↦ (h.0, h.1, ap (λ z. key_of z h.0) g.scopes ∙ scopes.kept h.0 s h.2, ap (λ z. key_of z h.1) g.objects ∙ objects.kept h.1 (object_key h.0 n) h.3)
        | inr (e, f) ↦ (number, object, ap (λ z. key_of z number) g.scopes ∙ scopes.put ∙ ap Some (sym e), ap (λ z. key_of z object) g.objects ∙ objects.put ∙ ap (λ z. Some (object_key number z)) (sym f))
      ],
    );
    pairs_are = λ s n p. (
      λ h. held_was s n p h.0 h.1 h.2 h.3 (ap (λ z. key_of z h.0) (sym g.scopes) ∙ h.4) (ap (λ z. key_of z h.1) (sym g.objects) ∙ h.5) h.6 h.7,
      elim [
        | inl h ↦ (
          h.0,
          h.1,
          h.2,
          h.3,
          ap (λ z. key_of z h.0) g.scopes ∙ scopes.kept h.0 s h.4,
          ap (λ z. key_of z h.1) g.objects ∙ objects.kept h.1 (object_key h.0 n) h.5,
          g.terms_kept h.2 (record { scope = h.0; pair = p }) (ap (λ z. key_of z h.2) same_terms ∙ h.6),
          g.net_kept h.3 h.1 h.2 (ap (λ z. held z h.3) same_net ∙ h.7),
        )
        | inr (e, f, m) ↦
            let mine = g.given p (subst (λ z. Member z p) all m) in
            (number, object, mine.1, mine.0, ap (λ z. key_of z number) g.scopes ∙ scopes.put ∙ ap Some (sym e), ap (λ z. key_of z object) g.objects ∙ objects.put ∙ ap (λ z. Some (object_key number z)) (sym f), mine.4, mine.3)
      ],
    );
  };
  room = record {
    for_objects = omega (arith, scopes.room, objects.room, ap (λ (z : Keys Scope). z.room) g.scopes, ap (λ (z : Keys ObjectKey). z.room) g.objects);
    for_postings = omega (arith, g.used_is, g.capacity, ap used same_net, ap (λ (z : Net). z.capacity) same_net, ap length all);
    for_terms = omega (arith, g.room, ap (λ (z : Keys TermKey). z.room) same_terms, ap length all);
  };
}
  where
    all : pairs ≡ g.done
    all = g.parts ∙ ap (λ z. z ++ g.done) none

    of_term : (a j : ℕ) (p x : Pair) → key_of now.terms j ≡ Some (term_of a p) → key_of now.terms j ≡ Some (term_of number x) → p ≡ x
    of_term a j p x e f = let same : term_of a p ≡ term_of number x = cc in ap (λ (k : TermKey). k.pair) same

    scoped : (i : ℕ) (x : ObjectKey) → key_of was.objects i ≡ Some x → IsSome (key_of was.scopes x.scope)
    scoped i x is = elim (objects.from i x is) [
      | inl old_is ↦ elim (cases_option (key_of old.scopes x.scope)) [
        | inl gone ↦ absurd (let t = whole.scoped i x old_is in let u : is_some (key_of old.scopes x.scope) ≡ is_some {T = Scope} None = ap is_some gone in cc)
        | inr (s, at) ↦ ap is_some (scopes.kept x.scope s at)
      ]
      | inr (e, f) ↦ ap is_some (ap (λ (k : ObjectKey). key_of was.scopes k.scope) f ∙ scopes.put)
    ]

    old_scope : (i a : ℕ) (n : List ℕ) (s : Scope) → key_of old.objects i ≡ Some (object_key a n) → key_of was.scopes a ≡ Some s → key_of old.scopes a ≡ Some s
    old_scope i a n s is at = elim (cases_option (key_of old.scopes a)) [
      | inl gone ↦ absurd (let t = whole.scoped i (object_key a n) is in let u : is_some (key_of old.scopes a) ≡ is_some {T = Scope} None = ap is_some gone in cc)
      | inr (z, there) ↦ let kept : key_of was.scopes a ≡ Some z = scopes.kept a z there in let same : z ≡ s = cc in there ∙ ap Some same
    ]

    mine_is : (s : Scope) (n : List ℕ) (a : ℕ) → key_of was.scopes a ≡ Some s → object_key a n ≡ object_key number name → (s ≡ scope) × (n ≡ name)
    mine_is s n a at f =
        let same : a ≡ number = ap (λ (k : ObjectKey). k.scope) f in
        let there : key_of was.scopes a ≡ Some scope = ap (key_of was.scopes) same ∙ scopes.put in
        ((let e : s ≡ scope = cc in e), ap (λ (k : ObjectKey). k.name) f)

    was_there : (s : Scope) (n : List ℕ) (a i : ℕ) → key_of was.scopes a ≡ Some s → key_of was.objects i ≡ Some (object_key a n) → HasObject old s n ⊎ ((s ≡ scope) × (n ≡ name))
    was_there s n a i at is = elim (objects.from i (object_key a n) is) [
      | inl old_is ↦ inl (a, i, old_scope i a n s old_is at, old_is)
      | inr (e, f) ↦ inr (mine_is s n a at f)
    ]

    held_was : (s : Scope) (n : List ℕ) (p : Pair) (a i j q : ℕ) → key_of was.scopes a ≡ Some s → key_of was.objects i ≡ Some (object_key a n) → key_of now.terms j ≡ Some (record { scope = a; pair = p }) → held now.net q ≡ Some (i, j)
        → Holds old s n p ⊎ ((s ≡ scope) × (n ≡ name) × Member pairs p)
    held_was s n p a i j q at is term posting = elim (g.from q i j posting) [
      | inl old_posting ↦
          let before : held old.net q ≡ Some (i, j) = ap (λ z. held z q) (sym same_net) ∙ old_posting in
          let tie = whole.tied.joined q i j before in
          let object_same : key_of was.objects i ≡ Some tie.object = objects.kept i tie.object tie.object_at in
          let o : tie.object ≡ object_key a n = cc in
          let old_is : key_of old.objects i ≡ Some (object_key a n) = tie.object_at ∙ ap Some o in
          let term_same : key_of now.terms j ≡ Some tie.term = g.terms_kept j tie.term (ap (λ z. key_of z j) same_terms ∙ tie.term_at) in
          let t : tie.term ≡ term_of a p = cc in
          inl (a, i, j, q, old_scope i a n s old_is at, old_is, tie.term_at ∙ ap Some t, before)
      | inr (e, (x, m, term_at)) ↦
          let here : key_of was.objects i ≡ Some (object_key number name) = ap (key_of was.objects) e ∙ objects.put in
          let f : object_key a n ≡ object_key number name = cc in
          let mine = mine_is s n a at f in
          let same : p ≡ x = of_term a j p x term term_at in
          inr (mine.0, mine.1, subst (λ z. Member z p) (sym all) (subst (λ z. Member g.done z) (sym same) m))
    ]

-- an object that isn't there has no key
pub still_absent : (old : Contents) (scopes : Keys Scope) (scope : Scope) (number : ℕ) (name : List ℕ) → IsWhole old → Numbers old.scopes scopes scope number → (HasObject old scope name → ⊥) → IsAbsent object_cmp old.objects (object_key number name)
still_absent old scopes scope number name whole numbers absent j x is same =
    let key : x ≡ object_key number name = same_objects x (object_key number name) same in
    let there : key_of old.objects j ≡ Some (object_key number name) = is ∙ ap Some key in
    elim (cases_option (key_of old.scopes number)) [
      | inl gone ↦ absurd (let t = whole.scoped j (object_key number name) there in let u : is_some (key_of old.scopes number) ≡ is_some {T = Scope} None = ap is_some gone in cc)
      | inr (s, at) ↦
          let kept : key_of scopes number ≡ Some s = numbers.kept number s at in
          let put : key_of scopes number ≡ Some scope = numbers.put in
          let one : s ≡ scope = cc in
          absent (number, j, at ∙ ap Some one, there)
    ]

pub object_numbers : (old : Contents) (scopes : Keys Scope) (objects : Keys ObjectKey) (scope : Scope) (number object : ℕ) (name : List ℕ) → IsWhole old → Numbers old.scopes scopes scope number → (HasObject old scope name → ⊥)
    → Inserts old.objects objects (object_key number name) object → Numbers old.objects objects (object_key number name) object
object_numbers old scopes objects scope number object name whole numbers absent inserts =
    numbers_new object_cmp object_cmp_total old.objects objects (object_key number name) object whole.tied.objects_once (still_absent old scopes scope number name whole numbers absent) inserts
