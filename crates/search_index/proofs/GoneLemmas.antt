-- An object is taken out: its postings one by one, and then its name and its scope.
use Rattle.std.proofs.Common.{◌≡◌, ◌≢◌, ℕ, ◌≤◌, inl, inr, List, length, Option, Some, None, is_some, get_or, refl, sym, ap, subst, ◌∙◌, arith}
use Rattle.std.proofs.lemmas.Bool.{cases_eq}
use Rattle.std.specs.Cmp.{tied_itself}
use Rattle.search_index.specs.declared.scope.Scope.{Scope}
use Rattle.search_index.specs.declared.key.ObjectKey.{ObjectKey}
use Rattle.ordered_keys.specs.Keys.{Keys, IsAbsent, IsAt, Removes, key_of}
use Rattle.search_index.specs.KeyOrder.{TermKey, object_cmp, object_cmp_total, object_key}
use Rattle.search_index.specs.Scope.{scope_cmp, scope_cmp_total}
use Rattle.search_index.specs.Net.{Net, HasNone, IsUnused, Widens, held, used}
use Rattle.search_index.specs.Arena.{StandsAt, Contents, HasObject, LosesRoom, DropsObject, SameObjects, IsTied, IsWhole, DropsFirst}
use Rattle.search_index.proofs.EqualKeys.{same_scopes}
use Rattle.search_index.proofs.GivenLemmas.{term_of}
use Rattle.search_index.proofs.NetLemmas.{cases_option}

some_is : (p q : ℕ × ℕ) → Some p ≡ Some q → p ≡ q
some_is p q e = cc

both : (i j a b : ℕ) → ◌≡◌ {A = Option (ℕ × ℕ)} (Some (i, j)) (Some (a, b)) → (i ≡ a) × (j ≡ b)
both i j a b e = let pairs = some_is (i, j) (a, b) e in (ap (λ (p : ℕ × ℕ). p.0) pairs, ap (λ (p : ℕ × ℕ). p.1) pairs)

-- some postings of an object are out, and the terms that had no other
pub record Remains (was now : Contents) (object : ℕ) : Type 0 where
  pub scopes : now.scopes ≡ was.scopes
  pub objects : now.objects ≡ was.objects
  pub tied : IsTied was.objects now.terms now.net
  pub sub : (q i j : ℕ) → held now.net q ≡ Some (i, j) → held was.net q ≡ Some (i, j)
  pub others : (q i j : ℕ) → held was.net q ≡ Some (i, j) → i ≢ object → held now.net q ≡ Some (i, j)
  pub terms_from : (j : ℕ) (y : TermKey) → key_of now.terms j ≡ Some y → key_of was.terms j ≡ Some y
  pub room : was.terms.room ≤ now.terms.room
  pub used_less : used now.net ≤ used was.net
  pub capacity : now.net.capacity ≡ was.net.capacity

pub remains_first : (was : Contents) (object : ℕ) → IsWhole was → Remains was was object
remains_first was object whole = record {
  scopes = refl;
  objects = refl;
  tied = whole.tied;
  sub = λ q i j is. is;
  others = λ q i j is differs. is;
  terms_from = λ j y is. is;
  room = omega arith;
  used_less = omega arith;
  capacity = refl;
}

pub tied_drops : (objects : Keys ObjectKey) (terms fewer : Keys TermKey) (net less : Net) (object : ℕ) → IsTied objects terms net → DropsFirst terms fewer net less object → IsTied objects fewer less
tied_drops objects terms fewer net less object tied drops = record {
  joined = λ q i j is.
      let old = tied.joined q i j (before q i j is) in
      record { object = old.object; term = old.term; object_at = old.object_at; term_at = drops.drops.kept j old.term old.term_at (λ e unused. unused i (q, is ∙ ap (λ z. Some (i, z)) e)); scope = old.scope };
  used_terms = λ j y is unused.
      let was = drops.drops.from j y is in
      elim (cases_eq j drops.term) [
        | inl e ↦ was.1 e (subst (λ z. IsUnused less z) e unused)
        | inr differs ↦ tied.used_terms j y was.0 (λ o has. unused o (has.0, drops.takes.changes.others has.0 (λ here. differs (both o j object drops.term (sym has.1 ∙ ap (held net) here ∙ drops.takes.was)).1) ∙ has.1))
      ];
  objects_once = tied.objects_once;
  terms_once = λ i j x one two. tied.terms_once i j x (drops.drops.from i x one).0 (drops.drops.from j x two).0;
  object_heads = omega (arith, tied.object_heads, drops.takes.size.objects);
  term_heads = omega (arith, tied.term_heads, drops.drops.size, drops.takes.size.terms);
}
  where
    before : (q i j : ℕ) → held less q ≡ Some (i, j) → held net q ≡ Some (i, j)
    before q i j is = elim (cases_eq q drops.takes.place) [
      | inl here ↦ let none : held less q ≡ None = ap (held less) here ∙ drops.takes.changes.at in absurd (cc)
      | inr differs ↦ sym (drops.takes.changes.others q differs) ∙ is
    ]

pub remains_more : (was now : Contents) (fewer : Keys TermKey) (less : Net) (object : ℕ) → Remains was now object → DropsFirst now.terms fewer now.net less object → Remains was (record { scopes = now.scopes; objects = now.objects; terms = fewer; net = less }) object
remains_more was now fewer less object r drops = record {
  scopes = r.scopes;
  objects = r.objects;
  tied = tied_drops was.objects now.terms fewer now.net less object r.tied drops;
  sub = λ q i j is. r.sub q i j (elim (cases_eq q drops.takes.place) [
    | inl here ↦ let none : held less q ≡ None = ap (held less) here ∙ drops.takes.changes.at in absurd (cc)
    | inr differs ↦ sym (drops.takes.changes.others q differs) ∙ is
  ]);
  others = λ q i j is differs. drops.takes.changes.others q (λ here. differs (both i j object drops.term (sym (r.others q i j is differs) ∙ ap (held now.net) here ∙ drops.takes.was)).0) ∙ r.others q i j is differs;
  terms_from = λ j y is. r.terms_from j y (drops.drops.from j y is).0;
  room = omega (arith, r.room, drops.drops.room);
  used_less = omega (arith, r.used_less, drops.takes.used);
  capacity = drops.takes.size.capacity ∙ r.capacity;
}

-- the scopes, of which one may be out that has no object
pub record KeepsScopes (old new : Keys Scope) (objects : Keys ObjectKey) : Type 0 where
  pub from : (a : ℕ) (s : Scope) → key_of new a ≡ Some s → key_of old a ≡ Some s
  pub kept : (a : ℕ) (s : Scope) (i : ℕ) (x : ObjectKey) → key_of old a ≡ Some s → key_of objects i ≡ Some x → x.scope ≡ a → key_of new a ≡ Some s
  pub room : old.room ≤ new.room

pub keeps_all : (old : Keys Scope) (objects : Keys ObjectKey) → KeepsScopes old old objects
keeps_all old objects = record { from = λ a s is. is; kept = λ a s i x is at e. is; room = omega arith }

pub keeps_others : (old new : Keys Scope) (objects : Keys ObjectKey) (number : ℕ) → Removes old new number → ((i : ℕ) (x : ObjectKey) → key_of objects i ≡ Some x → x.scope ≢ number) → KeepsScopes old new objects
keeps_others old new objects number removes empty = record {
  from = λ a s is. elim (cases_eq a number) [
    | inl e ↦ let none : key_of new a ≡ None = ap (key_of new) e ∙ removes.gone in absurd (cc)
    | inr differs ↦ sym (removes.others a differs) ∙ is
  ];
  kept = λ a s i x is at e. removes.others a (λ f. empty i x at (e ∙ f)) ∙ is;
  room = omega (arith, removes.more);
}

pub record IsTakenOut (old new : Contents) (scope : Scope) (name : List ℕ) : Type 0 where
  pub whole : IsWhole new
  pub drops : DropsObject old new scope name
  pub room : LosesRoom old new 0 0 0

pub gone_all : (was now : Contents) (scopes : Keys Scope) (objects : Keys ObjectKey) (scope : Scope) (number object : ℕ) (name : List ℕ) → IsWhole was → Remains was now object → HasNone now.net object
    → StandsAt was scope name number object → Removes was.objects objects object → KeepsScopes was.scopes scopes objects
    → IsTakenOut was (record { scopes = scopes; objects = objects; terms = now.terms; net = now.net }) scope name
gone_all was now scopes objects scope number object name whole r none stands removes keeps = record {
  whole = record {
    tied = record {
      joined = λ q i j is.
          let old = r.tied.joined q i j is in
          record { object = old.object; term = old.term; object_at = removes.others i (λ e. none j (q, is ∙ ap (λ z. Some (z, j)) e)) ∙ old.object_at; term_at = old.term_at; scope = old.scope };
      used_terms = r.tied.used_terms;
      objects_once = λ i j x one two. r.tied.objects_once i j x (old_object i x one) (old_object j x two);
      terms_once = r.tied.terms_once;
      object_heads = omega (arith, r.tied.object_heads, removes.size);
      term_heads = r.tied.term_heads;
    };
    scopes_once = λ a b s one two. whole.scopes_once a b s (keeps.from a s one) (keeps.from b s two);
    scoped = λ i x is. elim (cases_option (key_of was.scopes x.scope)) [
      | inl gone ↦ absurd (let t = whole.scoped i x (old_object i x is) in let u : is_some (key_of was.scopes x.scope) ≡ is_some {T = Scope} None = ap is_some gone in cc)
      | inr (s, there) ↦ ap is_some (keeps.kept x.scope s i x there is refl)
    ];
  };
  drops = record {
    objects = λ s n. (
      λ h. ((h.0, h.1, keeps.from h.0 s h.2, old_object h.1 (object_key h.0 n) h.3), λ e. out h.1 (object_key h.0 n) h.3 (is_mine s n h.0 h.1 (keeps.from h.0 s h.2) (old_object h.1 (object_key h.0 n) h.3) e.0 e.1)),
      λ t. let h = t.0 in
          let differs : h.1 ≢ object = λ e. t.1 (mine_is s n h.0 h.1 h.2 h.3 e) in
          let there = removes.others h.1 differs ∙ h.3 in
          (h.0, h.1, keeps.kept h.0 s h.1 (object_key h.0 n) h.2 there refl, there),
    );
    pairs_are = λ s n p. (
      λ h. (
        (h.0, h.1, h.2, h.3, keeps.from h.0 s h.4, old_object h.1 (object_key h.0 n) h.5, r.terms_from h.2 (record { scope = h.0; pair = p }) h.6, r.sub h.3 h.1 h.2 h.7),
        λ e. out h.1 (object_key h.0 n) h.5 (is_mine s n h.0 h.1 (keeps.from h.0 s h.4) (old_object h.1 (object_key h.0 n) h.5) e.0 e.1),
      ),
      λ t. let h = t.0 in
          let differs : h.1 ≢ object = λ e. t.1 (mine_is s n h.0 h.1 h.4 h.5 e) in
          let there = removes.others h.1 differs ∙ h.5 in
          let posting = r.others h.3 h.1 h.2 h.7 differs in
          let tie = r.tied.joined h.3 h.1 h.2 posting in
          let before : key_of was.terms h.2 ≡ Some tie.term = r.terms_from h.2 tie.term tie.term_at in
          let term : key_of was.terms h.2 ≡ Some (term_of h.0 p) = h.6 in
          let same : tie.term ≡ term_of h.0 p = cc in
          (h.0, h.1, h.2, h.3, keeps.kept h.0 s h.1 (object_key h.0 n) h.4 there refl, there, tie.term_at ∙ ap Some same, posting),
    );
  };
  room = record {
    for_objects = omega (arith, keeps.room, removes.more);
    for_postings = omega (arith, r.used_less, r.capacity);
    for_terms = omega (arith, r.room);
  };
}
  where
    old_object : (i : ℕ) (x : ObjectKey) → key_of objects i ≡ Some x → key_of was.objects i ≡ Some x
    old_object i x is = elim (cases_eq i object) [
      | inl e ↦ let gone : key_of objects i ≡ None = ap (key_of objects) e ∙ removes.gone in absurd (cc)
      | inr differs ↦ sym (removes.others i differs) ∙ is
    ]

    out : (i : ℕ) (x : ObjectKey) → key_of objects i ≡ Some x → i ≡ object → ⊥
    out i x is e = let gone : key_of objects i ≡ None = ap (key_of objects) e ∙ removes.gone in absurd (cc)

    scope_is : key_of was.scopes number ≡ Some scope
    scope_is = stands.scope_at

    object_is : key_of was.objects object ≡ Some (object_key number name)
    object_is = stands.object_at

    is_mine : (s : Scope) (n : List ℕ) (a i : ℕ) → key_of was.scopes a ≡ Some s → key_of was.objects i ≡ Some (object_key a n) → s ≡ scope → n ≡ name → i ≡ object
    is_mine s n a i at is e f =
        let same : a ≡ number = whole.scopes_once a number scope (at ∙ ap Some e) scope_is in
        whole.tied.objects_once i object (object_key number name) (is ∙ ap (λ z. Some (object_key z n)) same ∙ ap (λ z. Some (object_key number z)) f) object_is

    mine_is : (s : Scope) (n : List ℕ) (a i : ℕ) → key_of was.scopes a ≡ Some s → key_of was.objects i ≡ Some (object_key a n) → i ≡ object → (s ≡ scope) × (n ≡ name)
    mine_is s n a i at is e =
        let here : key_of was.objects i ≡ Some (object_key number name) = ap (key_of was.objects) e ∙ object_is in
        let keys : object_key a n ≡ object_key number name = cc in
        let same : a ≡ number = ap (λ (k : ObjectKey). k.scope) keys in
        let there : key_of was.scopes a ≡ Some scope = ap (key_of was.scopes) same ∙ scope_is in
        ((let f : s ≡ scope = cc in f), ap (λ (k : ObjectKey). k.name) keys)

-- ---- nothing to take out

pub not_there : (c : Contents) (scope : Scope) (name : List ℕ) → (HasObject c scope name → ⊥) → DropsObject c c scope name
not_there c scope name out = record {
  objects = λ s n. (λ h. (h, λ e. out (h.0, h.1, h.2 ∙ ap Some e.0, h.3 ∙ ap (λ z. Some (object_key h.0 z)) e.1)), λ t. t.0);
  pairs_are = λ s n p. (λ h. (h, λ e. out (h.0, h.1, h.4 ∙ ap Some e.0, h.5 ∙ ap (λ z. Some (object_key h.0 z)) e.1)), λ t. t.0);
}

pub no_scope : (c : Contents) (scope : Scope) (name : List ℕ) → IsAbsent scope_cmp c.scopes scope → HasObject c scope name → ⊥
no_scope c scope name absent h = absent h.0 scope h.2 (tied_itself scope_cmp_total scope)

pub no_object : (c : Contents) (scope : Scope) (name : List ℕ) (number : ℕ) → IsWhole c → IsAt scope_cmp c.scopes scope number → IsAbsent object_cmp c.objects (object_key number name) → HasObject c scope name → ⊥
no_object c scope name number whole at absent h =
    let there : key_of c.scopes number ≡ Some scope = at.there ∙ ap Some (same_scopes at.key scope at.equal) in
    let same : h.0 ≡ number = whole.scopes_once h.0 number scope h.2 there in
    absent h.1 (object_key number name) (h.3 ∙ ap (λ z. Some (object_key z name)) same) (tied_itself object_cmp_total (object_key number name))

pub keeps_room : (c : Contents) → LosesRoom c c 0 0 0
keeps_room c = record { for_objects = omega arith; for_postings = omega arith; for_terms = omega arith }

-- ---- more room

-- the same keys under the same numbers, and the same postings
pub record Same (old new : Contents) : Type 0 where
  pub scopes : (i : ℕ) → key_of new.scopes i ≡ key_of old.scopes i
  pub objects : (i : ℕ) → key_of new.objects i ≡ key_of old.objects i
  pub terms : (i : ℕ) → key_of new.terms i ≡ key_of old.terms i
  pub net : (q : ℕ) → held new.net q ≡ held old.net q

pub same_is : (old new : Contents) → Same old new → SameObjects old new
same_is old new same = record {
  objects = λ s n. (
    λ h. (h.0, h.1, sym (same.scopes h.0) ∙ h.2, sym (same.objects h.1) ∙ h.3),
    λ h. (h.0, h.1, same.scopes h.0 ∙ h.2, same.objects h.1 ∙ h.3),
  );
  pairs = λ s n p. (
    λ h. (h.0, h.1, h.2, h.3, sym (same.scopes h.0) ∙ h.4, sym (same.objects h.1) ∙ h.5, sym (same.terms h.2) ∙ h.6, sym (same.net h.3) ∙ h.7),
    λ h. (h.0, h.1, h.2, h.3, same.scopes h.0 ∙ h.4, same.objects h.1 ∙ h.5, same.terms h.2 ∙ h.6, same.net h.3 ∙ h.7),
  );
}

pub same_whole : (old new : Contents) → IsWhole old → Same old new → length new.objects.slots ≤ new.net.objects → length new.terms.slots ≤ new.net.terms → IsWhole new
same_whole old new whole same object_heads term_heads = record {
  tied = record {
    joined = λ q i j is.
        let was = whole.tied.joined q i j (sym (same.net q) ∙ is) in
        record { object = was.object; term = was.term; object_at = same.objects i ∙ was.object_at; term_at = same.terms j ∙ was.term_at; scope = was.scope };
    used_terms = λ j y is unused. whole.tied.used_terms j y (sym (same.terms j) ∙ is) (λ o has. unused o (has.0, same.net has.0 ∙ has.1));
    objects_once = λ i j x one two. whole.tied.objects_once i j x (sym (same.objects i) ∙ one) (sym (same.objects j) ∙ two);
    terms_once = λ i j x one two. whole.tied.terms_once i j x (sym (same.terms i) ∙ one) (sym (same.terms j) ∙ two);
    object_heads = object_heads;
    term_heads = term_heads;
  };
  scopes_once = λ i j x one two. whole.scopes_once i j x (sym (same.scopes i) ∙ one) (sym (same.scopes j) ∙ two);
  scoped = λ i x is. ap is_some (same.scopes x.scope) ∙ whole.scoped i x (sym (same.objects i) ∙ is);
}

-- there is more room, and all else is as it was
pub record IsReserved (old new : Contents) : Type 0 where
  pub whole : IsWhole new
  pub same : SameObjects old new

pub reserved : (old : Contents) (scopes : Keys Scope) (objects : Keys ObjectKey) (terms : Keys TermKey) (net : Net) → IsWhole old
    → ((i : ℕ) → key_of scopes i ≡ key_of old.scopes i) → ((i : ℕ) → key_of objects i ≡ key_of old.objects i) → ((i : ℕ) → key_of terms i ≡ key_of old.terms i) → Widens old.net net
    → length objects.slots ≤ net.objects → length terms.slots ≤ net.terms → IsReserved old (record { scopes = scopes; objects = objects; terms = terms; net = net })
reserved old scopes objects terms net whole one two three wide object_heads term_heads =
    let new : Contents = record { scopes = scopes; objects = objects; terms = terms; net = net } in
    let same : Same old new = record { scopes = one; objects = two; terms = three; net = λ q. ap (λ z. get_or z q None) wide.slots } in
    record { whole = same_whole old new whole same object_heads term_heads; same = same_is old new same }

pub kept_keys : {K : Type 0} (old new : Keys K) → new ≡ old → (i : ℕ) → key_of new i ≡ key_of old i
kept_keys old new e i = ap (λ k. key_of k i) e
