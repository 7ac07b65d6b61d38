-- Keys of names, and marks of items: names, needs and places, each with a key.
use Rattle.std.proofs.Common.{◌≡◌, ℕ, ◌+◌, ◌<◌, ◌≤◌, Bool, true, false, ◌||◌, cond, List, [], ◌∷◌, ◌++◌, length, map, take, drop, get_or, Contains, Bor, ap, refl, sym, subst, ◌∙◌, inl, inr, append_assoc, append-nil}
use Rattle.std.proofs.lemmas.List.{drop_all, drop_more, map_push, take_more, take_all}
use Rattle.std.proofs.lemmas.List.Elements.{Contains-append_cases, Contains-append_left, Contains-append_right, Contains-push_cases}
use Rattle.std.specs.List.{list_any}
use Rattle.std.specs.Set.{is_member}
use Rattle.doc_tree.specs.declared.name.Name.{Name}
use Rattle.version_rules.specs.declared.needs.Need.{Need}
use Rattle.version_rules.specs.declared.versions.Version.{Version}
use Rattle.version_rules.specs.Meets.{Meets}
use Rattle.dep_solver.specs.declared.search.Place.{Place}
use Rattle.dep_solver.specs.declared.straight.Needed.{Needed}
use Rattle.dep_solver.specs.declared.straight.Reached.{Reached}
use Rattle.dep_solver.specs.declared.straight.Taken.{Taken}
use Rattle.dep_solver.specs.Keys.{key_from, key_of, key_step}
use Rattle.dep_solver.specs.Names.{CookbookName, same_name}
use Rattle.dep_solver.specs.Search.{seen}
use Rattle.dep_solver.specs.Straight.{AreNeeded, AreReached, AreTaken, Marks, all_needs}
use Rattle.dep_solver.specs.Walks.{with_name}
use Rattle.dep_solver.proofs.ListLemmas.{here, in_tail, nowhere, there}
use Rattle.dep_solver.proofs.WalkLemmas.{name_from_same}

-- ---- keys

pub key_none : (bytes : List ℕ) (name : CookbookName) → bytes ≡ name → key_from 0 (drop 0 bytes) ≡ key_of name
key_none [] name e = ap (key_from 0) e
key_none (b ∷ bytes) name e = ap (key_from 0) e

pub key_more : (key next all : ℕ) (bytes : List ℕ) (i d : ℕ) → i < length bytes → key_from key (drop i bytes) ≡ all → next ≡ key_step key (get_or bytes i d) → key_from next (drop (i + 1) bytes) ≡ all
key_more key next all bytes i d within before e =
    ap (λ k. key_from k (drop (i + 1) bytes)) e ∙ sym (ap (key_from key) (drop_more bytes i d within)) ∙ before

pub key_all : (key all : ℕ) (bytes : List ℕ) (i : ℕ) → length bytes ≤ i → key_from key (drop i bytes) ≡ all → key ≡ all
key_all key all bytes i past before = sym (ap (key_from key) (drop_all i bytes past)) ∙ before

-- names of different keys are different
pub apart : (one other : CookbookName) (j k : ℕ) → j ≡ key_of one → k ≡ key_of other → (j ≡ k → ⊥) → one ≡ other → ⊥
apart one other j k a b differ e = differ (a ∙ ap key_of e ∙ sym b)

pub not_same : (one other : CookbookName) → (one ≡ other → ⊥) → same_name one other ≡ false
not_same one other apart = by (same_name one other) refl
  where
    by : (b : Bool) → same_name one other ≡ b → same_name one other ≡ false
    by true e = absurd (apart (name_from_same one other e))
    by false e = e

-- ---- marks

module _ {A B : Type 0} (item : A → B) (IsGood : A → Type 0) where
  pub marks_none : (items : List B) (marks : List A) → items ≡ [] → marks ≡ [] → Marks item IsGood items marks
  marks_none items marks e f = record { same = ap (map item) f ∙ sym e; good = λ mark h. absurd (nowhere mark (subst (λ ms. Contains ms mark) f h)) }

  pub marks_more : (items more : List B) (marks new : List A) (x : B) (mark : A) → Marks item IsGood items marks → item mark ≡ x → IsGood mark → more ≡ items ++ x ∷ [] → new ≡ marks ++ mark ∷ [] → Marks item IsGood more new
  marks_more items more marks new x mark before is good e f = record {
    same = ap (map item) f ∙ map_push item marks mark ∙ ap (λ zs. zs ++ item mark ∷ []) before.same ∙ ap (λ z. items ++ z ∷ []) is ∙ sym e;
    good = λ m h. elim (Contains-push_cases marks mark m (subst (λ ms. Contains ms m) f h)) [
      | inl k ↦ before.good m k
      | inr same ↦ subst IsGood same good
    ];
  }

  pub marks_moved : (items more : List B) (marks : List A) → more ≡ items → Marks item IsGood items marks → Marks item IsGood more marks
  marks_moved items more marks e before = subst (λ xs. Marks item IsGood xs marks) (sym e) before

  -- what holds of each item holds of each mark's, and back
  pub marks_from : (P : B → Type 0) (items : List B) (marks : List A) → Marks item IsGood items marks → ((mark : A) → Contains marks mark → P (item mark)) → (x : B) → Contains items x → P x
  marks_from P items marks are each x h =
      let at = found marks x (subst (λ xs. Contains xs x) (sym are.same) h) in
      subst P at.2 (each at.0 at.1)
    where
      found : (marks : List A) (x : B) → Contains (map item marks) x → (mark : A) × Contains marks mark × (item mark ≡ x)
      found [] x h = absurd (nowhere x h)
      found (m ∷ marks) x h = elim (in_tail (item m) (map item marks) x h) [
        | inl e ↦ (m, here m marks, e)
        | inr t ↦ let more = found marks x t in (more.0, there m marks more.0 more.1, more.2)
      ]

  pub marks_to : (P : B → Type 0) (items : List B) (marks : List A) → Marks item IsGood items marks → ((x : B) → Contains items x → P x) → (mark : A) → Contains marks mark → P (item mark)
  marks_to P items marks are each mark h = each (item mark) (subst (λ xs. Contains xs (item mark)) are.same (mapped marks mark h))
    where
      mapped : (marks : List A) (mark : A) → Contains marks mark → Contains (map item marks) (item mark)
      mapped [] mark h = absurd (nowhere mark h)
      mapped (m ∷ marks) mark h = elim (in_tail m marks mark h) [
        | inl e ↦ subst (λ z. Contains (map item (m ∷ marks)) (item z)) e (here (item m) (map item marks))
        | inr t ↦ there (item m) (map item marks) (item mark) (mapped marks mark t)
      ]

-- ---- what all places need

pub all_from : (P : Need → Type 0) (places : List Place) → ((need : Need) → Contains (all_needs places) need → P need) → (place : Place) → Contains places place → (need : Need) → Contains place.release.now.needs need → P need
all_from P [] each place h need n = absurd (nowhere place h)
all_from P (p ∷ places) each place h need n = elim (in_tail p places place h) [
  | inl e ↦ each need (Contains-append_left p.release.now.needs (all_needs places) need (subst (λ (z : Place). Contains z.release.now.needs need) (sym e) n))
  | inr t ↦ all_from P places (λ other m. each other (Contains-append_right p.release.now.needs (all_needs places) other m)) place t need n
]

pub all_to : (P : Need → Type 0) (places : List Place) → ((place : Place) → Contains places place → (need : Need) → Contains place.release.now.needs need → P need) → (need : Need) → Contains (all_needs places) need → P need
all_to P [] each need h = absurd (nowhere need h)
all_to P (p ∷ places) each need h = elim (Contains-append_cases p.release.now.needs (all_needs places) need h) [
  | inl n ↦ each p (here p places) need n
  | inr t ↦ all_to P places (λ place m. each place (there p places place m)) need t
]

pub all_push : (places : List Place) (p : Place) → all_needs (places ++ p ∷ []) ≡ all_needs places ++ p.release.now.needs
all_push [] p = append-nil p.release.now.needs
all_push (q ∷ places) p = ap (λ ns. q.release.now.needs ++ ns) (all_push places p) ∙ sym (append_assoc q.release.now.needs (all_needs places) p.release.now.needs)

-- ---- whether a name is among the marks

any_with : (name : CookbookName) (marks : List Reached) → list_any (λ (mark : Reached). same_name name mark.name.now) marks ≡ is_member same_name (map (λ (mark : Reached). mark.name.now) marks) name
any_with name [] = refl
any_with name (m ∷ marks) = ap (λ b. same_name name m.name.now || b) (any_with name marks)

pub any_reached : (name : CookbookName) (names : List CookbookName) (marks : List Reached) → AreReached names marks → list_any (λ (mark : Reached). same_name name mark.name.now) marks ≡ is_member same_name names name
any_reached name names marks are = any_with name marks ∙ ap (λ ns. is_member same_name ns name) are.same

module _ {A : Type 0} (test : A → Bool) where
  pub any_on : (xs : List A) (x : A) → Contains xs x → test x ≡ true → list_any test xs ≡ true
  any_on [] x h on = absurd (nowhere x h)
  any_on (y ∷ xs) x h on = elim (in_tail y xs x h) [
    | inl e ↦ ap (λ b. b || list_any test xs) (ap test e ∙ on)
    | inr t ↦ ap (λ b. test y || b) (any_on xs x t on) ∙ either (test y)
  ]
    where
      either : (b : Bool) → (b || true) ≡ true
      either true = refl
      either false = refl

  pub any_off : (xs : List A) → ((x : A) → Contains xs x → test x ≡ false) → list_any test xs ≡ false
  any_off [] each = refl
  any_off (y ∷ xs) each = ap (λ b. b || list_any test xs) (each y (here y xs)) ∙ any_off xs (λ x h. each x (there y xs x h))

-- the names with this one, where it is new or there
pub name_new : (names : List CookbookName) (name : CookbookName) → is_member same_name names name ≡ false → with_name names name ≡ names ++ name ∷ []
name_new names name off = ap (λ b. cond b names (names ++ name ∷ [])) off

pub name_known : (names : List CookbookName) (name : CookbookName) → is_member same_name names name ≡ true → with_name names name ≡ names
name_known names name on = ap (λ b. cond b names (names ++ name ∷ [])) on

-- ---- needs, one more and all

pub needs_none : (before : List Need) (needs : List Need) (marks : List Needed) → AreNeeded before marks → AreNeeded (before ++ take 0 needs) marks
needs_none before needs marks are = subst (λ ns. AreNeeded (before ++ ns) marks) (sym (none needs)) (subst (λ ns. AreNeeded ns marks) (sym (append-nil before)) are)
  where
    none : (needs : List Need) → take 0 needs ≡ []
    none [] = refl
    none (n ∷ needs) = refl

pub needs_more : (before needs : List Need) (i : ℕ) (need : Need) (marks new : List Needed) (mark : Needed) → i < length needs → need ≡ get_or needs i need → mark.need.now ≡ need → mark.key ≡ key_of mark.need.now.name → new ≡ marks ++ mark ∷ []
    → AreNeeded (before ++ take i needs) marks → AreNeeded (before ++ take (i + 1) needs) new
needs_more before needs i need marks new mark within is own key e are =
    marks_more (λ (mark : Needed). mark.need.now) (λ (mark : Needed). mark.key ≡ key_of mark.need.now.name) (before ++ take i needs) (before ++ take (i + 1) needs) marks new need mark are own key
    (ap (λ ns. before ++ ns) (take_more needs i need within ∙ ap (λ n. take i needs ++ n ∷ []) (sym is)) ∙ sym (append_assoc before (take i needs) (need ∷ [])))
    e

pub needs_all : (before needs : List Need) (i : ℕ) (marks : List Needed) → length needs ≤ i → AreNeeded (before ++ take i needs) marks → AreNeeded (before ++ needs) marks
needs_all before needs i marks past are = subst (λ ns. AreNeeded (before ++ ns) marks) (take_all i needs past) are

-- ---- what fits the needs and the places, by their marks

module _ (name : CookbookName) (version : Version) (places : List Place) (needed : List Needed) (are : AreNeeded (all_needs places) needed) where
  pub needed_from : ((mark : Needed) → Contains needed mark → mark.need.now.name ≡ name → Meets version mark.need.now.constraint)
      → (place : Place) → Contains places place → (need : Need) → Contains place.release.now.needs need → need.name ≡ name → Meets version need.constraint
  needed_from each =
      all_from (λ (need : Need). need.name ≡ name → Meets version need.constraint) places
      (marks_from (λ (mark : Needed). mark.need.now) (λ (mark : Needed). mark.key ≡ key_of mark.need.now.name) (λ (need : Need). need.name ≡ name → Meets version need.constraint) (all_needs places) needed are each)

  pub needed_to : ((place : Place) → Contains places place → (need : Need) → Contains place.release.now.needs need → need.name ≡ name → Meets version need.constraint)
      → (mark : Needed) → Contains needed mark → mark.need.now.name ≡ name → Meets version mark.need.now.constraint
  needed_to each =
      marks_to (λ (mark : Needed). mark.need.now) (λ (mark : Needed). mark.key ≡ key_of mark.need.now.name) (λ (need : Need). need.name ≡ name → Meets version need.constraint) (all_needs places) needed are
      (all_to (λ (need : Need). need.name ≡ name → Meets version need.constraint) places each)

module _ (places : List Place) (taken : List Taken) (are : AreTaken places taken) (needs seen_needs : List Need) (same : seen_needs ≡ needs) (seen_taken : List Taken) (all : seen_taken ≡ taken) where
  pub taken_from : ((need : Need) → Contains seen_needs need → (mark : Taken) → Contains seen_taken mark → mark.place.name.now ≡ need.name → Meets mark.place.release.now.version need.constraint)
      → (need : Need) → Contains needs need → (place : Place) → Contains places place → place.name.now ≡ need.name → Meets place.release.now.version need.constraint
  taken_from each need h =
      marks_from (λ (mark : Taken). mark.place) (λ (mark : Taken). mark.key ≡ key_of mark.place.name.now) (λ (place : Place). place.name.now ≡ need.name → Meets place.release.now.version need.constraint) places taken are
      (λ mark m. each need (subst (λ ns. Contains ns need) (sym same) h) mark (subst (λ ms. Contains ms mark) (sym all) m))

  pub taken_to : ((need : Need) → Contains needs need → (place : Place) → Contains places place → place.name.now ≡ need.name → Meets place.release.now.version need.constraint)
      → (need : Need) → Contains seen_needs need → (mark : Taken) → Contains seen_taken mark → mark.place.name.now ≡ need.name → Meets mark.place.release.now.version need.constraint
  taken_to each need h mark m =
      marks_to (λ (mark : Taken). mark.place) (λ (mark : Taken). mark.key ≡ key_of mark.place.name.now) (λ (place : Place). place.name.now ≡ need.name → Meets place.release.now.version need.constraint) places taken are
      (each need (subst (λ ns. Contains ns need) same h)) mark (subst (λ ms. Contains ms mark) all m)

-- ---- names, one more and all

pub names_none : (names : List (Bor Name)) (marks : List Reached) → marks ≡ [] → AreReached (seen (take 0 names)) marks
names_none names marks e = marks_none (λ (mark : Reached). mark.name.now) (λ (mark : Reached). mark.key ≡ key_of mark.name.now) (seen (take 0 names)) marks (none names) e
  where
    none : (names : List (Bor Name)) → seen (take 0 names) ≡ []
    none [] = refl
    none (n ∷ names) = refl

pub names_more : (names : List (Bor Name)) (i : ℕ) (name : Bor Name) (marks new : List Reached) (mark : Reached) → i < length names → name ≡ get_or names i name → mark.name.now ≡ name.now → mark.key ≡ key_of mark.name.now → new ≡ marks ++ mark ∷ []
    → AreReached (seen (take i names)) marks → AreReached (seen (take (i + 1) names)) new
names_more names i name marks new mark within is own key e are =
    marks_more (λ (mark : Reached). mark.name.now) (λ (mark : Reached). mark.key ≡ key_of mark.name.now) (seen (take i names)) (seen (take (i + 1) names)) marks new name.now mark are own key
    (ap seen (take_more names i name within ∙ ap (λ (n : Bor Name). take i names ++ n ∷ []) (sym is)) ∙ map_push (λ (n : Bor Name). n.now) (take i names) name)
    e

pub names_all : (names : List (Bor Name)) (i : ℕ) (marks : List Reached) → length names ≤ i → AreReached (seen (take i names)) marks → AreReached (seen names) marks
names_all names i marks past are = subst (λ (ns : List (Bor Name)). AreReached (seen ns) marks) (take_all i names past) are
