-- Walks: names only grow at the end, where each comes from, and that a walk has each name once.
use Rattle.std.proofs.Common.{◌≡◌, ◌⊎◌, true, false, cond, List, [], ◌∷◌, ◌++◌, length, map, slice_get, Some, None, Contains, ap, refl, sym, subst, ◌∙◌, inl, inr, append_assoc, append-nil}
use Rattle.std.proofs.lemmas.List.{map-append, length-map}
use Rattle.std.proofs.lemmas.List.Elements.{Contains-append_left, Contains-push, Contains-push_cases}
use Rattle.std.proofs.lemmas.Map.Keys.{IsDistinct-push}
use Rattle.std.proofs.lemmas.Map.Views.{Contains-from_any}
use Rattle.std.proofs.lemmas.Slice.Eq.{bytes_eq-Decides}
use Rattle.std.specs.Cmp.Lexicographic.{nat_list_eq_equiv}
use Rattle.std.specs.List.{AllByRecursion, IsDistinct}
use Rattle.std.specs.Set.{is_member}
use Rattle.version_rules.specs.declared.needs.Need.{Need}
use Rattle.dep_solver.specs.declared.roots.Pin.{Pin}
use Rattle.dep_solver.specs.declared.universe.Universe.{Universe}
use Rattle.dep_solver.specs.Names.{CookbookName, same_name}
use Rattle.dep_solver.specs.Universes.{needs_in}
use Rattle.dep_solver.specs.Walks.{Follow, next, with_name, with_needs, with_places}
use Rattle.dep_solver.proofs.ListLemmas.{here, in_tail, nothing_behind, nowhere, slice_get_end, there}

-- ---- names

pub name_from_same : (x y : CookbookName) → same_name x y ≡ true → x ≡ y
name_from_same x y e = (bytes_eq-Decides x y).0 e

pub same_from_name : (x y : CookbookName) → x ≡ y → same_name x y ≡ true
same_from_name x y e = (bytes_eq-Decides x y).1 e

-- the names with one more, in which case it is new, or without
pub with_name_cases : (names : List CookbookName) (name : CookbookName)
    → ((is_member same_name names name ≡ true) × (with_name names name ≡ names)) ⊎ ((is_member same_name names name ≡ false) × (with_name names name ≡ names ++ name ∷ []))
with_name_cases names name =
    elim (is_member same_name names name) as (λ b. ((b ≡ true) × (cond b names (names ++ name ∷ []) ≡ names)) ⊎ ((b ≡ false) × (cond b names (names ++ name ∷ []) ≡ names ++ name ∷ []))) [
      | true ↦ inl (refl, refl)
      | false ↦ inr (refl, refl)
    ]

-- the names stand in front of the greater list
pub record Grows (names more : List CookbookName) : Type 0 where
  pub rest : List CookbookName
  pub behind : more ≡ names ++ rest

pub grows_none : (names : List CookbookName) → Grows names names
grows_none names = record { rest = []; behind = sym (append-nil names) }

pub grows_then : (a b c : List CookbookName) → Grows a b → Grows b c → Grows a c
grows_then a b c g h = record { rest = g.rest ++ h.rest; behind = h.behind ∙ ap (λ z. z ++ h.rest) g.behind ∙ append_assoc a g.rest h.rest }

pub with_name-grows : (names : List CookbookName) (name : CookbookName) → Grows names (with_name names name)
with_name-grows names name = elim (with_name_cases names name) [
  | inl h ↦ record { rest = []; behind = h.1 ∙ sym (append-nil names) }
  | inr h ↦ record { rest = name ∷ []; behind = h.1 }
]

pub with_needs-grows : (names : List CookbookName) (needs : List Need) → Grows names (with_needs names needs)
with_needs-grows names [] = grows_none names
with_needs-grows names (need ∷ needs) = grows_then names (with_name names need.name) (with_needs (with_name names need.name) needs) (with_name-grows names need.name) (with_needs-grows (with_name names need.name) needs)

pub with_places-grows : (universe : Universe) (names : List CookbookName) (places : List Pin) → Grows names (with_places universe names places)
with_places-grows universe names [] = grows_none names
with_places-grows universe names (p ∷ places) =
    let step = with_needs names (needs_in universe p.name p.version) in
    grows_then names step (with_places universe step places) (with_needs-grows names (needs_in universe p.name p.version)) (with_places-grows universe step places)

pub kept : (names more : List CookbookName) (x : CookbookName) → Grows names more → Contains names x → Contains more x
kept names more x g h = subst (λ zs. Contains zs x) (sym g.behind) (Contains-append_left names g.rest x h)

-- ---- what each step has

pub with_name-has : (names : List CookbookName) (name : CookbookName) → Contains (with_name names name) name
with_name-has names name = elim (with_name_cases names name) [
  | inl h ↦ subst (λ zs. Contains zs name) (sym h.1) (Contains-from_any name_from_same name names h.0)
  | inr h ↦ subst (λ zs. Contains zs name) (sym h.1) (Contains-push names name)
]

pub with_needs-has : (names : List CookbookName) (needs : List Need) (need : Need) → Contains needs need → Contains (with_needs names needs) need.name
with_needs-has names [] need h = absurd (nowhere need h)
with_needs-has names (n ∷ needs) need h = elim (in_tail n needs need h) [
  | inl e ↦ kept (with_name names n.name) (with_needs (with_name names n.name) needs) need.name (with_needs-grows (with_name names n.name) needs)
      (subst (λ (z : Need). Contains (with_name names n.name) z.name) e (with_name-has names n.name))
  | inr t ↦ with_needs-has (with_name names n.name) needs need t
]

pub with_places-has : (universe : Universe) (names : List CookbookName) (places : List Pin) (place : Pin) (need : Need)
    → Contains places place → Contains (needs_in universe place.name place.version) need → Contains (with_places universe names places) need.name
with_places-has universe names [] place need h n = absurd (nowhere place h)
with_places-has universe names (p ∷ places) place need h n =
    let step = with_needs names (needs_in universe p.name p.version) in
    elim (in_tail p places place h) [
      | inl e ↦ kept step (with_places universe step places) need.name (with_places-grows universe step places)
          (with_needs-has names (needs_in universe p.name p.version) need (subst (λ (z : Pin). Contains (needs_in universe z.name z.version) need) (sym e) n))
      | inr t ↦ with_places-has universe step places place need t n
    ]

-- ---- where each name comes from

pub in_name : (names : List CookbookName) (name x : CookbookName) → Contains (with_name names name) x → Contains names x ⊎ (name ≡ x)
in_name names name x h = elim (with_name_cases names name) [
  | inl w ↦ inl (subst (λ zs. Contains zs x) w.1 h)
  | inr w ↦ Contains-push_cases names name x (subst (λ zs. Contains zs x) w.1 h)
]

-- a name that one of the needs has
pub record IsNeeded (needs : List Need) (name : CookbookName) : Type 0 where
  pub need : Need
  pub among : Contains needs need
  pub named : need.name ≡ name

pub in_needs : (names : List CookbookName) (needs : List Need) (x : CookbookName) → Contains (with_needs names needs) x → Contains names x ⊎ IsNeeded needs x
in_needs names [] x h = inl h
in_needs names (n ∷ needs) x h = elim (in_needs (with_name names n.name) needs x h) [
  | inl w ↦ elim (in_name names n.name x w) [
    | inl k ↦ inl k
    | inr e ↦ inr (record { need = n; among = here n needs; named = e })
  ]
  | inr w ↦ inr (record { need = w.need; among = there n needs w.need w.among; named = w.named })
]

-- a name that a version of one of the places needs
pub record IsNeededBy (universe : Universe) (places : List Pin) (name : CookbookName) : Type 0 where
  pub place : Pin
  pub stands : Contains places place
  pub needed : IsNeeded (needs_in universe place.name place.version) name

pub in_places : (universe : Universe) (names : List CookbookName) (places : List Pin) (x : CookbookName) → Contains (with_places universe names places) x → Contains names x ⊎ IsNeededBy universe places x
in_places universe names [] x h = inl h
in_places universe names (p ∷ places) x h = elim (in_places universe (with_needs names (needs_in universe p.name p.version)) places x h) [
  | inl w ↦ elim (in_needs names (needs_in universe p.name p.version) x w) [
    | inl k ↦ inl k
    | inr n ↦ inr (record { place = p; stands = here p places; needed = n })
  ]
  | inr w ↦ inr (record { place = w.place; stands = there p places w.place w.stands; needed = w.needed })
]

-- ---- each name once

pub with_name-distinct : (names : List CookbookName) (name : CookbookName) → IsDistinct same_name names → IsDistinct same_name (with_name names name)
with_name-distinct names name d = elim (with_name_cases names name) [
  | inl h ↦ subst (λ zs. IsDistinct same_name zs) (sym h.1) d
  | inr h ↦ subst (λ zs. IsDistinct same_name zs) (sym h.1) (IsDistinct-push nat_list_eq_equiv names name d h.0)
]

pub with_needs-distinct : (names : List CookbookName) (needs : List Need) → IsDistinct same_name names → IsDistinct same_name (with_needs names needs)
with_needs-distinct names [] d = d
with_needs-distinct names (n ∷ needs) d = with_needs-distinct (with_name names n.name) needs (with_name-distinct names n.name d)

pub with_places-distinct : (universe : Universe) (names : List CookbookName) (places : List Pin) → IsDistinct same_name names → IsDistinct same_name (with_places universe names places)
with_places-distinct universe names [] d = d
with_places-distinct universe names (p ∷ places) d = with_places-distinct universe (with_needs names (needs_in universe p.name p.version)) places (with_needs-distinct names (needs_in universe p.name p.version) d)

distinct_front : (xs ys : List CookbookName) → IsDistinct same_name (xs ++ ys) → IsDistinct same_name xs
unfolding IsDistinct
distinct_front [] ys d = tt
distinct_front (x ∷ xs) ys d = (front (λ y. same_name x y ≡ false) xs ys d.0, distinct_front xs ys d.1)
  where
    front : (P : CookbookName → Type 0) (xs ys : List CookbookName) → AllByRecursion P (xs ++ ys) → AllByRecursion P xs
    front P [] ys h = tt
    front P (x ∷ xs) ys h = (h.0, front P xs ys h.1)

-- ---- places one after the other

pub with_places-append : (universe : Universe) (names : List CookbookName) (xs ys : List Pin) → with_places universe names (xs ++ ys) ≡ with_places universe (with_places universe names xs) ys
with_places-append universe names [] ys = refl
with_places-append universe names (x ∷ xs) ys = with_places-append universe (with_needs names (needs_in universe x.name x.version)) xs ys

pub Follow-front : (universe : Universe) (roots : List CookbookName) (before xs ys : List Pin) → Follow universe roots before (xs ++ ys) → Follow universe roots before xs
Follow-front universe roots before [] ys f = tt
Follow-front universe roots before (x ∷ xs) ys f = (f.0, Follow-front universe roots (before ++ x ∷ []) xs ys f.1)

pub Follow-rest : (universe : Universe) (roots : List CookbookName) (before xs ys : List Pin) → Follow universe roots before (xs ++ ys) → Follow universe roots (before ++ xs) ys
Follow-rest universe roots before [] ys f = subst (λ zs. Follow universe roots zs ys) (sym (append-nil before)) f
Follow-rest universe roots before (x ∷ xs) ys f =
    subst (λ zs. Follow universe roots zs ys) (append_assoc before (x ∷ []) xs) (Follow-rest universe roots (before ++ x ∷ []) xs ys f.1)

pub Follow-push : (universe : Universe) (roots : List CookbookName) (before xs : List Pin) (p : Pin) → Follow universe roots before xs → next universe roots (before ++ xs) ≡ Some p.name → Follow universe roots before (xs ++ p ∷ [])
Follow-push universe roots before [] p f e = (subst (λ zs. next universe roots zs ≡ Some p.name) (append-nil before) e, tt)
Follow-push universe roots before (x ∷ xs) p f e =
    (f.0, Follow-push universe roots (before ++ x ∷ []) xs p f.1 (subst (λ zs. next universe roots zs ≡ Some p.name) (sym (append_assoc before (x ∷ []) xs)) e))

-- the name at a place is the one that is next after those before it
pub next_at : (universe : Universe) (roots : List CookbookName) (front : List Pin) (p : Pin) (rest : List Pin) → Follow universe roots [] (front ++ p ∷ rest) → next universe roots front ≡ Some p.name
next_at universe roots front p rest f = (Follow-rest universe roots [] front (p ∷ rest) f).0

-- the places' names stand first among the names
names_first : (universe : Universe) (roots : List CookbookName) (before xs : List Pin)
    → Grows (map (λ (p : Pin). p.name) before) (with_places universe roots before) → Follow universe roots before xs
    → Grows (map (λ (p : Pin). p.name) (before ++ xs)) (with_places universe roots (before ++ xs))
names_first universe roots before [] g f = subst (λ (zs : List Pin). Grows (map (λ (p : Pin). p.name) zs) (with_places universe roots zs)) (sym (append-nil before)) g
names_first universe roots before (x ∷ xs) g f =
    let names = map (λ (p : Pin). p.name) before in
    let at : slice_get (names ++ g.rest) (length names) ≡ Some x.name =
    ap (λ n. slice_get (names ++ g.rest) n) (length-map before (λ (p : Pin). p.name)) ∙ ap (λ zs. slice_get zs (length before)) (sym g.behind) ∙ f.0 in
    let first = slice_get_end names g.rest x.name at in
    let more = with_places-grows universe (with_places universe roots before) (x ∷ []) in
    let all : with_places universe roots (before ++ x ∷ []) ≡ map (λ (p : Pin). p.name) (before ++ x ∷ []) ++ (first.0 ++ more.rest) =
    with_places-append universe roots before (x ∷ [])
    ∙ more.behind
    ∙ ap (λ zs. zs ++ more.rest) (g.behind ∙ ap (λ zs. names ++ zs) first.1)
    ∙ append_assoc names (x.name ∷ first.0) more.rest
    ∙ sym (append_assoc names (x.name ∷ []) (first.0 ++ more.rest))
    ∙ ap (λ zs. zs ++ (first.0 ++ more.rest)) (sym (map-append (λ (p : Pin). p.name) before (x ∷ []))) in
    subst (λ (zs : List Pin). Grows (map (λ (p : Pin). p.name) zs) (with_places universe roots zs)) (append_assoc before (x ∷ []) xs)
    (names_first universe roots (before ++ x ∷ []) xs (record { rest = first.0 ++ more.rest; behind = all }) f.1)

pub names_stand_first : (universe : Universe) (roots : List CookbookName) (places : List Pin) → Follow universe roots [] places → Grows (map (λ (p : Pin). p.name) places) (with_places universe roots places)
names_stand_first universe roots places f = names_first universe roots [] places (record { rest = roots; behind = refl }) f

pub names_distinct : (universe : Universe) (roots : List CookbookName) (places : List Pin) → IsDistinct same_name roots → Follow universe roots [] places → IsDistinct same_name (map (λ (p : Pin). p.name) places)
names_distinct universe roots places d f =
    let g = names_stand_first universe roots places f in
    distinct_front (map (λ (p : Pin). p.name) places) g.rest (subst (λ zs. IsDistinct same_name zs) g.behind (with_places-distinct universe roots places d))

-- where a walk ends, its names are all that is reached
pub names_all : (universe : Universe) (roots : List CookbookName) (places : List Pin) → Follow universe roots [] places → next universe roots places ≡ None → with_places universe roots places ≡ map (λ (p : Pin). p.name) places
names_all universe roots places f e =
    let g = names_stand_first universe roots places f in
    let names = map (λ (p : Pin). p.name) places in
    let past : slice_get (names ++ g.rest) (length names) ≡ None =
    ap (λ n. slice_get (names ++ g.rest) n) (length-map places (λ (p : Pin). p.name)) ∙ ap (λ zs. slice_get zs (length places)) (sym g.behind) ∙ e in
    g.behind ∙ ap (λ zs. names ++ zs) (nothing_behind names g.rest past) ∙ append-nil names
