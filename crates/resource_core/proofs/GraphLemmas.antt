-- Searches through places, and depths that fall.
use Rattle.std.proofs.Common.{◌≡◌, ℕ, zero, suc, ◌+◌, ◌-◌, ◌<◌, ◌≤◌, ◌==◌, ◌⊎◌, inl, inr, Bool, true, false, cond, ◌||◌, IsTrue, nat_lt, List, [], ◌∷◌, ◌++◌, length, take, get_or, count_by, refl, sym, ap, subst, ◌∙◌, arith}
use borrow.Author.Tests.{ltb-true}
use Rattle.std.specs.List.{list_all, list_any}
use Rattle.std.proofs.lemmas.Bool.{and_parts, cases_Bool, cases_lt, eqb-true, false≢true}
use Rattle.std.proofs.lemmas.List.{get_or_append_left, get_or_push, length_push}
use Rattle.std.proofs.lemmas.List.Folds.{list_any-append}
use Rattle.std.proofs.lemmas.List.Sums.{sum_by-cons}
use Rattle.resource_core.specs.Graph.{Falls, IsOnCycle, Leads, at_once, onward, OnCycles, none, on, off, leads_at_once, are_within}
use Rattle.resource_core.specs.Searching.{AreSearched, GoesOn, IsReach, Searches, is_among, is_set}
use Rattle.resource_core.specs.Settling.{kept}

-- along a way depths fall
deeper : (nexts : List (List ℕ)) (depths : List ℕ) → Falls nexts depths → {from to : ℕ} → Leads nexts from to → get_or depths to 0 < get_or depths from 0
deeper nexts depths falls (at_once {from} {to} step) = falls from to step
deeper nexts depths falls (onward {from} {between} {to} step rest) =
    let first = falls from between step in
    let later = deeper nexts depths falls rest in
    omega arith

-- so nothing leads back to itself
pub no_cycle : (nexts : List (List ℕ)) (depths : List ℕ) → Falls nexts depths → (place : ℕ) → IsOnCycle nexts place → ⊥
no_cycle nexts depths falls place way = let less = deeper nexts depths falls way in omega arith

module _ (nexts : List (List ℕ)) where
  -- one step more
  further : {from between : ℕ} (to : ℕ) → Leads nexts from between → leads_at_once nexts between to ≡ true → Leads nexts from to
  further to (at_once first) last = onward first (at_once last)
  further to (onward first rest) last = onward first (further to rest last)

  -- one way after another
  joined : {from between to : ℕ} → Leads nexts from between → Leads nexts between to → Leads nexts from to
  joined (at_once first) rest = onward first rest
  joined (onward first more) rest = onward first (joined more rest)

  or_parts : (a b : Bool) → (a || b) ≡ true → (a ≡ true) ⊎ (b ≡ true)
  or_parts true b h = inl refl
  or_parts false b h = inr h

  or_left : (a b : Bool) → a ≡ true → (a || b) ≡ true
  or_left a b h = rw h refl

  or_right : (a b : Bool) → b ≡ true → (a || b) ≡ true
  or_right true b h = refl
  or_right false b h = h

  eq_same : (a b : ℕ) → (a == b) ≡ true → a ≡ b
  eq_same a b h = eqb-true a b h

  -- what is on a list is among the others, or is the last
  among_last : (left : List ℕ) (place q : ℕ) → is_among (left ++ place ∷ []) q ≡ true → (is_among left q ≡ true) ⊎ (place ≡ q)
  among_last left place q h = elim (or_parts (is_among left q) (is_among (place ∷ []) q) (sym (list_any-append (λ p. p == q) left (place ∷ [])) ∙ h)) [
    | inl before ↦ inl before
    | inr last ↦ elim (or_parts (place == q) false last) [ inl same ↦ inr (eq_same place q same) | inr never ↦ absurd (false≢true never) ]
  ]

  among_before : (left : List ℕ) (place q : ℕ) → is_among left q ≡ true → is_among (left ++ place ∷ []) q ≡ true
  among_before left place q h = list_any-append (λ p. p == q) left (place ∷ []) ∙ or_left (is_among left q) (is_among (place ∷ []) q) h

  same_test : (n : ℕ) → (n == n) ≡ true
  same_test n = grind arith

  last_among : (left : List ℕ) (place : ℕ) → is_among (left ++ place ∷ []) place ≡ true
  last_among left place = list_any-append (λ p. p == place) left (place ∷ []) ∙ or_right (is_among left place) (is_among (place ∷ []) place) (or_left (place == place) false (same_test place))

  module _ (start : ℕ) where
    -- a turn of the search
    pub searches_on : (reached : List Bool) (todo left : List ℕ) (place : ℕ) (reached' : List Bool) (todo' : List ℕ) → Searches nexts start reached todo → todo ≡ left ++ place ∷ []
        → GoesOn (get_or nexts place []) reached left reached' todo' → Searches nexts start reached' todo'
    searches_on reached todo left place reached' todo' s taken g = record {
      flags_each = g.same_length ∙ s.flags_each;
      sound = λ t h. elim (g.no_other t h) [ inl old ↦ s.sound t old | inr next ↦ from_place t next ];
      known = λ t h. elim (g.none_else t h) [
        | inl before ↦ elim (s.known t (ap (λ ps. is_among ps t) taken ∙ among_before left place t before)) [ inl first ↦ inl first | inr old ↦ inr (g.kept t old) ]
        | inr next ↦ inr (g.set_now t next)
      ];
      closed = λ q h. elim h [
        | inl first ↦ still q (s.closed q (inl first))
        | inr now ↦ elim (g.put q now) [ inl old ↦ still q (s.closed q (inr old)) | inr listed ↦ inl listed ]
      ];
    }
      where
        from_place : (t : ℕ) → is_among (get_or nexts place []) t ≡ true → Leads nexts start t
        from_place t next = elim (s.known place (ap (λ ps. is_among ps place) taken ∙ last_among left place)) [
          | inl first ↦ at_once (subst (λ p. leads_at_once nexts p t ≡ true) first next)
          | inr old ↦ further t (s.sound place old) next
        ]

        still : (q : ℕ) → (is_among todo q ≡ true) ⊎ ((t : ℕ) → leads_at_once nexts q t ≡ true → is_set reached t ≡ true)
            → (is_among todo' q ≡ true) ⊎ ((t : ℕ) → leads_at_once nexts q t ≡ true → is_set reached' t ≡ true)
        still q (inr all) = inr (λ t step. g.kept t (all t step))
        still q (inl listed) = elim (among_last left place q (sym (ap (λ ps. is_among ps q) taken) ∙ listed)) [
          | inl before ↦ inl (g.listed q before)
          | inr same ↦ inr (λ t step. g.set_now t (subst (λ p. leads_at_once nexts p t ≡ true) (sym same) step))
        ]

    -- once nothing is left, what is set is closed
    closed_along : (reached : List Bool) → Searches nexts start reached [] → (q t : ℕ) → (q ≡ start) ⊎ (is_set reached q ≡ true) → Leads nexts q t → is_set reached t ≡ true
    closed_along reached s q t here (at_once step) = elim (s.closed q here) [ inl never ↦ absurd (false≢true never) | inr all ↦ all t step ]
    closed_along reached s q t here (onward {between = between} step rest) = elim (s.closed q here) [
      | inl never ↦ absurd (false≢true never)
      | inr all ↦ closed_along reached s between t (inr (all between step)) rest
    ]

    pub search_done : (reached : List Bool) (todo : List ℕ) → todo ≡ [] → Searches nexts start reached todo → IsReach nexts start reached
    search_done reached todo empty s =
        let done : Searches nexts start reached [] = subst (λ ps. Searches nexts start reached ps) empty s in
        record { flags_each = s.flags_each; sound = s.sound; complete = λ t way. closed_along reached done start t (inl refl) way }

  -- a flag that is set is one of the flags
  set_within : (flags : List Bool) (p : ℕ) → is_set flags p ≡ true → p < length flags
  set_within [] p h = absurd (false≢true h)
  set_within (b ∷ flags) zero h = omega arith
  set_within (b ∷ flags) (suc p) h = let less = set_within flags p h in omega arith

  -- a place that leads on is one of the places
  leads_within : (from to : ℕ) → leads_at_once nexts from to ≡ true → from < length nexts
  leads_within from to = within nexts from
    where
      within : (all : List (List ℕ)) (from : ℕ) → list_any (λ next. next == to) (get_or all from []) ≡ true → from < length all
      within [] from h = absurd (false≢true h)
      within (places ∷ all) zero h = omega arith
      within (places ∷ all) (suc from) h = let less = within all from h in omega arith

-- it leads to one of them
leads_to_within : (n : ℕ) (nexts : List (List ℕ)) → IsTrue (are_within n nexts) → (from to : ℕ) → leads_at_once nexts from to ≡ true → to < n
leads_to_within n [] w from to h = absurd (false≢true h)
leads_to_within n (places ∷ nexts) w zero to h = among places (and_parts (list_all (λ next. nat_lt next n) places) (are_within n nexts) w).0 h
  where
    among : (places : List ℕ) → list_all (λ next. nat_lt next n) places ≡ true → list_any (λ next. next == to) places ≡ true → to < n
    among [] all h = absurd (false≢true h)
    among (p ∷ places) all h = here places (and_parts (nat_lt p n) (list_all (λ next. nat_lt next n) places) all).0 (λ g. among places (and_parts (nat_lt p n) (list_all (λ next. nat_lt next n) places) all).1 g) h
      where
        here : (rest : List ℕ) → nat_lt p n ≡ true → (list_any (λ next. next == to) rest ≡ true → to < n) → ((p == to) || list_any (λ next. next == to) rest) ≡ true → to < n
        here rest less later h = elim (cases_Bool (p == to)) [
          | inl same ↦ let e = eqb-true p to same in let l = ltb-true p n less in omega arith
          | inr other ↦ later (rw other at h)
        ]
leads_to_within n (places ∷ nexts) w (suc from) to h = leads_to_within n nexts (and_parts (list_all (λ next. nat_lt next n) places) (are_within n nexts) w).1 from to h

counted : (b : Bool) (flags : List Bool) → count_by (λ b. b) (b ∷ flags) ≡ cond b 1 0 + count_by (λ b. b) flags
counted b flags = sum_by-cons (λ (x : Bool). cond x 1 0) b flags

-- fewer flags, with one less
fewer : (xs ys : List Bool) → length xs ≡ length ys → ((t : ℕ) → is_set xs t ≡ true → is_set ys t ≡ true) → count_by (λ b. b) xs ≤ count_by (λ b. b) ys
fewer [] ys same all = omega arith
fewer (x ∷ xs) [] same all = absurd (omega arith)
fewer (x ∷ xs) (y ∷ ys) same all = heads x y (fewer xs ys (omega arith) (λ t h. all (suc t) h)) (all 0)
  where
    heads : (x y : Bool) → count_by (λ b. b) xs ≤ count_by (λ b. b) ys → (x ≡ true → y ≡ true) → count_by (λ b. b) (x ∷ xs) ≤ count_by (λ b. b) (y ∷ ys)
    heads true true rest h = omega (arith, counted true xs, counted true ys)
    heads true false rest h = absurd (false≢true (h refl))
    heads false true rest h = omega (arith, counted false xs, counted true ys)
    heads false false rest h = omega (arith, counted false xs, counted false ys)

one_fewer : (xs ys : List Bool) (p : ℕ) → length xs ≡ length ys → ((t : ℕ) → is_set xs t ≡ true → is_set ys t ≡ true) → is_set xs p ≡ false → is_set ys p ≡ true → count_by (λ b. b) xs < count_by (λ b. b) ys
one_fewer xs [] p same all low high = absurd (false≢true high)
one_fewer [] (y ∷ ys) p same all low high = absurd (omega arith)
one_fewer (x ∷ xs) (y ∷ ys) zero same all low high = let rest = fewer xs ys (omega arith) (λ t h. all (suc t) h) in rw (low, high) (omega (arith, counted false xs, counted true ys))
one_fewer (x ∷ xs) (y ∷ ys) (suc p) same all low high = heads x y (one_fewer xs ys p (omega arith) (λ t h. all (suc t) h) low high) (all 0)
  where
    heads : (x y : Bool) → count_by (λ b. b) xs < count_by (λ b. b) ys → (x ≡ true → y ≡ true) → count_by (λ b. b) (x ∷ xs) < count_by (λ b. b) (y ∷ ys)
    heads true true rest h = omega (arith, counted true xs, counted true ys)
    heads true false rest h = absurd (false≢true (h refl))
    heads false true rest h = omega (arith, counted false xs, counted true ys)
    heads false false rest h = omega (arith, counted false xs, counted false ys)

-- no flag is set
none_set : (flags : List Bool) → list_any (λ b. b) flags ≡ false → (p : ℕ) → is_set flags p ≡ false
none_set [] h p = refl
none_set (true ∷ flags) h p = absurd (false≢true (sym h))
none_set (false ∷ flags) h zero = refl
none_set (false ∷ flags) h (suc p) = none_set flags h p

module _ (nexts : List (List ℕ)) where
  -- nothing is searched
  pub searched_none : (flags : List Bool) (counts : List ℕ) → AreSearched nexts 0 flags counts
  searched_none flags counts p less = absurd (omega arith)

  -- one more place is searched
  pub searched_more : (place : ℕ) (flags flags' : List Bool) (counts counts' : List ℕ) (reached : List Bool) (flag : Bool) (count : ℕ) → length flags ≡ place → length counts ≡ place
      → flags' ≡ flags ++ flag ∷ [] → counts' ≡ counts ++ count ∷ [] → IsReach nexts place reached → flag ≡ is_set reached place → count ≡ count_by (λ b. b) reached
      → AreSearched nexts place flags counts → AreSearched nexts (place + 1) flags' counts'
  searched_more place flags flags' counts counts' reached flag count fl cl fp cp reach is counted before p less = by_place (cases_lt p place)
    where
      by_place : (p < place) ⊎ (place ≤ p) → (reached : List Bool) × IsReach nexts p reached × (is_set flags' p ≡ is_set reached p) × (get_or counts' p 0 ≡ count_by (λ b. b) reached)
      by_place (inl earlier) =
          let old = before p earlier in (
            old.0,
            old.1,
            ap (λ fs. is_set fs p) fp ∙ get_or_append_left flags (flag ∷ []) false p (omega arith) ∙ old.2,
            ap (λ cs. get_or cs p 0) cp ∙ get_or_append_left counts (count ∷ []) 0 p (omega arith) ∙ old.3,
          )
      by_place (inr now) =
          let here : place ≡ p = omega arith in
          subst (λ q. (reached : List Bool) × IsReach nexts q reached × (is_set flags' q ≡ is_set reached q) × (get_or counts' q 0 ≡ count_by (λ b. b) reached)) here
          (reached, reach, ap (λ fs. is_set fs place) fp ∙ get_or_push flags flag false place fl ∙ is, ap (λ cs. get_or cs place 0) cp ∙ get_or_push counts count 0 place cl ∙ counted)

  -- where no place lies on a cycle, the counts fall
  pub counts_fall : (flags : List Bool) (counts : List ℕ) → IsTrue (are_within (length nexts) nexts) → AreSearched nexts (length nexts) flags counts → list_any (λ b. b) flags ≡ false → Falls nexts counts
  counts_fall flags counts within searched unset_all from to step =
      let one = searched from (leads_within nexts from to step) in
      let other = searched to (leads_to_within (length nexts) nexts within from to step) in
      let lengths : length other.0 ≡ length one.0 = other.1.flags_each ∙ sym one.1.flags_each in
      let less = one_fewer other.0 one.0 to lengths
      (λ t h. one.1.complete t (onward step (other.1.sound t h)))
      (sym other.2 ∙ none_set flags unset_all to)
      (one.1.complete to (at_once step)) in
      let low = other.3 in
      let high = one.3 in
      omega arith

  -- the flags say which places lie on cycles
  pub flags_tell : (flags : List Bool) (counts : List ℕ) → AreSearched nexts (length nexts) flags counts → (p : ℕ) → p < length nexts → (is_set flags p ≡ true → IsOnCycle nexts p) × (IsOnCycle nexts p → is_set flags p ≡ true)
  flags_tell flags counts searched p less =
      let one = searched p less in
      (λ h. one.1.sound p (sym one.2 ∙ h), λ way. one.2 ∙ one.1.complete p way)

  -- those whose flag is set are those on cycles
  pub kept_on_cycles : {X : Type 0} (flags : List Bool) (xs : List X) (from : ℕ) → length xs ≡ length flags
      → ((p : ℕ) → p < length flags → (is_set flags p ≡ true → IsOnCycle nexts (from + p)) × (IsOnCycle nexts (from + p) → is_set flags p ≡ true)) → OnCycles nexts from xs (kept flags xs)
  kept_on_cycles [] [] from same tells = none
  kept_on_cycles [] (x ∷ xs) from same tells = absurd (omega arith)
  kept_on_cycles (b ∷ flags) [] from same tells = absurd (omega arith)
  kept_on_cycles (b ∷ flags) (x ∷ xs) from same tells =
      head b (tells 0 (omega arith)) (kept_on_cycles flags xs (suc from) (omega arith) (λ p less. shifted p (tells (suc p) (omega arith))))
    where
      shifted : (p : ℕ) → (is_set flags p ≡ true → IsOnCycle nexts (from + suc p)) × (IsOnCycle nexts (from + suc p) → is_set flags p ≡ true)
          → (is_set flags p ≡ true → IsOnCycle nexts (suc from + p)) × (IsOnCycle nexts (suc from + p) → is_set flags p ≡ true)
      shifted p h = let e : from + suc p ≡ suc from + p = omega arith in
          subst (λ q. (is_set flags p ≡ true → IsOnCycle nexts q) × (IsOnCycle nexts q → is_set flags p ≡ true)) e h

      head : (b : Bool) → (b ≡ true → IsOnCycle nexts (from + 0)) × (IsOnCycle nexts (from + 0) → b ≡ true) → OnCycles nexts (suc from) xs (kept flags xs) → OnCycles nexts from (x ∷ xs) (kept (b ∷ flags) (x ∷ xs))
      head true h rest = let e : from + 0 ≡ from = omega arith in on (subst (λ q. IsOnCycle nexts q) e (h.0 refl)) rest
      head false h rest = let e : from ≡ from + 0 = omega arith in off (λ way. false≢true (h.1 (subst (λ q. IsOnCycle nexts q) e way))) rest

  -- of a flag that is set something is kept
  pub kept_some : {X : Type 0} (flags : List Bool) (xs : List X) → length xs ≡ length flags → list_any (λ b. b) flags ≡ true → kept flags xs ≡ [] → ⊥
  kept_some [] xs same any empty = false≢true any
  kept_some (b ∷ flags) [] same any empty = absurd (omega arith)
  kept_some (true ∷ flags) (x ∷ xs) same any empty = cc empty
  kept_some (false ∷ flags) (x ∷ xs) same any empty = kept_some flags xs (omega arith) any empty

-- no place is left where none could be taken
pub none_left : (old new : List ℕ) (n : ℕ) → n ≡ 0 → old ≡ new ++ [] → new ≡ take (n - 1) old → old ≡ []
none_left old new n empty all rest = all ∙ ap (λ ps. ps ++ []) (rest ∙ ap (λ m. take (m - 1) old) empty)

-- one more
pub longer : {X : Type 0} (old new : List X) (x : X) (n : ℕ) → new ≡ old ++ x ∷ [] → length old ≡ n → length new ≡ n + 1
longer old new x n pushed same = ap length pushed ∙ length_push old x ∙ ap (λ m. m + 1) same
