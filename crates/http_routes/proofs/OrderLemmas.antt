-- What a path stands for does not depend on the order of a table in which no pattern stands twice.
use Rattle.std.proofs.Common.{◌≡◌, ℕ, List, [], ◌∷◌, Bool, true, false, cond, not, ◌&&◌, refl, sym, ap, ◌∙◌, bytes_eq}
use Rattle.std.proofs.lemmas.Slice.Eq.{bytes_eq-Decides}
use Rattle.matchit.specs.Rows.{comes_before}
use Rattle.org_requests.specs.Patterns.{Part, fixed, any, Table, ends_here, behind_fixed, behind_any, route_of}
use Rattle.http_routes.proofs.SeekLemmas.{tokens}

abbrev pub is_same_part : Part → Part → Bool
is_same_part (fixed t) (fixed u) = bytes_eq t u
is_same_part (fixed t) any = false
is_same_part any (fixed u) = false
is_same_part any any = true

abbrev pub is_same : List Part → List Part → Bool
is_same [] [] = true
is_same [] (q ∷ qs) = false
is_same (p ∷ ps) [] = false
is_same (p ∷ ps) (q ∷ qs) = is_same_part p q && is_same ps qs

-- the same rows, where two that change places have different patterns
data Alike (K : Type 0) : Table K → Table K → Type 0 where
  none : Alike K [] []
  keep : (ps : List Part) (k : K) {t u : Table K} → Alike K t u → Alike K ((ps, k) ∷ t) ((ps, k) ∷ u)
  swap : (ps qs : List Part) (k l : K) (t : Table K) → is_same ps qs ≡ false → Alike K ((ps, k) ∷ (qs, l) ∷ t) ((qs, l) ∷ (ps, k) ∷ t)
  both : {t u v : Table K} → Alike K t u → Alike K u v → Alike K t v

-- two texts that equal a third
same_texts : (t u s : List ℕ) → bytes_eq t s ≡ true → bytes_eq u s ≡ true → bytes_eq t u ≡ true
same_texts t u s e f = (bytes_eq-Decides t u).1 ((bytes_eq-Decides t s).0 e ∙ sym ((bytes_eq-Decides u s).0 f))

rest_differs : (t u s : List ℕ) (ps qs : List Part) → bytes_eq t s ≡ true → bytes_eq u s ≡ true → is_same (fixed t ∷ ps) (fixed u ∷ qs) ≡ false → is_same ps qs ≡ false
rest_differs t u s ps qs e f d = sym (ap (λ v. v && is_same ps qs) (same_texts t u s e f)) ∙ d

swapped : (a b c : Bool) → (a && (b && c)) ≡ (b && (a && c))
swapped true b c = refl
swapped false true c = refl
swapped false false c = refl

left : (a b : Bool) → (a && b) ≡ true → a ≡ true
left true b e = refl
left false b e = e

right : (a b : Bool) → (a && b) ≡ true → b ≡ true
right true b e = e
right false b e = cc

not_false : (a : Bool) → not a ≡ true → a ≡ false
not_false true e = sym e
not_false false e = refl

module _ {K : Type 0} where
  alike : (t : Table K) → Alike K t t
  alike [] = none
  alike ((ps, k) ∷ t) = keep ps k (alike t)

  alike-fixed : (s : List ℕ) {t u : Table K} → Alike K t u → Alike K (behind_fixed s t) (behind_fixed s u)
  alike-fixed s none = none
  alike-fixed s (keep [] k a) = alike-fixed s a
  alike-fixed s (keep (any ∷ ps) k a) = alike-fixed s a
  alike-fixed s (keep (fixed x ∷ ps) k {t} {u} a) = by (bytes_eq x s) (alike-fixed s a)
    where
      by : (v : Bool) → Alike K (behind_fixed s t) (behind_fixed s u) → Alike K (cond v ((ps, k) ∷ behind_fixed s t) (behind_fixed s t)) (cond v ((ps, k) ∷ behind_fixed s u) (behind_fixed s u))
      by true b = keep ps k b
      by false b = b
  alike-fixed s (swap [] [] k l t d) = alike (behind_fixed s (([], l) ∷ t))
  alike-fixed s (swap [] (fixed y ∷ qs) k l t d) = alike (behind_fixed s ((fixed y ∷ qs, l) ∷ t))
  alike-fixed s (swap [] (any ∷ qs) k l t d) = alike (behind_fixed s ((any ∷ qs, l) ∷ t))
  alike-fixed s (swap (any ∷ ps) [] k l t d) = alike (behind_fixed s (([], l) ∷ t))
  alike-fixed s (swap (any ∷ ps) (fixed y ∷ qs) k l t d) = alike (behind_fixed s ((fixed y ∷ qs, l) ∷ t))
  alike-fixed s (swap (any ∷ ps) (any ∷ qs) k l t d) = alike (behind_fixed s ((any ∷ qs, l) ∷ t))
  alike-fixed s (swap (fixed x ∷ ps) [] k l t d) = alike (behind_fixed s ((fixed x ∷ ps, k) ∷ t))
  alike-fixed s (swap (fixed x ∷ ps) (any ∷ qs) k l t d) = alike (behind_fixed s ((fixed x ∷ ps, k) ∷ t))
  alike-fixed s (swap (fixed x ∷ ps) (fixed y ∷ qs) k l t d) = by (bytes_eq x s) refl (bytes_eq y s) refl
    where
      by : (v : Bool) → bytes_eq x s ≡ v → (w : Bool) → bytes_eq y s ≡ w
          → Alike K (cond v ((ps, k) ∷ cond w ((qs, l) ∷ behind_fixed s t) (behind_fixed s t)) (cond w ((qs, l) ∷ behind_fixed s t) (behind_fixed s t)))
          (cond w ((qs, l) ∷ cond v ((ps, k) ∷ behind_fixed s t) (behind_fixed s t)) (cond v ((ps, k) ∷ behind_fixed s t) (behind_fixed s t)))
      by true e true f = swap ps qs k l (behind_fixed s t) (rest_differs x y s ps qs e f d)
      by true e false f = alike ((ps, k) ∷ behind_fixed s t)
      by false e true f = alike ((qs, l) ∷ behind_fixed s t)
      by false e false f = alike (behind_fixed s t)
  alike-fixed s (both a b) = both (alike-fixed s a) (alike-fixed s b)

  alike-any : {t u : Table K} → Alike K t u → Alike K (behind_any t) (behind_any u)
  alike-any none = none
  alike-any (keep [] k a) = alike-any a
  alike-any (keep (fixed x ∷ ps) k a) = alike-any a
  alike-any (keep (any ∷ ps) k a) = keep ps k (alike-any a)
  alike-any (swap [] [] k l t d) = alike (behind_any (([], l) ∷ t))
  alike-any (swap [] (fixed y ∷ qs) k l t d) = alike (behind_any ((fixed y ∷ qs, l) ∷ t))
  alike-any (swap [] (any ∷ qs) k l t d) = alike (behind_any ((any ∷ qs, l) ∷ t))
  alike-any (swap (fixed x ∷ ps) [] k l t d) = alike (behind_any (([], l) ∷ t))
  alike-any (swap (fixed x ∷ ps) (fixed y ∷ qs) k l t d) = alike (behind_any ((fixed y ∷ qs, l) ∷ t))
  alike-any (swap (fixed x ∷ ps) (any ∷ qs) k l t d) = alike (behind_any ((any ∷ qs, l) ∷ t))
  alike-any (swap (any ∷ ps) [] k l t d) = alike ((ps, k) ∷ behind_any t)
  alike-any (swap (any ∷ ps) (fixed y ∷ qs) k l t d) = alike ((ps, k) ∷ behind_any t)
  alike-any (swap (any ∷ ps) (any ∷ qs) k l t d) = swap ps qs k l (behind_any t) d
  alike-any (both a b) = both (alike-any a) (alike-any b)

  alike-ends : {t u : Table K} → Alike K t u → ends_here t ≡ ends_here u
  alike-ends none = refl
  alike-ends (keep [] k a) = refl
  alike-ends (keep (p ∷ ps) k a) = alike-ends a
  alike-ends (swap [] [] k l t d) = cc
  alike-ends (swap [] (q ∷ qs) k l t d) = refl
  alike-ends (swap (p ∷ ps) [] k l t d) = refl
  alike-ends (swap (p ∷ ps) (q ∷ qs) k l t d) = refl
  alike-ends (both a b) = alike-ends a ∙ alike-ends b

  alike-route : (ss : List (List ℕ)) (t u : Table K) → Alike K t u → route_of t ss ≡ route_of u ss
  unfolding route_of
  alike-route [] t u a = alike-ends a
  alike-route (s ∷ ss) t u a =
      rw (alike-route ss (behind_fixed s t) (behind_fixed s u) (alike-fixed s a), alike-route ss (behind_any t) (behind_any u) (alike-any a)) refl

  -- a row in its place among the router's rows
  abbrev pub put : List Part → K → Table K → Table K
  put ps k [] = (ps, k) ∷ []
  put ps k ((qs, l) ∷ rest) = cond (comes_before (tokens ps) (tokens qs)) ((ps, k) ∷ (qs, l) ∷ rest) ((qs, l) ∷ put ps k rest)

  -- a table in the order of the router's rows
  abbrev pub sorted : Table K → Table K
  sorted [] = []
  sorted ((ps, k) ∷ rest) = put ps k (sorted rest)

  -- no row has this pattern
  abbrev pub lacks : List Part → Table K → Bool
  lacks ps [] = true
  lacks ps ((qs, l) ∷ rest) = not (is_same ps qs) && lacks ps rest

  -- no pattern stands twice
  abbrev pub are_distinct : Table K → Bool
  are_distinct [] = true
  are_distinct ((ps, k) ∷ rest) = lacks ps rest && are_distinct rest

  lacks-alike : (ps : List Part) {t u : Table K} → Alike K t u → lacks ps t ≡ lacks ps u
  lacks-alike ps none = refl
  lacks-alike ps (keep qs l a) = ap (λ v. not (is_same ps qs) && v) (lacks-alike ps a)
  lacks-alike ps (swap qs rs k l t d) = swapped (not (is_same ps qs)) (not (is_same ps rs)) (lacks ps t)
  lacks-alike ps (both a b) = lacks-alike ps a ∙ lacks-alike ps b

  alike-put : (ps : List Part) (k : K) (t : Table K) → lacks ps t ≡ true → Alike K ((ps, k) ∷ t) (put ps k t)
  alike-put ps k [] e = keep ps k none
  alike-put ps k ((qs, l) ∷ rest) e =
      by (comes_before (tokens ps) (tokens qs))
      (both (swap ps qs k l rest (not_false (is_same ps qs) (left (not (is_same ps qs)) (lacks ps rest) e)))
      (keep qs l (alike-put ps k rest (right (not (is_same ps qs)) (lacks ps rest) e))))
    where
      by : (v : Bool) → Alike K ((ps, k) ∷ (qs, l) ∷ rest) ((qs, l) ∷ put ps k rest) → Alike K ((ps, k) ∷ (qs, l) ∷ rest) (cond v ((ps, k) ∷ (qs, l) ∷ rest) ((qs, l) ∷ put ps k rest))
      by true a = alike ((ps, k) ∷ (qs, l) ∷ rest)
      by false a = a

  alike-sorted : (t : Table K) → are_distinct t ≡ true → Alike K t (sorted t)
  alike-sorted [] e = none
  alike-sorted ((ps, k) ∷ rest) e =
      let a = alike-sorted rest (right (lacks ps rest) (are_distinct rest) e) in
      both (keep ps k a) (alike-put ps k (sorted rest) (sym (lacks-alike ps a) ∙ left (lacks ps rest) (are_distinct rest) e))

  -- a table says the same in the order of the router's rows
  pub same_sorted : (t : Table K) → are_distinct t ≡ true → (ss : List (List ℕ)) → route_of (sorted t) ss ≡ route_of t ss
  same_sorted t e ss = sym (alike-route ss t (sorted t) (alike-sorted t e))
