-- Which of its segments decide that a path is left out.
use Rattle.std.proofs.Common.{◌≡◌, ℕ, ◌<◌, ◌≤◌, List, [], ◌∷◌, length, get_or, Bool, true, false, ◌&&◌, ◌||◌, refl, arith, bytes_eq, codes}
use Rattle.org_requests.specs.LeftOut.{is_left_out}

one_of_two : (a b o : Bool) → (a || b) ≡ ((a && true) || ((b && true) || ((o && false) || ((o && false) || ((o && false) || false)))))
one_of_two true b o = refl
one_of_two false true o = refl
one_of_two false false true = refl
one_of_two false false false = refl

one_of_five : (a b o x y z : Bool) → ((a || b) || (o && (x || (y || z)))) ≡ ((a && true) || ((b && true) || ((o && (x && true)) || ((o && (y && true)) || ((o && (z && true)) || false)))))
one_of_five true b o x y z = refl
one_of_five false true o x y z = refl
one_of_five false false false x y z = refl
one_of_five false false true true y z = refl
one_of_five false false true false true z = refl
one_of_five false false true false false true = refl
one_of_five false false true false false false = refl

-- a path without segments isn't left out
pub none_left_out : (ss : List (List ℕ)) → length ss < 1 → false ≡ is_left_out ss
unfolding is_left_out
none_left_out [] h = refl
none_left_out (s ∷ ss) h = let no : ⊥ = omega arith in absurd no

-- of a short path the first segment decides
pub first_left_out : (ss : List (List ℕ)) (s : List ℕ) → 1 ≤ length ss → length ss < 3 → s ≡ get_or ss 0 s → (bytes_eq (codes "users") s || bytes_eq (codes "authenticate_user") s) ≡ is_left_out ss
unfolding is_left_out
first_left_out [] s l h e = let no : ⊥ = omega arith in absurd no
first_left_out (t ∷ []) s l h e = rw e (one_of_two (bytes_eq (codes "users") t) (bytes_eq (codes "authenticate_user") t) (bytes_eq (codes "organizations") t))
first_left_out (t ∷ u ∷ []) s l h e = rw e (one_of_two (bytes_eq (codes "users") t) (bytes_eq (codes "authenticate_user") t) (bytes_eq (codes "organizations") t))
first_left_out (t ∷ u ∷ v ∷ ss) s l h e = let no : ⊥ = omega arith in absurd no

-- of a longer one the first and the third do
pub third_left_out : (ss : List (List ℕ)) (s r : List ℕ) → 3 ≤ length ss → s ≡ get_or ss 0 s → r ≡ get_or ss 2 r
    → ((bytes_eq (codes "users") s || bytes_eq (codes "authenticate_user") s)
    || (bytes_eq (codes "organizations") s
    && (bytes_eq (codes "association_requests") r || (bytes_eq (codes "principals") r || bytes_eq (codes "required_recipe") r)))) ≡ is_left_out ss
unfolding is_left_out
third_left_out [] s r l e f = let no : ⊥ = omega arith in absurd no
third_left_out (t ∷ []) s r l e f = let no : ⊥ = omega arith in absurd no
third_left_out (t ∷ u ∷ []) s r l e f = let no : ⊥ = omega arith in absurd no
third_left_out (t ∷ u ∷ v ∷ ss) s r l e f =
    rw (e, f) (one_of_five (bytes_eq (codes "users") t) (bytes_eq (codes "authenticate_user") t) (bytes_eq (codes "organizations") t) (bytes_eq (codes "association_requests") v) (bytes_eq (codes "principals") v) (bytes_eq (codes "required_recipe") v))
