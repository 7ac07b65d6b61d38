-- Origins of the leaves below a key.
use Rattle.std.proofs.Common.{◌≡◌, ℕ, List, [], ◌∷◌, ◌++◌, Bool, true, false, cond, Some, None, Ordering, Less, Equal, Greater, nat_cmp, is_eq, refl, ap, ◌∙◌}
use Rattle.std.proofs.lemmas.Cmp.{nat_list_cmp_total}
use Rattle.std.specs.Cmp.Lexicographic.{slice_cmp}
use Rattle.std.specs.Map.{lookup}
use Rattle.std.specs.Ordering.{ordering_then, ordering_reverse}
use Rattle.attr_merge.specs.Merged.{path_cmp, origin_at}
use Rattle.attr_merge.specs.Nodes.{below_key}

-- ---- entries that are searched

module _ {K X : Type 0} (test : K → Bool) where
  pub lookup-append-none : (xs ys : List (K × X)) → lookup test xs ≡ None → lookup test (xs ++ ys) ≡ lookup test ys
  lookup-append-none [] ys none = refl
  lookup-append-none (x ∷ xs) ys none = first (test x.0) none (lookup-append-none xs ys)
    where
      first : (b : Bool) → cond b (Some x.1) (lookup test xs) ≡ None → (lookup test xs ≡ None → lookup test (xs ++ ys) ≡ lookup test ys) → cond b (Some x.1) (lookup test (xs ++ ys)) ≡ lookup test ys
      first true is rest = cc
      first false is rest = rest is

  pub lookup-append-other : (xs ys : List (K × X)) → lookup test ys ≡ None → lookup test (xs ++ ys) ≡ lookup test xs
  lookup-append-other [] ys none = none
  lookup-append-other (x ∷ xs) ys none = ap (cond (test x.0) (Some x.1)) (lookup-append-other xs ys none)

-- ---- paths that begin with a key

own-reverse : (o : Ordering) → o ≡ ordering_reverse o → o ≡ Equal
own-reverse Less is = cc
own-reverse Equal is = refl
own-reverse Greater is = cc

-- a key compares to itself as equal
pub key-self : (k : List ℕ) → slice_cmp nat_cmp k k ≡ Equal
key-self k = own-reverse (slice_cmp nat_cmp k k) (nat_list_cmp_total.antisymm k k)

then-same : (o : Ordering) (more : Ordering) → o ≡ Equal → ordering_then o more ≡ more
then-same o more is = rw is refl

then-other : (o : Ordering) (more : Ordering) → is_eq o ≡ false → is_eq (ordering_then o more) ≡ false
then-other Less more other = refl
then-other Equal more other = cc
then-other Greater more other = refl

pub origin-below-same : (k : List ℕ) (p : List (List ℕ)) (leaves : List (List (List ℕ) × List ℕ)) → origin_at (k ∷ p) (below_key k leaves) ≡ origin_at p leaves
origin-below-same k p [] = refl
origin-below-same k p (leaf ∷ leaves) =
    (λ i. cond (is_eq (then-same (slice_cmp nat_cmp k k) (path_cmp p leaf.0) (key-self k) i)) (Some leaf.1) (origin-below-same k p leaves i))

pub origin-below-other : (q k : List ℕ) (p : List (List ℕ)) (leaves : List (List (List ℕ) × List ℕ)) → is_eq (slice_cmp nat_cmp q k) ≡ false → origin_at (q ∷ p) (below_key k leaves) ≡ None
origin-below-other q k p [] other = refl
origin-below-other q k p (leaf ∷ leaves) other =
    ap (λ (b : Bool). cond b (Some leaf.1) (origin_at (q ∷ p) (below_key k leaves))) (then-other (slice_cmp nat_cmp q k) (path_cmp p leaf.0) other)
    ∙ origin-below-other q k p leaves other

pub origin-below-root : (k : List ℕ) (leaves : List (List (List ℕ) × List ℕ)) → origin_at [] (below_key k leaves) ≡ None
origin-below-root k [] = refl
origin-below-root k (leaf ∷ leaves) = origin-below-root k leaves
