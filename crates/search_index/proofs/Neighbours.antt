-- The keys of one scope, and the terms of one field, stand side by side.
use Rattle.std.proofs.Common.{◌≡◌, ◌≢◌, ◌∙◌, ◌+◌, ℕ, List, [], ◌∷◌, sym, ap, arith}
use Rattle.std.specs.declared.cmp.Ordering.{Ordering}
use Rattle.std.specs.declared.cmp.Ordering.TheVariants.{Less, Equal}
use Rattle.std.specs.Ordering.{nat_cmp, ordering_then}
use Rattle.std.specs.Cmp.Lexicographic.{slice_cmp}
use Rattle.search_index.specs.declared.key.ObjectKey.{ObjectKey}
use Rattle.search_index.specs.KeyOrder.{object_cmp, object_key}

next_is_less : (n : ℕ) → nat_cmp n (n + 1) ≡ Less
next_is_less n = grind arith

pub same_is_equal : (n : ℕ) → nat_cmp n n ≡ Equal
same_is_equal n = grind arith

not_below_nothing : (xs : List ℕ) → slice_cmp nat_cmp xs [] ≢ Less
not_below_nothing [] e = absurd (cc)
not_below_nothing (x ∷ xs) e = absurd (cc)

pub then_right : (a b : Ordering) → a ≡ Equal → ordering_then a b ≡ b
then_right a b e = ap (λ z. ordering_then z b) e

then_left : (a b : Ordering) → a ≡ Less → ordering_then a b ≡ Less
then_left a b e = ap (λ z. ordering_then z b) e

pub from_first : (x : ObjectKey) (a : ℕ) → x.scope ≡ a → object_cmp x (object_key a []) ≢ Less
from_first x a e less = not_below_nothing x.name (sym (then_right (nat_cmp x.scope a) (slice_cmp nat_cmp x.name []) (ap (λ z. nat_cmp z a) e ∙ same_is_equal a)) ∙ less)

pub below_next : (x : ObjectKey) (a : ℕ) → x.scope ≡ a → object_cmp x (object_key (a + 1) []) ≡ Less
below_next x a e = then_left (nat_cmp x.scope (a + 1)) (slice_cmp nat_cmp x.name []) (ap (λ z. nat_cmp z (a + 1)) e ∙ next_is_less a)
