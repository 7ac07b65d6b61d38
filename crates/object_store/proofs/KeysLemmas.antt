-- Keys by their kinds and names.
use Rattle.std.proofs.Common.{◌≡◌, ◌&&◌, ℕ, true, false, cond, List, ◌∷◌, Some, bytes_eq, sym, ap, refl, ◌∙◌}
use Rattle.std.specs.declared.cmp.Ordering.{Ordering}
use Rattle.std.specs.declared.cmp.Ordering.TheVariants.{Less, Equal, Greater}
use Rattle.std.specs.Ordering.{nat_cmp, is_eq, ordering_then}
use mathlib.Core.Bool.{true≢false}
use Rattle.std.specs.Cmp.{tied_itself, unsigned_ties}
use Rattle.std.specs.Cmp.Lexicographic.{slice_cmp, texts_ties}
use Rattle.std.specs.Map.{lookup}
use Rattle.doc_tree.specs.declared.kind.Kind.{Kind}
use Rattle.doc_tree.specs.Doc.{Doc}
use Rattle.object_store.specs.declared.key.Key.{Key}
use Rattle.object_store.specs.Keys.{key, position_of, key_cmp, key_cmp_total, key_cmp_ties, same_key, is_of}

-- two comparisons in turn tie where both do
both_tie : (a b : Ordering) → is_eq (ordering_then a b) ≡ (is_eq a && is_eq b)
both_tie Less b = refl
both_tie Equal b = refl
both_tie Greater b = refl

-- a key is that of a kind and a name where it is of the kind and has the name
pub same_key-key : (kind : Kind) (name : List ℕ) (k : Key) → same_key (key kind name) k ≡ (is_of kind k && bytes_eq name k.name)
same_key-key kind name k =
    both_tie (nat_cmp (position_of kind) (position_of k.kind)) (slice_cmp nat_cmp name k.name)
    ∙ (λ i. sym (unsigned_ties (position_of kind) (position_of k.kind)) i && sym (texts_ties name k.name) i)

-- where the first entry has the key, it is what is sought
pub sought-here : (k : Key) (e : Key × Doc) (rest : List (Key × Doc)) → same_key k e.0 ≡ true → lookup (same_key k) (e ∷ rest) ≡ Some e.1
sought-here k e rest same = ap (λ b. cond b (Some e.1) (lookup (same_key k) rest)) same

-- and where it has another, what is sought is among the rest
pub sought-later : (k : Key) (e : Key × Doc) (rest : List (Key × Doc)) → same_key k e.0 ≡ false → lookup (same_key k) (e ∷ rest) ≡ lookup (same_key k) rest
sought-later k e rest same = ap (λ b. cond b (Some e.1) (lookup (same_key k) rest)) same

-- what is equal ties
tied : (r : Ordering) → is_eq r ≡ true → r ≡ Equal
tied Less same = absurd (true≢false (sym same))
tied Equal same = refl
tied Greater same = absurd (true≢false (sym same))

-- keys that are told equal are the same
pub same_key-is : (a b : Key) → same_key a b ≡ true → a ≡ b
same_key-is a b same = key_cmp_ties a b (tied (key_cmp a b) same)

-- and a key is told equal to itself
pub same_key-self : (a : Key) → same_key a a ≡ true
same_key-self a = ap is_eq (tied_itself key_cmp_total a)
