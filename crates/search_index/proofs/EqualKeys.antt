-- Keys that no order tells apart are equal.
use Rattle.std.proofs.Common.{◌≡◌, refl}
use Rattle.std.specs.declared.cmp.Ordering.{Ordering}
use Rattle.std.specs.declared.cmp.Ordering.TheVariants.{Less, Equal, Greater}
use Rattle.std.specs.Ordering.{nat_cmp, ordering_then}
use Rattle.std.specs.Cmp.Lexicographic.{slice_cmp}
use Rattle.std.proofs.lemmas.Map.Lookups.{exact_bytes, exact_unsigned}
use Rattle.search_query.specs.Pair.{Pair, pair_cmp}
use Rattle.search_index.specs.Scope.{scope_cmp}
use Rattle.search_index.specs.KeyOrder.{TermKey, object_cmp, term_cmp}
use Rattle.search_index.specs.declared.scope.Scope.{Scope}
use Rattle.search_index.specs.declared.key.ObjectKey.{ObjectKey}

pub both_equal : (a b : Ordering) → ordering_then a b ≡ Equal → (a ≡ Equal) × (b ≡ Equal)
both_equal Less b e = absurd (cc)
both_equal Equal b e = (refl, e)
both_equal Greater b e = absurd (cc)

pub same_pairs : (x y : Pair) → pair_cmp x y ≡ Equal → x ≡ y
same_pairs x y e =
    let both = both_equal (slice_cmp nat_cmp x.field y.field) (slice_cmp nat_cmp x.value y.value) e in
    let field = exact_bytes x.field y.field both.0 in
    let value = exact_bytes x.value y.value both.1 in
    λ i. record { field = field i; value = value i }

pub same_scopes : (x y : Scope) → scope_cmp x y ≡ Equal → x ≡ y
same_scopes x y e =
    let both = both_equal (slice_cmp nat_cmp x.org y.org) (slice_cmp nat_cmp x.index y.index) e in
    let org = exact_bytes x.org y.org both.0 in
    let index = exact_bytes x.index y.index both.1 in
    λ i. record { org = org i; index = index i }

pub same_objects : (x y : ObjectKey) → object_cmp x y ≡ Equal → x ≡ y
same_objects x y e =
    let both = both_equal (nat_cmp x.scope y.scope) (slice_cmp nat_cmp x.name y.name) e in
    let scope = exact_unsigned x.scope y.scope both.0 in
    let name = exact_bytes x.name y.name both.1 in
    λ i. record { scope = scope i; name = name i }

pub same_terms : (x y : TermKey) → term_cmp x y ≡ Equal → x ≡ y
same_terms x y e =
    let both = both_equal (nat_cmp x.scope y.scope) (pair_cmp x.pair y.pair) e in
    let scope = exact_unsigned x.scope y.scope both.0 in
    let pair = same_pairs x.pair y.pair both.1 in
    λ i. record { scope = scope i; pair = pair i }
