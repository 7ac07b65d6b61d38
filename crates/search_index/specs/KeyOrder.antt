-- The keys of objects and terms, and their order, for the private clauses.
use Rattle.std.specs.Prelude.{ℕ, Bool, List, refl}
use Rattle.std.specs.Coded.{Coded, code_by, coded×, coded_ℕ}
use Rattle.std.specs.declared.cmp.Ordering.{Ordering}
use Rattle.std.specs.Ordering.{nat_cmp, ordering_then, eq_by_cmp}
use Rattle.std.specs.Cmp.{IsTotalOrder, then_total, on_total, nat_cmp_total}
use Rattle.std.specs.Cmp.Lexicographic.{slice_cmp, nat_list_cmp_total}
use Rattle.search_query.specs.Pair.{Pair, pair, pair_cmp, pair_cmp_total, pair_code}
use Rattle.search_index.specs.declared.key.ObjectKey.{ObjectKey}

-- a pair of a scope, by the number of the scope
pub record TermKey : Type 0 where
  pub scope : ℕ
  pub pair : Pair

-- how the logic stores a term's key
abbrev pub term_code : Coded TermKey
term_code = code_by (ℕ × Pair) (coded× coded_ℕ pair_code) (λ k. (k.scope, k.pair)) (λ p. record { scope = p.0; pair = p.1 }) (λ _. refl)

-- the object of this name in a scope
abbrev pub object_key : ℕ → List ℕ → ObjectKey
object_key scope name = record { scope = scope; name = name }

-- the pair of this field and value in a scope
abbrev pub term_key : ℕ → List ℕ → List ℕ → TermKey
term_key scope field value = record { scope = scope; pair = pair field value }

-- objects are in the order of their scopes, and then of the bytes of their names
abbrev pub object_cmp : ObjectKey → ObjectKey → Ordering
object_cmp x y = ordering_then (nat_cmp x.scope y.scope) (slice_cmp nat_cmp x.name y.name)

-- two objects are the same
abbrev pub same_object : ObjectKey → ObjectKey → Bool
same_object = eq_by_cmp object_cmp

-- any two objects are in order
pub object_cmp_total : IsTotalOrder object_cmp
object_cmp_total = then_total (on_total (λ (k : ObjectKey). k.scope) nat_cmp_total) (on_total (λ (k : ObjectKey). k.name) nat_list_cmp_total)

-- terms are in the order of their scopes, and then of their pairs
abbrev pub term_cmp : TermKey → TermKey → Ordering
term_cmp x y = ordering_then (nat_cmp x.scope y.scope) (pair_cmp x.pair y.pair)

-- any two terms are in order
pub term_cmp_total : IsTotalOrder term_cmp
term_cmp_total = then_total (on_total (λ (k : TermKey). k.scope) nat_cmp_total) (on_total (λ (k : TermKey). k.pair) pair_cmp_total)
