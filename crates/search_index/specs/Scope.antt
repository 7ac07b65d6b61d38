-- Scopes: an organisation and one of its indexes.
use Rattle.std.specs.Prelude.{Bool}
use Rattle.std.specs.declared.cmp.Ordering.{Ordering}
use Rattle.std.specs.Ordering.{nat_cmp, ordering_then, eq_by_cmp}
use Rattle.std.specs.Cmp.{IsTotalOrder, then_total, on_total}
use Rattle.std.specs.Cmp.Lexicographic.{slice_cmp, nat_list_cmp_total}
use Rattle.search_index.specs.declared.scope.Scope.{Scope}
use Rattle.search_index.specs.declared.scope.ScopeAt.{ScopeAt}

-- the scope of these names
abbrev pub scope_at : ScopeAt → Scope
scope_at s = record { org = s.org.now; index = s.index.now }

-- scopes are in the order of the bytes of the organisations, and then of the indexes
abbrev pub scope_cmp : Scope → Scope → Ordering
scope_cmp x y = ordering_then (slice_cmp nat_cmp x.org y.org) (slice_cmp nat_cmp x.index y.index)

-- two scopes are equal
abbrev pub same_scope : Scope → Scope → Bool
same_scope = eq_by_cmp scope_cmp

-- any two scopes are in order
pub scope_cmp_total : IsTotalOrder scope_cmp
scope_cmp_total = then_total (on_total (λ (s : Scope). s.org) nat_list_cmp_total) (on_total (λ (s : Scope). s.index) nat_list_cmp_total)
