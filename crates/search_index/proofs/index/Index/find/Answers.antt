-- The names of the objects whose pairs meet a query.
use Rattle.std.proofs.Common.{◌↔◌, ℕ, List, IsTrue, sym, subst}
use Rattle.search_query.specs.Matching.{Meets}
use Rattle.search_query.specs.Pair.{Pair}
use Rattle.search_index.specs.Arena.{ArePairs, Contents, HasObject}
use Rattle.search_index.specs.Names.{lists_name}
use Rattle.search_index.proofs.FindLemmas.{names_meet, names_there}
use Rattle.search_index.proofs.GoneLemmas.{no_scope}
use Rattle.search_index.specs.Scope.{scope_at}
use Rattle.search_index.proofs.index.Index.find.Goals as goal

pub returns-in_default-clause-found : goal.returns-in_default-clause-found
returns-in_default-clause-found c = λ name pairs h are.
    let was : Contents = record { scopes = c.self.inside.scopes; objects = c.self.inside.objects; terms = c.self.inside.terms; net = c.self.inside.postings } in
    absurd (no_scope was (scope_at c.args.scope) name c.in_default.ensures (subst (λ (k : Contents). HasObject k (scope_at c.args.scope) name) (sym c.self.view_is) h))

pub returns-clause-found : goal.returns-clause-found
returns-clause-found c =
    let was : Contents = record { scopes = c.self.inside.scopes; objects = c.self.inside.objects; terms = c.self.inside.terms; net = c.self.inside.postings } in
    subst (λ (k : Contents). (name : List ℕ) (pairs : List Pair) → HasObject k (scope_at c.args.scope) name → ArePairs k (scope_at c.args.scope) name pairs → IsTrue (lists_name c.in_order-2.result name) ↔ Meets c.args.query.now pairs) c.self.view_is
    (names_meet was c.self.invariant (scope_at c.args.scope) c.in-Some.number c.in-Some.ensures c.args.query.now c.every-every.result c.in_ok-found.found c.in_ok-names.names.items c.in_order-2.result c.every-every.ensures c.in_ok-found.ensures c.in_ok-names.ensures c.in_order-2.ensures.members)

pub returns-clause-objects : goal.returns-clause-objects
returns-clause-objects c =
    let was : Contents = record { scopes = c.self.inside.scopes; objects = c.self.inside.objects; terms = c.self.inside.terms; net = c.self.inside.postings } in
    subst (λ (k : Contents). (name : List ℕ) → IsTrue (lists_name c.in_order-2.result name) → HasObject k (scope_at c.args.scope) name) c.self.view_is
    (names_there was c.self.invariant (scope_at c.args.scope) c.in-Some.number c.in-Some.ensures c.in_ok-found.found c.in_ok-names.names.items c.in_order-2.result c.in_ok-names.ensures c.in_order-2.ensures.members)
