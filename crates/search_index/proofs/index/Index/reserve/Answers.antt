-- The keys and the postings are as they were.
use Rattle.std.proofs.Common.{length, refl, ap, subst, arith}
use Rattle.search_index.specs.declared.key.ObjectKey.{ObjectKey}
use Rattle.ordered_keys.specs.Keys.{Keys}
use Rattle.search_index.specs.Arena.{Contents, SameObjects}
use Rattle.search_index.proofs.GoneLemmas.{IsReserved, kept_keys, reserved}
use Rattle.search_index.proofs.index.Index.reserve.Goals as goal

one : (c : goal.After-from_residual) → IsReserved (record { scopes = c.self.inside.scopes; objects = c.self.inside.objects; terms = c.self.inside.terms; net = c.self.inside.postings }) (record { scopes = c.self.inside.scopes; objects = c.self.inside.objects; terms = c.self.inside.terms; net = c.reserve.new.self })
one c = reserved (record { scopes = c.self.inside.scopes; objects = c.self.inside.objects; terms = c.self.inside.terms; net = c.self.inside.postings }) c.self.inside.scopes c.self.inside.objects c.self.inside.terms c.reserve.new.self c.self.invariant (λ i. refl) (λ i. refl) (λ i. refl) c.reserve.ensures.same (let held = c.self.invariant.tied.object_heads in let wide = c.reserve.ensures.same.objects in omega arith) (let held = c.self.invariant.tied.term_heads in let wide = c.reserve.ensures.same.terms in omega arith)

pub invariant_of-self : goal.invariant_of-self
invariant_of-self c = (one c).whole

pub returns-in_err-reserve-clause-same : goal.returns-in_err-reserve-clause-same
returns-in_err-reserve-clause-same c = subst (λ (k : Contents). SameObjects k (record { scopes = c.self.inside.scopes; objects = c.self.inside.objects; terms = c.self.inside.terms; net = c.reserve.new.self })) c.self.view_is (one c).same

two : (c : goal.After-from_residual-in_err-grow) → IsReserved (record { scopes = c.self.inside.scopes; objects = c.self.inside.objects; terms = c.self.inside.terms; net = c.self.inside.postings }) (record { scopes = c.grow.new.self; objects = c.self.inside.objects; terms = c.self.inside.terms; net = c.reserve.new.self })
two c = reserved (record { scopes = c.self.inside.scopes; objects = c.self.inside.objects; terms = c.self.inside.terms; net = c.self.inside.postings }) c.grow.new.self c.self.inside.objects c.self.inside.terms c.reserve.new.self c.self.invariant (kept_keys c.self.inside.scopes c.grow.new.self c.in_err-grow.ensures.err) (λ i. refl) (λ i. refl) c.reserve.ensures.same (let held = c.self.invariant.tied.object_heads in let wide = c.reserve.ensures.same.objects in omega arith) (let held = c.self.invariant.tied.term_heads in let wide = c.reserve.ensures.same.terms in omega arith)

pub invariant_of-self-in_err-grow : goal.invariant_of-self-in_err-grow
invariant_of-self-in_err-grow c = (two c).whole

pub returns-in_err-grow-clause-same : goal.returns-in_err-grow-clause-same
returns-in_err-grow-clause-same c = subst (λ (k : Contents). SameObjects k (record { scopes = c.grow.new.self; objects = c.self.inside.objects; terms = c.self.inside.terms; net = c.reserve.new.self })) c.self.view_is (two c).same

three : (c : goal.After-from_residual-in_err-grow-2) → IsReserved (record { scopes = c.self.inside.scopes; objects = c.self.inside.objects; terms = c.self.inside.terms; net = c.self.inside.postings }) (record { scopes = c.grow.new.self; objects = c.grow-2.new.self; terms = c.self.inside.terms; net = c.reserve.new.self })
three c = reserved (record { scopes = c.self.inside.scopes; objects = c.self.inside.objects; terms = c.self.inside.terms; net = c.self.inside.postings }) c.grow.new.self c.grow-2.new.self c.self.inside.terms c.reserve.new.self c.self.invariant c.in_ok-grow.ensures.ok.same (kept_keys c.self.inside.objects c.grow-2.new.self c.in_err-grow-2.ensures.err) (λ i. refl) c.reserve.ensures.same (let held = c.self.invariant.tied.object_heads in let wide = c.reserve.ensures.same.objects in let kept = ap (λ (k : Keys ObjectKey). length k.slots) c.in_err-grow-2.ensures.err in omega arith) (let held = c.self.invariant.tied.term_heads in let wide = c.reserve.ensures.same.terms in omega arith)

pub invariant_of-self-in_err-grow-2 : goal.invariant_of-self-in_err-grow-2
invariant_of-self-in_err-grow-2 c = (three c).whole

pub returns-in_err-grow-2-clause-same : goal.returns-in_err-grow-2-clause-same
returns-in_err-grow-2-clause-same c = subst (λ (k : Contents). SameObjects k (record { scopes = c.grow.new.self; objects = c.grow-2.new.self; terms = c.self.inside.terms; net = c.reserve.new.self })) c.self.view_is (three c).same

four : (c : goal.After-reserve-2) → IsReserved (record { scopes = c.self.inside.scopes; objects = c.self.inside.objects; terms = c.self.inside.terms; net = c.self.inside.postings }) (record { scopes = c.grow.new.self; objects = c.grow-2.new.self; terms = c.reserve-2.new.self; net = c.reserve.new.self })
four c = reserved (record { scopes = c.self.inside.scopes; objects = c.self.inside.objects; terms = c.self.inside.terms; net = c.self.inside.postings }) c.grow.new.self c.grow-2.new.self c.reserve-2.new.self c.reserve.new.self c.self.invariant c.in_ok-grow.ensures.ok.same c.in_ok-grow-2.ensures.ok.same c.reserve-2.ensures.same.same c.reserve.ensures.same (let grown = c.in_ok-grow-2.ensures.ok.size in let all = c.in-Some.ensures.1 in let size = c.size.ensures in let wide = c.in_ok-reserve.ensures.ok.for_objects in omega arith) (let more = c.reserve-2.ensures.same.size in let all = c.in-Some-checked_add.ensures.1 in let size = c.size-2.ensures in let wide = c.in_ok-reserve.ensures.ok.for_terms in omega arith)

pub invariant_of-self-2 : goal.invariant_of-self-2
invariant_of-self-2 c = (four c).whole

pub returns-clause-same : goal.returns-clause-same
returns-clause-same c = subst (λ (k : Contents). SameObjects k (record { scopes = c.grow.new.self; objects = c.grow-2.new.self; terms = c.reserve-2.new.self; net = c.reserve.new.self })) c.self.view_is (four c).same
