-- An object is out, or it wasn't there.
use Rattle.std.proofs.Common.{is_some, sym, ap, subst}
use Rattle.search_index.specs.Arena.{Contents, DropsObject, StandsAt}
use Rattle.ordered_keys.specs.Keys.{Removes}
use Rattle.search_index.specs.Net.{HasNone}
use Rattle.search_index.proofs.GoneLemmas.{IsTakenOut, KeepsScopes, Remains, gone_all, keeps_all, keeps_others, not_there, remains_more}
use Rattle.search_index.specs.Scope.{scope_at}
use Rattle.search_index.proofs.index.Index.remove.Goals as goal

pub returns-in_default-clause-drops : goal.returns-in_default-clause-drops
returns-in_default-clause-drops c = not_there c.args.self.now (scope_at c.args.scope) c.args.name.now c.in_default.ensures

pub drop_first-requires : goal.drop_first-requires
drop_first-requires c = λ q i j is. ap is_some (c.loop.invariant.tied.joined q i j is).term_at

pub loop-preserved : goal.loop-preserved
loop-preserved c = remains_more (record { scopes = c.self.inside.scopes; objects = c.self.inside.objects; terms = c.self.inside.terms; net = c.self.inside.postings }) (record { scopes = c.loop.self-inside.scopes; objects = c.loop.self-inside.objects; terms = c.loop.self-inside.terms; net = c.loop.self-inside.postings }) c.drop_first.new.terms c.drop_first.new.postings c.in-Some.at.object c.loop.invariant c.loop-test.ensures

out_scope : (c : goal.After-remove-then-is_empty) → IsTakenOut (record { scopes = c.self.inside.scopes; objects = c.self.inside.objects; terms = c.self.inside.terms; net = c.self.inside.postings }) (record { scopes = c.remove-then-is_empty.new.self; objects = c.remove.new.self; terms = c.drop_first.new.terms; net = c.drop_first.new.postings }) (scope_at c.args.scope) c.args.name.now
out_scope c =
    let now : Contents = record { scopes = c.loop.self-inside.scopes; objects = c.loop.self-inside.objects; terms = c.drop_first.new.terms; net = c.drop_first.new.postings } in
    let r = c.loop.invariant in
    let same_terms = c.loop-test.ensures.0 in
    let same_net = c.loop-test.ensures.1 in
    let none = subst (λ z. HasNone z c.in-Some.at.object) (sym same_net) c.loop-test.ensures.2 in
    let remains : Remains (record { scopes = c.self.inside.scopes; objects = c.self.inside.objects; terms = c.self.inside.terms; net = c.self.inside.postings }) now c.in-Some.at.object = subst (λ z. Remains (record { scopes = c.self.inside.scopes; objects = c.self.inside.objects; terms = c.self.inside.terms; net = c.self.inside.postings }) (record { scopes = c.loop.self-inside.scopes; objects = c.loop.self-inside.objects; terms = z; net = c.drop_first.new.postings }) c.in-Some.at.object) (sym same_terms)
    (subst (λ z. Remains (record { scopes = c.self.inside.scopes; objects = c.self.inside.objects; terms = c.self.inside.terms; net = c.self.inside.postings }) (record { scopes = c.loop.self-inside.scopes; objects = c.loop.self-inside.objects; terms = c.loop.self-inside.terms; net = z }) c.in-Some.at.object) (sym same_net) r) in
    let stands = subst (λ (k : Contents). StandsAt k (scope_at c.args.scope) c.args.name.now c.in-Some.at.scope c.in-Some.at.object) (sym c.self.view_is) c.in-Some.ensures in
    let removes = subst (λ z. Removes z c.remove.new.self c.in-Some.at.object) r.objects c.remove.ensures in
    gone_all (record { scopes = c.self.inside.scopes; objects = c.self.inside.objects; terms = c.self.inside.terms; net = c.self.inside.postings }) now c.remove-then-is_empty.new.self c.remove.new.self (scope_at c.args.scope) c.in-Some.at.scope c.in-Some.at.object c.args.name.now c.self.invariant remains none stands removes (subst (λ z. KeepsScopes z c.remove-then-is_empty.new.self c.remove.new.self) r.scopes (keeps_others c.loop.self-inside.scopes c.remove-then-is_empty.new.self c.remove.new.self c.in-Some.at.scope c.remove-then-is_empty.ensures (c.is_empty.ensures c.if-is_empty.true)))

out : (c : goal.Else-is_empty) → IsTakenOut (record { scopes = c.self.inside.scopes; objects = c.self.inside.objects; terms = c.self.inside.terms; net = c.self.inside.postings }) (record { scopes = c.loop.self-inside.scopes; objects = c.remove.new.self; terms = c.drop_first.new.terms; net = c.drop_first.new.postings }) (scope_at c.args.scope) c.args.name.now
out c =
    let now : Contents = record { scopes = c.loop.self-inside.scopes; objects = c.loop.self-inside.objects; terms = c.drop_first.new.terms; net = c.drop_first.new.postings } in
    let r = c.loop.invariant in
    let same_terms = c.loop-test.ensures.0 in
    let same_net = c.loop-test.ensures.1 in
    let none = subst (λ z. HasNone z c.in-Some.at.object) (sym same_net) c.loop-test.ensures.2 in
    let remains : Remains (record { scopes = c.self.inside.scopes; objects = c.self.inside.objects; terms = c.self.inside.terms; net = c.self.inside.postings }) now c.in-Some.at.object = subst (λ z. Remains (record { scopes = c.self.inside.scopes; objects = c.self.inside.objects; terms = c.self.inside.terms; net = c.self.inside.postings }) (record { scopes = c.loop.self-inside.scopes; objects = c.loop.self-inside.objects; terms = z; net = c.drop_first.new.postings }) c.in-Some.at.object) (sym same_terms)
    (subst (λ z. Remains (record { scopes = c.self.inside.scopes; objects = c.self.inside.objects; terms = c.self.inside.terms; net = c.self.inside.postings }) (record { scopes = c.loop.self-inside.scopes; objects = c.loop.self-inside.objects; terms = c.loop.self-inside.terms; net = z }) c.in-Some.at.object) (sym same_net) r) in
    let stands = subst (λ (k : Contents). StandsAt k (scope_at c.args.scope) c.args.name.now c.in-Some.at.scope c.in-Some.at.object) (sym c.self.view_is) c.in-Some.ensures in
    let removes = subst (λ z. Removes z c.remove.new.self c.in-Some.at.object) r.objects c.remove.ensures in
    gone_all (record { scopes = c.self.inside.scopes; objects = c.self.inside.objects; terms = c.self.inside.terms; net = c.self.inside.postings }) now c.loop.self-inside.scopes c.remove.new.self (scope_at c.args.scope) c.in-Some.at.scope c.in-Some.at.object c.args.name.now c.self.invariant remains none stands removes (subst (λ z. KeepsScopes z c.loop.self-inside.scopes c.remove.new.self) r.scopes (keeps_all c.loop.self-inside.scopes c.remove.new.self))

pub invariant_of-self : goal.invariant_of-self
invariant_of-self c = (out_scope c).whole

pub invariant_of-self-else-is_empty : goal.invariant_of-self-else-is_empty
invariant_of-self-else-is_empty c = (out c).whole

pub returns-then-is_empty-clause-drops : goal.returns-then-is_empty-clause-drops
returns-then-is_empty-clause-drops c = subst (λ (k : Contents). DropsObject k (record { scopes = c.remove-then-is_empty.new.self; objects = c.remove.new.self; terms = c.drop_first.new.terms; net = c.drop_first.new.postings }) (scope_at c.args.scope) c.args.name.now) c.self.view_is (out_scope c).drops

pub returns-else-is_empty-clause-drops : goal.returns-else-is_empty-clause-drops
returns-else-is_empty-clause-drops c = subst (λ (k : Contents). DropsObject k (record { scopes = c.loop.self-inside.scopes; objects = c.remove.new.self; terms = c.drop_first.new.terms; net = c.drop_first.new.postings }) (scope_at c.args.scope) c.args.name.now) c.self.view_is (out c).drops
