-- One token more, or none.
use Rattle.std.proofs.Common.{◌≡◌, sym, ◌∙◌, arith}
use Rattle.yaml_subset.proofs.FlowLemmas.{from_token}
use Rattle.yaml_subset.proofs.flow.flow_doc.Goals as goal

pub returns-in-None : goal.returns-in-None
returns-in-None c =
    let none : c.loop-byte.skip ≡ 0 = omega arith in
    sym (from_token c.loop-byte.flowing _ c.loop-byte.skip _ _ _ none c.in-Some.ensures.cases.0 c.if-byte-eq32.false (sym c.in-None.is ∙ c.in_ok-next.ensures)) ∙ c.loop-byte.invariant

pub loop-byte-preserved : goal.loop-byte-preserved
loop-byte-preserved c =
    let none : c.loop-byte.skip ≡ 0 = omega arith in
    sym (from_token c.loop-byte.flowing _ c.loop-byte.skip _ _ _ none c.in-Some.ensures.cases.0 c.if-byte-eq32.false (sym c.in-Some-2.is ∙ c.in_ok-next.ensures)) ∙ c.loop-byte.invariant
