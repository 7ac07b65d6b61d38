-- The key is above the last one exactly where all keys are in order with it, and then it is at none of them.
use Rattle.std.proofs.Common.{refl}
use Rattle.yaml_subset.proofs.PairsLemmas.{behind_field, field_behind, first_behind, none_behind}
use Rattle.yaml_subset.proofs.pairs.is_behind.Goals as goal

pub returns-in-Some-clause-order : goal.returns-in-Some-clause-order
returns-in-Some-clause-order c = (
  λ holds. field_behind c.as_slice.result.now c.args.fields.now c.in-Some.last.now c.args.key.now c.lt.result c.as_slice.ensures.value c.as_slice.ensures.order c.in-Some.ensures.value c.lt.ensures holds,
  λ order. behind_field c.as_slice.result.now c.args.fields.now c.in-Some.last.now c.args.key.now c.lt.result c.as_slice.ensures.value c.in-Some.ensures.value c.lt.ensures order,
)

pub returns-in-Some-clause-free : goal.returns-in-Some-clause-free
returns-in-Some-clause-free c holds = none_behind c.args.fields.now c.args.key.now ((returns-in-Some-clause-order c).0 holds)

pub returns-in-None-clause-order : goal.returns-in-None-clause-order
returns-in-None-clause-order c =
    (λ holds. first_behind c.as_slice.result.now c.args.fields.now c.args.key.now c.as_slice.ensures.value c.in-None.ensures.value, λ order. refl)
