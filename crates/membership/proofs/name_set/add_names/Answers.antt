use Rattle.std.proofs.Common.{◌∙◌}
use Rattle.membership.specs.NameSets.{seen}
use Rattle.membership.proofs.NameSetLemmas.{seen-more}
use Rattle.membership.proofs.name_set.add_names.Goals as goal

pub loop-name-preserved : goal.loop-name-preserved
loop-name-preserved c =
    seen-more _ c.loop-name.name-index c.name-item.result c.in_ok-copy.field-0 (seen c.loop-name.items.keys) _ c.loop-name-test.true c.name-item.is (c.in_ok-copy.ensures ∙ c.as_text.ensures.value)
    c.loop-name.invariant c.in_ok-add.ensures
