use Rattle.std.proofs.Common.{arith, sym, subst, ◌∙◌}
use Rattle.attr_merge.specs.Layers.{AreLayers}
use Rattle.attr_merge.specs.Sources.{by_level, levels}
use Rattle.attr_merge.proofs.LevelLemmas.{by_level-AreLayers, level_more, levels_done}
use Rattle.attr_merge.proofs.sources.sorted.Goals as goal

pub loop-level-preserved : goal.loop-level-preserved
loop-level-preserved c =
    level_more c.args.entries.now levels c.loop-level.level-index c.loop-level.layers.items c.add_layers.new.layers.items (by_level c.args.entries.now)
    (omega (arith, c.loop-level-test.true)) c.in_ok-add_layers.ensures c.loop-level.invariant

-- the layers are those of all entries, which can be merged
pub returns-clause-merged : goal.returns-clause-merged
returns-clause-merged c =
    let all = levels_done c.args.entries.now levels c.loop-level.level-index c.loop-level.layers.items (by_level c.args.entries.now) (omega (arith, c.loop-level-test.false)) c.loop-level.invariant in
    subst AreLayers (sym (c.of.ensures ∙ all)) (by_level-AreLayers c.args.entries.now)
