use Rattle.std.proofs.lemmas.Option.{slice_get-get_or}
use Rattle.host_tree.proofs.ImageLemmas.{last-more}
use Rattle.host_tree.proofs.reading.last_slash.Goals as goal

pub loop-end-preserved : goal.loop-end-preserved
loop-end-preserved c =
    let step = last-more c.args.path.now c.loop-end.end c.loop-end.last _ c.later-last.result (slice_get-get_or c.args.path.now c.loop-end.end 0 c.loop-end-test.true) c.later-last.ensures c.loop-end.invariant.parent c.loop-end.invariant.ends in
    record { parent = step.0; ends = step.1 }
