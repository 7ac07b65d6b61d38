use Rattle.std.proofs.Common.{arith, subst}
use Rattle.sha2.specs.Hashers.{Holds256}
use Rattle.cookbook_meta.proofs.LineLemmas.{text_of_lines-more}
use Rattle.policy_locks.proofs.digests.digest_of.Goals as goal

pub loop-line-preserved : goal.loop-line-preserved
loop-line-preserved c =
    subst (Holds256 c.update-in-loop-line.new.self)
    (text_of_lines-more c.args.lines.now c.loop-line.line-index c.line-item.result c.as_bytes.result.now (omega arith) c.line-item.is c.as_bytes.ensures.value)
    (c.update-in-loop-line.ensures _ (c.update.ensures _ c.loop-line.invariant))
