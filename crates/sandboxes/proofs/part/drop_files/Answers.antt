use Rattle.std.proofs.Common.{None, cond, bytes_eq, ◌∙◌, ap, arith}
use Rattle.std.proofs.lemmas.List.{take_all}
use Rattle.indexmap.specs.IndexMap.{get}
use Rattle.sandboxes.specs.Sums.{Sums, lists}
use Rattle.sandboxes.proofs.StockLemmas.{drops-more, seen-dropped}
use Rattle.sandboxes.proofs.part.drop_files.Goals as goal

pub loop-sum-preserved : goal.loop-sum-preserved
loop-sum-preserved c = record {
  gone = drops-more (get bytes_eq c.args.files.now) (get bytes_eq c.loop-sum.files) (get bytes_eq c.swap_remove.new.self)
      c.as_slice-sum-items.result.now c.loop-sum.sum-index c.sum-item.result c.loop-sum-test.true c.sum-item.is
      c.loop-sum.invariant.gone c.swap_remove.ensures.updates.0;
  room =
      let kept = c.swap_remove.ensures.room.0 in
      let before = c.loop-sum.invariant.room in
      omega (arith, kept, before);
}

pub returns-clause-files : goal.returns-clause-files
returns-clause-files c =
    seen-dropped c.args.files.now.entries c.loop-sum.files.entries c.args.sums.now (λ q.
    c.loop-sum.invariant.gone q
    ∙ ap (λ (sums : Sums). cond (lists sums q) None (get bytes_eq c.args.files.now q))
    (take_all c.loop-sum.sum-index c.as_slice-sum-items.result.now c.loop-sum-test.false ∙ c.as_slice-sum-items.ensures.value))
