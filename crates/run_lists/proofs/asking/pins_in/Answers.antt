use Rattle.std.proofs.Common.{sym, ◌∙◌}
use Rattle.run_lists.proofs.AskingLemmas.{pinned_more, unpinned_more}
use Rattle.run_lists.proofs.asking.pins_in.Goals as goal
use Rattle.run_lists.proofs.asking.pins_in.Goals.{in-Some+in_ok-push, in_default}

pub loop-item-preserved : goal.loop-item-preserved
loop-item-preserved c =
    elim c.match-branch-2.branch [
      | in-Some+in_ok-push w ↦
          pinned_more c.args.items.now c.loop-item.item-index c.item-item.result c.loop-item.pins c.match-branch-2.pins w.in-Some.pin c.loop-item-test.true c.item-item.is
          (sym c.in_ok-pin.ensures ∙ w.in-Some.is) c.loop-item.invariant (w.pins-is ∙ w.in_ok-push.ensures.ok)
      | in_default w ↦
          unpinned_more c.args.items.now c.loop-item.item-index c.item-item.result c.loop-item.pins c.match-branch-2.pins c.loop-item-test.true c.item-item.is
          (sym c.in_ok-pin.ensures ∙ w.in_default.is) c.loop-item.invariant w.pins-is
    ]
