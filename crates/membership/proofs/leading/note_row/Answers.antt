use Rattle.std.proofs.Common.{◌<◌, ◌+◌, ◌*◌, length, sym, subst, ◌∙◌}
use Rattle.membership.specs.Leading.{Notes, listing}
use Rattle.membership.proofs.LeadingLemmas.{Notes-more}
use Rattle.membership.proofs.leading.note_row.Goals as goal

pub loop-to-preserved : goal.loop-to-preserved
loop-to-preserved c = (
  subst (Notes (length c.args.items.now.entries) (listing c.args.items.now.entries) (c.args.from * length c.args.items.now.entries + (c.loop-to.to + 1))) (sym c.push_reserved.ensures.items)
      (Notes-more (length c.args.items.now.entries) (listing c.args.items.now.entries) c.args.from c.loop-to.to c.loop-to.cells.items c.lists.result c.requires.within
      (subst (λ n. c.loop-to.to < n) c.len-to-end.ensures.len c.loop-to-test.true) c.loop-to.invariant.0 c.lists.ensures),
  c.push_reserved.ensures.capacity ∙ c.loop-to.invariant.1,
)
