-- The shelves so far, and one more.
use Rattle.std.proofs.Common.{◌∙◌, take_all, ap}
use Rattle.shelves.proofs.CopyLemmas.{copied_more}
use Rattle.shelves.specs.Rooms.{shelves_seen}
use Rattle.shelves.proofs.shelves.push_copies.Goals as goal

pub loop-name-preserved : goal.loop-name-preserved
loop-name-preserved g c =
    copied_more c.args.shelves.now c.loop-name.made.items c.push.new.self.items c.loop-name.name-index c.loop-name-item.result (c.in_ok-copy.field-0, c.in_ok-copy-2.field-0) c.loop-name-test.true c.loop-name-item.is c.loop-name.invariant
    c.in_ok-push.ensures.items c.in_ok-copy.ensures c.in_ok-copy-2.ensures.entries

pub returns : goal.returns
returns g c = c.loop-name.invariant ∙ ap shelves_seen (take_all c.loop-name.name-index c.args.shelves.now c.loop-name-test.false)
