use Rattle.run_lists.proofs.WalkLemmas.{framed_more, met_more}
use Rattle.std.proofs.Common.{map}
use Rattle.run_lists.specs.Walk.{event_of}
use Rattle.run_lists.proofs.walk.enter.Goals as goal

-- the role is met, and its run list is the innermost
pub returns : goal.returns
returns c = λ i. record {
  met = met_more c.args.walk.now.met.keys c.insert.new.self.keys c.args.role.now c.in_ok-copy.field-0 c.in_ok-insert.ensures.keys c.in_ok-copy.ensures c.requires i;
  levels = framed_more c.args.walk.now.frames.items c.push.new.self.items (record { role = _; left = _ }) c.in_ok-push.ensures.items i;
  events = map event_of c.args.walk.now.told.items;
}
