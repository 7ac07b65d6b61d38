use Rattle.std.proofs.Common.{subst, refl}
use Rattle.sandboxes.proofs.MapLemmas.{Entries, Copying, Copying-more}
use Rattle.sandboxes.specs.Sums.{Sums}
use Rattle.sandboxes.proofs.part.add_sandboxes.Goals as goal

-- the entry of this turn is copied
pub loop-id-preserved : goal.loop-id-preserved
loop-id-preserved c =
    Copying-more c.args.sandboxes.now.entries c.loop-id.copy.entries c.next.new.self c.add.new.map.entries c.in-Some.id.now c.in-Some.id.now c.in-Some.sums.now c.in_ok-copy.field-0
    (subst (λ (left : Entries Sums). Copying c.args.sandboxes.now.entries c.loop-id.copy.entries left) c.in-Some.ensures.steps c.loop-id.invariant)
    refl c.in_ok-copy.ensures c.in_ok-add.ensures
