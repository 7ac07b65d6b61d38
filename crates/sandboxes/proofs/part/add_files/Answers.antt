use Rattle.std.proofs.Common.{subst, refl}
use Rattle.sandboxes.proofs.MapLemmas.{Entries, Copying, Copying-more}
use Rattle.sandboxes.specs.declared.stored.Stored.{Stored}
use Rattle.sandboxes.proofs.part.add_files.Goals as goal

-- the entry of this turn is copied
pub loop-sum-preserved : goal.loop-sum-preserved
loop-sum-preserved c =
    Copying-more c.args.files.now.entries c.loop-sum.copy.entries c.next.new.self c.add.new.map.entries c.in-Some.sum.now c.in-Some.sum.now c.in-Some.stored.now c.in_ok-copy.field-0
    (subst (λ (left : Entries Stored). Copying c.args.files.now.entries c.loop-sum.copy.entries left) c.in-Some.ensures.steps c.loop-sum.invariant)
    refl c.in_ok-copy.ensures c.in_ok-add.ensures
