use Rattle.std.proofs.Common.{arith}
use Rattle.run_lists.specs.Visits.{Run}
use Rattle.run_lists.specs.Keys.{key_of, run_of, same_key}
use Rattle.run_lists.proofs.KeysLemmas.{same_key_equiv, noted_none, noted_more, noted_all}
use Rattle.run_lists.proofs.listing.first_items.Goals as goal

pub loop-run-init : goal.loop-run-init
loop-run-init c = noted_none same_key (λ (r : Run). key_of r.name r.version) (λ (r : Run). r.item) _ _ c.new-seen.ensures.empty c.new-items.ensures

pub loop-run-preserved : goal.loop-run-preserved
loop-run-preserved c =
    noted_more same_key same_key_equiv (λ (r : Run). key_of r.name r.version) (λ (r : Run). r.item) run_of c.args.runs.now c.loop-run.run-index c.run-item.result _ _ _ _
    (omega arith) c.run-item.is c.loop-run.invariant c.in_ok-add_item.ensures.keys c.in_ok-add_item.ensures.items

pub returns : goal.returns
returns c = noted_all same_key (λ (r : Run). key_of r.name r.version) (λ (r : Run). r.item) run_of c.args.runs.now c.loop-run.run-index _ _ (omega (arith, c.loop-run-test.false)) c.loop-run.invariant
