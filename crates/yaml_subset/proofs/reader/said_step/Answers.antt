use Rattle.std.proofs.Common.{◌≡◌, Option, IfOk, sym, subst}
use Rattle.std.specs.Bool.{then_some}
use Rattle.yaml_subset.specs.declared.reader.Reader.{Reader}
use Rattle.yaml_subset.proofs.MachineLemmas.{goes, said_goes, said_stops, stops}
use Rattle.yaml_subset.proofs.reader.said_step.Goals as goal

pub returns-then-branch : goal.returns-then-branch
returns-then-branch c =
    subst (λ (o : Option Reader). IfOk c.enter.result (λ on. then_some on c.enter.new.reader ≡ o))
    (said_goes c.args.said c.args.reader.now.blocks c.run_heads.new.blocks c.is_lone-lone.result c.is_lone-lone.ensures (goes _ _ _ c.in_ok-run_heads.ensures c.if-branch.true)) c.enter.ensures

pub returns-else-branch : goal.returns-else-branch
returns-else-branch c = sym (said_stops c.args.said c.args.reader.now.blocks (stops _ _ _ c.in_ok-run_heads.ensures c.if-branch.false))
