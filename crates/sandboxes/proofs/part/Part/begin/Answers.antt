use Rattle.std.proofs.Common.{◌∙◌, ap, arith}
use Rattle.std.specs.FinMap as finite
use Rattle.sandboxes.specs.Files.{Kept}
use Rattle.sandboxes.specs.Sandboxes.{begun}
use Rattle.sandboxes.proofs.HoldingLemmas.{begun_next}
use Rattle.sandboxes.proofs.MapLemmas.{seen}
use Rattle.sandboxes.proofs.part.Part.begin.Goals as goal

pub returns-clause-holding : goal.returns-clause-holding
returns-clause-holding c =
    begun_next c.args.org.now c.args.sums (record { files = seen c.self.inside.files.entries; sandboxes = seen c.self.inside.sandboxes.entries; count = c.self.inside.count })
    c.in-Some.count (seen c.put.new.map.entries) c.in-Some.ensures.1 (omega (arith, c.in-Some.ensures.0, c.in-Some.ensures.1))
    (c.put.ensures.entries ∙ ap (λ id. finite.insert (seen c.self.inside.sandboxes.entries) id c.args.sums) c.sandbox_id-id.ensures)
    ∙ ap (λ (kept : Kept). begun c.args.org.now c.args.sums kept.holding) c.self.view_is
