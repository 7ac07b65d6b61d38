use Rattle.std.proofs.Common.{◌∙◌, sym, ap}
use Rattle.std.specs.FinMap as finite
use Rattle.sandboxes.specs.Files.{Kept}
use Rattle.sandboxes.proofs.MapLemmas.{get-seen}
use Rattle.sandboxes.proofs.part.Part.listed.Goals as goal

pub returns : goal.returns
returns c =
    c.get.ensures.value
    ∙ sym (get-seen c.self.inside.sandboxes.entries c.args.id.now)
    ∙ ap (λ (kept : Kept). finite.get kept.holding.sandboxes c.args.id.now) c.self.view_is
