use Rattle.std.proofs.Common.{◌∙◌, sym, ap}
use Rattle.sandboxes.specs.Files.{Kept}
use Rattle.sandboxes.specs.Sums.{lists}
use Rattle.sandboxes.specs.Sandboxes.{awaits}
use Rattle.sandboxes.proofs.MapLemmas.{list_any-seen}
use Rattle.sandboxes.proofs.part.Part.awaits.Goals as goal

pub returns : goal.returns
returns c =
    c.any_lists.ensures.lists
    ∙ sym (list_any-seen (λ sums. lists sums c.args.sum.now) c.self.inside.sandboxes.entries c.any_lists.ensures.unique)
    ∙ ap (λ (kept : Kept). awaits kept.holding c.args.sum.now) c.self.view_is
