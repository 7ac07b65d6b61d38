use Rattle.std.proofs.Common.{◌≡◌, Some, ◌∙◌, sym, ap}
use Rattle.std.specs.FinMap as finite
use Rattle.sandboxes.specs.Files.{Kept}
use Rattle.sandboxes.proofs.MapLemmas.{seen, get-seen}
use Rattle.sandboxes.proofs.part.Part.file.Goals as goal

pub returns-in-Some-clause-file : goal.returns-in-Some-clause-file
returns-in-Some-clause-file c =
    c.in-Some.ensures.value
    ∙ sym (get-seen c.self.inside.files.entries c.args.sum.now)
    ∙ ap (λ (kept : Kept). finite.get kept.holding.files c.args.sum.now) c.self.view_is

pub returns-in-Some-clause-named : goal.returns-in-Some-clause-named
returns-in-Some-clause-named c =
    let there : finite.get (seen c.self.inside.files.entries) c.args.sum.now ≡ Some c.in-Some.stored.now =
    get-seen c.self.inside.files.entries c.args.sum.now ∙ sym c.in-Some.ensures.value in
    c.self.invariant c.args.sum.now c.in-Some.stored.now there

pub returns-in-None-clause-file : goal.returns-in-None-clause-file
returns-in-None-clause-file c =
    c.in-None.ensures.value
    ∙ sym (get-seen c.self.inside.files.entries c.args.sum.now)
    ∙ ap (λ (kept : Kept). finite.get kept.holding.files c.args.sum.now) c.self.view_is
