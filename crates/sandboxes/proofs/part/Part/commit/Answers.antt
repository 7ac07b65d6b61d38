use Rattle.std.proofs.Common.{◌≡◌, None, option_map, ◌∙◌, sym, ap, subst}
use Rattle.std.specs.FinMap as finite
use Rattle.sandboxes.specs.Files.{Kept}
use Rattle.sandboxes.specs.Sandboxes.{AreNamed, missing, missing_from, committed}
use Rattle.sandboxes.proofs.HoldingLemmas.{committed_to}
use Rattle.sandboxes.proofs.MapLemmas.{seen, get-seen, seen-remove}
use Rattle.sandboxes.proofs.StockLemmas.{AreNamed-committed}
use Rattle.sandboxes.proofs.part.Part.commit.Goals as goal

pub invariant_of-self : goal.invariant_of-self
invariant_of-self c =
    subst AreNamed (sym c.mark_committed.ensures.files) (AreNamed-committed c.in-Some.sums (seen c.self.inside.files.entries) c.self.invariant)

pub returns-in-Some-clause-holding : goal.returns-in-Some-clause-holding
returns-in-Some-clause-holding c =
    committed_to c.args.id.now c.in-Some.sums (record { files = seen c.self.inside.files.entries; sandboxes = seen c.self.inside.sandboxes.entries; count = c.self.inside.count })
    (seen c.mark_committed.new.files.entries) (seen c.swap_remove.new.self.entries)
    (get-seen c.self.inside.sandboxes.entries c.args.id.now ∙ sym c.in-Some.ensures.value)
    c.mark_committed.ensures.files
    (seen-remove c.self.inside.sandboxes.entries c.swap_remove.new.self.entries c.args.id.now c.in-Some.ensures.updates.0)
    ∙ ap (λ (kept : Kept). committed c.args.id.now kept.holding) c.self.view_is

pub returns-in_default-clause-holding : goal.returns-in_default-clause-holding
returns-in_default-clause-holding c =
    let none : finite.get c.args.self.now.holding.sandboxes c.args.id.now ≡ None =
    sym (ap (λ (kept : Kept). finite.get kept.holding.sandboxes c.args.id.now) c.self.view_is)
    ∙ get-seen c.self.inside.sandboxes.entries c.args.id.now ∙ sym c.in_default.ensures.value in
    let nothing : missing_from c.args.self.now.holding c.args.id.now ≡ None = ap (option_map (missing c.args.self.now.holding)) none in
    absurd (cc)
