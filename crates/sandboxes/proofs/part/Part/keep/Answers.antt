use Rattle.std.proofs.Common.{false, is_some, ◌∙◌, sym, ap, subst}
use Rattle.sandboxes.specs.Files.{Kept}
use Rattle.sandboxes.specs.Sandboxes.{AreNamed, has_file, with_file}
use Rattle.sandboxes.proofs.HoldingLemmas.{with_file_new, with_file_there}
use Rattle.sandboxes.proofs.MapLemmas.{seen, get-seen}
use Rattle.sandboxes.proofs.StockLemmas.{AreNamed-insert}
use Rattle.sandboxes.proofs.part.Part.keep.Goals as goal

pub invariant_of-self : goal.invariant_of-self
invariant_of-self c =
    subst AreNamed (sym c.put.ensures.entries)
    (AreNamed-insert (seen c.self.inside.files.entries) c.args.sum (record { file = c.args.file; committed = false }) c.requires.named c.self.invariant)

pub returns-then-not-contains_key-clause-holding : goal.returns-then-not-contains_key-clause-holding
returns-then-not-contains_key-clause-holding c =
    with_file_new c.args.sum c.args.file (record { files = seen c.self.inside.files.entries; sandboxes = seen c.self.inside.sandboxes.entries; count = c.self.inside.count })
    (seen c.put.new.map.entries)
    (ap is_some (get-seen c.self.inside.files.entries c.args.sum) ∙ sym c.contains_key.ensures ∙ c.if-not-contains_key.true)
    c.put.ensures.entries
    ∙ ap (λ (kept : Kept). with_file c.args.sum c.args.file kept.holding) c.self.view_is

pub returns-else-not-contains_key-clause-holding : goal.returns-else-not-contains_key-clause-holding
returns-else-not-contains_key-clause-holding c =
    with_file_there c.args.sum c.args.file c.args.self.now.holding
    (sym (ap (λ (kept : Kept). has_file kept.holding c.args.sum) c.self.view_is)
    ∙ ap is_some (get-seen c.self.inside.files.entries c.args.sum) ∙ sym c.contains_key.ensures ∙ c.if-not-contains_key.false)
