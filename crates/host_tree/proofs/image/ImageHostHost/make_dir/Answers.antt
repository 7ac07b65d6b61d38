use Rattle.std.proofs.Common.{List, ℕ, subst, sym}
use Rattle.host_tree.specs.Acts.{CanMake}
use Rattle.host_tree.specs.declared.entry.Entry.TheVariants.{Directory}
use Rattle.host_tree.proofs.EntryLemmas.{can_put-made}
use Rattle.host_tree.proofs.image.ImageHostHost.make_dir.Goals as goal

pub put-requires-clause-fits : goal.put-requires-clause-fits
put-requires-clause-fits c = can_put-made c.as_text.result.now (Directory c.known-mode.result) c.args.self.now (subst (λ (p : List ℕ). CanMake c.args.self.now p) (sym c.as_text.ensures.value) c.requires)
