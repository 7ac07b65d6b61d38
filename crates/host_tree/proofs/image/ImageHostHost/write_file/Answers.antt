use Rattle.std.proofs.Common.{List, ℕ, subst, sym}
use Rattle.host_tree.specs.Acts.{CanWrite}
use Rattle.host_tree.specs.declared.entry.Entry.TheVariants.{File}
use Rattle.host_tree.proofs.EntryLemmas.{can_put-written}
use Rattle.host_tree.proofs.image.ImageHostHost.write_file.Goals as goal

pub put-requires-clause-fits : goal.put-requires-clause-fits
put-requires-clause-fits c = can_put-written c.as_text.result.now (File c.in_ok-content.content c.file_mode-mode.result) c.args.self.now (subst (λ (p : List ℕ). CanWrite c.args.self.now p) (sym c.as_text.ensures.value) c.requires)
