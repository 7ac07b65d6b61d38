use Rattle.std.proofs.Common.{sym, ap, ◌∙◌}
use Rattle.host_tree.specs.Entries.{Entries, at}
use Rattle.host_tree.proofs.KeptLemmas.{at-kept_in}
use Rattle.host_tree.proofs.image.ImageHost.held.Goals as goal

pub returns-clause-value : goal.returns-clause-value
returns-clause-value c =
    c.get.ensures.value ∙ sym (at-kept_in c.self.inside.entries c.args.path.now)
    ∙ ap (λ (h : Entries). at h c.args.path.now) c.self.view_is
