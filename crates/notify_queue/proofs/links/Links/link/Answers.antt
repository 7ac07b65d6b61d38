-- A new place is put last, and one that was ever queued is passed over.
use Rattle.std.proofs.Common.{◌∙◌, ap, get_or, sym}
use Rattle.notify_queue.proofs.LinkLemmas.{link_new, link_old}
use Rattle.notify_queue.specs.Linked.{is_never, never}
use Rattle.notify_queue.proofs.links.Links.link.Goals as goal

pub returns-then-is_new-clause-linked : goal.returns-then-is_new-clause-linked
returns-then-is_new-clause-linked c =
    link_new c.args.self.now c.put_last.new.self c.args.place (ap (λ t. is_never (get_or t c.args.place never)) (sym c.deref.ensures.value) ∙ sym c.is_new.ensures ∙ c.if-is_new.true) c.requires c.put_last.ensures

pub returns-else-is_new-clause-linked : goal.returns-else-is_new-clause-linked
returns-else-is_new-clause-linked c =
    link_old c.args.self.now c.args.place (ap (λ t. is_never (get_or t c.args.place never)) (sym c.deref.ensures.value) ∙ sym c.is_new.ensures ∙ c.if-is_new.false) c.requires
