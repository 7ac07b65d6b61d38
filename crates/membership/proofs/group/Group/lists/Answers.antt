use Rattle.std.proofs.Common.{sym, ap, ◌∙◌}
use Rattle.std.specs.FinSet as set
use Rattle.doc_tree.specs.Text.{text_cmp}
use Rattle.membership.specs.TextSets.{Names}
use Rattle.membership.proofs.group.Group.lists.Goals as goal

pub returns-else-lists_any : goal.returns-else-lists_any
returns-else-lists_any c =
    c.if-lists_any.false
    ∙ sym (ap (λ (names : Names). set.contains names c.args.name.now) (c.lists_any.ensures c.if-lists_any.false) ∙ set.contains-empty text_cmp c.args.name.now)
