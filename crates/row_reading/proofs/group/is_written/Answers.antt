-- Lists that rise are those of the sets that they make.
use Rattle.std.proofs.Common.{◌≡◌, IfOk, ap, bytes_eq, subst, ◌∙◌}
use Rattle.doc_tree.specs.Written.{text}
use Rattle.row_reading.proofs.TextLemmas.{group_written}
use Rattle.row_reading.proofs.group.is_written.Goals as goal

pub returns-clause-same : goal.returns-clause-same
returns-clause-same c =
    let lists = c.args.lists.now in
    let written = group_written c.args.name.now lists.users lists.clients lists.groups c.as_slice-users.ensures.rising c.as_slice-clients.ensures.rising c.as_slice-groups.ensures.rising in
    subst (λ t. IfOk c.is_text_of-same.result (λ same. same ≡ bytes_eq t c.args.body.now)) (ap text c.in_ok-tree.ensures ∙ written) c.is_text_of-same.ensures.same
