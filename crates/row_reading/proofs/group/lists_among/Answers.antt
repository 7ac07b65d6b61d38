-- The members are those of the three lists.
use Rattle.std.proofs.Common.{codes, sym, ◌∙◌}
use Rattle.doc_tree.specs.Tree.{doc_of}
use Rattle.org_rows.specs.Reading.{texts_at}
use Rattle.row_reading.proofs.TextLemmas.{members_found}
use Rattle.row_reading.proofs.group.lists_among.Goals as goal

pub returns-in-Some-3 : goal.returns-in-Some-3
returns-in-Some-3 c =
    let doc = doc_of c.args.actors.now in
    members_found c.in-Some.clients c.in-Some-2.groups c.in-Some-3.users (texts_at (codes "clients") doc) (texts_at (codes "groups") doc) (texts_at (codes "users") doc)
    (sym c.in-Some.is ∙ c.in_ok-clients.ensures) (sym c.in-Some-2.is ∙ c.in_ok-groups.ensures) (sym c.in-Some-3.is ∙ c.in_ok-users.ensures)
