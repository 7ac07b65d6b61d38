-- What comes of the row says what it says, or why it is bad.
use Rattle.std.proofs.Common.{sym, ◌∙◌}
use Rattle.outside_keeper.specs.Rows.{row_key}
use Rattle.row_reading.proofs.RowLemmas.{bad_ok, said_ok}
use Rattle.row_reading.proofs.row.read_row.Goals as goal

pub returns-in-Some-clause-said : goal.returns-in-Some-clause-said
returns-in-Some-clause-said c =
    said_ok (row_key c.args.org.now c.args.kind.now c.args.name.now) c.args.body c.in-Some.kind (sym c.kind_named.ensures ∙ c.in-Some.is) c.read_named.result c.read_named.ensures

pub returns-in-Some-clause-reason : goal.returns-in-Some-clause-reason
returns-in-Some-clause-reason c =
    bad_ok (row_key c.args.org.now c.args.kind.now c.args.name.now) c.args.body c.in-Some.kind (sym c.kind_named.ensures ∙ c.in-Some.is) c.read_named.result c.read_named.ensures
