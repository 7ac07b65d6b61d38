-- A compact text is UTF-8.
use Rattle.row_reading.proofs.BodyLemmas.{compact_utf8}
use Rattle.row_reading.proofs.bodies.tree_in.Goals as goal

pub returns-in-Err : goal.returns-in-Err
returns-in-Err c compact = absurd (c.in-Err.ensures.cases.0 (compact_utf8 c.args.body.now compact))
