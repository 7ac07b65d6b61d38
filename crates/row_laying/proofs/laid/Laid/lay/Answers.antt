-- It is laid behind those that were laid.
use Rattle.row_laying.proofs.BehindLemmas.{behind_where_ok}
use Rattle.row_laying.proofs.laid.Laid.lay.Goals as goal

pub returns-clause-laid : goal.returns-clause-laid
returns-clause-laid c = behind_where_ok c.lay.result c.args.one _ _ _ _ c.lay.ensures.organisation c.lay.ensures.files
