use Rattle.query_text.proofs.Runs as runs
use Rattle.query_text.proofs.laws.one_query.Goals as goal

pub returns : goal.returns
returns c = runs.one_query
