use Rattle.org_rows.proofs.SameLemmas.{rows_tell}
use Rattle.org_rows.proofs.laws.rows_tell_states.Goals as goal

pub returns : goal.returns
returns c = rows_tell
