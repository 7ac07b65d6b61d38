use Rattle.http_wire.proofs.SplitsLemmas.{Splits-unique}
use Rattle.http_wire.proofs.laws.one_split.Goals as goal

pub returns : goal.returns
returns c = Splits-unique
