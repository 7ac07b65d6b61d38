use Rattle.http_wire.proofs.SplitsLemmas.{BeginsAll-whole}
use Rattle.http_wire.proofs.laws.whole_stream.Goals as goal

pub returns : goal.returns
returns c place bytes ms rest s = BeginsAll-whole place bytes ms rest s.whole
