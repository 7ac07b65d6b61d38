-- The slash that is found is the first one.
use Rattle.std.proofs.Common.{arith}
use Rattle.std.proofs.lemmas.Str.Pattern.{split_once_first}
use Rattle.row_reading.proofs.NameLemmas.{split_told}
use Rattle.row_reading.proofs.names.split_at_slash.Goals as goal

pub returns : goal.returns
returns c = split_told c.args.name.now c.split_once.result (split_once_first 47 c.args.name.now c.split_once.result c.split_once.ensures.cases (omega arith))
