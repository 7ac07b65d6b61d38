use Rattle.std.proofs.Common.{arith}
use Rattle.command_words.proofs.ServerLemmas.{rsplit_once-char}
use Rattle.command_words.proofs.servers.parted.Goals as goal

pub returns : goal.returns
returns c = rsplit_once-char 58 c.args.text.now c.rsplit_once.result c.rsplit_once.ensures.cases (omega arith)
