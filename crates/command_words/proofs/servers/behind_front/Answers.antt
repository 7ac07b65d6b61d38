use Rattle.command_words.proofs.ServerLemmas.{behind_front-strip}
use Rattle.command_words.proofs.servers.behind_front.Goals as goal

pub returns : goal.returns
returns c = behind_front-strip c.args.front.now c.args.text.now c.strip_prefix.result c.strip_prefix.ensures.cases
