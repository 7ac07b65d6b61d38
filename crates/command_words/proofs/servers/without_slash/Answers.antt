use Rattle.command_words.proofs.ServerLemmas.{without_slash-none}
use Rattle.command_words.proofs.servers.without_slash.Goals as goal

pub returns-in-None : goal.returns-in-None
returns-in-None c = without_slash-none c.args.text.now c.in-None.ensures.cases
