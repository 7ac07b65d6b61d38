use Rattle.run_lists.proofs.SpellingLemmas.{behind_front-strip}
use Rattle.run_lists.proofs.spelling.behind_front.Goals as goal

pub returns : goal.returns
returns c = behind_front-strip c.args.front.now c.args.text.now c.strip_prefix.result c.strip_prefix.ensures.cases
