use Rattle.run_lists.proofs.SpellingLemmas.{before_bracket-strip}
use Rattle.run_lists.proofs.spelling.before_bracket.Goals as goal

pub returns : goal.returns
returns c = before_bracket-strip c.args.text.now c.strip_suffix.result c.strip_suffix.ensures.cases
