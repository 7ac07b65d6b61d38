use Rattle.search_query.proofs.BracketLemmas.{before_bracket-strip}
use Rattle.search_query.proofs.flatten.before_bracket.Goals as goal

pub returns : goal.returns
returns c = before_bracket-strip c.args.text.now c.strip_suffix.result c.strip_suffix.ensures.cases
