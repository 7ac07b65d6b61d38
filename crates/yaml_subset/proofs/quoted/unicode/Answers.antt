use Rattle.yaml_subset.proofs.QuotedLemmas.{unicode_some}
use Rattle.yaml_subset.proofs.quoted.unicode.Goals as goal

pub returns-in-Some : goal.returns-in-Some
returns-in-Some c = unicode_some c.args.text.now c.in-Some.code _ c.in-len4-up.len_at_least c.in-Some.ensures.value c.character.ensures
