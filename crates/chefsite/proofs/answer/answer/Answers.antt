-- What the status says tells of the rest, and of what is complete.
use Rattle.chefsite.proofs.EndingLemmas.{tells_rest, is_complete}
use Rattle.chefsite.proofs.answer.answer.Goals as goal

pub returns-in-Ok-clause-rest : goal.returns-in-Ok-clause-rest
returns-in-Ok-clause-rest g c = tells_rest _ _ _ _ _ c.answer_in.ensures.says

pub returns-in-Ok-clause-complete : goal.returns-in-Ok-clause-complete
returns-in-Ok-clause-complete g c =
    is_complete _ _ _ _ _ _ _ _ _ c.answer_in.ensures.says c.answer_in.ensures.cause
