use Rattle.knife_core.proofs.steps.change_asked.Goals as goal

pub returns : goal.returns
returns c = λ next. c.asked_of.ensures _ next c.changed_request-read.ensures
