-- What is served is permitted exactly, and a refusal changes nothing of what the finder holds.
use Rattle.std.proofs.Common.{sym, ap, ◌∙◌}
use Rattle.org_requests.specs.declared.replies.Reply.{Reply}
use Rattle.org_core.specs.FullStates.{full_in}
use Rattle.org_machine.specs.Marks.{mark_of, answer}
use Rattle.org_machine.proofs.FindingLemmas.{held_stays, refused_moves}
use Rattle.org_machine.proofs.PermittingLemmas.{permitted_exactly}
use Rattle.org_machine.proofs.serving.serve.Goals as goal

pub returns-clause-permitted : goal.returns-clause-permitted
returns-clause-permitted g c =
    let same = c.settle.ensures.reply in
    permitted_exactly c.args.request.now c.settle.result (full_in c.args.state.now c.args.files.now)
    (same ∙ c.prepare-ready.ensures.reply ∙ ap (λ (r : Reply). answer (mark_of r) c.args.request.now (full_in c.args.state.now c.args.files.now)) (sym same))

pub returns-clause-held : goal.returns-clause-held
returns-clause-held g c = λ refused.
    c.settle.ensures.held
    ∙ held_stays _ _ _ _ _ (refused_moves c.settle.result c.prepare-ready.result.reply c.prepare-ready.result.moves c.settle.ensures.reply c.prepare-ready.ensures.made refused) c.prepare-ready.ensures.changes
    ∙ c.prepare-ready.ensures.held
