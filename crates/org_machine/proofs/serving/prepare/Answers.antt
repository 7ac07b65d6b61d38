-- What was prepared is the step's, or tells of want of memory.
use Rattle.std.proofs.Common.{◌≡◌, ℕ, List, [], Option, unwrap_or, sym, ap, subst, ◌∙◌}
use Rattle.org_core.specs.FileMoves.{after_all}
use Rattle.org_core.specs.FullStates.{FullState, full_in, MeetsFileConditions}
use Rattle.org_core.specs.Conditions.{MeetsConditions}
use Rattle.org_core.specs.Moves.{after_moves}
use Rattle.org_machine.proofs.FileKeepingLemmas.{after_keeps_files}
use Rattle.org_machine.specs.Marks.{after, mark_of, own_name}
use Rattle.org_machine.proofs.KeepingLemmas.{after_keeps}
use Rattle.org_machine.proofs.PreparedLemmas.{is_prepared}
use Rattle.org_machine.proofs.serving.prepare.Goals as goal

pub returns-clause-reply : goal.returns-clause-reply
returns-clause-reply g c = (is_prepared _ c.prepare_step.result c.args.request.now (full_in c.args.state.now c.args.files.now) c.prepare_step.new.state _ _ _ c.prepare_step.ensures.done).reply

pub returns-clause-lawful : goal.returns-clause-lawful
returns-clause-lawful g c = (is_prepared _ c.prepare_step.result c.args.request.now (full_in c.args.state.now c.args.files.now) c.prepare_step.new.state _ _ _ c.prepare_step.ensures.done).lawful

pub returns-clause-moves : goal.returns-clause-moves
returns-clause-moves g c = (is_prepared _ c.prepare_step.result c.args.request.now (full_in c.args.state.now c.args.files.now) c.prepare_step.new.state _ _ _ c.prepare_step.ensures.done).moves

pub returns-clause-made : goal.returns-clause-made
returns-clause-made g c = (is_prepared _ c.prepare_step.result c.args.request.now (full_in c.args.state.now c.args.files.now) c.prepare_step.new.state _ _ _ c.prepare_step.ensures.done).made

pub returns-clause-room : goal.returns-clause-room
returns-clause-room g c = (is_prepared _ c.prepare_step.result c.args.request.now (full_in c.args.state.now c.args.files.now) c.prepare_step.new.state _ _ _ c.prepare_step.ensures.done).room

pub returns-clause-looks : goal.returns-clause-looks
returns-clause-looks g c = (is_prepared _ c.prepare_step.result c.args.request.now (full_in c.args.state.now c.args.files.now) c.prepare_step.new.state _ _ _ c.prepare_step.ensures.done).looks

pub returns-clause-conditions : goal.returns-clause-conditions
returns-clause-conditions g c =
    let done = is_prepared _ c.prepare_step.result c.args.request.now (full_in c.args.state.now c.args.files.now) c.prepare_step.new.state _ _ _ c.prepare_step.ensures.done in
    subst MeetsConditions (sym (ap (λ (full : FullState). after_moves c.prepare_step.result.moves full.state) c.prepare_step.ensures.same ∙ ap (λ (full : FullState). full.state) done.moves))
    (after_keeps (mark_of c.prepare_step.result.reply) c.args.request.now (full_in c.args.state.now c.args.files.now) c.meets_conditions.ensures)

pub returns-clause-files_then : goal.returns-clause-files_then
returns-clause-files_then g c =
    let done = is_prepared _ c.prepare_step.result c.args.request.now (full_in c.args.state.now c.args.files.now) c.prepare_step.new.state _ _ _ c.prepare_step.ensures.done in
    let name : c.prepare_step.new.state.name ≡ own_name c.args.request.now = c.prepare_step.ensures.name ∙ sym (ap (λ (org : Option (List ℕ)). unwrap_or org []) c.requires.of) in
    let then : after_all c.prepare_step.new.state.name c.prepare_step.result.moves (full_in c.prepare_step.new.state c.prepare_step.new.files)
    ≡ after (mark_of c.prepare_step.result.reply) c.args.request.now (full_in c.args.state.now c.args.files.now) =
    (λ i. after_all (name i) c.prepare_step.result.moves (c.prepare_step.ensures.same i)) ∙ done.moves in
    subst MeetsFileConditions (sym then) (after_keeps_files (mark_of c.prepare_step.result.reply) c.args.request.now (full_in c.args.state.now c.args.files.now) c.requires.files)
