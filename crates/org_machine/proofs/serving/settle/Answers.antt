-- The files are those that the moves lead to.
use Rattle.std.proofs.Common.{◌≡◌, List, ℕ, is_some, sym, ap, subst, ◌∙◌}
use Rattle.sandboxes.specs.Files.{holding_of}
use Rattle.org_core.specs.FileMoves.{after_all}
use Rattle.org_core.specs.FullStates.{full_in, MeetsFileConditions}
use Rattle.org_core.specs.States.{state_in}
use Rattle.org_machine.proofs.FindingLemmas.{exact_after, others_after, settled_exact, settled_others}
use Rattle.org_machine.proofs.serving.settle.Goals as goal

pub returns-clause-files : goal.returns-clause-files
returns-clause-files g c =
    let org : List ℕ = c.args.state.now.name in
    let files : holding_of c.make_all.new.files c.make_all.new.self.name ≡ (after_all org c.args.ready.moves (full_in c.args.state.now c.args.files.now)).files =
    ap (λ name. holding_of c.make_all.new.files name) c.make_all.ensures.name ∙ c.make_all.ensures.files in
    let same : full_in c.make_all.new.self c.make_all.new.files ≡ after_all org c.args.ready.moves (full_in c.args.state.now c.args.files.now) =
    λ i. record { state = c.make_all.ensures.state i; files = files i } in
    subst MeetsFileConditions (sym same) c.requires.files

pub returns-clause-exact : goal.returns-clause-exact
returns-clause-exact g c =
    exact_after _ _ _ _ _ _ c.make_changes.ensures.held c.make_all.ensures.name c.make_all.ensures.state
    (settled_exact _ c.args.state.now.name c.args.ready.moves c.args.ready.changes (state_in c.args.state.now) c.requires.exact c.requires.changes)

pub returns-clause-held_of_others : goal.returns-clause-held_of_others
returns-clause-held_of_others g c =
    others_after c.args.state.now.name _ _ _ c.make_changes.ensures.held
    (settled_others _ c.args.state.now.name (is_some (state_in c.args.state.now)) c.args.ready.moves c.args.ready.changes c.requires.changes)
