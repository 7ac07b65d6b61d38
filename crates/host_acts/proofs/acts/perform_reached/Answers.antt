use Rattle.std.proofs.Common.{◌≡◌, Option, sym, ap, subst, ◌∙◌}
use Rattle.host_tree.specs.Acts.{IsReached, sight}
use Rattle.host_tree.specs.Entries.{Entries, at, has_below}
use Rattle.host_tree.specs.Told.{Tells}
use Rattle.host_acts.specs.Acts.{ActsTo, Updates}
use Rattle.host_acts.specs.Steps.{step_seen}
use Rattle.host_acts.specs.Tasks.{task_at}
use Rattle.host_acts.specs.Works.{work_in}
use Rattle.host_acts.specs.declared.verdict.Verdict.TheVariants.{Failed, UpToDate, Updated}
use Rattle.host_acts.proofs.StepLemmas.{changes_here, fails_here, stays_here}
use Rattle.host_acts.proofs.TellsLemmas.{tells_map, tells_stays, told_both}
use Rattle.host_acts.proofs.acts.perform_reached.Goals as goal

pub returns-in-Fails-clause-act : goal.returns-in-Fails-clause-act
returns-in-Fails-clause-act g c =
    tells_stays (λ h. IsReached h c.args.path.now × (c.in_ok-seen.seen ≡ sight (has_below h c.args.path.now) (at h c.args.path.now)))
    (ActsTo (task_at c.args.path.now (work_in c.args.work.now)) (Failed c.in-Fails.cause))
    (λ h both. fails_here (task_at c.args.path.now (work_in c.args.work.now)) h both.0 c.in-Fails.cause (ap (step_seen (work_in c.args.work.now)) (sym both.1) ∙ sym c.in-Fails.ensures)) _ _
    (told_both _ _ _ c.requires.reached c.in_ok-seen.ensures.seen) c.in_ok-seen.ensures.kept

pub returns-in-Stays-clause-act : goal.returns-in-Stays-clause-act
returns-in-Stays-clause-act g c =
    tells_stays (λ h. IsReached h c.args.path.now × (c.in_ok-seen.seen ≡ sight (has_below h c.args.path.now) (at h c.args.path.now)))
    (ActsTo (task_at c.args.path.now (work_in c.args.work.now)) UpToDate)
    (λ h both. stays_here (task_at c.args.path.now (work_in c.args.work.now)) h both.0 (ap (step_seen (work_in c.args.work.now)) (sym both.1) ∙ sym c.in-Stays.ensures)) _ _
    (told_both _ _ _ c.requires.reached c.in_ok-seen.ensures.seen) c.in_ok-seen.ensures.kept

pub returns-clause-act : goal.returns-clause-act
returns-clause-act g c =
    let task = task_at c.args.path.now (work_in c.args.work.now) in
    tells_map (λ h. IsReached h c.args.path.now × (c.in_ok-seen.seen ≡ sight (has_below h c.args.path.now) (at h c.args.path.now))) (Updates task) (ActsTo task Updated)
    (λ h n both updates. let due = changes_here task h both.0 (ap (step_seen (work_in c.args.work.now)) (sym both.1) ∙ sym c.in-Changes.ensures) in (due.0, due.1, updates)) _ _
    (told_both _ _ _ c.requires.reached c.in_ok-seen.ensures.seen)
    (subst (λ (o : Option Entries). Tells (Updates task) o (g.H.Host.tells c.change.new.host)) c.in_ok-seen.ensures.kept c.in_ok-change-in-Changes.ensures.ok)
