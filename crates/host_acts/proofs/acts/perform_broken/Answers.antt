use Rattle.std.proofs.Common.{length, refl, sym}
use Rattle.host_tree.specs.Acts.{IsReached}
use Rattle.host_tree.specs.Told.{Tells}
use Rattle.host_acts.specs.Acts.{ActsTo}
use Rattle.host_acts.specs.Changes.{BuiltUpTo}
use Rattle.host_acts.specs.Scanning.{BreaksAt}
use Rattle.host_acts.specs.Tasks.{task_at}
use Rattle.host_acts.specs.Works.{work_in}
use Rattle.host_acts.specs.declared.verdict.Verdict.TheVariants.{Failed, UpToDate}
use Rattle.host_acts.proofs.BuiltLemmas.{built_reached, built_then, makes_over, missing_over}
use Rattle.host_acts.proofs.StepLemmas.{changes-over, fails_over, stays_over}
use Rattle.host_acts.proofs.TellsLemmas.{if_ok, tells_stays, tells_then, told_then}
use Rattle.host_acts.proofs.acts.perform_broken.Goals as goal

pub perform_reached-requires-clause-reached : goal.perform_reached-requires-clause-reached
perform_reached-requires-clause-reached g c =
    let both = changes-over (work_in c.args.work.now) c.args.found.over (sym c.in-Changes.ensures) in
    told_then (λ h. BreaksAt h c.args.path.now c.args.found) (BuiltUpTo c.args.path.now (length c.args.path.now)) (λ h. IsReached h c.args.path.now)
    (λ h m breaks built. built_reached (task_at c.args.path.now (work_in c.args.work.now)) h m c.args.found breaks (missing_over _ _ both.0 both.1) (makes_over _ _ both.0 both.1) built) _ _
    c.requires.broken c.in_ok-make_prefixes-in-Changes.ensures.ok

pub returns-in-Stays-clause-act : goal.returns-in-Stays-clause-act
returns-in-Stays-clause-act g c =
    tells_stays (λ h. BreaksAt h c.args.path.now c.args.found) (ActsTo (task_at c.args.path.now (work_in c.args.work.now)) UpToDate)
    (λ h breaks. stays_over (task_at c.args.path.now (work_in c.args.work.now)) h c.args.found breaks (sym c.in-Stays.ensures)) _ _ c.requires.broken refl

pub returns-in-Fails-clause-act : goal.returns-in-Fails-clause-act
returns-in-Fails-clause-act g c =
    tells_stays (λ h. BreaksAt h c.args.path.now c.args.found) (ActsTo (task_at c.args.path.now (work_in c.args.work.now)) (Failed c.in-Fails.cause))
    (λ h breaks. fails_over (task_at c.args.path.now (work_in c.args.work.now)) h c.args.found breaks c.in-Fails.cause (sym c.in-Fails.ensures)) _ _ c.requires.broken refl

pub returns-in_ok-make_prefixes-in-Changes-clause-act : goal.returns-in_ok-make_prefixes-in-Changes-clause-act
returns-in_ok-make_prefixes-in-Changes-clause-act g c =
    let both = changes-over (work_in c.args.work.now) c.args.found.over (sym c.in-Changes.ensures) in
    let task = task_at c.args.path.now (work_in c.args.work.now) in
    if_ok (λ v. Tells (ActsTo task v) (g.H.Host.tells c.make_prefixes.new.host) (g.H.Host.tells c.perform_reached.new.host)) (λ v. Tells (ActsTo task v) (g.H.Host.tells c.args.host.now) (g.H.Host.tells c.perform_reached.new.host)) c.perform_reached.result
    (λ v act. tells_then (λ h. BreaksAt h c.args.path.now c.args.found) (BuiltUpTo c.args.path.now (length c.args.path.now)) (ActsTo task v) (ActsTo task v)
    (λ h m n breaks built done. built_then task h m c.args.found breaks (missing_over _ _ both.0 both.1) (makes_over _ _ both.0 both.1) built v n done) _ _ _
    c.requires.broken c.in_ok-make_prefixes-in-Changes.ensures.ok act)
    c.perform_reached.ensures.act
