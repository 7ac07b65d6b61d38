use Rattle.std.proofs.Common.{◌≡◌, ◌≢◌, ◌<◌, Option, None, length, sym, ap, subst, ◌∙◌, arith}
use Rattle.host_tree.specs.Entries.{Entries, IsHost}
use Rattle.host_tree.specs.Told.{Told}
use Rattle.host_acts.specs.Scanning.{obstacle_ending}
use Rattle.host_acts.proofs.ScanLemmas.{ReachesTo, scan-all, scan-found, scan-more}
use Rattle.host_acts.proofs.TellsLemmas.{told_map, told_three, told_two}
use Rattle.host_acts.proofs.scanning.scan.Goals as goal

pub returns-in-Some-clause-found : goal.returns-in-Some-clause-found
returns-in-Some-clause-found g c =
    let within : c.loop-end.end < length c.args.path.now = omega (arith, ap length c.as_str-end-end.ensures.value) in
    let seen = subst (λ (o : Option Entries). Told o (λ h. c.in_ok-over.field-0 ≡ obstacle_ending h c.args.path.now c.loop-end.end)) c.loop-end.invariant.kept c.in_ok-over.ensures.found in
    let some : c.in_ok-over.field-0 ≢ None = λ is. cc in
    let whole = subst (λ (o : Option Entries). Told o IsHost) c.loop-end.invariant.kept (c.in_ok-over.ensures.host some) in
    told_three (ReachesTo c.args.path.now c.loop-end.end) (λ h. c.in_ok-over.field-0 ≡ obstacle_ending h c.args.path.now c.loop-end.end) IsHost _
    (λ h reach is host. scan-found c.args.path.now c.loop-end.end h (omega arith) within reach c.in-Some.over (sym c.in-Some.is ∙ is) host) _
    c.loop-end.invariant.reached seen whole

pub loop-end-preserved : goal.loop-end-preserved
loop-end-preserved g c =
    let within : c.loop-end.end < length c.args.path.now = omega (arith, ap length c.as_str-end-end.ensures.value) in
    let seen = subst (λ (o : Option Entries). Told o (λ h. c.in_ok-over.field-0 ≡ obstacle_ending h c.args.path.now c.loop-end.end)) c.loop-end.invariant.kept c.in_ok-over.ensures.found in
    record {
      kept = c.in_ok-over.ensures.kept ∙ c.loop-end.invariant.kept;
      offers = c.in_ok-over.ensures.offers ∙ c.loop-end.invariant.offers;
      unfailed = c.in_ok-over.ensures.cause.unfailed (λ is. cc) ∙ c.loop-end.invariant.unfailed;
      reached = told_two (ReachesTo c.args.path.now c.loop-end.end) (λ h. c.in_ok-over.field-0 ≡ obstacle_ending h c.args.path.now c.loop-end.end) _
          (λ h reach is. scan-more c.args.path.now c.loop-end.end h (omega arith) within reach (sym c.in_default.is ∙ is)) _
          c.loop-end.invariant.reached seen;
    }

pub returns-clause-found : goal.returns-clause-found
returns-clause-found g c =
    told_map (ReachesTo c.args.path.now c.loop-end.end) _
    (λ h reach. scan-all c.args.path.now c.loop-end.end h (omega (arith, ap length c.as_str-end-end.ensures.value)) reach) _ c.loop-end.invariant.reached
