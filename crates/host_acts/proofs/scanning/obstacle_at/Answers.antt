use Rattle.std.proofs.Common.{◌≡◌, get_or, rules}
use Rattle.host_tree.specs.Acts.{sight}
use Rattle.host_tree.specs.Entries.{at, has_below}
use Rattle.host_acts.specs.Scanning.{obstacle_ending}
use Rattle.host_acts.proofs.ScanLemmas.{sees-obstacle}
use Rattle.host_acts.proofs.TellsLemmas.{told_map}
use Rattle.host_acts.proofs.scanning.obstacle_at.Goals as goal

pub returns-clause-found : goal.returns-clause-found
returns-clause-found g c =
    let slash : get_or c.args.path.now c.args.end 0 ≡ 47 = search rules in
    told_map (λ h. c.in_ok-seen.seen ≡ sight (has_below h c.in_ok-above.above) (at h c.in_ok-above.above)) (λ h. c.obstacle_of.result ≡ obstacle_ending h c.args.path.now c.args.end)
    (λ h sees. sees-obstacle c.args.path.now c.in_ok-above.above c.args.end h c.in_ok-seen.seen c.obstacle_of.result slash c.in_ok-above.ensures c.obstacle_of.ensures sees) _
    c.in_ok-seen.ensures.seen
