use Rattle.std.proofs.Common.{◌≡◌, rules, get_or}
use Rattle.host_tree.specs.Acts.{CanMake, with_directory}
use Rattle.host_acts.specs.Changes.{MakesPrefix}
use Rattle.host_acts.proofs.TellsLemmas.{on_ok_made}
use Rattle.host_acts.proofs.BuiltLemmas.{makes_prefix}
use Rattle.host_acts.proofs.prefixes.make_prefix.Goals as goal

pub returns-clause-ok : goal.returns-clause-ok
returns-clause-ok g c =
    let slash : get_or c.args.path.now c.args.end 0 ≡ 47 = search rules in
    on_ok_made (λ h. CanMake h _) (MakesPrefix c.args.path.now c.args.end) (with_directory c.in_ok-prefix.prefix)
    (λ h _. makes_prefix c.args.path.now c.in_ok-prefix.prefix c.args.end h c.in_ok-prefix.ensures slash) _ _ c.make_dir.result (c.requires.missing slash) c.make_dir.ensures.ok
