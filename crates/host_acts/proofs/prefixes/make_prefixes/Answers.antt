use Rattle.std.proofs.Common.{◌+◌, ◌<◌, length, take, refl, ap, ◌∙◌, arith}
use Rattle.host_tree.specs.Acts.{CanMake}
use Rattle.host_acts.specs.Changes.{BuiltUpTo, MakesPrefix}
use Rattle.host_acts.specs.Scanning.{BreaksAt}
use Rattle.host_acts.proofs.BuiltLemmas.{built-none, built_more, can_make}
use Rattle.host_acts.proofs.TellsLemmas.{tells_stays, tells_then, told_then}
use Rattle.host_acts.proofs.prefixes.make_prefixes.Goals as goal

pub loop-end-init : goal.loop-end-init
loop-end-init g c = record {
  built = tells_stays (λ h. BreaksAt h c.args.path.now c.args.found) (BuiltUpTo c.args.path.now c.args.found.end) (λ h breaks. built-none c.args.path.now c.args.found h breaks) _ _ c.requires.broken refl;
  offers = refl;
  unfailed = refl;
}

pub make_prefix-requires-clause-missing : goal.make_prefix-requires-clause-missing
make_prefix-requires-clause-missing g c slash =
    let within : c.loop-end.end < length c.args.path.now = omega (arith, ap length c.as_str-end-end.ensures.value) in
    told_then (λ h. BreaksAt h c.args.path.now c.args.found) (BuiltUpTo c.args.path.now c.loop-end.end) (λ m. CanMake m (take c.loop-end.end c.args.path.now))
    (λ h m breaks built. can_make c.args.path.now c.args.found h m c.loop-end.end breaks c.requires.missing built c.loop-end.auto.end within slash) _ _
    c.requires.broken c.loop-end.invariant.built

pub loop-end-preserved : goal.loop-end-preserved
loop-end-preserved g c =
    let within : c.loop-end.end < length c.args.path.now = omega (arith, ap length c.as_str-end-end.ensures.value) in
    record {
      built = tells_then (λ h. BreaksAt h c.args.path.now c.args.found) (BuiltUpTo c.args.path.now c.loop-end.end) (MakesPrefix c.args.path.now c.loop-end.end) (BuiltUpTo c.args.path.now (c.loop-end.end + 1))
          (λ h m n breaks built makes. built_more c.args.path.now c.args.found h m c.loop-end.end breaks c.requires.missing built c.loop-end.auto.end within n makes) _ _ _
          c.requires.broken c.loop-end.invariant.built c.in_ok-make_prefix.ensures.ok;
      offers = c.in_ok-make_prefix.ensures.offers ∙ c.loop-end.invariant.offers;
      unfailed = c.in_ok-make_prefix.ensures.cause.unfailed (λ is. cc) ∙ c.loop-end.invariant.unfailed;
    }
