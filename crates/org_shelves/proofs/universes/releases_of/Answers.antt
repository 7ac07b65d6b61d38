-- One more release.
use Rattle.org_shelves.proofs.UniverseLemmas.{releases_more}
use Rattle.org_shelves.proofs.universes.releases_of.Goals as goal

pub loop-version-preserved : goal.loop-version-preserved
loop-version-preserved c =
    releases_more c.args.entries.now c.loop-version.version-index c.loop-version-item.result c.loop-version.releases.items _ _ c.loop-version-test.true c.loop-version-item.is c.in_ok-release_of.ensures c.in_ok-push.ensures.items c.loop-version.invariant
