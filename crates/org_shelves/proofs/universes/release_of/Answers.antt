-- Version and needs tell the release.
use Rattle.org_shelves.proofs.UniverseLemmas.{release_is}
use Rattle.org_shelves.proofs.universes.release_of.Goals as goal

pub returns : goal.returns
returns c = release_is c.in_ok-release.release c.args.version c.args.edition.now c.in_ok-release.ensures.version c.in_ok-release.ensures.needs
