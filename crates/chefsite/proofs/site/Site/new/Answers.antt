-- Nobody is there at first.
use Rattle.chefsite.proofs.SiteLemmas.{nobody_in}
use Rattle.chefsite.proofs.site.Site.new.Goals as goal

pub returns : goal.returns
returns c = nobody_in c.new.result c.new.ensures
