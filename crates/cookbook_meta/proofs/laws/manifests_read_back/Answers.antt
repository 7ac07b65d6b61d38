use Rattle.cookbook_meta.proofs.ReadBackLemmas.{manifests_again}
use Rattle.cookbook_meta.proofs.laws.manifests_read_back.Goals as goal

pub returns : goal.returns
returns c = λ name version body m fits is. manifests_again name version body m (c.versions_read_back.ensures version fits) is
