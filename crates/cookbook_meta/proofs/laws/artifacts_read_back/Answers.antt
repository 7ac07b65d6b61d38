use Rattle.cookbook_meta.proofs.ArtifactLemmas.{artifacts_again}
use Rattle.cookbook_meta.proofs.laws.artifacts_read_back.Goals as goal

pub returns : goal.returns
returns c = λ name id body m fits is. artifacts_again name id body m (c.versions_read_back.ensures m.version fits) is
