use Rattle.cookbook_meta.proofs.ArtifactLemmas.{artifact_fits}
use Rattle.cookbook_meta.proofs.laws.artifact_versions_fit.Goals as goal

pub returns : goal.returns
returns c = artifact_fits
