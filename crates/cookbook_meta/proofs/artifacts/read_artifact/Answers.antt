use Rattle.doc_tree.specs.Doc.{pairs_of}
use Rattle.cookbook_meta.proofs.ArtifactLemmas.{artifact_own, artifact_paths, artifact_sums}
use Rattle.cookbook_meta.proofs.artifacts.read_artifact.Goals as goal

pub returns-in-Dict-clause-own : goal.returns-in-Dict-clause-own
returns-in-Dict-clause-own c = artifact_own c.args.name.now c.args.id.now (pairs_of c.in-Dict.body) c.artifact_in.result c.artifact_in.ensures

pub returns-in-Dict-clause-paths : goal.returns-in-Dict-clause-paths
returns-in-Dict-clause-paths c = artifact_paths c.args.name.now c.args.id.now (pairs_of c.in-Dict.body) c.artifact_in.result c.artifact_in.ensures

pub returns-in-Dict-clause-sums : goal.returns-in-Dict-clause-sums
returns-in-Dict-clause-sums c = artifact_sums c.args.name.now c.args.id.now (pairs_of c.in-Dict.body) c.artifact_in.result c.artifact_in.ensures
