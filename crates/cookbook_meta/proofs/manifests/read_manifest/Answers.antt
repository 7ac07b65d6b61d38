use Rattle.doc_tree.specs.Doc.{pairs_of}
use Rattle.cookbook_meta.proofs.SoundLemmas.{given_own, given_paths, given_sums}
use Rattle.cookbook_meta.proofs.manifests.read_manifest.Goals as goal

pub returns-in-Dict-clause-own : goal.returns-in-Dict-clause-own
returns-in-Dict-clause-own c = given_own c.args.name.now c.args.version.now (pairs_of c.in-Dict.body) c.manifest_in.result c.manifest_in.ensures

pub returns-in-Dict-clause-paths : goal.returns-in-Dict-clause-paths
returns-in-Dict-clause-paths c = given_paths c.args.name.now c.args.version.now (pairs_of c.in-Dict.body) c.manifest_in.result c.manifest_in.ensures

pub returns-in-Dict-clause-sums : goal.returns-in-Dict-clause-sums
returns-in-Dict-clause-sums c = given_sums c.args.name.now c.args.version.now (pairs_of c.in-Dict.body) c.manifest_in.result c.manifest_in.ensures
