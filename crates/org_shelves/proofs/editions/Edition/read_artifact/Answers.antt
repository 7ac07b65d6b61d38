use Rattle.doc_tree.specs.Tree.{doc_of}
use Rattle.org_shelves.proofs.SaysLemmas.{artifact_says}
use Rattle.org_shelves.proofs.editions.Edition.read_artifact.Goals as goal

pub of_manifest-requires-clause-says : goal.of_manifest-requires-clause-says
of_manifest-requires-clause-says c =
    let m = c.in_ok-manifest.manifest in
    artifact_says c.args.name.now c.args.id.now (doc_of m.whole) m
    (c.artifacts_read_back.ensures c.args.name.now c.args.id.now (doc_of c.args.body.now) m c.version_fits.ensures c.in_ok-manifest.ensures.artifact)
