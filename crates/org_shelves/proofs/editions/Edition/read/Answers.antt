use Rattle.doc_tree.specs.Tree.{doc_of}
use Rattle.org_shelves.proofs.editions.Edition.read.Goals as goal

pub of-requires : goal.of-requires
of-requires c =
    c.manifests_are_kept.ensures c.args.name.now c.args.version.now (doc_of c.args.body.now) c.in_ok-manifest.manifest c.version_fits.ensures c.in_ok-manifest.ensures.manifest
