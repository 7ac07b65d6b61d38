use Rattle.doc_tree.specs.Tree.{doc_of}
use Rattle.org_shelves.proofs.SaysLemmas.{says, sums_known}
use Rattle.org_shelves.proofs.editions.Edition.of.Goals as goal

pub of_manifest-requires-clause-says : goal.of_manifest-requires-clause-says
of_manifest-requires-clause-says c =
    let m = c.args.manifest in
    says m.name m.version (doc_of m.whole) m c.requires

pub of_manifest-requires-clause-sums : goal.of_manifest-requires-clause-sums
of_manifest-requires-clause-sums c =
    let m = c.args.manifest in
    sums_known m.name m.version (doc_of m.whole) m c.requires
