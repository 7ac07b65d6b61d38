-- The entries that came are the last ones, backwards.
use Rattle.std.proofs.Common.{◌∙◌, ap}
use Rattle.std.proofs.lemmas.Iterator.{YieldsList-from_take}
use Rattle.std.proofs.lemmas.Iterator.Adapters.{YieldsList-from_rev_slice}
use Rattle.std.proofs.lemmas.Iterator.Consumers.{YieldsList-end}
use Rattle.doc_tree.specs.Doc.{list, docs_of}
use Rattle.cookbook_routes.specs.Listings as spec
use Rattle.cookbook_routes.proofs.BackwardsLemmas.{newest_shown}
use Rattle.cookbook_routes.proofs.listing_routes.newest_tree.Goals as goal

pub returns : goal.returns
returns c =
    let end = YieldsList-end (YieldsList-from_take (spec.number_of c.args.count) (YieldsList-from_rev_slice c.args.entries.now cc) cc) c.loop-version.yielded _ c.loop-version.yielded_by _ _ c.in-None.is c.next.ensures.steps in
    ap (λ docs. list (docs_of docs)) (c.loop-version.invariant ∙ newest_shown c.args.org.now c.args.count c.args.name.now c.args.entries.now c.loop-version.yielded end.0)
