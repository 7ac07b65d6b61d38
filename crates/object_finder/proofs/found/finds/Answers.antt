-- The pairs that were made list the same as those of the definition.
use Rattle.search_query.specs.Pairs.{pairs_of}
use Rattle.object_finder.proofs.FoundLemmas.{told}
use Rattle.object_finder.proofs.found.finds.Goals as goal

pub returns : goal.returns
returns c = told c.args.query.now c.in_ok-pairs.pairs (pairs_of c.args.kind c.args.object.now) c.matches.result c.in_ok-pairs.ensures.members c.matches.ensures
