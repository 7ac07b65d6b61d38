-- The posting comes in front.
use Rattle.std.proofs.Common.{[], refl, sym}
use Rattle.search_index.specs.Net.{order_of}
use Rattle.search_index.proofs.arena.add.Goals as goal

pub add_behind-requires-clause-before : goal.add_behind-requires-clause-before
add_behind-requires-clause-before c = ([], order_of c.args.postings.now c.args.object, record { parts = refl; last = sym c.none.ensures })

pub returns : goal.returns
returns c = c.add_behind.ensures.first
