-- The index finds what a look at each object finds, and looks at none.
use Rattle.search_index.specs.Scope.{scope_at}
use Rattle.shard_core.proofs.FindLemmas.{found_told, unlooked}
use Rattle.shard_core.proofs.indexed.IndexedFinder.find.Goals as goal

pub returns-clause-found : goal.returns-clause-found
returns-clause-found g c =
    found_told c.args.self.now.index (scope_at c.borrowed.result) c.args.scope.now.org c.args.scope.now.index c.args.query.now c.args._objects.now.objects c.find.result c.borrowed.ensures c.requires.exact c.requires.plain c.find.ensures.found c.find.ensures.objects c.find.ensures.rising

pub returns-clause-looked : goal.returns-clause-looked
returns-clause-looked g c = unlooked c.find.result c.args._steps.now
