-- An object goes with its pairs.
use Rattle.std.proofs.Common.{Some, ap, subst}
use Rattle.search_index.specs.Arena.{DropsObject}
use Rattle.search_index.specs.declared.scope.Scope.{Scope}
use Rattle.shard_core.proofs.ChangeLemmas.{held_without}
use Rattle.shard_core.proofs.indexed.IndexedFinder.remove.Goals as goal

pub returns-clause-held : goal.returns-clause-held
returns-clause-held c =
    ap (λ h. Some h) (held_without c.args.self.now.index c.remove.new.self c.args.scope.now c.args.name.now (subst (λ (s : Scope). DropsObject c.args.self.now.index c.remove.new.self s c.args.name.now) c.borrowed.ensures c.remove.ensures.drops))
