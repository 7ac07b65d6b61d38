use Rattle.std.proofs.Common.{rules}
use Rattle.std.proofs.lemmas.Map.Made.{map_same_pairs}
use Rattle.object_store.specs.Bases.{share_left}
use Rattle.object_store.proofs.lists.forget_creator.Goals as goal

-- every share is kept, without the actor
pub returns-clause-entries : goal.returns-clause-entries
returns-clause-entries c = map_same_pairs _ (share_left c.args.name.now) _ (λ k v b w f t. search rules) _ _ c.retain.ensures.filtered
