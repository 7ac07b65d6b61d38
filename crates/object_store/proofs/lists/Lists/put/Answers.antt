use Rattle.std.proofs.Common.{◌∙◌, ap}
use Rattle.std.specs.FinMap as finite
use Rattle.object_store.specs.Bases.{seen}
use Rattle.object_store.specs.Objects.{KeptLists, Lists}
use Rattle.object_store.proofs.ListsLemmas.{insert-remove}
use Rattle.object_store.proofs.lists.Lists.put.Goals as goal

-- the list that had the key goes first
pub returns-clause-lists : goal.returns-clause-lists
returns-clause-lists c =
    c.put_new.ensures.lists
    ∙ ap (λ (lists : Lists). finite.insert lists c.args.key c.args.acl) c.take_out.ensures.lists
    ∙ insert-remove (seen c.self.inside.bases c.self.inside.items.entries) c.args.key c.args.acl
    ∙ ap (λ (kept : KeptLists). finite.insert kept.lists c.args.key c.args.acl) c.self.view_is
