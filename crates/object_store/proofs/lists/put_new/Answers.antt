use Rattle.std.proofs.Common.{◌∙◌}
use Rattle.indexmap.proofs.CallerLemmas.{insert_entry-new}
use Rattle.object_store.specs.Keys.{same_key}
use Rattle.object_store.proofs.ListsLemmas.{kept-added, stay-added, seen-insert}
use Rattle.object_store.proofs.ObjectsLemmas.{of_ok}
use Rattle.object_store.proofs.lists.put_new.Goals as goal

-- with room the insertion succeeds, and the entry goes last
pub returns-clause-kept : goal.returns-clause-kept
returns-clause-kept c =
    let last = of_ok c.insert.result (c.insert.ensures.succeeds c.requires.spare) c.insert.ensures.entries ∙ insert_entry-new same_key c.args.items.now c.args.key c.take_in-share.result c.requires.absent in
    kept-added c.args.items.now.entries c.insert.new.self.entries c.args.bases.now c.take_in-share.new.bases c.args.key c.take_in-share.result c.requires.kept c.take_in-share.ensures.adds last

pub returns-clause-lists : goal.returns-clause-lists
returns-clause-lists c =
    seen-insert c.args.bases.now c.take_in-share.new.bases c.args.items.now.entries c.insert.new.self.entries c.args.key c.take_in-share.result c.args.acl
    (stay-added c.args.items.now.entries c.args.bases.now c.take_in-share.new.bases c.take_in-share.result.base c.requires.kept c.take_in-share.ensures.adds)
    c.take_in-share.ensures.list
    (of_ok c.insert.result (c.insert.ensures.succeeds c.requires.spare) c.insert.ensures.updates).0
