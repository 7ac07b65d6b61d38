use Rattle.std.proofs.Common.{subst}
use Rattle.object_store.proofs.ListsLemmas.{Entries, Copied, Copied-there, Copied-more}
use Rattle.object_store.proofs.lists.add_copies.Goals as goal

-- the base of the next share is there
pub copy_of-requires : goal.copy_of-requires
copy_of-requires c =
    let bases = c.args.bases.now in
    let whole = c.args.items.now.entries in
    Copied-there bases whole c.loop-key.made.lists c.in-Some.key.now c.in-Some.share.now c.next.new.self c.requires.kept
    (subst (λ (left : Entries). Copied bases whole c.loop-key.made.lists left) c.in-Some.ensures.steps c.loop-key.invariant)

-- the list of this turn is copied
pub loop-key-preserved : goal.loop-key-preserved
loop-key-preserved c =
    let bases = c.args.bases.now in
    let whole = c.args.items.now.entries in
    Copied-more bases whole c.loop-key.made.lists c.add_under.new.made.lists c.in-Some.key.now c.in-Some.share.now c.next.new.self c.in_ok-acl.acl
    (subst (λ (left : Entries). Copied bases whole c.loop-key.made.lists left) c.in-Some.ensures.steps c.loop-key.invariant) c.in_ok-acl.ensures c.in_ok-add_under.ensures
