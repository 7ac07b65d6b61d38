use Rattle.std.proofs.Common.{List, subst}
use Rattle.doc_tree.specs.Doc.{Doc}
use Rattle.object_store.specs.declared.key.Key.{Key}
use Rattle.object_store.proofs.LateLemmas.{Copying, Copying-more}
use Rattle.object_store.proofs.late.add_copies.Goals as goal

-- the entry of this turn is copied
pub loop-key-preserved : goal.loop-key-preserved
loop-key-preserved c =
    let here = subst (λ (left : List (Key × Doc)). Copying c.args.late.now.entries c.loop-key.made.entries left) c.in-Some.ensures.steps c.loop-key.invariant in
    Copying-more c.args.late.now.entries c.loop-key.made.entries c.next.new.self c.keep.new.late.entries
    c.in-Some.key.now c.in_ok-copy.field-0 c.in-Some.object.now c.in_ok-copy-2.field-0
    here c.in_ok-copy.ensures c.in_ok-copy-2.ensures c.in_ok-keep.ensures
