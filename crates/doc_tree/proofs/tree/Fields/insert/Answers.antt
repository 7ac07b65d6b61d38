-- The new field goes to its place in both lists.
use Rattle.std.proofs.Common.{map}
use Rattle.doc_tree.specs.Tree.{pair_of}
use Rattle.doc_tree.proofs.Place.{insert_fields, ArePairs-insert}
use Rattle.doc_tree.proofs.tree.Fields.insert.Goals as goal

pub invariant_of-self-2 : goal.invariant_of-self-2
invariant_of-self-2 c =
    let old = c.self.inside.entries.items in
    rw (c.in_ok-insert.ensures.items, insert_fields old) (
      ArePairs-insert (map pair_of old) c.args.index _ c.self.invariant.0 (c.as_str-text.ensures.utf8, c.known.ensures, tt),
      rw c.self.view_is c.requires.order,
    )

pub returns-clause-ok : goal.returns-clause-ok
returns-clause-ok c = rw (c.in_ok-insert.ensures.items, insert_fields, c.self.view_is)
