-- The new field goes last, behind keys that are below its own.
use Rattle.std.proofs.Common.{map}
use Rattle.std.proofs.lemmas.List.{map-append}
use Rattle.doc_tree.specs.Tree.{doc_of, pair_of}
use Rattle.doc_tree.proofs.Docs.{ArePairs-append}
use Rattle.doc_tree.proofs.tree.Fields.push.Goals as goal

pub invariant_of-self-2 : goal.invariant_of-self-2
invariant_of-self-2 c =
    let old = c.self.inside.entries.items in
    rw (c.in_ok-push.ensures.items, map-append pair_of old _, map-append (λ e. e.0) (map pair_of old) _) (
      ArePairs-append (map pair_of old) c.args.key (doc_of c.args.tree) c.self.invariant.0 c.as_str-text.ensures.utf8 c.known.ensures,
      rw c.self.view_is c.requires,
    )
