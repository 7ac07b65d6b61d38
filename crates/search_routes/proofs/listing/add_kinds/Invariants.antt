-- The words so far, and those of the kinds that are left.
use Rattle.std.proofs.Common.{◌≡◌, ◌++◌, map, drop}
use Rattle.doc_tree.specs.Kind.{word_of}
use Rattle.search_routes.proofs.listing.add_kinds.Given as goal

abbrev pub invariant-loop-kind : goal.invariant-loop-kind
invariant-loop-kind l = l.words ++ map word_of (drop l.kind-index l.kind-items) ≡ l.fn.words ++ map word_of l.kind-items
