-- The documents so far are the same.
use Rattle.std.proofs.Common.{◌≡◌, take}
use Rattle.doc_tree.proofs.tree.+same.Given as goal

abbrev pub invariant-Trees::same-loop-index : goal.invariant-Trees::same-loop-index
invariant-Trees::same-loop-index l = take l.index l.self ≡ take l.index l.other

abbrev pub invariant-Fields::same-loop-index : goal.invariant-Fields::same-loop-index
invariant-Fields::same-loop-index l = take l.index l.self ≡ take l.index l.other
