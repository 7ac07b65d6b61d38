use Rattle.std.proofs.Common.{◌≡◌, map, take}
use Rattle.doc_tree.specs.Doc.{words}
use Rattle.cookbook_routes.proofs.sandbox_routes.sums_tree.Given as goal

-- the checksums so far
abbrev pub invariant-loop-sum : goal.invariant-loop-sum
invariant-loop-sum l = l.trees ≡ map words (take l.sum-index l.sums)
