use Rattle.std.proofs.Common.{◌≡◌, map, take}
use Rattle.doc_tree.specs.Doc.{words}
use Rattle.org_requests.proofs.refusals.names_tree.Given as goal

-- the names so far
abbrev pub invariant-loop-name : goal.invariant-loop-name
invariant-loop-name l = l.trees ≡ map words (take l.name-index l.names)
