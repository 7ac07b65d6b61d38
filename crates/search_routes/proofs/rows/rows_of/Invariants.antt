-- The texts of the rows so far, and one step for each.
use Rattle.std.proofs.Common.{◌≡◌, ◌+◌, map, take}
use Rattle.doc_tree.specs.Written.{text}
use Rattle.org_core.specs.Contexts.{seen}
use Rattle.search_routes.specs.Finding.{row_of}
use Rattle.search_routes.proofs.rows.rows_of.Given as goal

abbrev pub invariant-loop-name : goal.invariant-loop-name
invariant-loop-name g l = (l.rows.items ≡ map text (map (row_of (seen l.context) l.index l.partial) (take l.name-index l.names))) × (l.steps ≡ l.fn.steps + l.name-index)
