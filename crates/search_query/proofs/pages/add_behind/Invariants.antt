-- So many rows, each behind a comma.
use Rattle.std.proofs.Common.{◌≡◌, ◌++◌, take}
use Rattle.search_query.specs.Pages.{behind}
use Rattle.search_query.proofs.pages.add_behind.Given as goal

abbrev pub invariant-loop-row : goal.invariant-loop-row
invariant-loop-row l = l.out.items ≡ l.fn.out.items ++ behind (take l.row-index l.rows)
