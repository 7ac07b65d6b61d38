use Rattle.std.proofs.Common.{◌≡◌, [], drop, true}
use Rattle.http_routes.specs.Router.{with_rows, fits_all}
use Rattle.http_routes.proofs.router.router_of.Given as goal

abbrev pub invariant-loop-row : goal.invariant-loop-row
invariant-loop-row l = record {
  added : with_rows (drop l.row-index l.rows) l.router ≡ with_rows l.rows [];
  fit : fits_all (drop l.row-index l.rows) l.router ≡ true;
}
