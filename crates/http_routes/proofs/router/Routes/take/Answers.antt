use Rattle.std.proofs.Common.{refl}
use Rattle.matchit.proofs.OnLiterals.{matchit_on_literals}
use Rattle.http_routes.specs.Router.{with_rows, fits_all}
use Rattle.org_requests.specs.Table.{table}
use Rattle.http_routes.proofs.PathLemmas.{finds_rows}
use Rattle.http_routes.proofs.router.Routes.take.Goals as goal

pub invariant_of-result : goal.invariant_of-result
unfolding matchit_on_literals with_rows table
invariant_of-result c = record {
  table = finds_rows c.in_ok-router.router (rw c.in_ok-router.ensures refl);
}

pub router_of-requires : goal.router_of-requires
unfolding matchit_on_literals fits_all
router_of-requires c = refl
