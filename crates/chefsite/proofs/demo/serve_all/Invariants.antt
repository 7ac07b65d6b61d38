use Rattle.std.proofs.Common.{◌≡◌, ◌*◌, length}
use Rattle.demo_requests.specs.DemoRequests.{demo_requests}
use Rattle.shard_core.specs.Shards.{site_states}
use Rattle.chefsite.specs.Demonstrating.{Demonstrating}
use Rattle.chefsite.proofs.demo.serve_all.Given as goal

-- some first requests were served, and the others are still to come
abbrev pub invariant-requests : goal.invariant-requests
invariant-requests g l = record {
  served : Demonstrating l.size l.demo (site_states l.site.shards) l.counts;
  many : length (demo_requests l.size) ≡ 101 * l.size;
}

abbrev pub decreases-requests : goal.decreases-requests
decreases-requests g l = length l.demo
