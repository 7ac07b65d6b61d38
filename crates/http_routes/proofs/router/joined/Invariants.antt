use Rattle.std.proofs.Common.{◌≡◌, ◌++◌, drop, string_bytes}
use Rattle.org_requests.specs.Patterns.{joined}
use Rattle.http_routes.proofs.router.joined.Given as goal

abbrev pub invariant-loop-segment : goal.invariant-loop-segment
invariant-loop-segment l = string_bytes l.path ++ joined (drop l.segment-index l.segments) ≡ joined l.segments
