use Rattle.std.proofs.Common.{◌≡◌}
use Rattle.host_tree.specs.Told.{Tells}
use Rattle.host_acts.specs.Changes.{BuiltUpTo}
use Rattle.host_acts.proofs.prefixes.make_prefixes.Given as goal

abbrev pub invariant-loop-end : goal.invariant-loop-end
invariant-loop-end g l = record {
  built : Tells (BuiltUpTo l.path l.end) (g.H.Host.tells l.fn.host) (g.H.Host.tells l.host);
  offers : g.H.Host.offers l.host ≡ g.H.Host.offers l.fn.host;
  unfailed : g.H.Host.faults l.host ≡ g.H.Host.faults l.fn.host;
}
