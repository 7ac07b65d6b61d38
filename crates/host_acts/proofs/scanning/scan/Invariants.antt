use Rattle.std.proofs.Common.{◌≡◌, ℕ, ◌<◌, true, List, length}
use Rattle.host_tree.specs.Entries.{at, IsDirectory}
use Rattle.host_tree.specs.Paths.{is_above}
use Rattle.host_tree.specs.Told.{Told}
use Rattle.host_acts.proofs.scanning.scan.Given as goal

abbrev pub invariant-loop-end : goal.invariant-loop-end
invariant-loop-end g l = record {
  kept : g.H.Host.tells l.host ≡ g.H.Host.tells l.fn.host;
  offers : g.H.Host.offers l.host ≡ g.H.Host.offers l.fn.host;
  unfailed : g.H.Host.faults l.host ≡ g.H.Host.faults l.fn.host;
  reached : Told (g.H.Host.tells l.fn.host) (λ h. (prefix : List ℕ) → is_above prefix l.path ≡ true → length prefix < l.end → IsDirectory (at h prefix));
}
