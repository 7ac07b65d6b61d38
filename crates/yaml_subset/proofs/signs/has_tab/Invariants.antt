use Rattle.std.proofs.Common.{◌≡◌, drop}
use Rattle.yaml_subset.specs.Signs.{has_tab}
use Rattle.yaml_subset.proofs.signs.has_tab.Given as goal

abbrev pub invariant-loop-byte : goal.invariant-loop-byte
invariant-loop-byte l = has_tab (drop l.byte-index l.line) ≡ has_tab l.line
