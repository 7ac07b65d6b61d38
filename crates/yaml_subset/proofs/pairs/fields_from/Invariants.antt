use Rattle.std.proofs.Common.{◌≡◌, ◌++◌}
use Rattle.yaml_subset.proofs.pairs.fields_from.Given as goal

-- the fields so far, and then the entries that are left, are all entries
abbrev pub invariant-loop-key : goal.invariant-loop-key
invariant-loop-key l = l.fn.map.entries ≡ l.fields ++ l.key-iterator
