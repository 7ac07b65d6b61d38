-- The names so far, and then those that are left, are all.
use Rattle.std.proofs.Common.{◌≡◌, ◌++◌, drop, map, string_bytes}
use Rattle.knife_errands.specs.Targets as spec
use Rattle.knife_errands.proofs.targets.target_with.Given as goal

abbrev pub invariant-loop-name : goal.invariant-loop-name
invariant-loop-name l =
    string_bytes l.target ++ spec.path (map (λ name. name.now) (drop l.name-index l.names)) ≡ spec.target l.whom (map (λ name. name.now) l.names)
