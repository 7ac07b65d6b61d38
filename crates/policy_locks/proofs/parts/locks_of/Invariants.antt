-- What is made so far, and then that of those that are left.
use Rattle.std.proofs.Common.{◌≡◌, ◌++◌, map, drop, option_map}
use Rattle.doc_tree.specs.Tree.{pair_of}
use Rattle.policy_locks.specs.Parts as spec
use Rattle.policy_locks.proofs.parts.locks_of.Given as goal

abbrev pub invariant-loop-field : goal.invariant-loop-field
invariant-loop-field l = spec.each_of spec.cookbook_lock l.fields ≡ option_map (λ later. l.locks ++ later) (spec.each_of spec.cookbook_lock (map pair_of (drop l.field-index l.field-items)))
