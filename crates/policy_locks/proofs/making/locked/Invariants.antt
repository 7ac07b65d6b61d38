-- The locks so far, and then those of the versions that are left; the first without an identifier is among these.
use Rattle.std.proofs.Common.{◌≡◌, ◌++◌, drop, option_map}
use Rattle.std.specs.List.{find}
use Rattle.policy_locks.specs.Making as spec
use Rattle.run_lists.specs.Reading.{each_of}
use Rattle.policy_locks.proofs.making.locked.Given as goal

abbrev pub invariant-loop-pin : goal.invariant-loop-pin
invariant-loop-pin l =
    (each_of (spec.locked l.identifiers) l.pin-items ≡ option_map (λ later. l.locks ++ later) (each_of (spec.locked l.identifiers) (drop l.pin-index l.pin-items)))
    × (find (spec.is_unidentified l.identifiers) l.pin-items ≡ find (spec.is_unidentified l.identifiers) (drop l.pin-index l.pin-items))
