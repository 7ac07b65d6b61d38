-- With the bytes that are left, the key is that of the name.
use Rattle.std.proofs.Common.{◌≡◌, drop}
use Rattle.dep_solver.specs.Keys.{key_from, key_of}
use Rattle.dep_solver.proofs.keys.key_of.Given as goal

abbrev pub invariant-loop-byte : goal.invariant-loop-byte
invariant-loop-byte l = key_from l.key (drop l.byte-index l.byte-items) ≡ key_of l.name
