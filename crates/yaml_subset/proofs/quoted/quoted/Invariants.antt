use Rattle.std.proofs.Common.{◌≡◌, ◌+◌, length}
use Rattle.yaml_subset.specs.Quoted.{quoted, taken}
use Rattle.yaml_subset.proofs.quoted.quoted.Given as goal

-- what was read so far, and then what is found from here, so many bytes further on
abbrev pub invariant-loop-byte : goal.invariant-loop-byte
invariant-loop-byte l =
    (quoted l.mark 0 l.inner ≡ taken l.bytes.items l.length (quoted l.mark l.skip l.rest)) × (l.length + length l.rest ≡ length l.inner)

abbrev pub decreases-loop-byte : goal.decreases-loop-byte
decreases-loop-byte l = length l.rest
