-- The hasher holds the text of the lines so far.
use Rattle.std.proofs.Common.{take}
use Rattle.sha2.specs.Hashers.{Holds256}
use Rattle.cookbook_meta.specs.Identifiers as spec
use Rattle.policy_locks.proofs.digests.digest_of.Given as goal

abbrev pub invariant-loop-line : goal.invariant-loop-line
invariant-loop-line l = Holds256 l.hasher (spec.text_of_lines (take l.line-index l.lines))
