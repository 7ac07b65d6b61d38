-- The hasher holds the text of the lines so far.
use Rattle.std.proofs.Common.{take}
use Rattle.sha1.specs.Sha1.{Holds}
use Rattle.cookbook_meta.specs.Identifiers as spec
use Rattle.cookbook_meta.proofs.identifiers.digest_of.Given as goal

abbrev pub invariant-loop-line : goal.invariant-loop-line
invariant-loop-line l = Holds l.hasher (spec.text_of_lines (take l.line-index l.lines))
