-- The lines so far, and then those that are left, are all.
use Rattle.std.proofs.Common.{◌≡◌, ◌++◌, drop, string_bytes}
use Rattle.knife_errands.specs.Printing as spec
use Rattle.knife_errands.proofs.printing.push_lines.Given as goal

abbrev pub invariant-loop-text : goal.invariant-loop-text
invariant-loop-text l = string_bytes l.printed ++ spec.lines (drop l.text-index l.texts) ≡ string_bytes l.initial.printed ++ spec.lines l.texts
