use Rattle.std.proofs.Common.{◌≡◌, ◌++◌, string_bytes}
use Rattle.yaml_subset.specs.Written.{escaped}
use Rattle.yaml_subset.proofs.write.write_escaped.Given as goal

abbrev pub invariant-loop-character : goal.invariant-loop-character
invariant-loop-character l = string_bytes l.out ≡ string_bytes l.initial.out ++ escaped l.yielded
