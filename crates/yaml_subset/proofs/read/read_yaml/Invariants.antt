use Rattle.std.proofs.Common.{◌≡◌, ◌+◌, Some, drop, length}
use Rattle.std.specs.Str.Lines.{lines}
use Rattle.yaml_subset.specs.Reader.{first_reader, read_lines, taken_lines}
use Rattle.yaml_subset.proofs.FaultLemmas.{Fine}
use Rattle.yaml_subset.proofs.read.read_yaml.Given as goal

-- the lines that are left lead on from here, and what was read can end
abbrev pub invariant-loop-line : goal.invariant-loop-line
invariant-loop-line l =
    (l.count ≡ length l.yielded)
    × (read_lines (drop l.count (lines l.text)) (Some l.reader) ≡ read_lines (lines l.text) (Some first_reader))
    × (l.count + taken_lines (drop l.count (lines l.text)) (Some l.reader) ≡ taken_lines (lines l.text) (Some first_reader))
    × Fine l.reader
