-- Both are what its lines are read to.
use Rattle.std.specs.Str.Lines.{lines}
use Rattle.yaml_subset.proofs.Reading.{spells_one}
use Rattle.yaml_subset.proofs.laws.one_tree.Goals as goal

pub returns : goal.returns
returns c = λ text d e one two. spells_one (lines text) d e one two
