-- Its lines come to their marks, and these to the tree.
use Rattle.yaml_subset.proofs.RoundTrip.{spells_written}
use Rattle.yaml_subset.proofs.laws.written_spells.Goals as goal

pub returns : goal.returns
returns c = spells_written
