use Rattle.object_forms.proofs.ReadBackLemmas.{reads_back}
use Rattle.object_forms.proofs.laws.stored_objects_read_back.Goals as goal

pub returns : goal.returns
returns c kind path body stored plain name = reads_back kind path body stored name plain
