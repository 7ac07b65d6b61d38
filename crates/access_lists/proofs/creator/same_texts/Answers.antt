use Rattle.std.proofs.lemmas.Slice.Eq.{slice_eq-Decides, bytes_eq-Decides}
use Rattle.access_lists.proofs.creator.same_texts.Goals as goal

pub returns : goal.returns
returns c = (slice_eq-Decides bytes_eq-Decides c.args.texts.now c.args.other.now c.eq.result c.eq.ensures).0
