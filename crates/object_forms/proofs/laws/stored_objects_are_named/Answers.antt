use Rattle.object_forms.proofs.StoredLemmas.{named_from, id_from}
use Rattle.object_forms.proofs.laws.stored_objects_are_named.Goals as goal

pub returns : goal.returns
returns c = record {
  names = λ kind path body stored known is. named_from kind path body stored known is;
  ids = λ path body item id known is named. id_from path body item id known is named;
}
