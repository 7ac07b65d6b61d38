use Rattle.std.proofs.Common.{Some, ap, ◌∙◌}
use Rattle.std.specs.Map.{keys_of}
use Rattle.doc_tree.proofs.Docs.{pairs_list-pairs_of}
use Rattle.search_query.specs.Partial.{data_of}
use Rattle.search_query.proofs.PartialLemmas.{keys_of-data_of}
use Rattle.search_query.proofs.laws.rows_have_the_keys.Goals as goal

pub returns : goal.returns
returns c = λ kind partial url object. ap Some (ap keys_of (pairs_list-pairs_of (data_of kind partial object)) ∙ keys_of-data_of kind partial object)
