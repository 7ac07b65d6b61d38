use Rattle.run_lists.proofs.AgainLemmas.{lists_again, run_list_again}
use Rattle.run_lists.proofs.laws.run_lists_read_back.Goals as goal

pub returns : goal.returns
returns c = record {
  one = λ d items is. run_list_again d items is;
  named = λ d lists is. lists_again d lists is;
}
