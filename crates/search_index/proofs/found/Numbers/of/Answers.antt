-- Numbers that are sorted are the same numbers.
use Rattle.std.proofs.Common.{eqb, sym}
use Rattle.std.proofs.lemmas.List.Sorted.{IsNonDecreasingBy-from_sort, list_any-IsPermutation}
use Rattle.search_index.proofs.found.Numbers.of.Goals as goal

pub invariant_of-result : goal.invariant_of-result
invariant_of-result c = IsNonDecreasingBy-from_sort (λ x. x) c.sort_unstable.new.self.items c.sort_unstable.ensures.sorted

pub returns : goal.returns
returns c = λ x. sym (list_any-IsPermutation (eqb x) c.args.items.items c.sort_unstable.new.self.items c.sort_unstable.ensures.permutation)
