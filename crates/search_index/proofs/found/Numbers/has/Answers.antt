-- A search of sorted numbers tells whether one is there.
use Rattle.std.proofs.Common.{◌∙◌, List, ℕ, ap, subst}
use Rattle.std.specs.List.Sorted.{IsBinarySearchResult}
use Rattle.std.specs.Ordering.{nat_cmp}
use Rattle.search_index.specs.Found.{is_in}
use Rattle.search_index.proofs.FoundLemmas.{has_is}
use Rattle.search_index.proofs.found.Numbers.has.Goals as goal

pub returns : goal.returns
returns c =
    let position = subst (λ xs. IsBinarySearchResult (λ y. nat_cmp y c.args.number) xs c.binary_search.result) c.deref.ensures.value c.binary_search.ensures.position in
    c.is_ok.ensures.value ∙ has_is c.self.inside.items.items c.args.number c.binary_search.result position c.self.invariant ∙ ap (λ (xs : List ℕ). is_in xs c.args.number) c.self.view_is
