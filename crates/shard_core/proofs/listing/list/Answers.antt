-- The names of the organisations that are there, in their order.
use Rattle.std.proofs.Common.{subst, sym, ◌∙◌}
use Rattle.std.specs.List.Sorted.{IsStrictlySortedBy}
use Rattle.doc_tree.specs.Text.{text_cmp}
use Rattle.shard_core.proofs.ListingLemmas.{lists-all}
use Rattle.shard_core.proofs.listing.list.Goals as goal

pub returns : goal.returns
returns c =
    lists-all c.listing.result _ c.in_ok-names_there.field-0 c.deref.result.now
    c.in_ok-names_there.ensures
    (c.deref.ensures.value ∙ c.in_ok-names.ensures.names)
    (subst (IsStrictlySortedBy text_cmp) (sym c.deref.ensures.value) c.in_ok-names.ensures.sorted)
    c.listing.ensures

pub listing-requires : goal.listing-requires
listing-requires c = subst (IsStrictlySortedBy text_cmp) (sym c.deref.ensures.value) c.in_ok-names.ensures.sorted
