use Rattle.std.proofs.Common.{bytes_eq, sym, ap, subst, ◌∙◌}
use Rattle.std.proofs.lemmas.List.Filters.{dedup_is}
use Rattle.doc_tree.specs.Valid.{InOrder}
use Rattle.outside_core.specs.Disk.{lists}
use Rattle.outside_core.proofs.ListingLemmas.{lists-sorted, InOrder-sorted}
use Rattle.outside_core.proofs.listing.in_order.Goals as goal

pub returns-clause-order : goal.returns-clause-order
returns-clause-order c =
    subst InOrder (sym (c.of.ensures ∙ dedup_is bytes_eq c.sort_unstable.new.self.items c.dedup.new.self.items c.dedup.ensures.filtered))
    (InOrder-sorted c.sort_unstable.new.self.items c.sort_unstable.ensures.sorted)

pub returns-clause-members : goal.returns-clause-members
returns-clause-members c = λ name.
    ap (λ names. lists names name) (c.of.ensures ∙ dedup_is bytes_eq c.sort_unstable.new.self.items c.dedup.new.self.items c.dedup.ensures.filtered)
    ∙ lists-sorted c.args.names.items c.sort_unstable.new.self.items c.sort_unstable.ensures.permutation name
