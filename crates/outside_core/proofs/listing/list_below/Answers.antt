use Rattle.std.proofs.Common.{rules}
use Rattle.outside_core.proofs.ListingLemmas.{listed, unlisted}
use Rattle.outside_core.proofs.listing.list_below.Goals as goal

pub returns-then-is_empty : goal.returns-then-is_empty
returns-then-is_empty c =
    unlisted c.args.files.now.entries c.args.folder.now c.in_ok-names_below.field-0.items c.in_order-names.result
    c.in_order-names.ensures.members c.in_ok-names_below.ensures (search rules)

pub returns : goal.returns
returns c =
    listed c.args.files.now.entries c.args.folder.now c.in_ok-names_below.field-0.items c.in_order-names.result
    c.in_order-names.ensures.order c.in_order-names.ensures.members c.in_ok-names_below.ensures (search rules)
