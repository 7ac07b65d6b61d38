-- The next name is above those before it, and in the end all shelves are listed.
use Rattle.std.proofs.Common.{drop, ap, ◌∙◌}
use Rattle.std.proofs.lemmas.List.{drop_more, drop_all}
use Rattle.shelves.specs.Shelves.{shelves_of}
use Rattle.version_rules.specs.Order.{version_cmp}
use Rattle.cookbook_routes.proofs.ListingLemmas.{next_shelf, all_listed}
use Rattle.cookbook_routes.proofs.listing_routes.listing_tree.Goals as goal

pub push-requires : goal.push-requires
push-requires c =
    next_shelf c.args.org.now c.args.count c.shelves-name-items.result.now (shelves_of version_cmp c.args.cookbooks.now) c.shelves-name-items.ensures.shelves c.loop-name.fields _ _ _ _ c.loop-name.invariant
    (drop_more c.shelves-name-items.result.now c.loop-name.name-index c.loop-name-item.result c.loop-name-test.true) (c.in_ok-copy.ensures ∙ ap (λ e. e.0) c.loop-name-item.is)

pub returns : goal.returns
returns c =
    all_listed c.args.org.now c.args.count c.shelves-name-items.result.now (shelves_of version_cmp c.args.cookbooks.now) c.shelves-name-items.ensures.shelves c.loop-name.fields (drop c.loop-name.name-index c.shelves-name-items.result.now) c.loop-name.invariant
    (drop_all c.loop-name.name-index c.shelves-name-items.result.now c.loop-name-test.false)
