use Rattle.std.proofs.Common.{is_some, ap, sym, ◌∙◌}
use Rattle.doc_tree.specs.declared.kind.Kind.TheVariants as kind
use Rattle.object_store.specs.Items.{item_name}
use Rattle.object_store.specs.Keys.{key}
use Rattle.object_store.specs.Kept.{on_shelf, settled}
use Rattle.object_store.specs.Shelving.{is_slash}
use Rattle.std.specs.List.{before_first, after_first}
use Rattle.object_store.proofs.ShelvingLemmas.{item-shelf, item-name, joined-parts, front-bare}
use Rattle.object_store.proofs.items.find_item.Goals as goal

-- a bag without a slash is the shelf of its items
pub returns-in-None : goal.returns-in-None
returns-in-None c =
    let bag = c.args.bag.now in
    let id = c.args.id.now in
    let none = sym c.split_bag.ensures.slash ∙ ap is_some c.in-None.is in
    c.find.ensures
    ∙ (λ i. on_shelf c.args.shelves.now (sym (item-shelf bag id none) i) (sym (item-name bag id none) i))

-- of one with a slash it is what stands before that
pub returns-in-Some : goal.returns-in-Some
returns-in-Some c =
    let bag = c.args.bag.now in
    let id = c.args.id.now in
    let front = before_first is_slash bag in
    let name = item_name (after_first is_slash bag) id in
    let there = sym c.split_bag.ensures.slash ∙ ap is_some c.in-Some.is in
    c.find_joined.ensures
    ∙ (λ i. on_shelf c.args.shelves.now (c.in-Some.ensures.front i) (item_name (c.in-Some.ensures.rest i) id))
    ∙ (λ i. on_shelf c.args.shelves.now (sym (item-shelf front name (front-bare bag)) i) (sym (item-name front name (front-bare bag)) i))
    ∙ ap (λ whole. settled c.args.shelves.now (key kind.Item whole)) (sym (joined-parts bag id there))
