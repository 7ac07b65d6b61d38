use Rattle.std.proofs.Common.{◌||◌, is_some, ap, sym, ◌∙◌}
use Rattle.std.specs.BTreeMap.{is_at}
use Rattle.std.specs.List.{list_any}
use Rattle.std.specs.Cmp.Lexicographic.{slice_cmp}
use Rattle.std.specs.Ordering.{nat_cmp}
use Rattle.indexmap.specs.IndexMap.{get, spare}
use Rattle.doc_tree.specs.declared.kind.Kind.TheVariants as kind
use Rattle.object_store.specs.Items.{item_name, ids_in}
use Rattle.object_store.specs.Keys.{key, same_key}
use Rattle.object_store.specs.Objects.{Store, smaller}
use Rattle.object_store.specs.Kept.{has, on_shelf, settled, objects_in}
use Rattle.object_store.proofs.ListedLemmas.{gathered, ids-listed, told}
use Rattle.object_store.proofs.ShelvingLemmas.{item-shelf, item-name}
use Rattle.object_store.proofs.objects.Objects.ids.Goals as goal

-- the ids that were gathered, in order
pub returns-clause-value : goal.returns-clause-value
returns-clause-value c =
    let late = c.self.inside.late in
    let shelves = c.self.inside.shelves in
    let bag = c.args.bag.now in
    let none = sym c.has_slash.ensures ∙ c.if-has_slash.false in
    told c.in_order.result (λ (v : Store). ids_in bag v.objects) (record { objects = objects_in late shelves; lists = c.self.inside.lists.lists; spare = smaller (spare late) c.self.inside.lists.spare }) c.args.self.now c.self.view_is
    (ids-listed c.in_order.result bag late shelves c.add_names.new.names c.in_order.ensures.names c.in_order.ensures.order
    (λ id. gathered (has c.new-ids.result id) (has c.add_late_ids.new.ids id) (has c.add_names.new.names id)
    (get same_key late (key kind.Item (item_name bag id))) (settled shelves (key kind.Item (item_name bag id)))
    (ap (list_any (is_at (slice_cmp nat_cmp id))) c.new-ids.ensures.empty)
    (c.in_ok-add_late_ids.ensures id)
    (c.in_ok-add_names.ensures id
    ∙ (λ i. has c.add_late_ids.new.ids id || is_some (on_shelf shelves (sym (item-shelf bag id none) i) (sym (item-name bag id none) i))))))
