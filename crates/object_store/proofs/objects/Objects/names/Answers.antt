use Rattle.std.proofs.Common.{ap}
use Rattle.std.specs.BTreeMap.{is_at}
use Rattle.std.specs.List.{list_any}
use Rattle.std.specs.Cmp.Lexicographic.{slice_cmp}
use Rattle.std.specs.Ordering.{nat_cmp}
use Rattle.indexmap.specs.IndexMap.{get}
use Rattle.object_store.specs.Keys.{key, same_key}
use Rattle.object_store.specs.Objects.{Store, smaller, names_in}
use Rattle.object_store.specs.Kept.{has, settled, objects_in}
use Rattle.indexmap.specs.IndexMap.{spare}
use Rattle.object_store.proofs.ListedLemmas.{gathered, names-listed, told}
use Rattle.object_store.proofs.objects.Objects.names.Goals as goal

-- the names that were gathered, in order
pub returns-clause-value : goal.returns-clause-value
returns-clause-value c =
    let late = c.self.inside.late in
    let shelves = c.self.inside.shelves in
    told c.in_order.result (λ (v : Store). names_in c.args.kind v.objects) (record { objects = objects_in late shelves; lists = c.self.inside.lists.lists; spare = smaller (spare late) c.self.inside.lists.spare }) c.args.self.now c.self.view_is
    (names-listed c.in_order.result c.args.kind late shelves c.add_settled_names.new.names c.in_order.ensures.names c.in_order.ensures.order
    (λ name. gathered (has c.new-names.result name) (has c.add_late_names.new.names name) (has c.add_settled_names.new.names name)
    (get same_key late (key c.args.kind name)) (settled shelves (key c.args.kind name))
    (ap (list_any (is_at (slice_cmp nat_cmp name))) c.new-names.ensures.empty)
    (c.in_ok-add_late_names.ensures name) (c.in_ok-add_settled_names.ensures name)))
