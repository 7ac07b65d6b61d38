use Rattle.std.proofs.Common.{◌≡◌}
use Rattle.std.specs.Map.{lookup}
use Rattle.indexmap.specs.IndexMap.{get}
use Rattle.doc_tree.specs.declared.kind.Kind.TheVariants as kind
use Rattle.object_store.specs.Keys.{key, same_key}
use Rattle.object_store.specs.Items.{item_name}
use Rattle.object_store.proofs.late.seek_item.Given as goal

-- what is sought is among the entries that are left
abbrev pub invariant-loop-key : goal.invariant-loop-key
invariant-loop-key l = get same_key l.fn.late (key kind.Item (item_name l.bag l.id)) ≡ lookup (same_key (key kind.Item (item_name l.bag l.id))) l.key-iterator
