-- What came before is not too deep, so what is left decides.
use Rattle.std.proofs.Common.{◌≤◌, drop, max}
use Rattle.serde_json.specs.Data.{items_depth, members_depth}
use Rattle.serde_json.specs.View.{items_view, members_view}
use Rattle.doc_tree.proofs.read.+depth.Given as goal

abbrev pub invariant-has_deeper_item-loop-item : goal.invariant-has_deeper_item-loop-item
invariant-has_deeper_item-loop-item l =
    let all = items_depth (items_view l.item-items) in
    let left = items_depth (items_view (drop l.item-index l.item-items)) in
    (all ≤ max l.limit left) × (left ≤ all)

abbrev pub invariant-has_deeper_member-loop-member : goal.invariant-has_deeper_member-loop-member
invariant-has_deeper_member-loop-member l =
    let all = members_depth (members_view l.members.entries) in
    let left = members_depth (members_view l.member-iterator) in
    (all ≤ max l.limit left) × (left ≤ all)
