-- The topmost number of both keeps one side, and the other side takes in the other tree.
use Rattle.std.proofs.Common.{arith}
use Rattle.ordered_keys.proofs.BranchLemmas.{can_join_on_left, can_join_on_right, joins_left, joins_right}
use Rattle.ordered_keys.proofs.NodeLemmas.{to_left, to_right}
use Rattle.ordered_keys.proofs.tree.+joined.Goals as goal

pub joined-right-requires : goal.joined-right-requires
joined-right-requires t c =
    let nodes = c.args.nodes.now.items in
    let below = to_right nodes c.args.front c.node_at-first.result c.node_at-first.ensures c.requires.front_tree c.if-front-eq-NONE.false in
    (omega (arith, below.less, c.decreases), can_join_on_right nodes c.args.front c.args.back c.node_at-first.result c.node_at-first.ensures c.requires c.if-front-eq-NONE.false)

pub joined-left-requires : goal.joined-left-requires
joined-left-requires t c =
    let nodes = c.args.nodes.now.items in
    let below = to_left nodes c.args.back c.node_at-last.result c.node_at-last.ensures c.requires.back_tree c.if-back-eq-NONE.false in
    (omega (arith, below.less, c.decreases), can_join_on_left nodes c.args.front c.args.back c.node_at-last.result c.node_at-last.ensures c.requires c.if-back-eq-NONE.false)

pub returns-then-is_above : goal.returns-then-is_above
returns-then-is_above t c = joins_right c.args.nodes.now.items c.joined-right.new.nodes.items c.hang.new.nodes.items c.args.front c.args.back c.joined-right.result c.node_at-first.result c.node_at-first.ensures c.requires c.if-front-eq-NONE.false c.joined-right.ensures c.hang.ensures

pub returns-else-is_above : goal.returns-else-is_above
returns-else-is_above t c = joins_left c.args.nodes.now.items c.joined-left.new.nodes.items c.hang-else-is_above.new.nodes.items c.args.front c.args.back c.joined-left.result c.node_at-last.result c.node_at-last.ensures c.requires c.if-back-eq-NONE.false c.joined-left.ensures c.hang-else-is_above.ensures
