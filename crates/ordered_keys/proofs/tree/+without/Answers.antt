-- The number is on one side, or it is the one at the top.
use Rattle.std.proofs.Common.{arith, sym, ◌∙◌}
use Rattle.ordered_keys.specs.Keys.{key_in}
use Rattle.ordered_keys.proofs.BranchLemmas.{can_join_both, gives_up_here, gives_up_left, gives_up_none, gives_up_right, whole_on_left, whole_on_right}
use Rattle.ordered_keys.proofs.NodeLemmas.{has_node, to_left, to_right}
use Rattle.ordered_keys.proofs.tree.+without.Goals as goal

pub returns-then-root-eq-NONE : goal.returns-then-root-eq-NONE
returns-then-root-eq-NONE g t c = gives_up_none (g.S.Sought.standing c.args.sought.now) (key_in c.args.items.now) c.args.nodes.now.items c.args.root c.if-root-eq-NONE.true

pub node_at-node-requires : goal.node_at-node-requires
node_at-node-requires g t c = has_node c.args.nodes.now.items c.args.root c.requires.tree c.if-root-eq-NONE.false

pub without-right-requires : goal.without-right-requires
without-right-requires g t c κs within =
    let below = to_right c.args.nodes.now.items c.args.root c.node_at-node.result c.node_at-node.ensures c.requires.tree c.if-root-eq-NONE.false in
    (omega (arith, below.less, c.decreases), (within.0, (within.1, whole_on_right c.args.nodes.now.items c.args.root c.node_at-node.result c.node_at-node.ensures c.requires c.if-root-eq-NONE.false)))

pub without-left-requires : goal.without-left-requires
without-left-requires g t c κs within =
    let below = to_left c.args.nodes.now.items c.args.root c.node_at-node.result c.node_at-node.ensures c.requires.tree c.if-root-eq-NONE.false in
    (omega (arith, below.less, c.decreases), (within.0, (within.1, whole_on_left c.args.nodes.now.items c.args.root c.node_at-node.result c.node_at-node.ensures c.requires c.if-root-eq-NONE.false)))

pub joined-requires : goal.joined-requires
joined-requires g t c = can_join_both c.args.nodes.now.items c.args.root c.node_at-node.result c.node_at-node.ensures c.requires c.if-root-eq-NONE.false

pub returns-in-Less : goal.returns-in-Less
returns-in-Less g t c = gives_up_right (g.S.Sought.standing c.args.sought.now) (key_in c.args.items.now) c.args.nodes.now.items c.without-right.new.nodes.items c.hang.new.nodes.items c.args.root c.without-right.result c.node_at-node.result c.node_at-node.ensures c.requires c.if-root-eq-NONE.false (sym c.standing_at.ensures ∙ c.in-Less.is) c.without-right.ensures c.hang.ensures

pub returns-in-Greater : goal.returns-in-Greater
returns-in-Greater g t c = gives_up_left (g.S.Sought.standing c.args.sought.now) (key_in c.args.items.now) c.args.nodes.now.items c.without-left.new.nodes.items c.hang-in-Greater.new.nodes.items c.args.root c.without-left.result c.node_at-node.result c.node_at-node.ensures c.requires c.if-root-eq-NONE.false (sym c.standing_at.ensures ∙ c.in-Greater.is) c.without-left.ensures c.hang-in-Greater.ensures

pub returns-in-Equal : goal.returns-in-Equal
returns-in-Equal g t c = gives_up_here (g.S.Sought.standing c.args.sought.now) (key_in c.args.items.now) c.args.nodes.now.items c.joined.new.nodes.items c.args.root c.joined.result c.node_at-node.result c.node_at-node.ensures c.requires c.if-root-eq-NONE.false (sym c.standing_at.ensures ∙ c.in-Equal.is) c.joined.ensures

pub hang-requires : goal.hang-requires
hang-requires g t c =
    let has = has_node c.args.nodes.now.items c.args.root c.requires.tree c.if-root-eq-NONE.false in
    let size = c.without-right.ensures.changes.size in
    omega (arith, has, size)

pub hang-requires-in-Greater : goal.hang-requires-in-Greater
hang-requires-in-Greater g t c =
    let has = has_node c.args.nodes.now.items c.args.root c.requires.tree c.if-root-eq-NONE.false in
    let size = c.without-left.ensures.changes.size in
    omega (arith, has, size)
