-- The number goes to one side, or above all.
use Rattle.std.proofs.Common.{arith, sym, ◌∙◌}
use Rattle.ordered_keys.specs.Keys.{key_in}
use Rattle.ordered_keys.proofs.BranchLemmas.{new_on_left, new_on_right, takes_in_here, takes_in_left, takes_in_right}
use Rattle.ordered_keys.proofs.NodeLemmas.{has_node, to_left, to_right}
use Rattle.ordered_keys.proofs.tree.+placed.Goals as goal

pub returns-then-root-eq-NONE : goal.returns-then-root-eq-NONE
returns-then-root-eq-NONE g t c = takes_in_here (g.S.Sought.standing c.args.sought.now) (key_in c.args.items.now) c.args.nodes.now.items c.parted-front.new.nodes.items c.hang.new.nodes.items c.args.root c.args.number c.parted-front.result.0 c.parted-front.result.1 c.requires c.parted-front.ensures c.hang.ensures

pub node_at-node-requires : goal.node_at-node-requires
node_at-node-requires g t c = has_node c.args.nodes.now.items c.args.root c.requires.whole.tree c.if-root-eq-NONE.false

pub placed-right-requires : goal.placed-right-requires
placed-right-requires g t c κs within =
    let below = to_right c.args.nodes.now.items c.args.root c.node_at-node.result c.node_at-node.ensures c.requires.whole.tree c.if-root-eq-NONE.false in
    (omega (arith, below.less, c.decreases), (within.0, (within.1, new_on_right c.args.nodes.now.items c.args.root c.args.number c.node_at-node.result c.node_at-node.ensures c.requires c.if-root-eq-NONE.false)))

pub placed-left-requires : goal.placed-left-requires
placed-left-requires g t c κs within =
    let below = to_left c.args.nodes.now.items c.args.root c.node_at-node.result c.node_at-node.ensures c.requires.whole.tree c.if-root-eq-NONE.false in
    (omega (arith, below.less, c.decreases), (within.0, (within.1, new_on_left c.args.nodes.now.items c.args.root c.args.number c.node_at-node.result c.node_at-node.ensures c.requires c.if-root-eq-NONE.false)))

pub hang-requires-in-Less : goal.hang-requires-in-Less
hang-requires-in-Less g t c =
    let has = has_node c.args.nodes.now.items c.args.root c.requires.whole.tree c.if-root-eq-NONE.false in
    let size = c.placed-right.ensures.changes.size in
    omega (arith, has, size)

pub hang-requires-in_default : goal.hang-requires-in_default
hang-requires-in_default g t c =
    let has = has_node c.args.nodes.now.items c.args.root c.requires.whole.tree c.if-root-eq-NONE.false in
    let size = c.placed-left.ensures.changes.size in
    omega (arith, has, size)

pub returns-in-Less : goal.returns-in-Less
returns-in-Less g t c = takes_in_right (g.S.Sought.standing c.args.sought.now) (key_in c.args.items.now) c.args.nodes.now.items c.placed-right.new.nodes.items c.hang-in-Less.new.nodes.items c.args.root c.args.number c.placed-right.result c.node_at-node.result c.node_at-node.ensures c.requires c.if-root-eq-NONE.false (sym c.standing_at.ensures ∙ c.in-Less.is) c.placed-right.ensures c.hang-in-Less.ensures

pub returns-in_default : goal.returns-in_default
returns-in_default g t c = takes_in_left (g.S.Sought.standing c.args.sought.now) (key_in c.args.items.now) c.args.nodes.now.items c.placed-left.new.nodes.items c.hang-in_default.new.nodes.items c.args.root c.args.number c.placed-left.result c.node_at-node.result c.node_at-node.ensures c.requires c.if-root-eq-NONE.false (λ e. c.in_default.not-Less (c.standing_at.ensures ∙ e)) c.placed-left.ensures c.hang-in_default.ensures
