-- One side is cut in two, and its other part stays with the number.
use Rattle.std.proofs.Common.{arith, sym, ◌∙◌}
use Rattle.ordered_keys.specs.Keys.{key_in}
use Rattle.ordered_keys.proofs.BranchLemmas.{parts_left, parts_none, parts_right, whole_on_left, whole_on_right}
use Rattle.ordered_keys.proofs.NodeLemmas.{has_node, to_left, to_right}
use Rattle.ordered_keys.proofs.tree.+parted.Goals as goal

pub returns-then-root-eq-NONE : goal.returns-then-root-eq-NONE
returns-then-root-eq-NONE g t c = parts_none (g.S.Sought.standing c.args.sought.now) (key_in c.args.items.now) c.args.nodes.now.items c.args.root c.if-root-eq-NONE.true

pub node_at-node-requires : goal.node_at-node-requires
node_at-node-requires g t c = has_node c.args.nodes.now.items c.args.root c.requires.tree c.if-root-eq-NONE.false

pub parted-front-requires : goal.parted-front-requires
parted-front-requires g t c κs within =
    let below = to_right c.args.nodes.now.items c.args.root c.node_at-node.result c.node_at-node.ensures c.requires.tree c.if-root-eq-NONE.false in
    (omega (arith, below.less, c.decreases), (within.0, (within.1, whole_on_right c.args.nodes.now.items c.args.root c.node_at-node.result c.node_at-node.ensures c.requires c.if-root-eq-NONE.false)))

pub parted-front-requires-in_default : goal.parted-front-requires-in_default
parted-front-requires-in_default g t c κs within =
    let below = to_left c.args.nodes.now.items c.args.root c.node_at-node.result c.node_at-node.ensures c.requires.tree c.if-root-eq-NONE.false in
    (omega (arith, below.less, c.decreases), (within.0, (within.1, whole_on_left c.args.nodes.now.items c.args.root c.node_at-node.result c.node_at-node.ensures c.requires c.if-root-eq-NONE.false)))

pub returns-in-Less : goal.returns-in-Less
returns-in-Less g t c = parts_right (g.S.Sought.standing c.args.sought.now) (key_in c.args.items.now) c.args.nodes.now.items c.parted-front.new.nodes.items c.hang.new.nodes.items c.args.root c.parted-front.result.0 c.parted-front.result.1 c.node_at-node.result c.node_at-node.ensures c.requires c.if-root-eq-NONE.false (sym c.standing_at.ensures ∙ c.in-Less.is) c.parted-front.ensures c.hang.ensures

pub returns-in_default : goal.returns-in_default
returns-in_default g t c =
    parts_left (g.S.Sought.standing c.args.sought.now) (key_in c.args.items.now) c.args.nodes.now.items c.parted-front-in_default.new.nodes.items c.hang-in_default.new.nodes.items c.args.root c.parted-front-in_default.result.0 c.parted-front-in_default.result.1
    c.node_at-node.result c.node_at-node.ensures c.requires c.if-root-eq-NONE.false (λ e. c.in_default.not-Less (c.standing_at.ensures ∙ e)) c.parted-front-in_default.ensures c.hang-in_default.ensures

pub hang-requires : goal.hang-requires
hang-requires g t c =
    let has = has_node c.args.nodes.now.items c.args.root c.requires.tree c.if-root-eq-NONE.false in
    let size = c.parted-front.ensures.changes.size in
    omega (arith, has, size)

pub hang-requires-in_default : goal.hang-requires-in_default
hang-requires-in_default g t c =
    let has = has_node c.args.nodes.now.items c.args.root c.requires.tree c.if-root-eq-NONE.false in
    let size = c.parted-front-in_default.ensures.changes.size in
    omega (arith, has, size)
