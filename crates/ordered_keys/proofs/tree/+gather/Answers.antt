-- One side alone, or the one side, the number and the other side.
use Rattle.std.proofs.Common.{arith, refl, sym, ◌∙◌}
use Rattle.std.proofs.lemmas.Result.{on_ok_weaker}
use Rattle.ordered_keys.specs.Keys.{key_in}
use Rattle.ordered_keys.specs.Nodes.{numbers_in}
use Rattle.ordered_keys.proofs.NodeLemmas.{all_of, has_node, nothing_at, to_left, to_right}
use Rattle.ordered_keys.proofs.RunLemmas.{is_less, is_less_of_not, is_not_less, is_not_less_of_not}
use Rattle.ordered_keys.proofs.TreeLemmas.{gathers_all, gathers_left, gathers_none, gathers_right}
use Rattle.ordered_keys.proofs.tree.+gather.Goals as goal

pub returns-then-root-eq-NONE : goal.returns-then-root-eq-NONE
returns-then-root-eq-NONE g t c = gathers_none (g.S.Sought.standing c.args.low.now) (g.S.Sought.standing c.args.high.now) (key_in c.args.items.now) (numbers_in c.args.nodes.now.items c.args.root) c.args.found.now.items c.args.found.now.items (nothing_at c.args.nodes.now.items c.args.root c.if-root-eq-NONE.true) refl

pub node_at-node-requires : goal.node_at-node-requires
node_at-node-requires g t c = has_node c.args.nodes.now.items c.args.root c.requires c.if-root-eq-NONE.false

pub gather-requires : goal.gather-requires
gather-requires g t c κs within = let below = to_right c.args.nodes.now.items c.args.root c.node_at-node.result c.node_at-node.ensures c.requires c.if-root-eq-NONE.false in (omega (arith, below.less, c.decreases), (within.0, (within.1, below.tree)))

pub gather-requires-then-ne : goal.gather-requires-then-ne
gather-requires-then-ne g t c κs within = let below = to_left c.args.nodes.now.items c.args.root c.node_at-node.result c.node_at-node.ensures c.requires c.if-root-eq-NONE.false in (omega (arith, below.less, c.decreases), (within.0, (within.1, below.tree)))

pub gather-requires-2 : goal.gather-requires-2
gather-requires-2 g t c κs within = let below = to_left c.args.nodes.now.items c.args.root c.node_at-node.result c.node_at-node.ensures c.requires c.if-root-eq-NONE.false in (omega (arith, below.less, c.decreases), (within.0, (within.1, below.tree)))

pub gather-requires-3 : goal.gather-requires-3
gather-requires-3 g t c κs within = let below = to_right c.args.nodes.now.items c.args.root c.node_at-node.result c.node_at-node.ensures c.requires c.if-root-eq-NONE.false in (omega (arith, below.less, c.decreases), (within.0, (within.1, below.tree)))

pub returns-then-eq : goal.returns-then-eq
returns-then-eq g t c =
    on_ok_weaker c.gather.result (gathers_right (g.S.Sought.standing c.args.low.now) (g.S.Sought.standing c.args.high.now) (key_in c.args.items.now) (numbers_in c.args.nodes.now.items c.args.root) (numbers_in c.args.nodes.now.items c.node_at-node.result.left) c.args.root (numbers_in c.args.nodes.now.items c.node_at-node.result.right) c.args.found.now.items c.gather.new.found.items (all_of c.args.nodes.now.items c.args.root c.node_at-node.result c.node_at-node.ensures c.requires c.if-root-eq-NONE.false) (sym c.standing_at.ensures ∙ is_less c.standing_at.result c.if-eq.ensures)) c.gather.ensures

pub returns-then-ne : goal.returns-then-ne
returns-then-ne g t c =
    on_ok_weaker c.gather-then-ne.result (gathers_left (g.S.Sought.standing c.args.low.now) (g.S.Sought.standing c.args.high.now) (key_in c.args.items.now) (numbers_in c.args.nodes.now.items c.args.root) (numbers_in c.args.nodes.now.items c.node_at-node.result.left) c.args.root (numbers_in c.args.nodes.now.items c.node_at-node.result.right) c.args.found.now.items c.gather-then-ne.new.found.items (all_of c.args.nodes.now.items c.args.root c.node_at-node.result c.node_at-node.ensures c.requires c.if-root-eq-NONE.false) (λ e. is_not_less_of_not c.standing_at-2.result c.if-ne.ensures (c.standing_at-2.ensures ∙ e))) c.gather-then-ne.ensures

pub returns : goal.returns
returns g t c =
    on_ok_weaker c.gather-3.result (gathers_all (g.S.Sought.standing c.args.low.now) (g.S.Sought.standing c.args.high.now) (key_in c.args.items.now) (numbers_in c.args.nodes.now.items c.args.root) (numbers_in c.args.nodes.now.items c.node_at-node.result.left) c.args.root (numbers_in c.args.nodes.now.items c.node_at-node.result.right) c.args.found.now.items c.gather-2.new.found.items c.push.new.self.items c.gather-3.new.found.items (all_of c.args.nodes.now.items c.args.root c.node_at-node.result c.node_at-node.ensures c.requires c.if-root-eq-NONE.false)
    (λ e. is_not_less c.standing_at.result c.if-eq.ensures (c.standing_at.ensures ∙ e)) (sym c.standing_at-2.ensures ∙ is_less_of_not c.standing_at-2.result c.if-ne.ensures) c.in_ok-gather.ensures c.in_ok-push.ensures.items) c.gather-3.ensures
