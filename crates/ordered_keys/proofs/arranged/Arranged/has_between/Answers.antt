-- The way down goes to the side of the numbers that are between the bounds, and ends at the first of them.
use Rattle.std.proofs.Common.{sym, ap, subst, ◌∙◌, rules}
use Rattle.ordered_keys.specs.Keys.{key_in}
use Rattle.ordered_keys.specs.Arranged.{Arrangement, HasWithin, IsCut}
use Rattle.ordered_keys.specs.Nodes.{numbers_in}
use Rattle.ordered_keys.specs.Tree.{stand}
use Rattle.ordered_keys.proofs.NodeLemmas.{all_of, has_node, nothing_at, to_left, to_right}
use Rattle.ordered_keys.proofs.RunLemmas.{is_less, is_not_less}
use Rattle.ordered_keys.proofs.FindLemmas.{none_within, ranges_all, ranges_left, ranges_right, within_here}
use Rattle.ordered_keys.proofs.arranged.Arranged.has_between.Goals as goal

pub loop-at-init : goal.loop-at-init
loop-at-init g c =
    let low = g.S.Sought.standing c.args.low.now in
    let high = g.S.Sought.standing c.args.high.now in (
      c.self.invariant.tree,
      ranges_all low high (key_in c.self.inside.items.items) (numbers_in c.self.inside.nodes.items c.self.inside.top) c.self.invariant.listed
          (subst (λ (a : Arrangement g.row.T.Denot). IsCut low a) (sym c.self.view_is) c.requires.low) (subst (λ (a : Arrangement g.row.T.Denot). IsCut high a) (sym c.self.view_is) c.requires.high),
    )

pub node_at-node-requires : goal.node_at-node-requires
node_at-node-requires g c = has_node c.self.inside.nodes.items c.loop-at.at c.loop-at.invariant.0 c.loop-at-test.true

pub loop-at-smaller-then-eq : goal.loop-at-smaller-then-eq
loop-at-smaller-then-eq g c = let below = to_right c.self.inside.nodes.items c.loop-at.at c.node_at-node.result c.node_at-node.ensures c.loop-at.invariant.0 c.loop-at-test.true in below.less

pub loop-at-smaller : goal.loop-at-smaller
loop-at-smaller g c = let below = to_left c.self.inside.nodes.items c.loop-at.at c.node_at-node.result c.node_at-node.ensures c.loop-at.invariant.0 c.loop-at-test.true in below.less

pub loop-at-preserved-then-eq : goal.loop-at-preserved-then-eq
loop-at-preserved-then-eq g c =
    let low = g.S.Sought.standing c.args.low.now in
    let below = to_right c.self.inside.nodes.items c.loop-at.at c.node_at-node.result c.node_at-node.ensures c.loop-at.invariant.0 c.loop-at-test.true in (
      below.tree,
      ranges_right low (g.S.Sought.standing c.args.high.now) (key_in c.self.inside.items.items) (numbers_in c.self.inside.nodes.items c.loop-at.at) (numbers_in c.self.inside.nodes.items c.node_at-node.result.left) c.loop-at.at (numbers_in c.self.inside.nodes.items c.node_at-node.result.right) (all_of c.self.inside.nodes.items c.loop-at.at c.node_at-node.result c.node_at-node.ensures c.loop-at.invariant.0 c.loop-at-test.true)
          (ap (λ xs. stand low (key_in xs c.loop-at.at)) (sym c.deref.ensures.value) ∙ sym c.standing_at.ensures ∙ is_less c.standing_at.result c.if-eq.ensures) c.loop-at.invariant.1,
    )

pub returns-then-eq-2 : goal.returns-then-eq-2
returns-then-eq-2 g c =
    let low = g.S.Sought.standing c.args.low.now in
    let high = g.S.Sought.standing c.args.high.now in
    let here = within_here low high (key_in c.self.inside.items.items) (numbers_in c.self.inside.nodes.items c.loop-at.at) (numbers_in c.self.inside.nodes.items c.node_at-node.result.left) c.loop-at.at (numbers_in c.self.inside.nodes.items c.node_at-node.result.right) (all_of c.self.inside.nodes.items c.loop-at.at c.node_at-node.result c.node_at-node.ensures c.loop-at.invariant.0 c.loop-at-test.true)
    (λ e. is_not_less c.standing_at.result c.if-eq.ensures (c.standing_at.ensures ∙ ap (λ xs. stand low (key_in xs c.loop-at.at)) c.deref.ensures.value ∙ e))
    (ap (λ xs. stand high (key_in xs c.loop-at.at)) (sym c.deref-else-eq.ensures.value) ∙ sym c.standing_at-else-eq.ensures ∙ is_less c.standing_at-else-eq.result c.if-eq-2.ensures) c.loop-at.invariant.1 in
    (λ _. subst (λ (a : Arrangement g.row.T.Denot). HasWithin low high a) c.self.view_is (c.loop-at.at, here), λ _. search rules)

pub loop-at-preserved : goal.loop-at-preserved
loop-at-preserved g c =
    let high = g.S.Sought.standing c.args.high.now in
    let below = to_left c.self.inside.nodes.items c.loop-at.at c.node_at-node.result c.node_at-node.ensures c.loop-at.invariant.0 c.loop-at-test.true in (
      below.tree,
      ranges_left (g.S.Sought.standing c.args.low.now) high (key_in c.self.inside.items.items) (numbers_in c.self.inside.nodes.items c.loop-at.at) (numbers_in c.self.inside.nodes.items c.node_at-node.result.left) c.loop-at.at (numbers_in c.self.inside.nodes.items c.node_at-node.result.right) (all_of c.self.inside.nodes.items c.loop-at.at c.node_at-node.result c.node_at-node.ensures c.loop-at.invariant.0 c.loop-at-test.true)
          (λ e. is_not_less c.standing_at-else-eq.result c.if-eq-2.ensures (c.standing_at-else-eq.ensures ∙ ap (λ xs. stand high (key_in xs c.loop-at.at)) c.deref-else-eq.ensures.value ∙ e)) c.loop-at.invariant.1,
    )

pub returns : goal.returns
returns g c =
    let low = g.S.Sought.standing c.args.low.now in
    let high = g.S.Sought.standing c.args.high.now in
    (λ t. absurd (cc), λ has. absurd (none_within low high (key_in c.self.inside.items.items) (numbers_in c.self.inside.nodes.items c.loop-at.at) c.loop-at.invariant.1 (nothing_at c.self.inside.nodes.items c.loop-at.at c.loop-at-test.false) (subst (λ (a : Arrangement g.row.T.Denot). HasWithin low high a) (sym c.self.view_is) has)))
