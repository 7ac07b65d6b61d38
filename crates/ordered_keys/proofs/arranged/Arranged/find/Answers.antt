-- The way down goes to the side of the number, and ends at it.
use Rattle.std.proofs.Common.{sym, ap, subst, ◌∙◌}
use Rattle.ordered_keys.specs.Keys.{key_in}
use Rattle.ordered_keys.specs.Arranged.{Arrangement, IsCut, NoneStands, StandsAt}
use Rattle.ordered_keys.specs.Nodes.{numbers_in}
use Rattle.ordered_keys.specs.Tree.{stand}
use Rattle.ordered_keys.proofs.FindLemmas.{none_equal, seeks_all, seeks_left, seeks_right}
use Rattle.ordered_keys.proofs.NodeLemmas.{all_of, has_node, nothing_at, to_left, to_right}
use Rattle.ordered_keys.proofs.RunLemmas.{equal_of}
use Rattle.ordered_keys.proofs.arranged.Arranged.find.Goals as goal

pub loop-at-init : goal.loop-at-init
loop-at-init g c = (
  c.self.invariant.tree,
  seeks_all (g.S.Sought.standing c.args.sought.now) (key_in c.self.inside.items.items) (numbers_in c.self.inside.nodes.items c.self.inside.top) c.self.invariant.listed (subst (λ (a : Arrangement g.row.T.Denot). IsCut (g.S.Sought.standing c.args.sought.now) a) (sym c.self.view_is) c.requires),
)

pub node_at-node-requires : goal.node_at-node-requires
node_at-node-requires g c = has_node c.self.inside.nodes.items c.loop-at.at c.loop-at.invariant.0 c.loop-at-test.true

pub loop-at-smaller-in-Less : goal.loop-at-smaller-in-Less
loop-at-smaller-in-Less g c = let below = to_right c.self.inside.nodes.items c.loop-at.at c.node_at-node.result c.node_at-node.ensures c.loop-at.invariant.0 c.loop-at-test.true in below.less

pub loop-at-smaller : goal.loop-at-smaller
loop-at-smaller g c = let below = to_left c.self.inside.nodes.items c.loop-at.at c.node_at-node.result c.node_at-node.ensures c.loop-at.invariant.0 c.loop-at-test.true in below.less

pub loop-at-preserved-in-Less : goal.loop-at-preserved-in-Less
loop-at-preserved-in-Less g c =
    let standing = g.S.Sought.standing c.args.sought.now in
    let below = to_right c.self.inside.nodes.items c.loop-at.at c.node_at-node.result c.node_at-node.ensures c.loop-at.invariant.0 c.loop-at-test.true in (
      below.tree,
      seeks_right standing (key_in c.self.inside.items.items) (numbers_in c.self.inside.nodes.items c.loop-at.at) (numbers_in c.self.inside.nodes.items c.node_at-node.result.left) c.loop-at.at (numbers_in c.self.inside.nodes.items c.node_at-node.result.right) (all_of c.self.inside.nodes.items c.loop-at.at c.node_at-node.result c.node_at-node.ensures c.loop-at.invariant.0 c.loop-at-test.true)
          (ap (λ xs. stand standing (key_in xs c.loop-at.at)) (sym c.deref.ensures.value) ∙ sym c.standing_at.ensures ∙ c.in-Less.is) c.loop-at.invariant.1,
    )

pub loop-at-preserved : goal.loop-at-preserved
loop-at-preserved g c =
    let standing = g.S.Sought.standing c.args.sought.now in
    let below = to_left c.self.inside.nodes.items c.loop-at.at c.node_at-node.result c.node_at-node.ensures c.loop-at.invariant.0 c.loop-at-test.true in (
      below.tree,
      seeks_left standing (key_in c.self.inside.items.items) (numbers_in c.self.inside.nodes.items c.loop-at.at) (numbers_in c.self.inside.nodes.items c.node_at-node.result.left) c.loop-at.at (numbers_in c.self.inside.nodes.items c.node_at-node.result.right) (all_of c.self.inside.nodes.items c.loop-at.at c.node_at-node.result c.node_at-node.ensures c.loop-at.invariant.0 c.loop-at-test.true)
          (ap (λ xs. stand standing (key_in xs c.loop-at.at)) (sym c.deref.ensures.value) ∙ sym c.standing_at.ensures ∙ c.in-Greater.is) c.loop-at.invariant.1,
    )

pub returns-in-Equal : goal.returns-in-Equal
returns-in-Equal g c =
    let standing = g.S.Sought.standing c.args.sought.now in
    subst (λ (a : Arrangement g.row.T.Denot). StandsAt standing a c.loop-at.at) c.self.view_is
    (equal_of standing (key_in c.self.inside.items.items) c.loop-at.at (ap (λ xs. stand standing (key_in xs c.loop-at.at)) (sym c.deref.ensures.value) ∙ sym c.standing_at.ensures ∙ c.in-Equal.is))

pub returns : goal.returns
returns g c =
    let standing = g.S.Sought.standing c.args.sought.now in
    subst (λ (a : Arrangement g.row.T.Denot). NoneStands standing a) c.self.view_is
    (none_equal standing (key_in c.self.inside.items.items) (numbers_in c.self.inside.nodes.items c.loop-at.at) c.loop-at.invariant.1 (nothing_at c.self.inside.nodes.items c.loop-at.at c.loop-at-test.false))
