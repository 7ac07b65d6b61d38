-- What was gathered is the numbers between the bounds.
use Rattle.std.proofs.Common.{sym, subst}
use Rattle.ordered_keys.specs.Keys.{key_in}
use Rattle.ordered_keys.specs.Arranged.{AreWithin, Arrangement, IsCut}
use Rattle.ordered_keys.specs.Nodes.{numbers_in}
use Rattle.ordered_keys.specs.Tree.{Gathers}
use Rattle.ordered_keys.proofs.FindLemmas.{gathered_within}
use Rattle.ordered_keys.proofs.arranged.Arranged.between.Goals as goal

pub returns : goal.returns
returns g c =
    let low = g.S.Sought.standing c.args.low.now in
    let high = g.S.Sought.standing c.args.high.now in
    let all = numbers_in c.self.inside.nodes.items c.self.inside.top in
    let found = c.gather.new.found.items in
    subst (λ (a : Arrangement g.row.T.Denot). AreWithin low high a found) c.self.view_is
    (gathered_within low high (key_in c.self.inside.items.items) all found c.self.invariant.listed
    (subst (λ (a : Arrangement g.row.T.Denot). IsCut low a) (sym c.self.view_is) c.requires.low) (subst (λ (a : Arrangement g.row.T.Denot). IsCut high a) (sym c.self.view_is) c.requires.high)
    (subst (λ old. Gathers low high (key_in c.self.inside.items.items) all old found) c.new-found.ensures.items
    (subst (λ xs. Gathers low high (key_in xs) all c.new-found.result.items found) c.deref.ensures.value c.in_ok-gather.ensures)))
