-- One item fewer, and its number is the first free one.
use Rattle.std.proofs.Common.{◌≡◌, ◌∙◌, ◌+◌, Some, None, set, ap, subst, sym}
use Rattle.ordered_keys.specs.Numbers.{Loses}
use Rattle.ordered_keys.specs.Keys.{Removes, key_in}
use Rattle.ordered_keys.specs.Arranged.{Arrangement, CanLeave, keys_of}
use Rattle.ordered_keys.specs.Nodes.{numbers_in}
use Rattle.ordered_keys.specs.Tree.{GivesUp}
use Rattle.ordered_keys.proofs.ItemLemmas.{IsOut, taken_out}
use Rattle.ordered_keys.proofs.arranged.Arranged.remove.Given as given
use Rattle.ordered_keys.proofs.arranged.Arranged.remove.Goals as goal

took : (g : given.Over) (c : goal.After-hang g) → IsOut c.self.inside.items.items c.self.inside.nodes.items c.hang.new.nodes.items c.self.inside.top c.without-self-inside.result c.self.inside.room c.args.number
took g c =
    let x = c.item_at-item.result.now in
    let standing = λ (y : g.row.T.Denot). g.R.Ranking.cmp c.args.ranking.now y x in
    let at : key_in c.self.inside.items.items c.args.number ≡ Some x = ap (λ xs. key_in xs c.args.number) (sym c.deref.ensures.value) ∙ c.item_at-item.ensures in
    let gives = subst (λ xs. GivesUp standing (key_in xs) c.self.inside.nodes.items c.without-self-inside.new.nodes.items c.self.inside.top c.without-self-inside.result) c.deref-2.ensures.value c.without-self-inside.ensures in
    taken_out (g.R.Ranking.cmp c.args.ranking.now) c.self.inside.items.items c.self.inside.nodes.items c.without-self-inside.new.nodes.items c.hang.new.nodes.items c.self.inside.top c.without-self-inside.result c.self.inside.free c.self.inside.room x c.args.number
    c.self.invariant at (subst (λ (a : Arrangement g.row.T.Denot). CanLeave (g.R.Ranking.cmp c.args.ranking.now) a c.args.number) (sym c.self.view_is) c.requires) gives c.hang.ensures

pub invariant_of-self : goal.invariant_of-self
invariant_of-self g c = (took g c).stored

pub returns-clause-gone : goal.returns-clause-gone
returns-clause-gone g c = subst (λ (a : Arrangement g.row.T.Denot). Removes (keys_of a) (record { slots = set c.self.inside.items.items c.args.number None; room = c.self.inside.room + 1 }) c.args.number) c.self.view_is (took g c).removes

pub returns-clause-order : goal.returns-clause-order
returns-clause-order g c = subst (λ (a : Arrangement g.row.T.Denot). Loses a.order c.args.number (numbers_in c.hang.new.nodes.items c.without-self-inside.result)) c.self.view_is (took g c).loses
