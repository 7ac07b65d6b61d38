-- One item more under the first free number.
use Rattle.std.proofs.Common.{◌-◌, ◌≤◌, Some, length, set, arith, ap, subst, sym}
use Rattle.ordered_keys.specs.Keys.{Inserts, key_in}
use Rattle.ordered_keys.specs.Arranged.{Arrangement, IsCut, NoneStands, Places, keys_of}
use Rattle.ordered_keys.specs.Nodes.{numbers_in}
use Rattle.ordered_keys.specs.Tree.{TakesIn}
use Rattle.ordered_keys.proofs.ItemLemmas.{IsIn, fresh_is, put_in}
use Rattle.ordered_keys.proofs.arranged.Arranged.insert.Given as given
use Rattle.ordered_keys.proofs.arranged.Arranged.insert.Goals as goal

pub node_at-requires : goal.node_at-requires
node_at-requires g c =
    let some : 1 ≤ c.self.inside.room = subst (λ (a : Arrangement g.row.T.Denot). 1 ≤ a.room) (sym c.self.view_is) c.requires.room in
    let fresh = fresh_is c.self.inside.items.items c.self.inside.nodes.items c.self.inside.top c.self.inside.free c.self.inside.room c.self.invariant some in
    fresh.within

pub placed-self-inside-requires : goal.placed-self-inside-requires
placed-self-inside-requires g c =
    let some : 1 ≤ c.self.inside.room = subst (λ (a : Arrangement g.row.T.Denot). 1 ≤ a.room) (sym c.self.view_is) c.requires.room in
    fresh_is c.self.inside.items.items c.self.inside.nodes.items c.self.inside.top c.self.inside.free c.self.inside.room c.self.invariant some

pub index_mut-requires : goal.index_mut-requires
index_mut-requires g c =
    let some : 1 ≤ c.self.inside.room = subst (λ (a : Arrangement g.row.T.Denot). 1 ≤ a.room) (sym c.self.view_is) c.requires.room in
    let fresh = fresh_is c.self.inside.items.items c.self.inside.nodes.items c.self.inside.top c.self.inside.free c.self.inside.room c.self.invariant some in
    let within = fresh.within in
    let even = c.self.invariant.even in
    let lens = c.deref.ensures.len in
    let same = ap length c.deref.ensures.value in
    omega arith

put : (g : given.Over) (c : goal.Joined-index_mut g) → IsIn (λ x. g.R.Ranking.cmp c.args.ranking.now x c.args.item) c.self.inside.items.items c.self.inside.nodes.items c.placed-self-inside.new.nodes.items c.self.inside.top c.placed-self-inside.result c.self.inside.free c.node_at.result.right c.self.inside.room (c.self.inside.room - 1) c.args.item
put g c =
    let standing = λ (x : g.row.T.Denot). g.R.Ranking.cmp c.args.ranking.now x c.args.item in
    let some : 1 ≤ c.self.inside.room = subst (λ (a : Arrangement g.row.T.Denot). 1 ≤ a.room) (sym c.self.view_is) c.requires.room in
    let takes = subst (λ xs. TakesIn standing (key_in xs) c.self.inside.nodes.items c.placed-self-inside.new.nodes.items c.self.inside.top c.self.inside.free c.placed-self-inside.result) c.deref.ensures.value c.placed-self-inside.ensures in
    put_in standing c.self.inside.items.items c.self.inside.nodes.items c.placed-self-inside.new.nodes.items c.self.inside.top c.placed-self-inside.result c.self.inside.free c.self.inside.room (c.self.inside.room - 1) c.args.item c.node_at.result
    c.self.invariant some c.node_at.ensures takes (subst (λ (a : Arrangement g.row.T.Denot). IsCut standing a) (sym c.self.view_is) c.requires.cut) (subst (λ (a : Arrangement g.row.T.Denot). NoneStands standing a) (sym c.self.view_is) c.requires.absent) (omega (arith, some))

pub invariant_of-self : goal.invariant_of-self
invariant_of-self g c = (put g c).stored

pub returns-clause-put : goal.returns-clause-put
returns-clause-put g c = subst (λ (a : Arrangement g.row.T.Denot). Inserts (keys_of a) (record { slots = set c.self.inside.items.items c.self.inside.free (Some c.args.item); room = c.self.inside.room - 1 }) c.args.item c.self.inside.free) c.self.view_is (put g c).inserts

pub returns-clause-order : goal.returns-clause-order
returns-clause-order g c = subst (λ (a : Arrangement g.row.T.Denot). Places (λ x. g.R.Ranking.cmp c.args.ranking.now x c.args.item) a (record { slots = set c.self.inside.items.items c.self.inside.free (Some c.args.item); order = numbers_in c.placed-self-inside.new.nodes.items c.placed-self-inside.result; room = c.self.inside.room - 1 }) c.self.inside.free) c.self.view_is (put g c).places
