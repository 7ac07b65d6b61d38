-- The key under a number is the only one that is equal to it.
use Rattle.std.proofs.Common.{IsSome, subst, sym}
use Rattle.ordered_keys.specs.Keys.{Keys, key_of}
use Rattle.ordered_keys.proofs.OrderLemmas.{can_leave, in_order_out}
use Rattle.ordered_keys.proofs.keys.Ordered.remove.Goals as goal

pub remove-requires : goal.remove-requires
remove-requires g c = can_leave g.K.Ord.cmp g.met.K.Ord.total c.self.inside.keys c.args.number c.self.invariant (subst (λ (k : Keys g.row.K.Denot). IsSome (key_of k c.args.number)) (sym c.self.view_is) c.requires)

pub invariant_of-self : goal.invariant_of-self
invariant_of-self g c = in_order_out g.K.Ord.cmp g.met.K.Ord.total c.self.inside.keys c.remove.new.self c.args.number c.self.invariant c.remove.ensures.gone c.remove.ensures.order
