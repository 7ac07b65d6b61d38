-- The number is free again.
use Rattle.std.proofs.Common.{ℕ, List, None, IsSome, length, set, sym, subst}
use Rattle.std.specs.Vec.{vec_capacity}
use Rattle.ordered_keys.specs.Keys.{Keys, Removes, key_of}
use Rattle.search_index.specs.NumberedTexts.{AreNumbered}
use Rattle.search_index.proofs.NumberedLemmas.{taken_out}
use Rattle.search_index.proofs.numbered_texts.NumberedTexts.remove.Goals as goal

pub invariant_of-self : goal.invariant_of-self
invariant_of-self c =
    let some = subst (λ (k : Keys (List ℕ)). IsSome (key_of k c.args.number)) (sym c.self.view_is) c.requires in
    let out = taken_out c.self.inside.items.items c.self.inside.free.items (vec_capacity c.self.inside.free) c.args.number c.self.invariant some in
    subst (λ n. AreNumbered (set c.self.inside.items.items c.args.number None) c.push_reserved.new.self.items n) (sym c.push_reserved.ensures.capacity)
    (subst (λ z. AreNumbered (set c.self.inside.items.items c.args.number None) z (vec_capacity c.self.inside.free)) (sym c.push_reserved.ensures.items) out.numbered)
