-- No object lies between the first of a scope and the first of the next.
use Rattle.std.proofs.Common.{◌≡◌, ◌+◌, Bool, true, false, not, [], Less, sym, subst}
use Rattle.std.proofs.lemmas.Bool.{false≢true}
use Rattle.search_index.specs.KeyOrder.{object_cmp, object_key}
use Rattle.search_index.proofs.Neighbours.{from_first, below_next}
use Rattle.search_index.proofs.index.is_empty.Goals as goal

both : (b : Bool) → not b ≡ true → b ≡ true → ⊥
both true e f = false≢true e
both false e f = false≢true f

pub returns : goal.returns
returns c told i x is same =
    let next : c.in-Some.next ≡ c.args.number + 1 = c.in-Some.ensures.1 in
    let below = subst (λ z. object_cmp x (object_key z []) ≡ Less) (sym next) (below_next x c.args.number same) in
    absurd (both c.has_between.result told (c.has_between.ensures.1 (i, (x, is, from_first x c.args.number same, below))))
