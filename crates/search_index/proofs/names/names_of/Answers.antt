-- The objects that were found are among those that are gone through.
use Rattle.std.proofs.Common.{◌≡◌, ◌∙◌, Bool, not, if◌then◌else◌, List, [], ℕ, Less, sym, ap, subst}
use Rattle.ordered_keys.specs.Numbers.{Among}
use Rattle.search_index.specs.Found.{has, is_in}
use Rattle.search_index.specs.KeyOrder.{object_cmp, object_key}
use Rattle.search_index.proofs.FoundLemmas.{in_among}
use Rattle.search_index.proofs.Neighbours.{below_next, from_first}
use Rattle.search_index.proofs.names.names_of.Goals as goal

pub names_among-requires : goal.names_among-requires
names_among-requires c i x is e h =
    let numbers : List ℕ = c.args.found.now.numbers in
    let told : has c.args.found.now i ≡ is_in numbers i = ap (λ (b : Bool). if b then not (is_in numbers i) else is_in numbers i) c.if-not-found.true in
    subst (λ (ns : List ℕ). Among ns i) (sym c.as_slice.ensures) ((in_among numbers i).0 (sym told ∙ h))

pub names_among-requires-2 : goal.names_among-requires-2
names_among-requires-2 c i x is e h =
    let below = subst (λ z. object_cmp x (object_key z []) ≡ Less) (sym c.requires) (below_next x c.args.scope e) in
    subst (λ (ns : List ℕ). Among ns i) (sym c.deref.ensures.value) ((c.in_ok-numbers.ensures i).1 (x, is, from_first x c.args.scope e, below))
