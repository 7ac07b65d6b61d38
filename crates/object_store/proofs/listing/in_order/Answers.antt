use Rattle.std.proofs.Common.{◌≡◌, ◌++◌, List, ℕ, bytes_eq, ap, sym, ◌∙◌, append-nil}
use Rattle.std.specs.List.{list_any}
use Rattle.object_store.proofs.ListingLemmas.{has-keys}
use Rattle.object_store.proofs.listing.in_order.Goals as goal

pub returns-clause-names : goal.returns-clause-names
returns-clause-names c = λ name.
    let all : c.loop-name.list.items ≡ c.args.names.keys =
    sym (append-nil c.loop-name.list.items)
    ∙ ap (λ (left : List (List ℕ)). c.loop-name.list.items ++ left) (sym c.in-None.ensures.steps.0)
    ∙ c.loop-name.invariant in
    ap (list_any (bytes_eq name)) (c.of.ensures ∙ all) ∙ has-keys name c.args.names.keys
