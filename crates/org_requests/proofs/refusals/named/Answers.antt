-- All the names are joined.
use Rattle.std.proofs.Common.{◌≡◌, List, ℕ, ◌∙◌, take, take_all, ap, codes, arith}
use Rattle.std.specs.List.{join_by}
use Rattle.org_requests.proofs.JoinLemmas.{join-map}
use Rattle.org_requests.proofs.refusals.named.Goals as goal

pub returns : goal.returns
returns c =
    let past = c.loop-sum-test.false in
    let all : take c.loop-sum.sum-index c.args.sums.now ≡ c.args.sums.now = take_all c.loop-sum.sum-index c.args.sums.now (omega (arith, past)) in
    c.in_ok-join.ensures.ok
    ∙ ap (λ names. join_by (λ name. name.now) (codes ", ") names) c.as_slice.ensures.value
    ∙ join-map (λ name. name.now) (codes ", ") c.loop-sum.names.items
    ∙ ap (join_by (λ (sum : List ℕ). sum) (codes ", ")) (c.loop-sum.invariant ∙ all)
