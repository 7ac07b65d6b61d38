-- What was made is the first of the requests that were to come, and the others are still to come.
use Rattle.std.proofs.Common.{Some, sym, ap, ◌∙◌, drop, slice_get}
use Rattle.demo_requests.proofs.RequestLemmas.{first_of, rest_of}
use Rattle.demo_requests.proofs.demo.Demo.next.Goals as goal

pub returns-clause-next : goal.returns-clause-next
returns-clause-next c =
    ap Some c.in_ok-request.ensures.request
    ∙ sym (first_of c.self.inside.size c.self.inside.made c.self.inside.left c.if-self-eq0.false)
    ∙ ap (λ requests. slice_get requests 0) c.self.view_is

pub returns-clause-rest : goal.returns-clause-rest
returns-clause-rest c =
    rest_of c.self.inside.size c.self.inside.made c.self.inside.left c.if-self-eq0.false ∙ ap (drop 1) c.self.view_is
