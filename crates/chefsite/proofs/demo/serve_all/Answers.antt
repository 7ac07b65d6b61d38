-- The demo begins with nothing served, goes on by one request a time, and ends behind the last.
use Rattle.std.proofs.Common.{sym, ap, ◌∙◌, length}
use Rattle.chefsite.proofs.DemoLemmas.{none_served, one_served, all_served, none_left}
use Rattle.chefsite.proofs.demo.serve_all.Goals as goal

pub requests-init : goal.requests-init
requests-init g c = record {
  served = none_served _ _ _ _ c.of-demo.ensures.requests c.requires.nobody c.none-counts.ensures;
  many = ap length (sym c.of-demo.ensures.requests) ∙ c.of-demo.ensures.count;
}

pub requests-preserved : goal.requests-preserved
requests-preserved g c = record {
  served =
      one_served c.args.size c.in-Some.request c.serve_one.ensures.0 c.requests.demo c.next.new.self _ _ _ _ c.requests.invariant.served
      (sym c.in_ok-request.ensures.next ∙ c.in-Some.is) c.in_ok-request.ensures.rest c.serve_one.ensures.1 c.serve_one.ensures.2;
  many = c.requests.invariant.many;
}

pub returns : goal.returns
returns g c =
    all_served c.args.size c.requests.demo _ _ c.requests.invariant.served
    (none_left c.requests.demo _ c.in_ok-request.ensures.next c.in_default.not-Some)
