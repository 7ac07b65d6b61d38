use Rattle.turn_tests.proofs.DepositLemmas.{adds_deposit, answered}
use Rattle.turn_tests.proofs.deposits.deposit_as.Goals as goal

pub finish-requires-clause-adds : goal.finish-requires-clause-adds
finish-requires-clause-adds g c = adds_deposit c.args.turns.now c.take.new.turns c.in-Some.out c.state.result.now c.pay_in-reply.new.self g.M.Asked.amount c.pay_in-reply.result c.args.asked.amount c.in-Some.ensures.took
    c.state.ensures.value c.requires.amount c.pay_in-reply.ensures.reply c.pay_in-reply.ensures.sum c.pay_in-reply.ensures.journal

pub returns : goal.returns
returns g c = record {
  answer = answered c.args.turns.now c.take.new.turns c.finish.new.turns c.in-Some.out c.state.result.now g.M.Asked.amount c.pay_in-reply.result c.in-Some.ensures.took
      c.state.ensures.value c.pay_in-reply.ensures.reply c.finish.ensures.gave;
}
