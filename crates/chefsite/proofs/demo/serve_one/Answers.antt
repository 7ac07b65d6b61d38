-- The request stands for itself, and its reply is counted by the bytes of its text.
use Rattle.chefsite.proofs.DemoLemmas.{read_itself, counted_so}
use Rattle.chefsite.proofs.demo.serve_one.Goals as goal

pub returns : goal.returns
returns g c = (
  c.answer-reply.result,
  c.answer-reply.ensures c.args.request (read_itself c.args.request),
  counted_so c.answer-reply.result c.reply_length.result _ _ c.reply_length.ensures c.count.ensures.sums,
)
