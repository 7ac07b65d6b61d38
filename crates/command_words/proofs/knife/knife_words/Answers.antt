-- With nothing given so far, what is given is what the words give.
use Rattle.std.proofs.Common.{rules}
use Rattle.command_words.proofs.GivenLemmas.{begins}
use Rattle.command_words.proofs.knife.knife_words.Goals as goal

pub returns-then-branch : goal.returns-then-branch
returns-then-branch c = search (rules, begins c.args.words.now)

pub returns : goal.returns
returns c = search (rules, begins c.args.words.now)
