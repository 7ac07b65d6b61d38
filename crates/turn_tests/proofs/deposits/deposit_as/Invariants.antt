use Rattle.std.proofs.Common.{Some}
use Rattle.turn_tests.specs.Deposits.{deposit}
use Rattle.turn_tests.proofs.deposits.deposit_as.Given as goal

-- the entry is what was asked with the reply
abbrev pub ghosts-finish : goal.ghosts-finish
ghosts-finish g a = record { entry = Some (deposit g.M.Asked.amount a.reply.now) }
