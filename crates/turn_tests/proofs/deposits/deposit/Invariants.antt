use Rattle.turn_tests.proofs.deposits.deposit.Given as goal

-- the amount that is used up
abbrev pub ghosts-deposit_as : goal.ghosts-deposit_as
ghosts-deposit_as g a = record { amount = a.asked.amount }
