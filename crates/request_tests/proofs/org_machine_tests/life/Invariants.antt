use Rattle.request_tests.proofs.org_machine_tests.life.Given as goal

-- the steps are counted by the ledger of the blank
abbrev pub ghosts-add_life : goal.ghosts-add_life
ghosts-add_life a = record { name = a.blank.name; parts = a.blank.parts }
