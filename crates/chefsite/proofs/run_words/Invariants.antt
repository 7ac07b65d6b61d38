use Rattle.chefsite.proofs.run_words.Given as goal

-- the steps are counted by the ledger of the blank
abbrev pub ghosts-run : goal.ghosts-run
ghosts-run g a = record { name = a.blank.name; parts = a.blank.parts }
