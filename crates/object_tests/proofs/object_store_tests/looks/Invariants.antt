use Rattle.object_tests.proofs.object_store_tests.looks.Given as goal

-- the steps are counted by the ledger of the blank
abbrev pub ghosts-reads : goal.ghosts-reads
ghosts-reads a = record { name = a.blank.name; parts = a.blank.parts }
