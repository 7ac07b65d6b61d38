use Rattle.search_tests.proofs.object_finder_tests.found_by.Given as goal

-- the steps are counted by the ledger of the blank
abbrev pub ghosts-found : goal.ghosts-found
ghosts-found a = record { name = a.blank.name; parts = a.blank.parts }
