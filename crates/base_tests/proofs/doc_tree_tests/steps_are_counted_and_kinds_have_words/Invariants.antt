use Rattle.base_tests.proofs.doc_tree_tests.steps_are_counted_and_kinds_have_words.Given as goal

-- the steps are counted by the ledger of the blank
abbrev pub ghosts-counted : goal.ghosts-counted
ghosts-counted g a = record { name = a.blank.name; parts = a.blank.parts }
