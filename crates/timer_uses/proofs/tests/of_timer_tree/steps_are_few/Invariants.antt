use Rattle.timer_uses.proofs.tests.of_timer_tree.steps_are_few.Given as goal

-- the ledger of the count
abbrev pub ghosts-count : goal.ghosts-count
ghosts-count g a = record { name = a.blank.name; parts = a.blank.parts }
