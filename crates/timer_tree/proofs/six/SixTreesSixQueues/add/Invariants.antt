use Rattle.timer_tree.proofs.six.SixTreesSixQueues.add.Given as goal

-- the ledger of the count that is let go
abbrev pub ghosts-add_uncounted : goal.ghosts-add_uncounted
ghosts-add_uncounted a = record { name = a.blank.name; parts = a.blank.parts }
