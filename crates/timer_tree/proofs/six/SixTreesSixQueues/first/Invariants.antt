use Rattle.timer_tree.proofs.six.SixTreesSixQueues.first.Given as goal

-- the ledger of the count that is let go
abbrev pub ghosts-first_uncounted : goal.ghosts-first_uncounted
ghosts-first_uncounted a = record { name = a.blank.name; parts = a.blank.parts }
