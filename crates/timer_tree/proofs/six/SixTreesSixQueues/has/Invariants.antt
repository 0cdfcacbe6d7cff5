use Rattle.timer_tree.proofs.six.SixTreesSixQueues.has.Given as goal

-- the ledger of the count that is let go
abbrev pub ghosts-has_uncounted : goal.ghosts-has_uncounted
ghosts-has_uncounted a = record { name = a.blank.name; parts = a.blank.parts }
