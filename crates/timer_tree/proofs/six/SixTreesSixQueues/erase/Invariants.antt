use Rattle.timer_tree.proofs.six.SixTreesSixQueues.erase.Given as goal

-- the ledger of the count that is let go
abbrev pub ghosts-erase_uncounted : goal.ghosts-erase_uncounted
ghosts-erase_uncounted a = record { name = a.blank.name; parts = a.blank.parts }
