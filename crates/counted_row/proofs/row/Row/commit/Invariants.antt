use Rattle.counted_row.proofs.row.Row.commit.Given as goal

abbrev pub ghosts-enter : goal.ghosts-enter
ghosts-enter g a = record { code = g.row.O-Call.coded.code a.call.now }
