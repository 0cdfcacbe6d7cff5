use Rattle.clock_cell.proofs.shared.SharedClock.exchange.Given as goal

abbrev pub ghosts-enter : goal.ghosts-enter
ghosts-enter g a = record { write = a.write }
