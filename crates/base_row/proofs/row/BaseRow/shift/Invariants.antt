use Rattle.base_row.proofs.row.BaseRow.shift.Given as goal

abbrev pub ghosts-enter_shift : goal.ghosts-enter_shift
ghosts-enter_shift a = record { event = a.event.now }
