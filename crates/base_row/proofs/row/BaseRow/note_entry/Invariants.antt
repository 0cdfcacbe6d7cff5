use Rattle.base_row.proofs.row.BaseRow.note_entry.Given as goal

abbrev pub ghosts-enter : goal.ghosts-enter
ghosts-enter g a = record { event = a.event.now }
