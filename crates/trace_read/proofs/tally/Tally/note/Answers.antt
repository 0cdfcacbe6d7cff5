use Rattle.std.proofs.Common.{refl, rules}
use Rattle.trace_read.proofs.Tallies.{tally_with}
use Rattle.trace_read.proofs.tally.Tally.note.Goals as goal

pub returns : goal.returns
returns c = λ past was.
    tally_with c.args.self.now c.note_late.new.self _ c.args.event.now past was c.in_ok-note_late.ensures.same c.in_ok-note_late.ensures.late refl (search rules)
    c.in_ok-name_timer.ensures c.in_ok-name_processor.ensures c.in_ok-note_armed.ensures c.len.ensures.unique (search rules)
