use Rattle.std.proofs.Common.{arith}
use Rattle.base_row.specs.Rings.{put_counter, taken_counter}
use Rattle.ordered_clock.proofs.Moments.{rises}
use Rattle.pass_names.proofs.Passes.{looks_trans}
use Rattle.signal_queue.proofs.Turns.{fewer_pushed}
use Rattle.ordered_signals.specs.Places.{signal_ring}
use Rattle.ordered_signals.proofs.looking.look.Goals as goal

pub returns-clause-queue : goal.returns-clause-queue
returns-clause-queue g c = looks_trans c.see_pushes.ensures.looks c.see_pops.ensures.looks

pub returns-clause-pushes : goal.returns-clause-pushes
returns-clause-pushes g c = omega (
  arith,
  rises (put_counter c.args.timers.now.about signal_ring) c.put_count-put.ensures.looks.seen,
  c.put_count-put.ensures.count,
  c.see_pushes.ensures.least,
  fewer_pushed (c.see_pops.ensures.looks.seen.each 0),
)

pub returns-clause-pops : goal.returns-clause-pops
returns-clause-pops g c = omega (
  arith,
  rises (taken_counter c.args.timers.now.about signal_ring) c.put_count-put.ensures.looks.seen,
  rises (taken_counter c.args.timers.now.about signal_ring) c.taken_count-taken.ensures.looks.seen,
  c.taken_count-taken.ensures.count,
  c.see_pops.ensures.least,
)
