use Rattle.std.proofs.Common.{◌≡◌, ◌⊎◌, ◌∙◌, inr, Ok, Err, Result}
use Rattle.pass_names.specs.Passes.{Looks}
use Rattle.pass_names.proofs.Passes as clocks
use Rattle.pass_names.proofs.SharedHistory.{looks_trans}
use Rattle.ktime.specs.declared.write.ClockFault.{ClockFault}
use Rattle.ktime.specs.declared.write.Write.{Write}
use Rattle.ktime.specs.Readings.{ClockReading}
use Rattle.clock_cell.proofs.Taking.{hears_again, takes_again}
use Rattle.clock_cell.specs.Views.{AnswersWrite, Hears}
use Rattle.clock_cell.specs.declared.view.ClockView.{ClockView}
use Rattle.ordered_clock.proofs.ordered.write.Goals as goal

-- what a write answers after looks at the clock
answers_again : (w : Write) (old mid new : ClockView) (r : Result ClockReading ClockFault) → Looks old.pass mid.pass
    → (old.heard ≡ mid.heard) ⊎ Hears old mid → AnswersWrite w mid new r → AnswersWrite w old new r
answers_again w old mid new (Ok r) looks heard a = record {
  ok = takes_again old mid new w r looks a.ok;
  err = tt;
  hears = hears_again old mid new heard (a.ok.adds.seen.each 0) a.hears;
  known = a.known;
}
answers_again w old mid new (Err fault) looks heard a = record {
  ok = tt;
  err = record { looks = clocks.looks_trans looks a.err.looks; cause = a.err.cause };
  hears = hears_again old mid new heard (a.err.looks.seen.each 0) a.hears;
  known = a.known;
}

pub returns-in-Some-turn-clause-answers : goal.returns-in-Some-turn-clause-answers
returns-in-Some-turn-clause-answers g c =
    answers_again _ _ _ _ c.in-Some-turn.answer c.loop.invariant.clock_looks c.loop.invariant.heard c.in-Some-turn.ensures.answers

pub loop-preserved : goal.loop-preserved
loop-preserved g c =
    let before = c.loop.invariant in
    let turn = c.in_default.ensures in
    record {
      can = tt;
      ends = tt;
      pass = turn.pass;
      looks = looks_trans _ _ _ before.looks turn.looks;
      locks = (turn.locks.0 ∙ before.locks.0, turn.locks.1 ∙ before.locks.1);
      clock = turn.clock;
      clock_looks = clocks.looks_trans before.clock_looks turn.again;
      heard = inr (hears_again _ _ _ before.heard (turn.again.seen.each 0) turn.heard);
    }
