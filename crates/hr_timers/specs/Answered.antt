-- The number of an entry that each call answers: that of its own last entry, or how many entries its timer had where it made none.
use Rattle.std.specs.Prelude.{ℕ}
use Rattle.seq_timer.specs.declared.answer.CancelAnswer.{CancelAnswer}
use Rattle.seq_timer.specs.declared.answer.CancelAnswer.TheVariants as cancels
use Rattle.seq_timer.specs.declared.answer.ForwardAnswer.{ForwardAnswer}
use Rattle.seq_timer.specs.declared.answer.ForwardAnswer.TheVariants as forwards
use Rattle.hr_timers.specs.declared.answer.StartAnswer.{StartAnswer}
use Rattle.hr_timers.specs.declared.answer.StartAnswer.TheVariants as starts

abbrev pub start_number : StartAnswer → ℕ
start_number (starts.Started was_armed generation asked outs placement) = generation
start_number (starts.Spent n) = n

abbrev pub cancel_number : CancelAnswer → ℕ
cancel_number (cancels.Idle n) = n
cancel_number (cancels.Cancelled g n) = n
cancel_number (cancels.Running g n) = n

abbrev pub forward_number : ForwardAnswer → ℕ
forward_number (forwards.Forwarded number moved) = number
forward_number (forwards.Spent n) = n
forward_number (forwards.Armed g n) = n
