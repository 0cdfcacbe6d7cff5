-- What a call is answered where it made an entry in its object's history.
use Rattle.record_text.specs.declared.record.SettimeReply.{SettimeReply}
use Rattle.record_text.specs.declared.record.SettimeReply.TheVariants as settimes
use Rattle.record_text.specs.declared.record.AcceptReply.{AcceptReply}
use Rattle.record_text.specs.declared.record.AcceptReply.TheVariants as accepts
use Rattle.record_text.specs.declared.record.ReadReply.{ReadReply}
use Rattle.record_text.specs.declared.record.ReadReply.TheVariants as reads
use Rattle.record_text.specs.declared.record.SleepReply.{SleepReply}
use Rattle.record_text.specs.declared.record.SleepReply.TheVariants as sleeps
use Rattle.record_text.specs.declared.record.InterruptReply.{InterruptReply}
use Rattle.record_text.specs.declared.record.InterruptReply.TheVariants as interrupts
use Rattle.record_text.specs.declared.record.Answer.{Answer}
use Rattle.record_text.specs.declared.record.Answer.TheVariants as answers

-- the answer of a settime that made an entry
abbrev pub answer_of_settime : SettimeReply → Answer
answer_of_settime (settimes.Old left interval) = answers.Old left interval
answer_of_settime settimes.Canceled = answers.Canceled
answer_of_settime (settimes.Unarmed stamp) = answers.Unarmed stamp

-- the answer of an acceptance that made an entry
abbrev pub answer_of_accept : AcceptReply → Answer
answer_of_accept (accepts.Accepted overrun) = answers.Accepted overrun
answer_of_accept accepts.NoSignal = answers.NoSignal

-- the answer of a read that made an entry
abbrev pub answer_of_read : ReadReply → Answer
answer_of_read (reads.Count total) = answers.Count total
answer_of_read reads.Again = answers.Again
answer_of_read reads.Canceled = answers.Canceled

-- the answer of a sleep that made an entry
abbrev pub answer_of_sleep : SleepReply → Answer
answer_of_sleep sleeps.Slept = answers.Slept
answer_of_sleep sleeps.Asleep = answers.Asleep
answer_of_sleep (sleeps.Unarmed stamp) = answers.Unarmed stamp

-- the answer of an interrupt that made an entry
abbrev pub answer_of_interrupt : InterruptReply → Answer
answer_of_interrupt interrupts.Slept = answers.Slept
answer_of_interrupt (interrupts.Left ns) = answers.SleepLeft ns
answer_of_interrupt interrupts.Interrupted = answers.Interrupted
