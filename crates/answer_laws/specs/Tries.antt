-- Calls that try each lock once: the moments of those that got no lock, and which those are.
use Rattle.std.specs.Prelude.{ℕ, Bool, true, false}
use Rattle.base_row.specs.declared.view.Opening.{Opening}
use Rattle.hr_timers.specs.Known.{PassOf}
use Rattle.hr_timers.specs.Once.{MissFits}
use Rattle.hr_timers.specs.declared.answer.NowAnswer.{NowAnswer}
use Rattle.hr_timers.specs.declared.answer.NowAnswer.TheVariants as nows
use Rattle.hr_timers.specs.declared.once_answer.Miss.{Miss}
use Rattle.hr_timers.specs.declared.once_answer.Miss.TheVariants as misses
use Rattle.hr_timers.specs.declared.once_answer.NextAnswer.{NextAnswer}
use Rattle.hr_timers.specs.declared.once_answer.NextAnswer.TheVariants as nexts
use Rattle.answer_laws.specs.Outcomes.{NowMoment}

-- a miss as a cancel that waits for nobody tells it
abbrev pub as_now : Miss → NowAnswer
as_now (misses.Contended b) = nows.Contended b
as_now (misses.Moving b) = nows.Moving b
as_now (misses.Moved a b) = nows.Moved a b

abbrev pub miss_moment : (o : Opening) (p q : PassOf) (t : ℕ) (m : Miss) → MissFits o p q t m → NowMoment
miss_moment o p q t (misses.Contended b) f = record { at = f.1.at; later = f.1.at }
miss_moment o p q t (misses.Moving b) f = record { at = f.at; later = f.at }
miss_moment o p q t (misses.Moved a b) f = record { at = f.at; later = f.later }

-- whether a look at a queue got no lock
abbrev pub is_missed : NextAnswer → Bool
is_missed nexts.Contended = true
is_missed a = false
