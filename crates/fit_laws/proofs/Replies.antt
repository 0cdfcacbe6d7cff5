-- In a record that fits each entry of a timer has a reply that its event has.
use Rattle.std.proofs.Common.{ℕ, List, [], ◌∷◌, sym, subst}
use Rattle.ktime.specs.Readings.{ClockReading}
use Rattle.seq_timer.specs.Events.{map_reading}
use Rattle.seq_timer.specs.Histories.{AreSteps}
use Rattle.seq_timer.specs.Steps.{Timer, after, opening, reply_to}
use Rattle.seq_timer.specs.declared.event.EventBy.{EventBy}
use Rattle.seq_timer.specs.declared.event.EventBy.TheVariants as events
use Rattle.record_text.specs.Numbers.{HasReplies, HaveReplies, IsReplyTo}
use Rattle.record_text.specs.declared.record.ClockLine.{ClockLine}
use Rattle.record_text.specs.declared.record.RunRecord.{RunRecord}
use Rattle.record_text.specs.declared.record.TimerLine.{TimerLine}
use Rattle.script_text.specs.Declarations.{declared_of, terms_of}
use Rattle.script_text.specs.declared.script.Script.{Script}
use Rattle.fit_laws.specs.EachTimer.{HasTimers}
use Rattle.run_history.specs.Fits.{Fits}
use Rattle.run_history.specs.Histories.{entry_shown, history_from, lines_of_timer, reading_at}
use Rattle.fit_laws.proofs.EachTimer.{fits_for_each_timer}
use Rattle.run_history.proofs.Lists.{all_lists}

-- a step's reply is one that its event has, by any name of its reading
reply_is : (name : ℕ → ClockReading) (t : Timer) (e : EventBy ℕ) → IsReplyTo e (reply_to t (map_reading name e))
reply_is name t events.Cancel = tt
reply_is name t e = tt

lines_replied : (clock : List ClockLine) (t : Timer) (lines : List TimerLine) → AreSteps t (history_from clock lines) → HaveReplies lines
lines_replied clock t [] steps = tt
lines_replied clock t (l ∷ lines) steps = (
  subst (IsReplyTo l.entry.event) (sym steps.1) (reply_is (reading_at clock) t l.entry.event),
  lines_replied clock (after t (entry_shown clock l.entry).event) lines steps.2,
)

-- law: each entry of a record that fits has a reply that its event has
pub has_replies : (s : Script) (r : RunRecord) → Fits s r → HasReplies r
has_replies s r fits =
    let has : HasTimers s r = fits_for_each_timer s r fits in
    all_lists HaveReplies r.timers
    (λ t. lines_replied r.clock (opening (declared_of s t) (terms_of s)) (lines_of_timer r t) (has.histories t))
