-- What a start of a timer tells: its entries as the record has them, and its answer.
use Rattle.lane_notes.specs.Worlds.{opening_for}
use Rattle.base_row.proofs.Placed.{terms_now}
use Rattle.call_laws.proofs.Noted.{entered_on}
use Rattle.run_history.specs.Actions.{Entered}
use Rattle.std.proofs.Common.{◌≡◌, ◌≤◌, ◌<◌, ℕ, ◌+◌, is_some, List, [], ◌∷◌, arith, refl, sym, ap, ◌∙◌, zero, suc}
use Rattle.ktime.specs.Readings.{ClockReading}
use Rattle.seq_timer.specs.Calls.{entries_along, step_all}
use Rattle.seq_timer.specs.Events.{Asked, Event}
use Rattle.seq_timer.specs.Steps.{Timer, after, placement_of}
use Rattle.seq_timer.specs.Systems.{openings}
use Rattle.seq_timer.specs.Tables.{timer_at}
use Rattle.seq_timer.specs.declared.context.Declared.{Declared}
use Rattle.seq_timer.specs.declared.context.Terms.{Terms}
use Rattle.seq_timer.specs.declared.system.SystemEntry.{SystemEntry}
use Rattle.base_row.specs.declared.view.Opening.{Opening}
use Rattle.hr_timers.specs.Known.{timer_then}
use Rattle.script_text.specs.Declarations.{declareds_of, terms_of}
use Rattle.script_text.specs.declared.script.Script.{Script}
use Rattle.seq_timer.specs.declared.event.EventBy.TheVariants as events
use Rattle.seq_timer.specs.declared.event.Reply.TheVariants as replies
use Rattle.hr_timers.specs.Calls.{start_answer}
use Rattle.hr_timers.specs.Ways.{asking, sends, start_on}
use Rattle.hr_timers.specs.declared.answer.StartAnswer.{StartAnswer}
use Rattle.record_text.specs.declared.record.Answer.TheVariants as answers
use Rattle.record_text.specs.declared.record.ClockLine.{ClockLine}
use Rattle.script_text.specs.declared.script.StartRequest.{StartRequest}
use Rattle.run_history.specs.Histories.{reading_at}
use Rattle.run_history.specs.Starts.{Arming, arming_actions, first_number, IsArming, IsJustBefore, IsSentByHeirs, SentTo, was_armed_before, Sight}
use Rattle.run_history.proofs.Stamped.{HaveReadings}
use Rattle.lane_notes.specs.Called.{asked_in, start_told}

-- ---- limits

opened_limit : (list : List Declared) (terms : Terms) (t : ℕ) → 1 ≤ terms.limit → (timer_at (openings list terms) t).terms.limit ≤ terms.limit
opened_limit [] terms t some = some
opened_limit (clock ∷ rest) terms zero some = omega arith
opened_limit (clock ∷ rest) terms (suc t) some = opened_limit rest terms t some

-- law: a timer's limit is the script's, or less where no such timer is there
pub limit_within : (s : Script) (o : Opening) → o ≡ opening_for s → 1 ≤ s.limit → (x : List SystemEntry) (t : ℕ)
    → (timer_then o x t).terms.limit ≤ s.limit
limit_within s o is some x t =
    let on : o.timers ≡ openings (declareds_of s) (terms_of s) = ap (λ (y : Opening). y.timers) is in
    let first : (timer_at o.timers t).terms.limit ≤ s.limit = rw on (opened_limit (declareds_of s) (terms_of s) t some) in
    omega (arith, (ap (λ (y : Terms). y.limit) (terms_now o.timers x t)), first)

-- ---- a start, by the bases that it was sent to in turn

-- the timer behind its Outs
abbrev pub sent_on : Timer → List ℕ → Timer
sent_on s [] = s
sent_on s (b ∷ bs) = sent_on (after s (events.Out b)) bs

-- its Outs, as the record has them
abbrev pub outs_of : Timer → List ℕ → List SentTo
outs_of s [] = []
outs_of s (b ∷ bs) = record { base = b; number = s.stamp + 1; was_armed = is_some s.armed } ∷ outs_of (after s (events.Out b)) bs

-- the start, as the record has it
abbrev pub arming_of : Timer → Asked → List ℕ → ℕ → Arming
arming_of s asked sent last = record {
  outs = outs_of s sent;
  number = (sent_on s sent).stamp + 1;
  asked = last;
  placement = placement_of (after (sent_on s sent) (events.Start (asking asked last)));
  was_armed = is_some (sent_on s sent).armed;
}

-- its first entry is the timer's next
outs_first : (s : Timer) (sent : List ℕ) → first_number (outs_of s sent) ((sent_on s sent).stamp + 1) ≡ s.stamp + 1
outs_first s [] = refl
outs_first s (b ∷ bs) = refl

outs_next : (s : Timer) (sent : List ℕ) → IsJustBefore (outs_of s sent) ((sent_on s sent).stamp + 1)
outs_next s [] = tt
outs_next s (b ∷ bs) = (outs_first (after s (events.Out b)) bs, outs_next (after s (events.Out b)) bs)

outs_armed : (s : Timer) (sent : List ℕ) → was_armed_before (outs_of s sent) (is_some (sent_on s sent).armed) ≡ is_some s.armed
outs_armed s [] = refl
outs_armed s (b ∷ bs) = refl

-- the timer behind the whole start
stepped : (s : Timer) (sent : List ℕ) (e : Event) → step_all s (sends sent e) ≡ after (sent_on s sent) e
stepped s [] e = refl
stepped s (b ∷ bs) e = stepped (after s (events.Out b)) bs e

-- law: a start is made as it is asked for, by a way that its bases have, where the timer's history isn't full
pub is_arming : (sight : Sight) (timer limit base : ℕ) (s : Timer) (asked : Asked) (sent : List ℕ) (last : ℕ) → s.stamp < limit
    → IsSentByHeirs sight timer base (outs_of s sent) ((sent_on s sent).stamp + 1) last → IsArming sight timer limit base (arming_of s asked sent last)
is_arming sight timer limit base s asked sent last few way =
    record { below = omega (arith, few, outs_first s sent); next = outs_next s sent; way = way }

-- ---- its entries and its answer

module _ (timer : ℕ) (request : StartRequest) (reading : ClockReading) where
  abbrev asked : Asked
  asked = asked_in request reading

  -- law: the entries of a start that was made are what the call did
  pub entries_so : (s : Timer) (sent : List ℕ) (last : ℕ) → arming_actions timer request reading.stamp (arming_of s asked sent last)
      ≡ entered_on timer s.stamp (entries_along s (start_on asked sent last))
  entries_so s [] last = refl
  entries_so s (b ∷ bs) last =
      ap (λ xs. Entered timer (s.stamp + 1) (record { event = events.Out b; reply = replies.Out (is_some s.armed) }) ∷ xs)
      (entries_so (after s (events.Out b)) bs last)

  -- law: and its answer is what they say
  pub told_so : (s : Timer) (sent : List ℕ) (last : ℕ) (answer : StartAnswer) → answer ≡ start_answer s (step_all s (start_on asked sent last)) sent last
      → let arming = arming_of s asked sent last in
      start_told answer ≡ answers.Started arming.number arming.placement.base (was_armed_before arming.outs arming.was_armed)
  told_so s sent last answer is =
      ap start_told is ∙ ap (λ now. start_told (start_answer s now sent last)) (stepped s sent (events.Start (asking asked last)))
      ∙ ap (answers.Started (arming_of s asked sent last).number (arming_of s asked sent last).placement.base) (sym (outs_armed s sent))

  -- law: a record's clock has the readings of a start's events where it has that of the start
  pub start_reads : (s : Timer) (sent : List ℕ) (last : ℕ) (clock : List ClockLine) → reading_at clock reading.stamp ≡ reading
      → HaveReadings clock (entries_along s (start_on asked sent last))
  start_reads s [] last clock so = (ap (λ r. events.Start (asking (asked_in request r) last)) so, tt)
  start_reads s (b ∷ bs) last clock so = (refl, start_reads (after s (events.Out b)) bs last clock so)
