-- The records that don't fit by their readings of the clock.
use Rattle.std.proofs.Common.{◌≡◌, ℕ, List, [], ◌∷◌, arith, refl, ap, ◌∙◌}
use Rattle.ktime.specs.declared.mode.Mode.TheVariants as modes
use Rattle.seq_timer.specs.declared.event.AskedBy.{AskedBy}
use Rattle.seq_timer.specs.declared.event.EventBy.{EventBy}
use Rattle.seq_timer.specs.declared.event.EventBy.TheVariants as events
use Rattle.seq_timer.specs.declared.event.Reply.{Reply}
use Rattle.record_text.specs.declared.record.Entry.{Entry}
use Rattle.script_text.specs.Declarations.{without_slack}
use Rattle.script_text.specs.declared.script.StartRequest.{StartRequest}
use Rattle.run_history.specs.Actions.{entered}
use Rattle.run_history.specs.Witnesses.{witness_with}
use Rattle.run_history.specs.Fits.{Fits}
use Rattle.run_history.specs.Starts.{Arming, SentTo, arming_actions}
use Rattle.fit_laws.proofs.EachTimer.{heads}
use Rattle.fit_laws.proofs.OwnPoints.{entered_then}
use Rattle.run_cases.specs.Fitting.{awaited_script, nothing_script, started_script}
use Rattle.run_cases.specs.Lines.{at}
use Rattle.run_cases.specs.Wrong.{foreseen_record, hasty_record, stale_record}
use Rattle.fit_laws.proofs.Readings.{began_before, reads_no_later, reads_no_less}
use Rattle.run_cases.proofs.Tests.{lt}

-- the reading by which an event arms its timer
abbrev reading_in : EventBy ℕ → ℕ
reading_in (events.Start asked) = asked.reading
reading_in event = 0

-- law: a start of timer 0 that made one entry of it, a start, went by the reading that this entry shows
start_reading : (request : StartRequest) (reading number : ℕ) (asked : AskedBy ℕ) (reply : Reply) (a : Arming)
    → ◌≡◌ {A = List (ℕ × Entry)} ((number, record { event = events.Start asked; reply = reply }) ∷ []) (entered 0 (arming_actions 0 request reading a))
    → asked.reading ≡ reading
start_reading request reading number asked reply a one = by_outs a.outs one
  where
    by_outs : (outs : List SentTo)
        → ◌≡◌ {A = List (ℕ × Entry)} ((number, record { event = events.Start asked; reply = reply }) ∷ [])
        (entered 0 (arming_actions 0 request reading (record a { outs = outs })))
        → asked.reading ≡ reading
    by_outs [] one = ap (λ (x : ℕ × Entry). reading_in x.1.event) (heads _ _ [] [] one)
    by_outs (out ∷ outs) one = absurd (not_sent (ap (λ (x : ℕ × Entry). x.1.event) (heads _ _ [] _ one)))
      where
        not_sent : {base : ℕ} → ◌≡◌ {A = EventBy ℕ} (events.Start asked) (events.Out base) → ⊥
        not_sent wrong = cc

-- ---- a lane sees a function run and then makes the write that made its timer due

-- law: it does not fit
pub hasty_doesnt_fit : Fits awaited_script hasty_record → ⊥
hasty_doesnt_fit o =
    let w = witness_with awaited_script hasty_record o.0 o.1 o.2 in
    let f = o.3 in
    let run = (f.calls 0).2.1 in
    let look = (f.calls 1).1.0 in
    let write = (f.calls 1).2.1.0 in
    -- the look was behind the claim, and before the write
    let order = began_before w f.history f.timers (at 0 1) 0 1 (o.2 (at 1 0)).last _ refl run.0.begins look.holds.stamp (lt refl) in
    let none = reads_no_later w f.history (at 0 1) (at 1 1) _ 0 run.1 refl write.begins
    (omega (arith, order, look.move_steps.1, write.move_steps.0)) in
    omega (arith, none, run.0.does.0.one_reading)

-- ---- a lane sees a timer started and then makes the write that the start went by

-- law: it does not fit
pub foreseen_doesnt_fit : Fits started_script foreseen_record → ⊥
foreseen_doesnt_fit o =
    let w = witness_with started_script foreseen_record o.0 o.1 o.2 in
    let f = o.3 in
    let started = (f.calls 0).1 in
    let look = (f.calls 1).1.0 in
    let write = (f.calls 1).2.1.0 in
    -- the look was behind the start, and before the write
    let order = began_before w f.history f.timers (at 0 0) 0 0 (o.2 (at 1 0)).last _ refl started.0.begins look.holds.stamp (lt refl) in
    let none = reads_no_later w f.history (at 0 0) (at 1 1) _ 0 started.1 refl write.begins (omega (arith, order, look.move_steps.1, write.move_steps.0)) in
    let one : 1 ≡ (o.2 (at 0 0)).at = start_reading (without_slack modes.Rel 10 0) (o.2 (at 0 0)).at 1 _ _ started.0.does.0
    (entered_then w f.history f.timers (at 0 0) (o.2 (at 0 0)).actions 0 started.0.traced.moves ∙ ap (entered 0) started.0.does.1) in
    omega (arith, none, one)

-- ---- a lane sees a timer that was started behind a write, and is due by it, and then has nothing to expire, by the reading before the write

-- law: it does not fit
pub stale_doesnt_fit : Fits nothing_script stale_record → ⊥
stale_doesnt_fit o =
    let w = witness_with nothing_script stale_record o.0 o.1 o.2 in
    let f = o.3 in
    let started = (f.calls 0).2.1 in
    let look = (f.calls 1).1.0 in
    let run = (f.calls 1).2.1 in
    -- the look was behind the start, and before the run
    let order = began_before w f.history f.timers (at 0 1) 0 0 (o.2 (at 1 0)).last _ refl started.0.begins look.holds.stamp (lt refl) in
    let no_less = reads_no_less w (at 0 1) (at 1 1) _ _ started.1 run.1 (omega (arith, order, look.move_steps.1)) in
    let one : 1 ≡ (o.2 (at 0 1)).at = start_reading (without_slack modes.Abs 5 0) (o.2 (at 0 1)).at 1 _ _ started.0.does.0
    (entered_then w f.history f.timers (at 0 1) (o.2 (at 0 1)).actions 0 started.0.traced.moves ∙ ap (entered 0) started.0.does.1) in
    omega (arith, no_less, one, run.0.does.0.one_reading)
