-- A timer whose function runs, at a call that its function makes.
use Rattle.std.proofs.Common.{◌≡◌, ℕ, ◌+◌, ◌<◌, ◌≤◌, List, [], ◌∷◌, ◌++◌, arith, refl, ap, sym, ◌∙◌, subst}
use Rattle.std.specs.Prelude.{Bool, Some, unwrap_or, length}
use Rattle.std.proofs.lemmas.Option.{none-some}
use Rattle.seq_timer.specs.Events.{Asked}
use Rattle.ktime.specs.Readings.{ClockReading}
use Rattle.seq_timer.specs.declared.event.EventBy.TheVariants as events
use Rattle.seq_timer.specs.declared.system.SystemEntry.{SystemEntry}
use Rattle.seq_timer.specs.Histories as seq
use Rattle.seq_timer.specs.Steps.{Timer, after}
use Rattle.seq_timer.specs.Systems.{entries_of, first_system}
use Rattle.seq_timer.specs.Tables.{timer_at}
use Rattle.seq_timer.proofs.Agreement.{parts}
use Rattle.seq_timer.proofs.Effects.{none_of}
use Rattle.seq_timer.specs.declared.answer.CancelAnswer.{CancelAnswer}
use Rattle.seq_timer.specs.declared.answer.CancelAnswer.TheVariants as cancels
use Rattle.seq_timer.specs.Calls.{asked_for, entries_along}
use Rattle.seq_timer.specs.declared.event.Placement.{Placement}
use Rattle.seq_timer.specs.declared.observation.Observation.TheVariants as observations
use Rattle.ktime.specs.declared.mode.Mode.TheVariants as modes
use Rattle.base_row.specs.declared.log.Receipt.{Receipt}
use Rattle.base_row.specs.Logs.{LogOf, all_pushed, kept, receipts_of}
use Rattle.hr_timers.specs.Logged.{StartsLogged}
use Rattle.hr_timers.specs.Ways.{start_on}
use Rattle.timer_objects.specs.Callbacks.{RunsStart, look_receipt, start_noted}
use Rattle.hr_timers.specs.declared.answer.StartAnswer.{StartAnswer}
use Rattle.hr_timers.specs.declared.answer.StartAnswer.TheVariants as starts
use Rattle.hr_timers.specs.Calls.{Cancels, StartsTimer, cancel_entries, start_entries}
use Rattle.hr_timers.specs.Known.{KnownOfTimers, KnowsTimers, MadeAt, OwnsClaim, count_of, timer_then}
use Rattle.hr_timers.specs.declared.numbers.ClaimNumbers.{ClaimNumbers}
use Rattle.hr_timers.proofs.Moments.{timer_after, timer_own}
use Rattle.base_row.specs.declared.view.Opening.{Opening}

-- a timer whose claim a pass keeps through a call ran before the call's entries, where these leave that as it is
pub ran_before : (o : Opening) (v w : KnownOfTimers) (c : ClaimNumbers) (x : List SystemEntry) (es : List seq.Entry) → KnowsTimers o w
    → OwnsClaim o v c → w.claims ≡ v.claims → MadeAt v w c.timer x es
    → (seq.after_all (timer_then o x c.timer) es).running ≡ (timer_then o x c.timer).running → (timer_then o x c.timer).running ≡ Some c.generation
ran_before o v w c x es knows owns claims made stays =
    sym stays ∙ (ap (λ (s : Timer). s.running) (sym (timer_after o v w c.timer x es made))
    ∙ (knows.claims c.timer c.generation c.base owns.within (subst (λ l. 0 < count_of c l) (sym claims) owns.stands)).0)

-- a start leaves a function running
sent-running : (t : Timer) (asked : Asked) (sent : List ℕ) (last : ℕ)
    → (seq.after_all t (entries_along t (start_on asked sent last))).running ≡ t.running
sent-running t asked [] last = refl
sent-running t asked (b ∷ bs) last = sent-running (after t (events.Out b)) asked bs last

pub start-running : (t : Timer) (asked : Asked) (sent : List ℕ) (last : ℕ) (a : StartAnswer)
    → (seq.after_all t (start_entries t asked sent last a)).running ≡ t.running
start-running t asked sent last (starts.Started was_armed generation base outs placement) = sent-running t asked sent last
start-running t asked sent last (starts.Spent n) = refl

-- the entries of a call are steps of its timer
steps_behind : (t : Timer) (xs ys : List seq.Entry) → seq.AreSteps t (xs ++ ys) → seq.AreSteps (seq.after_all t xs) ys
steps_behind t [] ys steps = steps
steps_behind t (x ∷ xs) ys steps = steps_behind (after t x.event) xs ys steps.2

made_steps : (o : Opening) (v w : KnownOfTimers) (t : ℕ) (x : List SystemEntry) (es : List seq.Entry) → KnowsTimers o w → MadeAt v w t x es
    → seq.AreSteps (timer_then o x t) es
made_steps o v w t x es knows made =
    subst (λ (u : Timer). seq.AreSteps u es) (sym (timer_own o x t))
    (steps_behind (timer_at o.timers t) (entries_of t x) es
    (subst (λ l. seq.AreSteps (timer_at o.timers t) l) made.own
    (parts o.bases (length o.timers) (first_system o.timers) w.seen knows.history t)))

-- so a timer whose function runs is sent nowhere
stays_there : (t : Timer) (g : ℕ) (asked : Asked) (sent : List ℕ) (last : ℕ) → t.running ≡ Some g
    → seq.AreSteps t (entries_along t (start_on asked sent last)) → sent ≡ []
stays_there t g asked [] last runs steps = refl
stays_there t g asked (b ∷ bs) last runs steps = absurd (none-some g (sym (none_of t.running steps.0.0) ∙ runs))

-- the base that a start answers is the one that it asked for last
pub told_last : (was now : Bool) (g n to last outs bits : ℕ) (placed kept_as : Placement)
    → starts.Started was g to outs placed ≡ starts.Started now n last bits kept_as → last ≡ to
told_last was now g n to last outs bits placed kept_as e = cc

-- so does a cancel, and a claim's own timer is seen to run
cancel-running : (t : Timer) (a : CancelAnswer) → (seq.after_all t (cancel_entries a)).running ≡ t.running
cancel-running t (cancels.Idle n) = refl
cancel-running t (cancels.Cancelled g n) = refl
cancel-running t (cancels.Running g n) = refl

module _ (o : Opening) (v w : KnownOfTimers) (c : ClaimNumbers) (knows : KnowsTimers o w) (owns : OwnsClaim o v c) where
  pub runs_yet : (a : CancelAnswer) (k : Cancels o v w c.timer a) → (timer_then o k.at c.timer).running ≡ Some c.generation
  runs_yet a k = ran_before o v w c k.at (cancel_entries a) knows owns k.claims k.made (cancel-running (timer_then o k.at c.timer) a)

  pub seen_running : (a : CancelAnswer) → Cancels o v w c.timer a → (g n : ℕ) × (a ≡ cancels.Running g n)
  seen_running (cancels.Idle n) k = absurd (none-some c.generation (sym k.fits.0.running ∙ runs_yet (cancels.Idle n) k))
  seen_running (cancels.Cancelled g n) k = absurd (none-some c.generation (sym k.fits.1 ∙ runs_yet (cancels.Cancelled g n) k))
  seen_running (cancels.Running g n) k = (g, n, refl)

  pub its_own : (g n : ℕ) → Cancels o v w c.timer (cancels.Running g n) → g ≡ c.generation
  its_own g n k = ap (λ x. unwrap_or x 0) (sym k.fits.0 ∙ runs_yet (cancels.Running g n) k)

  -- its start: what is noted of it
  module _ (ns base : ℕ) (reading : ClockReading) (log mid : LogOf Receipt) where
    abbrev request : Asked
    request = asked_for modes.Rel ns 0 base reading

    ran_yet : (a : StartAnswer) (s : StartsTimer o v w c.timer request a) → (timer_then o s.at c.timer).running ≡ Some c.generation
    ran_yet a s = ran_before o v w c s.at _ knows owns s.claims s.made (start-running (timer_then o s.at c.timer) request s.sent s.last a)

    pub start_refused : (n : ℕ) (log' : List Receipt) → StartsLogged kept o v w c.timer request (starts.Spent n) log mid
        → log' ≡ mid.receipts ++ look_receipt c n (events.Start request) observations.Spent ∷ [] → RunsStart o v w c reading log.receipts log' ns base
    start_refused n log' s noted = record {
      answer = starts.Spent n;
      starts = s.starts;
      runs = ran_yet (starts.Spent n) s.starts;
      unsent = tt;
      receipts = noted ∙ ap (λ (l : LogOf Receipt). l.receipts ++ look_receipt c n (events.Start request) observations.Spent ∷ []) s.logged;
    }

    module _ (was : Bool) (g to outs : ℕ) (placed : Placement)
        (s : StartsLogged kept o v w c.timer request (starts.Started was g to outs placed) log mid) where
      abbrev u : Timer
      u = timer_then o s.starts.at c.timer

      none : s.starts.sent ≡ []
      none = stays_there u c.generation request s.starts.sent s.starts.last (ran_yet _ s.starts)
          (made_steps o v w c.timer s.starts.at _ knows s.starts.made)

      there : s.starts.last ≡ to
      there = told_last was _ g _ to s.starts.last outs _ placed _ s.starts.fits.2

      entered : mid ≡ all_pushed kept log (start_noted c u request (starts.Started was g to outs placed))
      entered = s.logged
          ∙ (λ i. all_pushed kept log (receipts_of c.timer u.stamp (entries_along u (start_on request (none i) (there i)))))

      pub start_entered : RunsStart o v w c reading log.receipts mid.receipts ns base
      start_entered = record {
        answer = starts.Started was g to outs placed;
        starts = s.starts;
        runs = ran_yet _ s.starts;
        unsent = none;
        receipts = ap (λ (l : LogOf Receipt). l.receipts) entered;
      }

      pub start_room : log.spare ≤ mid.spare + 1
      start_room = omega (arith, ap (λ (l : LogOf Receipt). l.spare) entered)
