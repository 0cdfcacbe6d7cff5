-- The records that don't fit.
use Rattle.std.proofs.Common.{◌≡◌, ◌<◌, ◌≤◌, ℕ, true, false, [], ◌∷◌, Some, arith, refl, sym, ap, ◌∙◌, subst, zero, suc, List, take, map, if◌then◌else◌, nat_le}
use Rattle.std.specs.List.{slice_get, AllByRecursion}
use Rattle.std.proofs.Math.Logic.{⊎_elim}
use Rattle.std.proofs.lemmas.Bool.{cases_lt, false≢true}
use Rattle.ktime.specs.declared.clock_id.ClockId.TheVariants as clocks
use Rattle.seq_timer.specs.declared.context.Context.TheVariants as contexts
use Rattle.seq_timer.specs.declared.context.Context.{Context}
use Rattle.seq_timer.specs.declared.context.Declared.{Declared}
use Rattle.seq_timer.specs.Systems.{after_entry, changed}
use Rattle.seq_timer.specs.Tables.{IsStopped, in_context, is_context, is_kept_on, no_timer, runs_on, seen_in}
use Rattle.record_text.specs.declared.record.Label.{Label}
use Rattle.seq_timer.proofs.Due.{stopped-unreached}
use Rattle.seq_timer.proofs.Agreement.{soft_within_context}
use Rattle.record_text.specs.declared.version.Version.TheVariants as versions
use Rattle.script_text.specs.declared.script.Script.{Script}
use Rattle.run_history.specs.Actions.{made}
use Rattle.run_history.specs.Histories.{reading_at, timer_after}
use Rattle.script_text.specs.Declarations.{declared_of, declareds_of, terms_of}
use Rattle.run_history.specs.Order.{is_before, IsPoint}
use Rattle.run_history.specs.Witnesses.{CountersList, labels, Move, OfTimer, TimersList, timer_along, entries_in, Witness, Trace, Fired, witness_with}
use Rattle.run_history.specs.Signals.{SignalLine}
use Rattle.run_history.specs.Fits.{Fits}
use Rattle.run_history.specs.Truths.{IsDone}
use Rattle.fit_laws.proofs.EachTimer.{heads}
use Rattle.run_history.proofs.Lists.{at_map}
use Rattle.fit_laws.proofs.SignalLists.{at_early, at_late}
use Rattle.fit_laws.proofs.OwnPoints.{declared_then, same_then, seen, seen_rises, stamp_then, turn_at}
use Rattle.run_cases.specs.Lines.{at, claim_entry}
use Rattle.run_cases.specs.Fitting.{waiting_script}
use Rattle.run_cases.specs.Wrong.{both_record, both_script, tie_record, tie_script, due_record, due_script, soon_record, soon_script, past_record, missed_record, missed_script, astray_record, astray_script, versions_record, versions_script}
use Rattle.run_cases.proofs.Witnesses.{moves_by, timers_moves}
use Rattle.run_cases.proofs.Tests.{upto}
use Rattle.run_cases.proofs.Orders.{found, in_one_order, in_one_order_of}

-- ---- two functions run at once on one base, by what a lane is told before and behind its claim

-- the claim that lane 1 makes
abbrev claim : Move
claim = record { before = 1; label = at 1 1; shown = OfTimer 1 (claim_entry 0 0 1) }

-- law: it does not fit
pub both_dont_fit : Fits both_script both_record → ⊥
both_dont_fit o =
    let w = witness_with both_script both_record o.0 o.1 o.2 in
    let f = o.3 in
    let one = (f.calls 1).1.0 in
    let three = (f.calls 1).2.2.1.0 in
    let a = (o.2 (at 1 0)).last in
    let b = (o.2 (at 1 2)).last in
    let place = found (TimersList 1) 1 w.moves claim (ap (λ ms. slice_get ms 1) (f.history.all (TimersList 1))) in
    let p = place.0 in
    let label : slice_get (labels w) p ≡ Some (at 1 1) = at_map (λ (m : Move). m.label) w.moves p claim place.1 in
    -- the claim stands between the two looks
    let behind : a ≤ p = ⊎_elim
    (λ (less : p < a). absurd (false≢true (sym
    (at_early (λ x. is_before both_script (at 1 0) x ≡ false) a p (labels w) (at 1 1) one.ends.within.before label less))))
    (λ more. more) (cases_lt p a) in
    let before : p ≤ b = ⊎_elim
    (λ (less : p < b). omega (arith, less))
    (λ (more : b ≤ p). absurd (false≢true (sym
    (at_late (λ x. is_before both_script x (at 1 2) ≡ false) b p (labels w) (at 1 1) three.ends.within.behind label more))))
    (cases_lt p b) in
    -- so timer 0 has two entries there, as at the looks, and runs
    let low = seen_rises w f.history f.timers a p 0 behind in
    let high = seen_rises w f.history f.timers p b 0 before in
    let first : seen w a 0 ≡ 2 = sym (stamp_then w f.history f.timers a 0) ∙ one.holds.stamp in
    let last : seen w b 0 ≡ 2 = sym (stamp_then w f.history f.timers b 0) ∙ three.holds.stamp in
    let two : seen w p 0 ≡ 2 = omega (arith, low, high, first, last) in
    let runs : runs_on 0 (timer_along w p 0) ≡ true =
    same_then w f.history f.timers (runs_on 0) refl p 0 ∙ ap (λ k. runs_on 0 (timer_after both_script both_record 0 k)) two in
    -- while the claim needs that none does
    let hard : (t : ℕ) → (timer_along w p t).declared ≡ declared_of both_script t = declared_then w f.history f.timers p in
    let idle : runs_on 0 (seen_in contexts.Hard (timer_along w p 0)) ≡ false =
    subst (λ d. runs_on 0 (seen_in d.context (timer_along w p 0)) ≡ false) (hard 1)
    ((turn_at w f.history f.timers p 1 claim (claim_entry 0 0 1) 0 0 place.1 refl refl).idle 0) in
    false≢true (sym idle
    ∙ ap (λ (d : Declared). runs_on 0 (if is_context contexts.Hard d.context then timer_along w p 0 else no_timer)) (hard 0) ∙ runs)

-- ---- of two timers with the same expiry the one that was armed later is claimed first

-- the one order: the starts, the write, what each run did
abbrev tie_moves : List Move
tie_moves = moves_by tie_record []
    (TimersList 0 ∷ TimersList 1 ∷ CountersList 0 ∷ TimersList 1 ∷ TimersList 1 ∷ TimersList 0 ∷ TimersList 0 ∷ [])

-- law: it does not fit
pub tie_doesnt_fit : Fits tie_script tie_record → ⊥
unfolding after_entry changed
tie_doesnt_fit fits =
    let o = in_one_order_of tie_script tie_record tie_moves refl (refl, (refl, tt)) (refl, tt) refl (refl, (refl, tt)) refl fits in
    let w = witness_with tie_script tie_record tie_moves o.0 o.1 in
    -- at the fourth place, where the second timer is claimed
    let wrong : 2 < 1 = (turn_at w o.2.history o.2.timers 3 1 _ (claim_entry 0 1 1) 0 1 refl refl refl).ties 0 (λ e. omega (arith, e)) refl refl in
    omega (arith, wrong)

-- ---- an expiry run has nothing left to do, though at each moment one timer or the other was due

-- the one order: the first timer is started, the second is, and the first is cancelled
abbrev due_witness : (ℕ → List SignalLine) → (Label → Trace) → Witness
due_witness signals traces = witness_with due_script due_record (timers_moves due_record (0 ∷ 1 ∷ 0 ∷ [])) signals traces

-- a base is stopped for the monotonic clock, as the hard context's timers stand after so many entries of a witness
abbrev IsStoppedHard : Witness → ℕ → ℕ → Type 0
IsStoppedHard w reading n = IsStopped (in_context contexts.Hard (timer_along w n)) 0 (reading_at w.run.clock reading) clocks.Monotonic

-- it isn't where a timer is kept whose expiry is reached
not_stopped : (w : Witness) (reading n t : ℕ) → IsStoppedHard w reading n
    → is_kept_on 0 clocks.Monotonic (in_context contexts.Hard (timer_along w n) t) ≡ true
    → nat_le (in_context contexts.Hard (timer_along w n) t).expires (reading_at w.run.clock reading).mono ≡ true → ⊥
not_stopped w reading n t stopped kept reached =
    let timers = in_context contexts.Hard (timer_along w n) in
    let late = stopped-unreached timers 0 (reading_at w.run.clock reading) clocks.Monotonic
    (soft_within_context (terms_of w.script) (declareds_of w.script) (take n (entries_in w)) contexts.Hard) stopped t kept in
    let reached_so = upto (timers t).expires (reading_at w.run.clock reading).mono reached in
    omega (arith, late, reached_so)

one_is_due : (signals : ℕ → List SignalLine) (traces : Label → Trace) (n made : ℕ)
    → IsPoint due_script (at 1 0) made n (labels (due_witness signals traces)) → IsStoppedHard (due_witness signals traces) 0 n → ⊥
unfolding after_entry changed
one_is_due signals traces zero made point stopped = false≢true (sym point.within.behind.0)
one_is_due signals traces (suc zero) made point stopped = not_stopped (due_witness signals traces) 0 1 0 stopped refl refl
one_is_due signals traces (suc (suc zero)) made point stopped = not_stopped (due_witness signals traces) 0 2 0 stopped refl refl
one_is_due signals traces (suc (suc (suc zero))) made point stopped = not_stopped (due_witness signals traces) 0 3 1 stopped refl refl
one_is_due signals traces (suc (suc (suc (suc n)))) made point stopped = omega (arith, point.within.small)

-- law: it does not fit
pub due_doesnt_fit : Fits due_script due_record → ⊥
due_doesnt_fit fits =
    let o = in_one_order due_script due_record (0 ∷ 1 ∷ 0 ∷ []) refl (refl, (refl, tt)) refl (refl, tt) refl (refl, (refl, tt)) fits in
    let call = (o.2.calls 1).1.0 in
    let done : IsDone (due_witness o.0 o.1) contexts.Hard 0 0 (o.1 (at 1 0)).last =
    subst (λ k. IsDone (due_witness o.0 o.1) contexts.Hard k 0 (o.1 (at 1 0)).last) (sym call.does.0.one_reading) call.holds in
    one_is_due o.0 o.1 (o.1 (at 1 0)).last _ call.ends (done.stopped clocks.Monotonic)

-- ---- a timer is claimed before its soft expiry

-- law: it does not fit
pub soon_doesnt_fit : Fits soon_script soon_record → ⊥
unfolding after_entry changed
soon_doesnt_fit fits =
    let o = in_one_order soon_script soon_record (0 ∷ 0 ∷ 0 ∷ []) refl (refl, tt) refl (refl, tt) refl (refl, tt) fits in
    let w = witness_with soon_script soon_record (timers_moves soon_record (0 ∷ 0 ∷ 0 ∷ [])) o.0 o.1 in
    let due : false ≡ true = (turn_at w o.2.history o.2.timers 1 0 _ (claim_entry 0 0 1) 0 0 refl refl refl).next.due in
    false≢true due

-- ---- a claim looks past the timer with the earliest hard expiry, whose soft one isn't reached, to a timer whose soft one is

-- law: it does not fit
pub past_doesnt_fit : Fits waiting_script past_record → ⊥
unfolding after_entry changed
past_doesnt_fit fits =
    let o = in_one_order waiting_script past_record (0 ∷ 1 ∷ 0 ∷ 0 ∷ []) refl (refl, (refl, tt)) refl (refl, tt) refl (refl, (refl, tt)) fits in
    let w = witness_with waiting_script past_record (timers_moves past_record (0 ∷ 1 ∷ 0 ∷ 0 ∷ [])) o.0 o.1 in
    -- at the third place, where the first timer is claimed, the second one's expiry is earlier
    let smaller : true ≡ false = (turn_at w o.2.history o.2.timers 2 0 _ (claim_entry 0 0 1) 0 0 refl refl refl).next.smaller 1 in
    false≢true (sym smaller)

-- ---- nothing was left to do, though a timer's hard expiry was reached

-- the one order: the start, the write
abbrev missed_moves : List Move
missed_moves = moves_by missed_record [] (TimersList 0 ∷ CountersList 0 ∷ [])

abbrev missed_witness : (ℕ → List SignalLine) → (Label → Trace) → Witness
missed_witness signals traces = witness_with missed_script missed_record missed_moves signals traces

one_is_missed : (signals : ℕ → List SignalLine) (traces : Label → Trace) (n made : ℕ)
    → IsPoint missed_script (at 0 2) made n (labels (missed_witness signals traces)) → IsStoppedHard (missed_witness signals traces) 1 n → ⊥
unfolding after_entry changed
one_is_missed signals traces zero made point stopped = false≢true (sym point.within.behind.0)
one_is_missed signals traces (suc zero) made point stopped = false≢true (sym point.within.behind.0)
one_is_missed signals traces (suc (suc zero)) made point stopped = not_stopped (missed_witness signals traces) 1 2 0 stopped refl refl
one_is_missed signals traces (suc (suc (suc n))) made point stopped = omega (arith, point.within.small)

-- law: it does not fit
pub missed_doesnt_fit : Fits missed_script missed_record → ⊥
missed_doesnt_fit fits =
    let o = in_one_order_of missed_script missed_record missed_moves refl (refl, tt) (refl, tt) refl (refl, tt) refl fits in
    let call = (o.2.calls 0).2.2.1.0 in
    let done : IsDone (missed_witness o.0 o.1) contexts.Hard 1 0 (o.1 (at 0 2)).last =
    subst (λ k. IsDone (missed_witness o.0 o.1) contexts.Hard k 0 (o.1 (at 0 2)).last) (sym call.does.0.one_reading) call.holds in
    one_is_missed o.0 o.1 (o.1 (at 0 2)).last _ call.ends (done.stopped clocks.Monotonic)

-- ---- a hard expiry run claims a timer of the soft context

-- the timer that a run claims first is of the run's context
first_context : (s : Script) (x : Context) (t : ℕ) (ts : List ℕ) (fired : List Fired) → t ∷ ts ≡ map (λ f. f.timer) fired
    → AllByRecursion (λ f. (declared_of s f.timer).context ≡ x) fired → (declared_of s t).context ≡ x
first_context s x t ts [] claimed all = absurd (cc)
first_context s x t ts (f ∷ fs) claimed all =
    subst (λ t. (declared_of s t).context ≡ x) (sym (heads t f.timer ts (map (λ f. f.timer) fs) claimed)) all.0

-- law: it does not fit
pub astray_doesnt_fit : Fits astray_script astray_record → ⊥
astray_doesnt_fit o =
    let run = (o.3.calls 0).2.1.0.does.0 in
    let same : contexts.Soft ≡ contexts.Hard = first_context astray_script contexts.Hard 0 [] (o.2 (at 0 1)).fired run.claimed run.contexts in
    cc

-- ---- a record is of version 1, and its script of version 2

-- law: it does not fit
pub versions_dont_fit : Fits versions_script versions_record → ⊥
versions_dont_fit fits = let same : versions.One ≡ versions.Two = fits.3.version in cc
