-- The records that don't fit by what they say of objects.
use Rattle.std.proofs.Common.{◌≡◌, ◌<◌, ◌≤◌, ℕ, ◌+◌, zero, suc, true, false, None, Some, List, [], ◌∷◌, ◌++◌, arith, refl, sym, ap, ◌∙◌}
use Rattle.std.proofs.Math.Logic.{⊎_elim}
use Rattle.std.proofs.lemmas.Bool.{cases_lt}
use Rattle.seq_timer.specs.Histories.{IsIdle}
use Rattle.record_text.specs.declared.record.Armed.{Armed}
use Rattle.record_text.specs.declared.record.ObjectEntry.TheVariants as object_entries
use Rattle.record_text.specs.declared.record.ObjectEntry.{ObjectEntry}
use Rattle.record_text.specs.declared.record.ReadReply.TheVariants as reads
use Rattle.run_history.specs.Actions.{Action, Made, made}
use Rattle.run_history.specs.Fits.{Fits, FitsIn}
use Rattle.run_history.specs.Histories.{timer_after}
use Rattle.record_text.specs.declared.record.Label.{Label}
use Rattle.run_history.specs.Signals.{SignalLine}
use Rattle.run_history.specs.Witnesses.{Move, Trace, Witness, timer_along, witness_with}
use Rattle.run_history.proofs.Actions.{made-append}
use Rattle.fit_laws.proofs.OwnPoints.{entered_then, same_then, seen, stamp_then}
use Rattle.run_cases.specs.Fitting.{accepts_script, armed_script, canceled_entry, canceled_script, seen_script, set_script, skipped_script, two_expiries_script, unreadable_script}
use Rattle.run_cases.specs.Lines.{at, claim_entry, finish_entry, set_entry_of, set_start}
use Rattle.run_cases.specs.Wrong.{crossed_accepts_record, crossed_record, crossed_script, early_read_record, foreseen_set_record, hasty_skip_record, missed_expiry_record, settimes_record, settimes_script, uncancelled_record, uncancelled_script, unseen_record, unset_record, unstarted_record}
use Rattle.run_cases.proofs.ExpiryRuns.{all_by_finish, fired_one, skipped_before_finish}
use Rattle.fit_laws.proofs.Moments.{all_entered_by, all_later, all_made, all_since, ends_later, none_made, turns_rise, seen_more}
use Rattle.fit_laws.proofs.Readings.{reads_no_later}
use Rattle.run_cases.proofs.Settimes.{last_is, settime_idle, settime_turn, turn_begun, turn_begun_by, all_by_turn, turn_moves}

-- ---- an idle timer has an entry by which it is idle

-- at a moment at which it is idle a timer isn't armed, nor does its function run, by its own history
module _ (w : Witness) (f : FitsIn w) (n t : ℕ) (idle : IsIdle (timer_along w n t)) where
  pub unarmed_then : (k : ℕ) → seen w n t ≡ k → (timer_after w.script w.run t k).armed ≡ None
  unarmed_then k is = ap (λ k. (timer_after w.script w.run t k).armed) (sym is)
      ∙ sym (same_then w f.history f.timers (λ x. x.armed) refl n t) ∙ idle.armed

  pub still_then : (k : ℕ) → seen w n t ≡ k → (timer_after w.script w.run t k).running ≡ None
  still_then k is = ap (λ k. (timer_after w.script w.run t k).running) (sym is)
      ∙ sym (same_then w f.history f.timers (λ x. x.running) refl n t) ∙ idle.running

pub some_none : {X : Type 0} {x : X} → Some x ≡ None → ⊥
some_none is = cc

-- ---- a settime of an armed POSIX timer starts it with no cancel before

-- law: it does not fit
pub uncancelled_doesnt_fit : Fits uncancelled_script uncancelled_record → ⊥
uncancelled_doesnt_fit o =
    let w = witness_with uncancelled_script uncancelled_record o.0 o.1 o.2 in
    let f = o.3 in
    let early = (f.calls 0).1.0 in
    let late = (f.calls 0).2.1.0 in
    let late_idle = settime_idle f 0 1 (2, set_start 200 0 true) [] late (λ is. cc)
    (entered_then w f.history f.timers (at 0 1) (o.2 (at 0 1)).actions 0 late.traced.moves) refl in
    let n = late_idle.moment in
    -- the timer has the first settime's start there, and not the second's
    let low = all_entered_by w f.history f.timers 0 (at 0 0) 0 n refl (all_since n early (omega (arith, late.move_steps.0, late_idle.from))) in
    some_none (unarmed_then w f n 0 late_idle.idle 1 (omega (arith, low, late_idle.few, stamp_then w f.history f.timers n 0)))

-- ---- a settime's start stands behind the claim of an expiry, but its entry stands before that expiry's

-- where the timer is idle behind the first settime and before the second one's start, its function has run
idle_there : (moves : List Move) (signals : ℕ → List SignalLine) (traces : Label → Trace)
    → FitsIn (witness_with crossed_script crossed_record moves signals traces) → (n k : ℕ)
    → IsIdle (timer_along (witness_with crossed_script crossed_record moves signals traces) n 0)
    → seen (witness_with crossed_script crossed_record moves signals traces) n 0 ≡ k → 0 < k → k ≤ 3 → k ≡ 3
idle_there moves signals traces f n zero idle is low high = absurd (omega (arith, low))
idle_there moves signals traces f n (suc zero) idle is low high =
    absurd (some_none (unarmed_then (witness_with crossed_script crossed_record moves signals traces) f n 0 idle 1 is))
idle_there moves signals traces f n (suc (suc zero)) idle is low high =
    absurd (some_none (still_then (witness_with crossed_script crossed_record moves signals traces) f n 0 idle 2 is))
idle_there moves signals traces f n (suc (suc (suc zero))) idle is low high = refl
idle_there moves signals traces f n (suc (suc (suc (suc k)))) idle is low high = absurd (omega (arith, high))

-- law: it does not fit
pub crossed_doesnt_fit : Fits crossed_script crossed_record → ⊥
crossed_doesnt_fit o =
    let w = witness_with crossed_script crossed_record o.0 o.1 o.2 in
    let f = o.3 in
    let early = (f.calls 0).1.0 in
    let write = (f.calls 0).2.1.0 in
    let late = (f.calls 0).2.2.1.0 in
    let run = (f.calls 1).1.0 in
    let late_idle = settime_idle f 0 3 (4, set_start 50 1 false) [] late (λ is. cc)
    (entered_then w f.history f.timers (at 0 2) (o.2 (at 0 2)).actions 0 late.traced.moves) refl in
    let n = late_idle.moment in
    let low = all_entered_by w f.history f.timers 0 (at 0 0) 0 n refl
    (all_since n early (omega (arith, seen_more write, late.move_steps.0, late_idle.from))) in
    -- so the expiry's function had run there, and its entry stood among the object's, behind the settime's own
    let over = idle_there o.0 o.1 o.2 f n (seen w n 0) late_idle.idle refl (omega (arith, low, stamp_then w f.history f.timers n 0)) late_idle.few in
    let one = fired_one (o.2 (at 1 0)).fired run.does.0 (λ f trigger. trigger) in
    let all = all_by_finish one w f.history (at 1 0) run.traced.moves f.timers (2, claim_entry 0 1 1) (3, finish_entry false 1) n
    (entered_then w f.history f.timers (at 1 0) (o.2 (at 1 0)).actions 0 run.traced.moves) (omega (arith, over, stamp_then w f.history f.timers n 0)) in
    let turn = settime_turn 0 1 (set_entry_of 50 1 4 1) late refl in
    let ended = all_by_turn turn f.history n (omega (arith, all_made w f.history 0 (at 1 0) 5 n refl all)) in
    omega (arith, ended, late_idle.begun, turn_moves turn f.history)

-- ---- of two lanes' settimes the one whose start stands first has its entry last

-- law: it does not fit
pub settimes_dont_fit : Fits settimes_script settimes_record → ⊥
settimes_dont_fit o =
    let w = witness_with settimes_script settimes_record o.0 o.1 o.2 in
    let f = o.3 in
    let late = (f.calls 0).1.0 in
    let early = (f.calls 1).1.0 in
    let late_idle = settime_idle f 0 0 (1, set_start 100 0 false) [] late (λ is. cc)
    (entered_then w f.history f.timers (at 0 0) (o.2 (at 0 0)).actions 0 late.traced.moves) refl in
    let n = late_idle.moment in
    -- the object has the other settime's entry where the one had begun, so the timer has that one's start
    let begun = turn_begun (settime_turn 0 1 (set_entry_of 100 0 1 200) late refl) f.history n (omega (arith, late_idle.begun)) in
    let all = all_by_turn (settime_turn 0 0 (set_entry_of 200 0 3 0) early refl) f.history n (omega (arith, begun)) in
    omega (arith, all_entered_by w f.history f.timers 0 (at 1 0) 2 n refl all, late_idle.few, stamp_then w f.history f.timers n 0)

-- ---- a look at a descriptor misses an expiry whose function its lane has seen to end

-- law: it does not fit
pub missed_expiry_doesnt_fit : Fits unreadable_script missed_expiry_record → ⊥
missed_expiry_doesnt_fit o =
    let w = witness_with unreadable_script missed_expiry_record o.0 o.1 o.2 in
    let f = o.3 in
    let run = (f.calls 0).2.2.1.0 in
    let peek = (f.calls 1).1.0 in
    let look = (f.calls 1).2.1.0 in
    let seen_at = (o.2 (at 1 0)).last in
    let n = (o.2 (at 1 1)).last in
    let one = fired_one (o.2 (at 0 2)).fired run.does.0 (λ f trigger. trigger) in
    let all = all_by_finish one w f.history (at 0 2) run.traced.moves f.timers (2, claim_entry 0 1 1) (3, finish_entry false 1) seen_at
    (entered_then w f.history f.timers (at 0 2) (o.2 (at 0 2)).actions 0 run.traced.moves) (omega (arith, peek.holds.stamp)) in
    let later = ends_later w (at 1 1) (o.2 (at 1 1)).first [] (o.2 (at 1 1)).actions n look.truth in
    omega (
      arith,
      look.holds.0,
      all_made w f.history 0 (at 0 2) 3 n refl (all_later w f.history (at 0 2) seen_at n (omega (arith, peek.move_steps.1, look.move_steps.0, later)) all),
    )

-- ---- a read stands before the first of two expiries, and its lane saw the function of the second

-- law: it does not fit
pub early_read_doesnt_fit : Fits two_expiries_script early_read_record → ⊥
early_read_doesnt_fit o =
    let w = witness_with two_expiries_script early_read_record o.0 o.1 o.2 in
    let f = o.3 in
    let settime = (f.calls 0).2.2.2.1.0 in
    let peek = (f.calls 1).1.0 in
    let read = (f.calls 1).2.1.0 in
    let seen_at = (o.2 (at 1 0)).last in
    let read_at = (o.2 (at 1 1)).first in
    -- the second settime, behind the first expiry's entry, had begun where the look found the function of the timer that it started
    let begun = turn_begun_by (settime_turn 0 3 (set_entry_of 6 1 4 0) settime refl) f.history f.timers 0 3 seen_at refl (omega (arith, peek.holds.stamp)) in
    omega (
      arith,
      begun,
      none_made w f.history 0 (at 1 1) 2 read_at refl read.begins,
      turns_rise w 0 seen_at read_at (omega (arith, peek.move_steps.1, read.move_steps.0)),
    )

-- ---- of two lanes each sets its descriptor, and sees the other's as it was before

-- law: it does not fit
pub unseen_doesnt_fit : Fits seen_script unseen_record → ⊥
unseen_doesnt_fit o =
    let w = witness_with seen_script unseen_record o.0 o.1 o.2 in
    let f = o.3 in
    let first_set = (f.calls 0).1.0 in
    let first_look = (f.calls 0).2.1.0 in
    let other_set = (f.calls 1).1.0 in
    let other_look = (f.calls 1).2.1.0 in
    let a = (o.2 (at 0 1)).last in
    let b = (o.2 (at 1 1)).last in
    let to_a = ends_later w (at 0 1) (o.2 (at 0 1)).first [] (o.2 (at 0 1)).actions a first_look.truth in
    let to_b = ends_later w (at 1 1) (o.2 (at 1 1)).first [] (o.2 (at 1 1)).actions b other_look.truth in
    ⊎_elim
    (λ (less : a < b). omega (
      arith,
      other_look.holds.0,
      all_made w f.history 0 (at 0 0) 1 b refl (all_since b first_set (omega (arith, first_look.move_steps.0, to_a, less))),
    ))
    (λ (more : b ≤ a). omega (
      arith,
      first_look.holds.0,
      all_made w f.history 1 (at 1 0) 1 a refl (all_since a other_set (omega (arith, other_look.move_steps.0, to_b, more))),
    ))
    (cases_lt a b)

-- ---- the entries of two objects are crossed

-- law: it does not fit
pub crossed_accepts_dont_fit : Fits accepts_script crossed_accepts_record → ⊥
crossed_accepts_dont_fit o =
    let w = witness_with accepts_script crossed_accepts_record o.0 o.1 o.2 in
    let f = o.3 in
    let a = (o.2 (at 0 1)).first in
    let b = (o.2 (at 1 1)).first in
    -- each lane's second call began behind its first one's entry, and before its own
    let first_there = all_made w f.history 0 (at 0 0) 3 a refl (all_since a (f.calls 0).1.0 (f.calls 0).2.1.0.move_steps.0) in
    let other_there = all_made w f.history 1 (at 1 0) 3 b refl (all_since b (f.calls 1).1.0 (f.calls 1).2.1.0.move_steps.0) in
    let first_not = none_made w f.history 1 (at 0 1) 0 a refl (f.calls 0).2.1.0.begins in
    let other_not = none_made w f.history 0 (at 1 1) 0 b refl (f.calls 1).2.1.0.begins in
    ⊎_elim
    (λ (less : a < b). omega (arith, first_there, other_not, turns_rise w 0 a b (omega (arith, less))))
    (λ (more : b ≤ a). omega (arith, other_there, first_not, turns_rise w 1 b a more))
    (cases_lt a b)

-- ---- an expiry is skipped before its object was full

-- law: it does not fit
pub hasty_skip_doesnt_fit : Fits skipped_script hasty_skip_record → ⊥
hasty_skip_doesnt_fit o =
    let w = witness_with skipped_script hasty_skip_record o.0 o.1 o.2 in
    let f = o.3 in
    let run = (f.calls 0).2.2.1.0 in
    let peek = (f.calls 1).1.0 in
    let accept = (f.calls 1).2.1.0 in
    let t = o.2 (at 0 2) in
    let seen_at = (o.2 (at 1 0)).last in
    let begins_at = (o.2 (at 1 1)).first in
    let one = fired_one t.fired run.does.0 (λ f trigger. trigger) in
    let all = all_by_finish one w f.history (at 0 2) run.traced.moves f.timers (2, claim_entry 0 1 1) (3, finish_entry false 1) seen_at
    (entered_then w f.history f.timers (at 0 2) t.actions 0 run.traced.moves) (omega (arith, peek.holds.stamp)) in
    let skip = skipped_before_finish one w f.history (at 0 2) run.traced.moves t.first t.last (sym (run.traced.objects 0)) run.truth in
    let few = none_made w f.history 0 (at 1 1) 2 begins_at refl accept.begins in
    ⊎_elim
    (λ (less : seen_at < skip.0). skip.1 (all_later w f.history (at 0 2) seen_at skip.0 (omega (arith, less)) all))
    (λ (more : skip.0 ≤ seen_at). omega (
      arith,
      skip.2,
      few,
      turns_rise w 0 skip.0 begins_at (omega (arith, more, peek.move_steps.1, accept.move_steps.0)),
    ))
    (cases_lt seen_at skip.0)

-- ---- a read is canceled by a set of the clock that came later

-- the reading by which an entry of a descriptor was read
abbrev read_by : ObjectEntry → ℕ
read_by (object_entries.Read reading arm reply) = reading
read_by entry = 0

-- a canceled read went by the reading that its entry shows
canceled_reading : (start : List Action) (at number k : ℕ) (arm : Armed) (entry : ObjectEntry)
    → (number, entry) ∷ [] ≡ made 0 (start ++ Made 0 k (object_entries.Read at arm reads.Canceled) ∷ []) → read_by entry ≡ at
canceled_reading start at number k arm entry is =
    let e = object_entries.Read at arm reads.Canceled in
    ap (λ (x : ℕ × ObjectEntry). read_by x.1) (last_is (number, entry) (k, e) (made 0 start) (is ∙ made-append 0 start (Made 0 k e ∷ [])))

-- law: it does not fit
pub foreseen_set_doesnt_fit : Fits canceled_script foreseen_set_record → ⊥
foreseen_set_doesnt_fit o =
    let w = witness_with canceled_script foreseen_set_record o.0 o.1 o.2 in
    let f = o.3 in
    let read = (f.calls 0).2.1 in
    let look = (f.calls 1).1.0 in
    let set = (f.calls 1).2.1.0 in
    let first = (o.2 (at 0 1)).first in
    let seen_at = (o.2 (at 1 0)).last in
    let few = none_made w f.history 0 (at 0 1) 2 first refl read.0.begins in
    -- the read began before the look that found its entry, and so before the set
    let order : first ≤ seen_at = ⊎_elim
    (λ (less : first < seen_at). omega (arith, less))
    (λ (more : seen_at ≤ first). absurd (omega (arith, few, look.holds.0, turns_rise w 0 seen_at first more)))
    (cases_lt first seen_at) in
    let none = reads_no_later w f.history (at 0 1) (at 1 1) _ 0 read.1 refl set.begins (omega (arith, order, look.move_steps.1, set.move_steps.0)) in
    let m = read.0.does.0 in
    let one : 1 ≡ (o.2 (at 0 1)).at =
    canceled_reading m.start (o.2 (at 0 1)).at 2 (m.stamp + 1) m.arm canceled_entry (read.0.traced.objects 0 ∙ ap (made 0) m.done) in
    omega (arith, none, one)

-- ---- an object is armed before the start of its timer

-- law: it does not fit
pub unstarted_doesnt_fit : Fits armed_script unstarted_record → ⊥
unstarted_doesnt_fit o =
    let w = witness_with armed_script unstarted_record o.0 o.1 o.2 in
    let f = o.3 in
    let settime = (f.calls 0).1.0 in
    let look = (f.calls 1).1.0 in
    let peek = (f.calls 1).2.1.0 in
    let seen_at = (o.2 (at 1 0)).last in
    let n = (o.2 (at 1 1)).last in
    let all = all_by_turn (settime_turn 0 0 (set_entry_of 50 0 1 0) settime refl) f.history seen_at (omega (arith, look.holds.0)) in
    let later = ends_later w (at 1 1) (o.2 (at 1 1)).first [] (o.2 (at 1 1)).actions n peek.truth in
    omega (
      arith,
      peek.holds.stamp,
      all_entered_by w f.history f.timers 0 (at 0 0) 0 n refl
          (all_later w f.history (at 0 0) seen_at n (omega (arith, look.move_steps.1, peek.move_steps.0, later)) all),
    )

-- ---- an object is seen as before a settime whose start its lane has seen

-- law: it does not fit
pub unset_doesnt_fit : Fits set_script unset_record → ⊥
unset_doesnt_fit o =
    let w = witness_with set_script unset_record o.0 o.1 o.2 in
    let f = o.3 in
    let settime = (f.calls 0).1.0 in
    let peek = (f.calls 1).1.0 in
    let look = (f.calls 1).2.1.0 in
    let seen_at = (o.2 (at 1 0)).last in
    let n = (o.2 (at 1 1)).last in
    let later = ends_later w (at 1 1) (o.2 (at 1 1)).first [] (o.2 (at 1 1)).actions n look.truth in
    -- the settime had begun its turn where the timer was seen started, and at the look at the object no call has its turn before the first entry
    let begun = turn_begun_by (settime_turn 0 0 (set_entry_of 50 0 1 0) settime refl) f.history f.timers 0 0 seen_at refl (omega (arith, peek.holds.stamp)) in
    omega (arith, begun, look.holds.0, turns_rise w 0 seen_at n (omega (arith, peek.move_steps.1, look.move_steps.0, later)))
