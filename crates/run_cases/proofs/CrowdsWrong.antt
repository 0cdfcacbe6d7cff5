-- Records of 65 queued timers that don't fit, since what lanes were told of a full queue can't have been so in one order.
use Rattle.std.proofs.Common.{◌≡◌, ◌<◌, ◌≤◌, ℕ, ◌+◌, zero, suc, Bool, true, false, nat_lt, get_or, [], ◌∷◌, Option, Some, map, if◌then◌else◌, arith, refl, sym, ap, ◌∙◌, subst, inl, inr}
use Rattle.std.specs.List.{range_with_len, slice_get}
use Rattle.std.proofs.Math.Logic.{⊎_elim}
use Rattle.std.proofs.lemmas.Bool.{cases_lt}
use Rattle.std.proofs.lemmas.List.{get_or_past, length-map}
use Rattle.std.proofs.lemmas.Option.{same_Some}
use Rattle.record_text.specs.declared.record.Answer.{Answer}
use Rattle.record_text.specs.declared.record.Answer.TheVariants as answers
use Rattle.record_text.specs.declared.record.Label.{Label}
use Rattle.record_text.specs.declared.record.ObjectLine.{ObjectLine}
use Rattle.signal_queue.specs.declared.signal.Signal.{Signal}
use Rattle.run_history.specs.Fits.{Fits}
use Rattle.run_history.specs.Signals.{pushes_at}
use Rattle.run_history.specs.Truths.{IsMoment}
use Rattle.run_history.specs.Objects.{lines_of_object}
use Rattle.run_history.specs.Order.{is_before}
use Rattle.run_history.specs.Witnesses.{Witness, entries_in, turns_along, witness_with}
use Rattle.run_history.proofs.Items.{Among}
use Rattle.run_history.proofs.Lists.{all_at}
use Rattle.fit_laws.specs.Signals.{IsCounted, IsNamedBy, MadeEntry, Names, Sent}
use Rattle.fit_laws.proofs.Moments.{ends_later, turns_rise}
use Rattle.fit_laws.proofs.SignalTurns.{begun_by_push, pushed_by_entry}
use Rattle.fit_laws.proofs.SignalCalls.{HasLine}
use Rattle.fit_laws.proofs.SignalLaws.{saw_full}
use Rattle.fit_laws.proofs.Signals.{none_popped, pushed_before, push_sent, pushed_among, pushed_few, pushes, sent_push}
use Rattle.run_cases.specs.BesideRuns.{but_the_last, crowd_lines, full_then_empty_record, full_then_empty_script, later_lines, later_pushes_record, later_pushes_script, room_too_late_record, room_too_late_script}
use Rattle.run_cases.specs.Lines.{at, counted_entry}
use Rattle.run_cases.proofs.CrowdedQueue.{below, differ, numbered, old_answers, sent_of}
use Rattle.run_cases.proofs.SignalsWrong.{NamesNot, signal_of, unnamed}

-- ---- an expiry finds no room, and then its lane finds no signal

-- law: it does not fit
pub full_then_empty_doesnt_fit : Fits full_then_empty_script full_then_empty_record → ⊥
full_then_empty_doesnt_fit o =
    let w = witness_with full_then_empty_script full_then_empty_record o.0 o.1 o.2 in
    let f = o.3 in
    let run = (f.calls 1).1.0 in
    let wait = (f.calls 1).2.1.0 in
    let t = o.2 (at 1 1) in
    let full = saw_full w f (at 1 0) (64, 2, record { before = 1; count = refl; line = _; there = refl; label = refl; such = tt }) in
    let within = ends_later w (at 1 1) t.first [] t.actions t.last wait.truth in
    let rise = turns_rise w 65 full.0 t.last (omega (arith, full.4, run.move_steps.1, wait.move_steps.0, within)) in
    let none = none_popped w f t.last (λ d y named. absurd (unnamed full_then_empty_record y (
      old_answers y 0 65 (answers.Clock 1 ∷ answers.More 1 (range_with_len 0 64) ∷ []) (λ e. e, (λ e. e, tt)),
      ((λ e. e, (λ e. e, tt)), tt),
    ) d named)) in
    omega (arith, full.3, rise, none, wait.holds)

-- ---- an expiry counts while as many signals wait as may, and a lane that has seen it takes one

-- only the last answer of lane 1 names a signal
last_named : (lane call : ℕ) (answer : Answer) (y : Signal) → slice_get (get_or room_too_late_record.answers lane []) call ≡ Some answer → IsNamedBy answer y
    → (lane ≡ 1) × (call ≡ 1)
last_named zero call answer y told named = absurd (all_at (NamesNot y) (get_or room_too_late_record.answers 0 []) call answer
    (old_answers y 0 65 (answers.Clock 1 ∷ answers.More 1 (range_with_len 0 64) ∷ answers.Done 1 (64 ∷ []) ∷ []) (λ e. e, (λ e. e, (λ e. e, tt)))) told named)
last_named (suc zero) zero answer y told named = absurd (subst (λ a. IsNamedBy a y) (sym (same_Some (answers.Overrun 0 2) answer told)) named)
last_named (suc zero) (suc zero) answer y told named = (refl, refl)
last_named (suc zero) (suc (suc call)) answer y told named = absurd (cc)
last_named (suc (suc lane)) call answer y told named = absurd (cc)

named_last : (d : Label) (y : Signal) → Names room_too_late_record d y → d ≡ at 1 1
named_last d y (answer, told, named) =
    let is = last_named d.lane d.call answer y told named in
    ap {A = ℕ} (λ lane. record { lane = lane; call = d.call }) is.0 ∙ ap {A = ℕ} (λ call. record { lane = 1; call = call }) is.1

-- which timer's signal is one of these
among_range : (x : Signal) (k n : ℕ) → Among x (map signal_of (range_with_len k n)) → (i : ℕ) × (x ≡ signal_of i) × (i < k + n)
among_range x k zero here = absurd here
among_range x k (suc n) here = ⊎_elim
    (λ (is : x ≡ signal_of k). (k, is, omega arith))
    (λ more. let rest = among_range x (k + 1) n more in (rest.0, rest.1, omega (arith, rest.2))) here

-- each timer's signal was sent
sent_by : (i : ℕ) → i < 65 → Sent room_too_late_script room_too_late_record (but_the_last (at 0 66) (at 0 67) i) (signal_of i)
sent_by i less =
    sent_of room_too_late_script room_too_late_record (crowd_lines (at 0 66) (at 0 67) (counted_entry 1 1))
    (but_the_last (at 0 66) (at 0 67) i) refl refl i less
    (each (nat_lt i 64))
  where
    each : (b : Bool)
        → ◌≡◌ {A = Option ObjectLine}
        (Some (record { label = if b then at 0 66 else at 0 67; entry = if b then counted_entry 1 1 else counted_entry 1 1; skips = [] }))
        (Some (record { label = if b then at 0 66 else at 0 67; entry = counted_entry 1 1; skips = [] }))
    each true = refl
    each false = refl

-- law: it does not fit
pub room_too_late_doesnt_fit : Fits room_too_late_script room_too_late_record → ⊥
room_too_late_doesnt_fit o =
    let look = (o.3.calls 1).1.0 in
    let wait = (o.3.calls 1).2.1.0 in
    let none = none_popped w o.3 n (λ d y named. (
      (o.2 (at 1 1)).first,
      omega (arith, look.move_steps.1, wait.move_steps.0),
      subst (λ c. IsMoment w c [] (o.2 (at 1 1)).first)
          (sym (named_last d y named)) wait.begins,
    )) in
    let many = pushed_few w o.3 n (map signal_of (range_with_len 0 65)) (differ 0 65) (λ x here.
    let i = among_range x 0 65 here in subst (λ x. (k : ℕ) × (c : Label) × HasLine (pushes w o.3) k c x × (k < pushes_at w.script (entries_in w) n)) (sym i.1)
    (there i.0 (omega (arith, i.2)))) in
    let room = o.3.signals.room n in
    omega (arith, many, none, room)
  where
    w : Witness
    w = witness_with room_too_late_script room_too_late_record o.0 o.1 o.2

    -- where lane 1 had seen the last expiry all signals had been pushed
    n : ℕ
    n = (o.2 (at 1 0)).last

    there : (i : ℕ) → i < 65 → (k : ℕ) × (c : Label) × HasLine (pushes w o.3) k c (signal_of i) × (k < pushes_at w.script (entries_in w) n)
    there i less =
        let look = (o.3.calls 1).1.0 in
        let c = but_the_last (at 0 66) (at 0 67) i in
        let push = sent_push w o.3 c (signal_of i) (sent_by i less) in (
          push.0,
          c,
          push.1,
          ⊎_elim
              (λ (early : i < 64). pushed_before w o.3 (at 1 0) n look.ends.within push.1
              (subst (λ b. is_before room_too_late_script (if b then at 0 66 else at 0 67) (at 1 0) ≡ true) (sym (below i early)) refl))
              (λ (late : 64 ≤ i).
              let last : 64 ≡ i = omega (arith, late, less) in
              pushed_by_entry w o.3 push.0 c (signal_of i) push.1 n (subst (λ j. 4 ≤ turns_along w n j) last (omega (arith, look.holds.0))))
              (cases_lt i 64),
        )

-- ---- an expiry finds no room by what its own run pushes later

-- what was sent is the second entry of one of the timers but the first
sent_later : (y : Signal) (c : Label) → Sent later_pushes_script later_pushes_record c y → (y ≡ signal_of y.timer) × (0 < y.timer) × (y.timer < 65)
sent_later y c sent = ⊎_elim
    (λ (less : y.timer < 65).
    let lines : lines_of_object later_pushes_record y.timer ≡ later_lines (0 + y.timer) = numbered later_lines [] 0 65 y.timer less in
    let is = by y.timer m.before m.line (ap (λ n. slice_get (later_lines n) m.before) (none y.timer) ∙ ap (λ ls. slice_get ls m.before) (sym lines) ∙ m.there)
    m.such in
    (ap {A = ℕ} (λ n. record { timer = y.timer; number = n }) (omega (arith, m.count, is.0)), is.1, less))
    (λ (past : 65 ≤ y.timer).
    absurd (no_line m.before m.line (sym (ap (λ ls. slice_get ls m.before) (get_or_past later_pushes_record.objects y.timer [] past)) ∙ m.there)))
    (cases_lt y.timer 65)
  where
    m : MadeEntry later_pushes_record c y.timer y.number IsCounted
    m = sent.made

    none : (n : ℕ) → n ≡ 0 + n
    none n = omega arith

    no_line : (before : ℕ) (line : ObjectLine) → ◌≡◌ {A = Option ObjectLine} (slice_get [] before) (Some line) → ⊥
    no_line before line is = cc

    by : (i before : ℕ) (line : ObjectLine) → slice_get (later_lines i) before ≡ Some line → IsCounted line.entry → (before ≡ 1) × (0 < i)
    by i zero line at_it counted = absurd (subst (λ (l : ObjectLine). IsCounted l.entry) (sym (same_Some _ line at_it)) counted)
    by zero (suc zero) line at_it counted = absurd (subst (λ (l : ObjectLine). IsCounted l.entry) (sym (same_Some _ line at_it)) counted)
    by (suc i) (suc zero) line at_it counted = (refl, omega arith)
    by i (suc (suc before)) line at_it counted = absurd (cc)

in_range : (i k n : ℕ) → k ≤ i → i < k + n → Among (signal_of i) (map signal_of (range_with_len k n))
in_range i k zero low high = absurd (omega (arith, low, high))
in_range i k (suc n) low high = ⊎_elim
    (λ (more : k < i). inr (in_range i (k + 1) n (omega (arith, more)) (omega (arith, high))))
    (λ (same : i ≤ k). let is : i ≡ k = omega (arith, low, same) in inl (ap signal_of is))
    (cases_lt k i)

-- law: it does not fit
pub later_pushes_dont_fit : Fits later_pushes_script later_pushes_record → ⊥
later_pushes_dont_fit o =
    let w = witness_with later_pushes_script later_pushes_record o.0 o.1 o.2 in
    let f = o.3 in
    let first = (f.calls 1).1.0 in
    let second = (f.calls 1).2.1.0 in
    let t = o.2 (at 1 1) in
    let full = saw_full w f (at 0 66) (0, 2, record { before = 1; count = refl; line = _; there = refl; label = refl; such = tt }) in
    let early = full.5 (o.2 (at 1 0)).last (omega (arith, first.holds.0)) in
    let within = ends_later w (at 1 1) t.first [] t.actions t.last second.truth in
    let rise = turns_rise w 65 full.0 t.last (omega (arith, early, first.move_steps.1, second.move_steps.0, within)) in
    -- no signal of timer 1 was pushed by then
    let few = pushed_among w f t.last (map signal_of (range_with_len 2 63)) (λ k c x l there.
    let is = sent_later x c (push_sent w f k c x l) in
    let turn = begun_by_push w f k c x l t.last there in
    let two : x.number ≡ 2 = ap (λ (y : Signal). y.number) is.0 in
    subst (λ y. Among y (map signal_of (range_with_len 2 63))) (sym is.0) (in_range x.timer 2 63 (⊎_elim
    (λ (one : x.timer < 2).
    let its : 1 ≡ x.timer = omega (arith, one, is.1) in
    absurd (omega (arith, subst (λ i. x.number + x.number ≤ turns_along w t.last i + 1) (sym its) turn, two, second.holds.0)))
    (λ more. more) (cases_lt x.timer 2)) (omega (arith, is.2)))) in
    omega (arith, full.3, rise, few, length-map (range_with_len 2 63) signal_of)
