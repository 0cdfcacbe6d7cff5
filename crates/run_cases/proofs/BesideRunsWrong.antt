-- Records that don't fit, since what a lane had seen of the one order contradicts what calls were told of signals, where the order of calls alone doesn't.
use Rattle.std.proofs.Common.{◌≡◌, ◌<◌, ℕ, ◌+◌, [], arith, refl, sym, ap, ◌∙◌, subst, inl}
use Rattle.std.proofs.lemmas.Bool.{true≢false}
use Rattle.signal_queue.specs.declared.signal.Signal.{Signal}
use Rattle.run_history.specs.Actions.{own, signalled}
use Rattle.run_history.specs.Fits.{Fits}
use Rattle.run_history.specs.Signals.{SignalLine}
use Rattle.run_history.specs.Traces.{all_entered}
use Rattle.run_history.specs.Witnesses.{CountersList, OfRise, witness_with}
use Rattle.run_history.proofs.Items.{Among}
use Rattle.run_history.proofs.Labels.{same_label}
use Rattle.fit_laws.specs.Signals.{Sent}
use Rattle.fit_laws.proofs.Moments.{ends_later, first_by, rises_counted, some_made, turns_rise}
use Rattle.fit_laws.proofs.SignalLists.{own_line}
use Rattle.fit_laws.proofs.SignalTurns.{own_in_turn, pushed_by_entry}
use Rattle.fit_laws.proofs.SignalCalls.{HasLine}
use Rattle.fit_laws.proofs.Signals.{lines_in_order, named_as_pushed, named_by, names_pop, not_yet, same_number, sent_push}
use Rattle.run_cases.specs.BesideRuns.{early_wait_script, set_again_script, two_runs_script, two_waits_script}
use Rattle.run_cases.specs.Lines.{at}
use Rattle.run_cases.specs.BesideRuns.{crossed_waits_record, late_wait_record, seen_older_record, turned_round_record}
use Rattle.run_cases.proofs.SignalsWrong.{signal_of, unnamed}

-- ---- a lane finds no signal, and had seen the expiry

-- law: it does not fit
pub late_wait_doesnt_fit : Fits early_wait_script late_wait_record → ⊥
late_wait_doesnt_fit o =
    let w = witness_with early_wait_script late_wait_record o.0 o.1 o.2 in
    let f = o.3 in
    let look = (f.calls 1).1.0 in
    let wait = (f.calls 1).2.1.0 in
    let n = (o.2 (at 1 0)).last in
    let t = o.2 (at 1 1) in
    let sent : Sent early_wait_script late_wait_record (at 0 2) (signal_of 0) =
    record { queued = tt; made = record { before = 1; count = refl; line = _; there = refl; label = refl; such = tt } } in
    let push = sent_push w f (at 0 2) (signal_of 0) sent in
    let there = pushed_by_entry w f push.0 (at 0 2) (signal_of 0) push.1 n (omega (arith, look.holds.0)) in
    let within = ends_later w (at 1 1) t.first [] t.actions t.last wait.truth in
    let rise = turns_rise w 1 n t.last (omega (arith, look.move_steps.1, wait.move_steps.0, within)) in
    let named = named_by w f t.last push.0 (at 0 2) (signal_of 0) push.1 (omega (arith, there, rise, wait.holds)) in
    unnamed late_wait_record (signal_of 0) ((λ e. e, (λ e. e, (λ e. e, tt))), ((λ e. e, (λ e. e, tt)), tt)) named.0 named.1

-- ---- of two signals the one is taken first whose lane had seen the other's expiry

-- law: it does not fit
pub seen_older_doesnt_fit : Fits two_runs_script seen_older_record → ⊥
seen_older_doesnt_fit o =
    let w = witness_with two_runs_script seen_older_record o.0 o.1 o.2 in
    let f = o.3 in
    let look = (f.calls 1).1.0 in
    let run = (f.calls 1).2.1.0 in
    let n = (o.2 (at 1 0)).last in
    let first = (o.2 (at 1 1)).first in
    let older : Sent two_runs_script seen_older_record (at 0 3) (signal_of 0) =
    record { queued = tt; made = record { before = 1; count = refl; line = _; there = refl; label = refl; such = tt } } in
    let younger : Sent two_runs_script seen_older_record (at 1 1) (signal_of 1) =
    record { queued = tt; made = record { before = 1; count = refl; line = _; there = refl; label = refl; such = tt } } in
    let one = sent_push w f (at 0 3) (signal_of 0) older in
    let two = sent_push w f (at 1 1) (signal_of 1) younger in
    let there = pushed_by_entry w f one.0 (at 0 3) (signal_of 0) one.1 n (omega (arith, look.holds.0)) in
    let rise = turns_rise w 2 n first (omega (arith, look.move_steps.1, run.move_steps.0)) in
    let behind = not_yet w f 3 (omega arith) two.1 run.begins in
    true≢false (named_as_pushed w f (at 0 5) (at 0 4) one.1 two.1 (omega (arith, there, rise, behind)) (_, refl, (refl, refl)) (_, refl, (refl, refl)))

-- ---- of two signals the older is taken by a lane that had seen the younger accepted

-- law: it does not fit
pub crossed_waits_dont_fit : Fits two_waits_script crossed_waits_record → ⊥
crossed_waits_dont_fit o =
    let w = witness_with two_waits_script crossed_waits_record o.0 o.1 o.2 in
    let f = o.3 in
    let look = (f.calls 0).2.2.2.2.2.1.0 in
    let late = (f.calls 0).2.2.2.2.2.2.1.0 in
    let early = (f.calls 1).1.0 in
    let n = (o.2 (at 0 5)).last in
    let first = (o.2 (at 0 6)).first in
    let older : Sent two_waits_script crossed_waits_record (at 0 3) (signal_of 0) =
    record { queued = tt; made = record { before = 1; count = refl; line = _; there = refl; label = refl; such = tt } } in
    let younger : Sent two_waits_script crossed_waits_record (at 0 4) (signal_of 1) =
    record { queued = tt; made = record { before = 1; count = refl; line = _; there = refl; label = refl; such = tt } } in
    let one = sent_push w f (at 0 3) (signal_of 0) older in
    let two = sent_push w f (at 0 4) (signal_of 1) younger in
    let pop = names_pop w f (at 0 6) (signal_of 0) (_, refl, (refl, refl)) in
    -- the younger one was popped by the first of what its call did, and the other lane had seen an entry of that call
    let did = early.does.0 in
    let own_pop : Among (did.0, signal_of 1) (own (λ (l : SignalLine). l.label) (λ (l : SignalLine). l.signal) (at 1 0) 1 (o.1 4)) =
    subst (Among (did.0, signal_of 1)) (sym (early.traced.signals 4 ∙ ap (signalled 4) did.2)) (inl refl) in
    let s = own_line (λ (l : SignalLine). l.label) (λ (l : SignalLine). l.signal) (at 1 0) 1 (o.1 4) (did.0, signal_of 1) own_pop in
    let its : HasLine (o.1 4) s.before (at 1 0) (signal_of 1) =
    record { line = s.line; there = s.there; label = same_label (at 1 0) s.line.label s.own; signal = sym (ap (λ (e : ℕ × Signal). e.1) s.is) } in
    let number : did.0 ≡ 1 + s.before = ap (λ (e : ℕ × Signal). e.0) s.is in
    let made = some_made w f.history (CountersList 2) (at 1 0) 5 n refl (omega (arith, look.holds.0, rises_counted w 2 n)) in
    let taken = first_by w f.history (at 1 0) (all_entered did.1) did.0 n (OfRise 4) (early.traced.moves ∙ ap all_entered did.2) made in
    let rise = turns_rise w 3 n first (omega (arith, look.move_steps.1, late.move_steps.0)) in
    let behind = not_yet w f 4 (omega arith) pop.1 late.begins in
    let less : two.0 < one.0 = omega (
      arith,
      number,
      taken,
      rises_counted w 4 n,
      rise,
      behind,
      same_number w f pop.0 one.0 (at 0 6) (at 0 3) (signal_of 0) pop.1 one.1,
      same_number w f s.before two.0 (at 1 0) (at 0 4) (signal_of 1) its two.1,
    ) in
    true≢false (lines_in_order w f (omega arith) two.1 one.1 (omega (arith, less)))

-- ---- of two signals of one timer the younger is taken first

-- law: it does not fit
pub turned_round_doesnt_fit : Fits set_again_script turned_round_record → ⊥
turned_round_doesnt_fit o =
    let w = witness_with set_again_script turned_round_record o.0 o.1 o.2 in
    let f = o.3 in
    let again : Signal = record { timer = 0; number = 4 } in
    let older : Sent set_again_script turned_round_record (at 0 2) (signal_of 0) =
    record { queued = tt; made = record { before = 1; count = refl; line = _; there = refl; label = refl; such = tt } } in
    let younger : Sent set_again_script turned_round_record (at 1 1) again =
    record { queued = tt; made = record { before = 3; count = refl; line = _; there = refl; label = refl; such = tt } } in
    let one = sent_push w f (at 0 2) (signal_of 0) older in
    let two = sent_push w f (at 1 1) again younger in
    true≢false (named_as_pushed w f (at 0 4) (at 0 3) one.1 two.1 (own_in_turn w f one.1 two.1 refl (omega arith)) (_, refl, (refl, refl))
    (_, refl, (refl, refl)))
