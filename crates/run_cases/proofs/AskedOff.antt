-- A callback's start asks for the heir of a base that is off line, and doesn't tell that it asked for the base.
use Rattle.std.proofs.Common.{◌≡◌, ◌≤◌, ℕ, zero, suc, false, true, None, Some, List, [], ◌∷◌, arith, refl, sym, ap, ◌∙◌, subst, inl, inr}
use Rattle.std.proofs.Math.Logic.{⊎_elim}
use Rattle.std.proofs.lemmas.Bool.{true≢false}
use Rattle.ktime.specs.declared.mode.Mode.TheVariants as modes
use Rattle.seq_timer.specs.Systems.{after_entry, after_shift, changed, shifted}
use Rattle.seq_timer.specs.Tables.{is_armed_on, runs_on}
use Rattle.seq_timer.specs.declared.standing.BaseEvent.TheVariants as shifts
use Rattle.run_history.specs.Actions.{Action, Entered, Looked, Shifted, entered}
use Rattle.run_history.specs.Deeds.{fires, IsBody, IsCallback, IsExpiryRun, StartsItself}
use Rattle.run_history.specs.Signals.{SignalLine}
use Rattle.run_history.specs.Starts.{Arming, FindsOnLine, IsSentByHeirs, SentTo, Sight, arming_actions, from_moment}
use Rattle.run_history.specs.Truths.{IsMoment, sight_of}
use Rattle.fit_laws.proofs.EachTimer.{heads}
use Rattle.fit_laws.proofs.OwnPoints.{entered_then}
use Rattle.record_text.specs.declared.record.CallbackReply.TheVariants as told
use Rattle.record_text.specs.declared.record.Entry.{Entry}
use Rattle.record_text.specs.declared.record.Label.{Label}
use Rattle.script_text.specs.Declarations.{kind_of, without_slack}
use Rattle.script_text.specs.declared.script.Callback.TheVariants as callbacks
use Rattle.script_text.specs.declared.script.Script.{Script}
use Rattle.seq_timer.specs.declared.context.Context.TheVariants as contexts
use Rattle.seq_timer.specs.declared.event.EventBy.{EventBy}
use Rattle.seq_timer.specs.declared.event.EventBy.TheVariants as events
use Rattle.std.proofs.lemmas.List.{append-nil}
use Rattle.run_history.specs.Fits.{Fits}
use Rattle.run_history.specs.Witnesses.{BasesList, Fired, Move, TimersList, Trace, Witness, standing_along, witness_with}
use Rattle.run_cases.specs.Fitting.{asking_record, asking_script}
use Rattle.run_cases.specs.Wrong.{asking_off_record}
use Rattle.run_cases.specs.Lines.{at, case_start_entry, claim_entry, finish_entry, hard_raw, start}
use Rattle.run_cases.proofs.Calls.{right}
use Rattle.run_cases.proofs.Orders.{in_one_order_of}
use Rattle.run_cases.proofs.SentOff.{ends_on_line}
use Rattle.run_cases.proofs.OffLine.{of_one}
use Rattle.run_cases.proofs.Small.{fits_by}
use Rattle.run_cases.proofs.Tests.{le, lt}
use Rattle.run_cases.proofs.Witnesses.{armed_by, did, fired, moves_by, none_along, ran, stays, step, two, witness_along}

-- ---- it asks for the heir

-- its witness
abbrev asking_witness : Witness
asking_witness = witness_along asking_script asking_record (BasesList 1 ∷ TimersList 0 ∷ TimersList 0 ∷ TimersList 0 ∷ TimersList 0 ∷ [])
    ((did 0 (Shifted 1 1 (shifts.Offline 0) ∷ []) 0 1 ∷ did 0 (Entered 0 1 (start modes.Abs 0 0) ∷ []) 1 2
    ∷ ran 0 0 (fired 2 1 (Entered 0 3 (case_start_entry modes.Rel 50 0 0 0 50 false) ∷ []) 4 true ∷ []) 2 5 ∷ []) ∷ [])

-- law: it fits
pub asking_fits : Fits asking_script asking_record
unfolding after_entry after_shift changed shifted
asking_fits = fits_by asking_witness (record {
  version = refl;
  passed = refl;
  writes = tt;
  all = (refl, tt);
  bases = (refl, (refl, tt));
  clock = refl;
  objects = (refl, tt);
  history = two (record { within = lt refl; may = (refl, lt refl, lt refl); clear = refl; heir = refl; reach = of_one _ (lt refl) })
      (two (step refl (inr refl, inl (lt refl)) refl tt) (two (step refl (refl, refl, refl, refl, le refl) refl (refl, refl))
      (two (step refl (inl refl, inl (lt refl)) refl tt) (two (step refl refl refl tt) tt))));
  object_histories = (refl, tt);
  placed = (refl, tt);
  calls = two (
      two (right refl refl refl (refl, tt) (refl, tt) (refl, tt) (record { counted = refl; done = refl }, le refl) (refl, tt) (
        record { online = refl; heir_online = refl; room = lt refl },
        record {
          unarmed = none_along asking_witness 1 (is_armed_on 1) refl refl (refl, tt);
          idle = none_along asking_witness 1 (runs_on 1) refl refl (refl, tt);
        },
      ))
      (two (right refl refl refl (refl, tt) (refl, tt) (refl, tt) (armed_by 1 0, refl, refl, refl, refl, stays refl refl refl refl refl refl) (refl, tt) tt)
      (two (right refl refl refl (refl, tt) (refl, tt) (refl, tt) (
        record {
          one_reading = refl;
          claimed = refl;
          done = refl;
          contexts = (refl, tt);
          bodies = (
            (
              inl (
                armed_by 3 50,
                refl,
                record {
                  begun = 3;
                  from = le refl;
                  claimed = le refl;
                  arming = record {
                    below = le refl;
                    next = tt;
                    way = record { path = 0 ∷ []; at = 3; way = (3, le refl, refl, (refl, le refl, refl)); no_later = le refl; before = lt refl };
                  };
                },
              ),
              refl,
            ),
            tt,
          );
        },
        refl,
      )
      (refl, tt) tt) tt))
      ) tt;
})

-- ---- it tells that it asked for the base that is off line

-- the one order of the record's entries
abbrev in_order : List Move
in_order = moves_by asking_off_record [] (BasesList 1 ∷ TimersList 0 ∷ TimersList 0 ∷ TimersList 0 ∷ TimersList 0 ∷ [])

-- the base for which a start asks, counted from 1
abbrev asked_in : EventBy ℕ → ℕ
asked_in (events.Start asked) = suc asked.base
asked_in event = 0

second : {X : Type 0} (x y z u v : X) (xs ys : List X) → x ∷ y ∷ z ∷ xs ≡ u ∷ v ∷ ys → y ≡ v
second x y z u v xs ys is = cc

none_more : {X : Type 0} (x y z u v : X) → x ∷ y ∷ z ∷ [] ≡ u ∷ v ∷ [] → ⊥
none_more x y z u v is = cc

-- the claim, the start and the finish of the callback
abbrev own_three : List (ℕ × Entry)
own_three = (2, claim_entry 0 0 1) ∷ (3, case_start_entry modes.Rel 50 0 1 0 50 false) ∷ (4, finish_entry true 1) ∷ []

-- it found the base that it tells on line, from a moment on that stands behind its claim
abbrev pub HasFound : Sight → Type 0
HasFound sight = (low : ℕ) × (sight.first ≤ low) × (2 ≤ sight.stamp low 0) × FindsOnLine (from_moment sight low) 0 low 3 1 1

-- a callback of timer 0 that made the start did
asked_found : (sight : Sight) (reading : ℕ) (f : Fired) → own_three ≡ entered 0 (fires 0 reading (record f { timer = 0 }))
    → IsCallback sight 100 (callbacks.Starts 50 1) reading (record f { timer = 0 }) → HasFound sight
asked_found sight reading f same body = ⊎_elim started looked body.0
  where
    claim : 2 ≡ f.claim
    claim = ap (λ (x : ℕ × Entry). x.0) (heads _ _ _ _ same)

    looked : (number : ℕ) × (f.body ≡ Looked 0 number told.Spent ∷ []) → HasFound sight
    looked l = absurd (none_more _ _ _ _ _ (same ∙ ap (λ b. entered 0 (fires 0 reading (record f { timer = 0; body = b }))) l.1))

    started : (a : Arming) × (f.body ≡ arming_actions 0 (without_slack modes.Rel 50 1) reading a) × StartsItself sight 100 1 (record f { timer = 0 }) a
        → HasFound sight
    started s = (
      s.2.begun,
      s.2.from,
      subst (λ k. k ≤ sight.stamp s.2.begun 0) (sym claim) s.2.claimed,
      go s.0.outs (same ∙ ap (λ b. entered 0 (fires 0 reading (record f { timer = 0; body = b }))) s.1) s.2.arming.way,
    )
      where
        later : Sight
        later = from_moment sight s.2.begun

        sent_none : ◌≡◌ {A = ℕ} 2 0 → ⊥
        sent_none is = omega (arith, is)

        go : (outs : List SentTo)
            → own_three ≡ entered 0 (fires 0 reading
            (record f { timer = 0; body = arming_actions 0 (without_slack modes.Rel 50 1) reading (record s.0 { outs = outs }) }))
            → IsSentByHeirs later 0 1 outs s.0.number s.0.asked → FindsOnLine later 0 later.first 3 1 1
        go (out ∷ outs) is way = absurd (sent_none (ap (λ (x : ℕ × Entry). asked_in x.1.event) (second _ _ _ _ _ _ _ is)))
        go [] is way =
            let own = second _ _ _ _ _ _ _ is in
            let number : 3 ≡ s.0.number = ap (λ (x : ℕ × Entry). x.0) own in
            let asked : 1 ≡ s.0.asked = omega (arith, ap (λ (x : ℕ × Entry). asked_in x.1.event) own) in
            subst (λ n. FindsOnLine later 0 later.first n 1 1) (sym number)
            (subst (λ b. FindsOnLine later 0 later.first s.0.number 1 b) (sym asked) way)

-- law: the one callback of a run did, where it made these three
pub one_fired : (sight : Sight) (s : Script) → kind_of s 0 ≡ hard_raw (callbacks.Starts 50 1) → s.limit ≡ 100 → (reading : ℕ) (fired : List Fired)
    (actions : List Action) (shown : ℕ) → own_three ≡ entered 0 actions → IsExpiryRun sight s contexts.Hard reading 0 fired shown (0 ∷ []) actions
    → HasFound sight
one_fired sight s kind limit reading [] actions shown same run = absurd (let none = run.claimed in cc)
one_fired sight s kind limit reading (f ∷ g ∷ fs) actions shown same run = absurd (let many = run.claimed in cc)
one_fired sight s kind limit reading (f ∷ []) actions shown same run =
    let timer : 0 ≡ f.timer = heads 0 f.timer [] [] run.claimed in
    asked_found sight reading f
    (subst (λ t. own_three ≡ entered 0 (fires 0 reading (record f { timer = t }))) (sym timer)
    (same ∙ ap (entered 0) (run.done ∙ append-nil (fires 0 reading f))))
    (subst (λ n. IsCallback sight n (callbacks.Starts 50 1) reading (record f { timer = 0 })) limit
    (subst (λ k. IsBody sight s k reading (record f { timer = 0 })) kind
    (subst (λ t. IsBody sight s (kind_of s t) reading (record f { timer = t })) (sym timer) run.bodies.0)))

off_line : {heir : ℕ} → Some heir ≡ None → ⊥
off_line wrong = cc

-- whatever the calls did
module _ (signals : ℕ → List SignalLine) (traces : Label → Trace) where
  abbrev w : Witness
  w = witness_with asking_script asking_off_record in_order signals traces

  -- behind the call that took it off line the base isn't on line
  never_on : (first n : ℕ) → IsMoment w (at 0 2) [] first → first ≤ n → (standing_along w n 1).heir ≡ None → ⊥
  unfolding after_entry after_shift changed shifted
  never_on zero zero begins low on = true≢false begins.within.behind.0
  never_on (suc first) zero begins low on = omega (arith, low)
  never_on first (suc zero) begins low on = off_line on
  never_on first (suc (suc zero)) begins low on = off_line on
  never_on first (suc (suc (suc zero))) begins low on = off_line on
  never_on first (suc (suc (suc (suc zero)))) begins low on = off_line on
  never_on first (suc (suc (suc (suc (suc zero))))) begins low on = off_line on
  never_on first (suc (suc (suc (suc (suc (suc n)))))) begins low on = off_line on

-- law: it does not fit
pub asking_off_doesnt_fit : Fits asking_script asking_off_record → ⊥
asking_off_doesnt_fit fits =
    let o = in_one_order_of asking_script asking_off_record in_order refl (refl, tt) (refl, (refl, tt)) refl (refl, tt) refl fits in
    let call = (o.2.calls 0).2.2.1.0 in
    let t = o.1 (at 0 2) in
    let sight = sight_of (w o.0 o.1) t.first t.last in
    let own = entered_then (w o.0 o.1) o.2.history o.2.timers (at 0 2) t.actions 0 call.traced.moves in
    let f = one_fired sight asking_script refl refl t.at t.fired t.actions 0 own call.does.0 in
    let found = f.3 in
    let ends = ends_on_line (from_moment sight f.0) f.0 1 found.path 1 found.at found.way in
    never_on o.0 o.1 t.first found.at call.begins (omega (arith, f.1, ends.0)) ends.1
