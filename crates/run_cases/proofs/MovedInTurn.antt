-- Of two timers on a base that goes off line, the one that expires later is not moved first.
use Rattle.std.proofs.Common.{◌≡◌, ℕ, zero, suc, List, [], ◌∷◌, ◌++◌, Option, None, Some, flat_map, length, arith, refl, sym, ap, ◌∙◌, subst}
use Rattle.std.specs.List.{AllByRecursion}
use Rattle.seq_timer.specs.Systems.{after_entry, after_shift, changed, shifted}
use Rattle.record_text.specs.declared.record.Label.{Label}
use Rattle.run_history.specs.Deeds.{evacuates}
use Rattle.run_history.specs.Truths.{LeftInTurn, WasNextOff}
use Rattle.run_history.specs.Signals.{SignalLine}
use Rattle.run_history.specs.Fits.{Fits}
use Rattle.run_history.specs.Traces.{all_entered}
use Rattle.run_history.specs.Witnesses.{Evacuation, Move, OfBase, OfRise, OfTimer, Shown, TimersList, Trace, Witness, timer_along, witness_with}
use Rattle.fit_laws.proofs.EachTimer.{heads}
use Rattle.run_cases.specs.Wrong.{turns_record, turns_script}
use Rattle.run_cases.proofs.Orders.{in_one_order_of}
use Rattle.run_cases.proofs.Witnesses.{moves_by}

-- the one order of the record's entries
abbrev in_order : List Move
in_order = moves_by turns_record []
    (TimersList 1 ∷ TimersList 1 ∷ TimersList 0 ∷ TimersList 0 ∷ TimersList 0 ∷ TimersList 0 ∷ [])

-- the timer of a line
abbrev timer_in : Shown → ℕ
timer_in (OfTimer t entry) = t
timer_in (OfBase b event) = 0
timer_in (OfRise k) = 0

-- the two timers are not the same
not_this : {expires : ℕ} → ◌≡◌ {A = Option (ℕ × ℕ)} (Some (50, 1)) (Some (expires, 0)) → ⊥
not_this wrong = omega (arith, ap timer_of wrong)
  where
    timer_of : Option (ℕ × ℕ) → ℕ
    timer_of None = 0
    timer_of (Some p) = p.1

-- whatever the calls did
module _ (signals : ℕ → List SignalLine) (traces : Label → Trace) where
  abbrev w : Witness
  w = witness_with turns_script turns_record in_order signals traces

  -- the first timer is nowhere the next one, where it has its first two entries
  never_next : (n : ℕ) → (timer_along w n 0).stamp ≡ 2 → WasNextOff w 1 0 n → ⊥
  unfolding after_entry after_shift changed shifted
  never_next zero so front = omega (arith, so)
  never_next (suc zero) so front = omega (arith, so)
  never_next (suc (suc zero)) so front = omega (arith, so)
  never_next (suc (suc (suc zero))) so front = omega (arith, so)
  never_next (suc (suc (suc (suc zero)))) so front = not_this front.1
  never_next (suc (suc (suc (suc (suc zero))))) so front = omega (arith, so)
  never_next (suc (suc (suc (suc (suc (suc zero)))))) so front = omega (arith, so)
  never_next (suc (suc (suc (suc (suc (suc (suc n))))))) so front = omega (arith, so)

  -- so the call moved no timer alone
  none_alone : (reading first last : ℕ) (moved : List Evacuation) (out start : ℕ × Shown) → 1 ≡ length moved → out.0 ≡ 3 → timer_in out.1 ≡ 0
      → out ∷ start ∷ [] ≡ all_entered (flat_map (evacuates 0 reading) moved ++ []) → AllByRecursion (LeftInTurn w first last 1) moved → ⊥
  none_alone reading first last [] out start one third own same turns = omega (arith, one)
  none_alone reading first last (e ∷ f ∷ moved) out start one third own same turns = omega (arith, one)
  none_alone reading first last (e ∷ []) out start one third own same turns =
      let head = heads _ _ _ _ same in
      let before : e.before ≡ 2 = omega (arith, ap (λ (x : ℕ × Shown). x.0) head, third) in
      let timer : e.timer ≡ 0 = sym (ap (λ (x : ℕ × Shown). timer_in x.1) head) ∙ own in
      let t = turns.0 in
      never_next t.at (subst (λ k. (timer_along w t.at k).stamp ≡ 2) timer (t.stamp ∙ before)) (subst (λ k. WasNextOff w 1 k t.at) timer t.front)

-- law: it does not fit
pub turns_dont_fit : Fits turns_script turns_record → ⊥
turns_dont_fit fits =
    let o = in_one_order_of turns_script turns_record in_order refl (refl, (refl, tt)) (refl, (refl, tt)) refl (refl, (refl, tt)) refl fits in
    let call = (o.2.calls 0).2.2.1.0 in
    none_alone o.0 o.1 (o.1 _).at (o.1 _).first (o.1 _).last (o.1 _).moved _ _ call.does.0.counted refl refl
    (call.traced.moves ∙ ap all_entered call.does.0.done) call.turns
