-- A start doesn't send its timer to a base that is off line, nor on from a base that is on line.
use Rattle.std.proofs.Common.{◌≡◌, ◌≤◌, ◌<◌, ℕ, zero, suc, Bool, false, true, None, Some, List, [], ◌∷◌, arith, refl, sym, ap, ◌∙◌, subst}
use Rattle.std.proofs.lemmas.Bool.{true≢false}
use Rattle.seq_timer.specs.Systems.{after_entry, after_shift, changed, shifted}
use Rattle.seq_timer.specs.declared.event.EventBy.{EventBy}
use Rattle.seq_timer.specs.declared.event.EventBy.TheVariants as events
use Rattle.record_text.specs.declared.record.Label.{Label}
use Rattle.ktime.specs.declared.mode.Mode.TheVariants as modes
use Rattle.script_text.specs.Declarations.{without_slack}
use Rattle.script_text.specs.declared.script.StartRequest.{StartRequest}
use Rattle.run_history.specs.Signals.{SignalLine}
use Rattle.run_history.specs.Starts.{Arming, FindsOnLine, HeirsLeadTo, IsSentByHeirs, SentTo, Sight, arming_actions}
use Rattle.run_history.specs.Fits.{Fits}
use Rattle.run_history.specs.Traces.{all_entered}
use Rattle.run_history.specs.Truths.{IsMoment, sight_of}
use Rattle.run_history.specs.Witnesses.{BasesList, Move, OfBase, OfRise, OfTimer, Shown, TimersList, Trace, Witness, standing_along, timer_along, witness_with}
use Rattle.fit_laws.proofs.EachTimer.{heads}
use Rattle.run_cases.specs.Lines.{at, out_entry}
use Rattle.run_cases.specs.Wrong.{left_early_record, left_early_script, sent_off_record, stranded_script}
use Rattle.run_cases.proofs.Orders.{in_one_order_of}
use Rattle.run_cases.proofs.Witnesses.{moves_by}

-- the one order of the record's entries
abbrev in_order : List Move
in_order = moves_by sent_off_record [] (BasesList 1 ∷ TimersList 0 ∷ TimersList 0 ∷ TimersList 0 ∷ [])

-- the base to which an Out sends its timer, counted from 1
abbrev sent_to : EventBy ℕ → ℕ
sent_to (events.Out base) = suc base
sent_to event = 0

abbrev sent_by : Shown → ℕ
sent_by (OfTimer t entry) = sent_to entry.event
sent_by (OfBase b event) = 0
sent_by (OfRise k) = 0

-- at the end of a way the base is on line
pub ends_on_line : (sight : Sight) (low base : ℕ) (path : List ℕ) (to n : ℕ) → HeirsLeadTo sight low base path to n → (low ≤ n) × (sight.heir n to ≡ None)
ends_on_line sight low base [] to n way = (way.1, subst (λ b. sight.heir n b ≡ None) way.0 way.2)
ends_on_line sight low base (heir ∷ heirs) to n way =
    let rest = ends_on_line sight way.0 heir heirs to n way.3 in (omega (arith, way.1, rest.0), rest.1)

-- a start for base 1 whose first entry is an Out found the base to which that sends on line before, by the way from base 1
first_found : (number base : ℕ) (armed : Bool) (sight : Sight) (request : StartRequest) (reading : ℕ) (a : Arming) (rest : List (ℕ × Shown))
    → (number, OfTimer 0 (out_entry base armed)) ∷ rest ≡ all_entered (arming_actions 0 request reading a)
    → IsSentByHeirs sight 0 1 a.outs a.number a.asked → FindsOnLine sight 0 sight.first number 1 base
first_found number base armed sight request reading a rest same way = go a.outs same way
  where
    some_none : suc base ≡ 0 → ⊥
    some_none same = omega (arith, same)

    go : (outs : List SentTo) → (number, OfTimer 0 (out_entry base armed)) ∷ rest ≡ all_entered (arming_actions 0 request reading (record a { outs = outs }))
        → IsSentByHeirs sight 0 1 outs a.number a.asked → FindsOnLine sight 0 sight.first number 1 base
    go [] same way = absurd (some_none (ap (λ (x : ℕ × Shown). sent_by x.1) (heads _ _ _ _ same)))
    go (out ∷ outs) same way =
        let its_number : number ≡ out.number = ap (λ (x : ℕ × Shown). x.0) (heads _ _ _ _ same) in
        let its_base : base ≡ out.base = omega (arith, ap (λ (x : ℕ × Shown). sent_by x.1) (heads _ _ _ _ same)) in
        subst (λ n. FindsOnLine sight 0 sight.first n 1 base) (sym its_number)
        (subst (λ b. FindsOnLine sight 0 sight.first out.number 1 b) (sym its_base) way.0)

-- a way to another base finds the one where it begins off line
first_off : (sight : Sight) (low base : ℕ) (path : List ℕ) (to at : ℕ) → HeirsLeadTo sight low base path to at → (base ≡ to → ⊥)
    → (n : ℕ) × (heir : ℕ) × (n ≤ at) × (sight.heir n base ≡ Some heir)
first_off sight low base [] to at way apart = absurd (apart way.0)
first_off sight low base (heir ∷ heirs) to at way apart =
    (way.0, heir, (ends_on_line sight way.0 heir heirs to at way.3).0, way.2)

-- whatever the calls did
module _ (signals : ℕ → List SignalLine) (traces : Label → Trace) where
  abbrev w : Witness
  w = witness_with stranded_script sent_off_record in_order signals traces

  -- behind the call that took it off line the base isn't on line where the timer has no entry
  never_on : (first n : ℕ) → IsMoment w (at 0 1) [] first → first ≤ n → (standing_along w n 1).heir ≡ None → (timer_along w n 0).stamp < 1 → ⊥
  unfolding after_entry after_shift changed shifted
  never_on zero zero begins low on few = true≢false begins.within.behind.0
  never_on (suc first) zero begins low on few = omega (arith, low)
  never_on first (suc zero) begins low on few = cc
  never_on first (suc (suc zero)) begins low on few = omega (arith, few)
  never_on first (suc (suc (suc zero))) begins low on few = omega (arith, few)
  never_on first (suc (suc (suc (suc zero)))) begins low on few = omega (arith, few)
  never_on first (suc (suc (suc (suc (suc n))))) begins low on few = omega (arith, few)

-- law: it does not fit
pub sent_off_doesnt_fit : Fits stranded_script sent_off_record → ⊥
sent_off_doesnt_fit fits =
    let o = in_one_order_of stranded_script sent_off_record in_order refl (refl, tt) (refl, (refl, tt)) refl (refl, tt) refl fits in
    let call = (o.2.calls 0).2.1.0 in
    let t = o.1 (at 0 1) in
    let sight = sight_of (w o.0 o.1) t.first t.last in
    let f = first_found 1 1 false sight (without_slack modes.Abs 100 1) t.at call.does.0 _ (call.traced.moves ∙ ap all_entered call.does.1) call.does.5.way in
    let ends = ends_on_line sight t.first 1 f.path 1 f.at f.way in
    never_on o.0 o.1 t.first f.at call.begins ends.0 ends.1 f.before

-- ---- an armed timer leaves for the heir of a base that is on line

-- the one order of that record's entries
abbrev left_in_order : List Move
left_in_order = moves_by left_early_record [] (TimersList 0 ∷ TimersList 0 ∷ TimersList 0 ∷ TimersList 0 ∷ BasesList 1 ∷ [])

module _ (signals : ℕ → List SignalLine) (traces : Label → Trace) where
  abbrev left : Witness
  left = witness_with left_early_script left_early_record left_in_order signals traces

  -- the base is on line as long as the timer has two entries or fewer
  on_before : (n k heir : ℕ) → n ≤ k → (standing_along left n 1).heir ≡ Some heir → (timer_along left k 0).stamp < 3 → ⊥
  unfolding after_entry after_shift changed shifted
  on_before zero k heir low off few = cc
  on_before (suc zero) k heir low off few = cc
  on_before (suc (suc zero)) k heir low off few = cc
  on_before (suc (suc (suc zero))) k heir low off few = cc
  on_before (suc (suc (suc (suc zero)))) k heir low off few = cc
  on_before (suc (suc (suc (suc (suc n))))) zero heir low off few = omega (arith, low)
  on_before (suc (suc (suc (suc (suc n))))) (suc zero) heir low off few = omega (arith, low)
  on_before (suc (suc (suc (suc (suc n))))) (suc (suc zero)) heir low off few = omega (arith, low)
  on_before (suc (suc (suc (suc (suc n))))) (suc (suc (suc zero))) heir low off few = omega (arith, low)
  on_before (suc (suc (suc (suc (suc n))))) (suc (suc (suc (suc zero)))) heir low off few = omega (arith, low)
  on_before (suc (suc (suc (suc (suc n))))) (suc (suc (suc (suc (suc zero))))) heir low off few = omega (arith, few)
  on_before (suc (suc (suc (suc (suc n))))) (suc (suc (suc (suc (suc (suc k)))))) heir low off few = omega (arith, few)

-- law: it does not fit
pub left_early_doesnt_fit : Fits left_early_script left_early_record → ⊥
left_early_doesnt_fit fits =
    let o = in_one_order_of left_early_script left_early_record left_in_order refl (refl, tt) (refl, (refl, tt)) refl (refl, tt) refl fits in
    let call = (o.2.calls 0).2.1.0 in
    let t = o.1 (at 0 1) in
    let sight = sight_of (left o.0 o.1) t.first t.last in
    let f = first_found 3 0 true sight (without_slack modes.Abs 100 1) t.at call.does.0 _ (call.traced.moves ∙ ap all_entered call.does.1) call.does.5.way in
    let off = first_off sight t.first 1 f.path 0 f.at f.way (λ same. omega (arith, same)) in
    on_before o.0 o.1 off.0 f.at off.1 off.2 off.3 f.before
