-- A base whose heir is off line: the call that would take it off line is refused, and doesn't do so.
use Rattle.std.proofs.Common.{◌≡◌, ℕ, zero, suc, None, List, [], ◌∷◌, arith, refl}
use Rattle.std.proofs.lemmas.Bool.{true≢false}
use Rattle.seq_timer.specs.Systems.{after_entry, after_shift, changed, shifted}
use Rattle.seq_timer.specs.Tables.{is_armed_on, runs_on}
use Rattle.seq_timer.specs.declared.standing.BaseEvent.TheVariants as shifts
use Rattle.record_text.specs.declared.record.Label.{Label}
use Rattle.run_history.specs.Actions.{Shifted}
use Rattle.run_history.specs.Signals.{SignalLine}
use Rattle.run_history.specs.Fits.{Fits}
use Rattle.run_history.specs.Truths.{IsMoment}
use Rattle.run_history.specs.Witnesses.{BasesList, Move, Trace, Witness, standing_along, witness_with}
use Rattle.run_cases.specs.Fitting.{refused_record, refused_script}
use Rattle.run_cases.specs.Lines.{at}
use Rattle.run_cases.specs.Wrong.{taken_record}
use Rattle.run_cases.proofs.Calls.{right}
use Rattle.run_cases.proofs.Orders.{in_one_order_of}
use Rattle.run_cases.proofs.Small.{fits_by}
use Rattle.run_cases.proofs.Tests.{le, lt}
use Rattle.run_cases.proofs.Witnesses.{did, moves_by, none_along, two, witness_along}

-- ---- it is refused

-- its witness
abbrev refused_witness : Witness
refused_witness = witness_along refused_script refused_record (BasesList 1 ∷ [])
    ((did 0 (Shifted 1 1 (shifts.Offline 0) ∷ []) 0 1 ∷ did 0 [] 1 1 ∷ []) ∷ [])

-- law: it fits
pub refused_fits : Fits refused_script refused_record
unfolding after_entry after_shift changed shifted
refused_fits = fits_by refused_witness (record {
  version = refl;
  passed = refl;
  writes = tt;
  all = tt;
  bases = (refl, (refl, (refl, tt)));
  clock = refl;
  objects = tt;
  history = two (record { within = lt refl; may = (refl, lt refl, lt refl); clear = refl; heir = refl; reach = λ t less. absurd (omega (arith, less)) }) tt;
  object_histories = tt;
  placed = (refl, tt);
  calls = two (
      two (right refl refl refl tt tt tt (record { counted = refl; done = refl }, le refl) (refl, tt) (
        record { online = refl; heir_online = refl; room = lt refl },
        record {
          unarmed = none_along refused_witness 1 (is_armed_on 1) refl refl tt;
          idle = none_along refused_witness 1 (runs_on 1) refl refl tt;
        },
      ))
      (two (right refl refl refl tt tt tt refl (refl, tt) (refl, refl, refl)) tt)
      ) tt;
})

-- ---- it isn't, and the base goes off line

-- the one order of the record's entries
abbrev in_order : List Move
in_order = moves_by taken_record [] (BasesList 1 ∷ BasesList 2 ∷ [])

-- whatever the calls did, the heir is off line wherever the second call has made no entry
never_on : (signals : ℕ → List SignalLine) (traces : Label → Trace) (n : ℕ)
    → IsMoment (witness_with refused_script taken_record in_order signals traces) (at 0 1) [] n
    → (standing_along (witness_with refused_script taken_record in_order signals traces) n 1).heir ≡ None → ⊥
unfolding after_entry after_shift changed shifted
never_on signals traces zero begins on = true≢false begins.within.behind.0
never_on signals traces (suc zero) begins on = cc
never_on signals traces (suc (suc zero)) begins on = omega (arith, begins.so_many)
never_on signals traces (suc (suc (suc n))) begins on = omega (arith, begins.so_many)

-- law: it does not fit
pub taken_doesnt_fit : Fits refused_script taken_record → ⊥
taken_doesnt_fit fits =
    let o = in_one_order_of refused_script taken_record in_order refl tt (refl, (refl, (refl, tt))) refl tt refl fits in
    let call = (o.2.calls 0).2.1.0 in
    never_on o.0 o.1 (o.1 (at 0 1)).first call.begins call.holds.0.heir_online
