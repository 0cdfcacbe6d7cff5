-- A run of many lanes: what all lanes leave together, with what each promises of its own calls, makes the record fit.
use Rattle.std.proofs.Common.{◌+◌, ◌≡◌, ◌<◌, ◌≤◌, ℕ, List, [], ◌∷◌, ◌++◌, true, arith, sym, ap, ◌∙◌, subst}
use Rattle.std.proofs.lemmas.List.{length-map}
use Rattle.seq_timer.specs.Systems.{entries_of}
use Rattle.seq_timer.specs.declared.system.SystemEntry.{SystemEntry}
use Rattle.record_text.specs.declared.record.Label.{Label}
use Rattle.record_text.specs.declared.record.RunRecord.{RunRecord}
use Rattle.run_history.specs.Histories.{clock_labels, history_of}
use Rattle.run_history.specs.Order.{is_label, IsLabel}
use Rattle.script_text.specs.declared.script.Script.{Script}
use Rattle.run_history.specs.Witnesses.{labels, Move, Shown, witness_with}
use Rattle.run_history.specs.Fits.{Fits, FitsIn}
use Rattle.run_history.specs.Receipts.{AreAll, shape, weave}
use Rattle.run_history.specs.Runs.{clock_spans, witness_of, Ending, IsEnding, IsJoined, IsRun, lists_of, moves_spans, notes_in}
use Rattle.run_history.specs.Signals.{AreSignals}
use Rattle.run_history.proofs.Filed.{receipts_from}
use Rattle.run_history.proofs.Labels.{label_itself}
use Rattle.run_history.proofs.Laid.{are_all, AreReceipts, is_among, placed_among}
use Rattle.run_history.proofs.Lists.{all_at, map_get}
use Rattle.run_history.proofs.OwnHistories.{own_history}
use Rattle.run_history.proofs.Rounds.{in_order, labels_from}
use Rattle.run_history.proofs.Shown.{shows_from}
use Rattle.run_history.proofs.Weave.{IsShown, length_weave, one_history_from, woven}

module _ (s : Script) (e : Ending) (ends : IsEnding s e) where
  receipts : AreReceipts (lists_of e) e.order (notes_in e)
  receipts = receipts_from (lists_of e) e.order (notes_in e) ends.sorted ends.filed

  each_is_all : (c : Label) → AreAll c (witness_of s e).moves (notes_in e c)
  each_is_all c = are_all (lists_of e) e.order (notes_in e) receipts c

  -- each entry of the order is shown by its line
  shown_each : (before : List SystemEntry) (x : SystemEntry) (later : List SystemEntry) → e.order ≡ before ++ x ∷ later → IsShown (lists_of e) before x
  shown_each = shows_from (lists_of e) e.order (notes_in e) receipts ends.entries

  -- each entry of the order stands in the span of its call, as the call's receipt does
  pub joined_from : IsJoined s e
  joined_from = record {
    entries = woven s e shown_each;
    history = ends.history;
    one = one_history_from s e shown_each receipts.whole ends.history;
    all = each_is_all;
    moves_laid = record {
      inside = λ p x at.
          let m = map_get (λ (m : Move). m.label) (weave (lists_of e) [] e.order) p x at in
          let own : is_label x m.0.label ≡ true = ap (is_label x) m.2 ∙ label_itself x in
          let note = placed_among (0 + p, shape m.0) (notes_in e x) (is_among (lists_of e) e.order (notes_in e) receipts x p m.0 m.1 own) in
          let here = all_at (λ y. IsLabel s x × ((e.logs x).moves.0 ≤ y.place) × (y.place < (e.logs x).moves.1)) (notes_in e x) note.0 note.1 (ends.inside x)
          note.2 in
          let place : 0 + p ≡ note.1.place = ap (λ (y : ℕ × (ℕ × Shown)). y.0) note.3 in
          (here.0, omega (arith, place, here.1), omega (arith, place, here.2));
      ledger = ends.ledger;
      most = λ c is. subst (λ n. (e.logs c).moves.1 ≤ n)
          (sym (length-map (weave (lists_of e) [] e.order) (λ (m : Move). m.label) ∙ length_weave (lists_of e) [] e.order)) (ends.whole c is);
    };
    clock_laid = ends.clock_laid;
    signals = ends.signals;
  }

  -- each timer's lines show its part of the order
  pub shows : (t : ℕ) → history_of e.run t ≡ entries_of t e.order
  shows t = sym (own_history (witness_of s e) joined_from.one t) ∙ ap (entries_of t) joined_from.entries

  fits_in : FitsIn (witness_of s e)
  fits_in = record {
    bases = ends.bases;
    timers = ends.timers;
    objects = ends.objects;
    version = ends.version;
    lanes = ends.lanes;
    clock_calls = labels_from s (clock_labels e.run) (clock_spans e) ends.clock_laid;
    move_calls = labels_from s (labels (witness_of s e)) (moves_spans e) joined_from.moves_laid;
    looks = ends.looks;
    skips = ends.skips;
    writes = ends.writes;
    history = joined_from.one;
    object_histories = ends.object_histories;
    clock_order = in_order s (clock_labels e.run) (clock_spans e) ends.clock_laid;
    order = in_order s (labels (witness_of s e)) (moves_spans e) joined_from.moves_laid;
    signals = subst (AreSignals s e.signals) (sym joined_from.entries) ends.signals.legal;
    calls = λ lane. ends.calls lane joined_from;
  }

-- law: then the record fits the script
pub run_fits : (s : Script) (r : RunRecord) → IsRun s r → Fits s r
run_fits s r run =
    let w = witness_of s run.0 in
    (w.moves, w.signals, w.traces, subst (λ x. FitsIn (witness_with s x w.moves w.signals w.traces)) run.1 (fits_in s run.0 run.2))
