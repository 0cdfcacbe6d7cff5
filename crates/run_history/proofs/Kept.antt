-- A call by its receipts: its moments, and what makes it fit.
use Rattle.std.proofs.Common.{false, length, ◌≡◌, ◌<◌, ◌≤◌, ℕ, ◌+◌, true, List, [], ◌∷◌, ◌++◌, map, arith, refl, sym, ap, ◌∙◌, subst}
use Rattle.std.specs.List.{AllByRecursion}
use Rattle.std.specs.List.Sorted.{IsPermutation}
use Rattle.std.proofs.lemmas.List.{append-nil, length-map, map-append}
use Rattle.record_text.specs.declared.record.Answer.{Answer}
use Rattle.record_text.specs.declared.record.Label.{Label}
use Rattle.run_history.specs.Actions.{Action, also, looked, made, own, own_looks, own_skips, signalled, skipped, wrote}
use Rattle.run_history.specs.Histories.{clock_labels, lines_of_timer}
use Rattle.run_history.specs.Objects.{lines_of_object}
use Rattle.run_history.specs.Order.{is_label, IsLabel, IsPoint, NeverFall}
use Rattle.script_text.specs.declared.script.Call.{Call}
use Rattle.run_history.specs.Calls.{Does, AnswerHolds}
use Rattle.run_history.specs.Deeds.{AllKeepExpiries, AllMoved}
use Rattle.run_history.specs.Truths.{AreTrue, IsMoment, LeftInTurn, sight_of}
use Rattle.run_history.specs.Witnesses.{Witness, labels, Move, Trace}
use Rattle.run_history.specs.Fits.{FitsCall, TraceExplains, Seen}
use Rattle.run_history.specs.Receipts.{AreAll, at_place, PlacedEntry, receipt, shape}
use Rattle.run_history.specs.Rounds.{IsLaid, Spans}
use Rattle.run_history.specs.Traces.{all_entered, own_moves}
use Rattle.run_history.proofs.Points.{point_among}

-- a call that had made these entries, and no others, when it had seen so many of all
pub record Stops (c : Label) (notes : List PlacedEntry) (before : List Action) (n : ℕ) : Type 0 where
  pub early : List PlacedEntry
  pub late : List PlacedEntry
  pub split : notes ≡ early ++ late
  pub are : map receipt early ≡ all_entered before
  pub below : AllByRecursion (λ x. x.place < n) early
  pub behind : AllByRecursion (λ x. n ≤ x.place) late

own_moves_are : (c : Label) (k : ℕ) (ms : List Move) → own_moves c ms ≡ map (λ e. e.1) (own (λ m. m.label) shape c k ms)
own_moves_are c k [] = refl
own_moves_are c k (m ∷ ms) =
    elim (is_label c m.label) as (λ b. also b (shape m) (own_moves c ms)
    ≡ map (λ e. e.1) (also b (k, shape m) (own (λ m. m.label) shape c (k + 1) ms))) [
      | true ↦ ap (λ xs. shape m ∷ xs) (own_moves_are c (k + 1) ms)
      | false ↦ own_moves_are c (k + 1) ms
    ]

receipts_are : (xs : List PlacedEntry) → map (λ e. e.1) (map at_place xs) ≡ map receipt xs
receipts_are [] = refl
receipts_are (x ∷ xs) = ap (λ ys. receipt x ∷ ys) (receipts_are xs)

places_below : (n : ℕ) (xs : List PlacedEntry) → AllByRecursion (λ x. x.place < n) xs → AllByRecursion (λ e. e.0 < 0 + n) (map at_place xs)
places_below n [] all = tt
places_below n (x ∷ xs) all = (omega (arith, all.0), places_below n xs all.1)

places_behind : (n : ℕ) (xs : List PlacedEntry) → AllByRecursion (λ x. n ≤ x.place) xs → AllByRecursion (λ e. 0 + n ≤ e.0) (map at_place xs)
places_behind n [] all = tt
places_behind n (x ∷ xs) all = (omega (arith, all.0), places_behind n xs all.1)

pub inside_below : (low high : ℕ) (xs : List PlacedEntry) → AllByRecursion (λ x. (low ≤ x.place) × (x.place < high)) xs
    → AllByRecursion (λ x. x.place < high) xs
inside_below low high [] all = tt
inside_below low high (x ∷ xs) all = (all.0.1, inside_below low high xs all.1)

pub inside_behind : (low high : ℕ) (xs : List PlacedEntry) → AllByRecursion (λ x. (low ≤ x.place) × (x.place < high)) xs
    → AllByRecursion (λ x. low ≤ x.place) xs
inside_behind low high [] all = tt
inside_behind low high (x ∷ xs) all = (all.0.0, inside_behind low high xs all.1)

-- ---- a call

-- What is known of every call at the end of the run: what it did; its receipts stand in the order, in its span; the record's other lists, and the queue's, have
-- what it did; its reading is within its bounds; and its lane's numbers never fall.
pub record IsKept (w : Witness) (moves : Spans) (c : Label) (t : Trace) (notes : List PlacedEntry) (call : Call) (answer : Answer)
    (before after : Seen) : Type 0 where
  pub trace : w.traces c ≡ t
  pub laid : IsLaid w.script (labels w) moves
  pub is : IsLabel w.script c
  pub forward : moves.first c ≤ t.last
  pub last : t.last ≤ moves.last c
  pub all : AreAll c w.moves notes
  pub inside : AllByRecursion (λ x. (moves.first c ≤ x.place) × (x.place < t.last)) notes
  pub entered : map receipt notes ≡ all_entered t.actions
  pub clock : own (λ line. line.label) (λ line. line.write) c 1 w.run.clock ≡ wrote t.actions
  pub looks : (i : ℕ) → own_looks c 1 (lines_of_timer w.run i) ≡ looked i t.actions
  pub objects : (i : ℕ) → own (λ line. line.label) (λ line. line.entry) c 1 (lines_of_object w.run i) ≡ made i t.actions
  pub skips : (i : ℕ) → IsPermutation (own_skips c 1 (lines_of_object w.run i)) (skipped i t.actions)
  pub reading : IsPoint w.script c 0 t.at (clock_labels w.run)
  pub clock_steps : NeverFall before.clock (t.at ∷ map (λ x. x.0) (wrote t.actions)) after.clock
  pub move_steps : (before.moves ≤ moves.first c) × (moves.last c ≤ after.moves)
  pub signals : (k : ℕ) → own (λ line. line.label) (λ line. line.signal) c 1 (w.signals k) ≡ signalled k t.actions

module _ {w : Witness} {moves : Spans} {c : Label} {t : Trace} {notes : List PlacedEntry} {call : Call} {answer : Answer} {before after : Seen}
    (kept : IsKept w moves c t notes call answer before after) where
  -- a number in the call's span, before which these of its receipts stand, and behind which the others, is a moment of it
  pub moment_of : (early : List Action) (n : ℕ) → moves.first c ≤ n → n ≤ t.last → Stops c notes early n → IsMoment w c early n
  moment_of early n low high stops =
      subst (λ m. IsPoint w.script c m n (labels w)) (length-map stops.early at_place ∙ sym (length-map stops.early receipt) ∙ ap length stops.are)
      (point_among w.script (λ m. m.label) shape c 0 w.moves moves (map at_place stops.early) (map at_place stops.late) n kept.laid kept.is low
      (omega (arith, high, kept.last)) (kept.all ∙ ap (map at_place) stops.split ∙ map-append at_place stops.early stops.late)
      (places_below n stops.early stops.below) (places_behind n stops.late stops.behind))

  -- it had made nothing before its first entry, and all behind its last
  pub none_yet : (n : ℕ) → AllByRecursion (λ x. n ≤ x.place) notes → Stops c notes [] n
  none_yet n behind = record { early = []; late = notes; split = refl; are = refl; below = tt; behind = behind }

  pub made_at_end : Stops c notes t.actions t.last
  made_at_end = record {
    early = notes;
    late = [];
    split = sym (append-nil notes);
    are = kept.entered;
    below = inside_below (moves.first c) t.last notes kept.inside;
    behind = tt;
  }

  -- A call fits that begins at a moment at which it had made nothing: it did what its arguments and its answer say, what it was told held, and the
  -- answer is right.
  pub call_made : moves.first c ≤ t.first → t.first ≤ t.last → AllByRecursion (λ x. t.first ≤ x.place) notes
      → Does (sight_of w t.first t.last) w.script t.at call answer t.fired t.moved t.actions
      → AllKeepExpiries w.script w.run call t.moved × AllMoved (LeftInTurn w t.first t.last) call t.moved
      → AreTrue w c t.first [] t.actions t.last → AnswerHolds w t.first t.last c t.at t.actions call answer
      → FitsCall w c call answer before after
  call_made low high behind does moved truth holds =
      subst (λ x. TraceExplains w c x call answer before after) (sym kept.trace) (record {
        traced = record {
          clock = kept.clock;
          moves = own_moves_are c 0 w.moves ∙ ap (map (λ e. e.1)) kept.all ∙ receipts_are notes ∙ kept.entered;
          looks = kept.looks;
          objects = kept.objects;
          skips = kept.skips;
          signals = kept.signals;
        };
        does = does;
        keeps = moved.0;
        turns = moved.1;
        reading = kept.reading;
        begins = moment_of [] t.first low high (none_yet t.first behind);
        ends = moment_of t.actions t.last kept.forward (omega arith) made_at_end;
        truth = truth;
        holds = holds;
        clock_steps = kept.clock_steps;
        move_steps = (omega (arith, kept.move_steps.0, low), omega (arith, kept.last, kept.move_steps.1));
      })

  -- the same, where it begins with what its pass had seen
  pub call_made_whole : t.first ≡ moves.first c → Does (sight_of w t.first t.last) w.script t.at call answer t.fired t.moved t.actions
      → AllKeepExpiries w.script w.run call t.moved × AllMoved (LeftInTurn w t.first t.last) call t.moved
      → AreTrue w c t.first [] t.actions t.last → AnswerHolds w t.first t.last c t.at t.actions call answer → FitsCall w c call answer before after
  call_made_whole starts = call_made (omega (arith, starts)) (omega (arith, starts, kept.forward))
      (subst (λ n. AllByRecursion (λ x. n ≤ x.place) notes) (sym starts) (inside_behind (moves.first c) t.last notes kept.inside))
