-- What a lane keeps of each of its calls, and has promised of all, when more was seen.
use Rattle.std.proofs.Common.{◌≡◌, ◌≤◌, ℕ, Bool, true, false, List, [], ◌∷◌, length, map, arith, ap, subst, ◌∙◌}
use Rattle.std.specs.Prelude.{MatchBool}
use Rattle.lane_notes.specs.Notes.{NotesOf, both_noted}
use Rattle.pass_names.specs.Counts.{count}
use Rattle.pass_names.specs.Passes.{is_place}
use Rattle.run_history.specs.Promises.{IsPromised, IsPromisedInTurn}
use Rattle.run_history.specs.Runs.{witness_of}
use Rattle.record_text.specs.declared.record.Answer.{Answer}
use Rattle.record_text.specs.declared.record.Label.{Label}
use Rattle.run_history.specs.Actions.{wrote}
use Rattle.run_history.specs.Order.{CallInRound}
use Rattle.script_text.specs.declared.script.Call.{Call}
use Rattle.script_text.specs.declared.script.Script.{Script}
use Rattle.run_history.specs.Witnesses.{Witness}
use Rattle.run_history.specs.Calls.{reads_clock}
use Rattle.run_history.specs.Fits.{FitsCall, FitsLane, HasRead, ReadsInTurn, Seen}
use Rattle.run_history.specs.Rounds.{label_at}
use Rattle.lane_notes.specs.Called.{Called, LaneOf}
use Rattle.lane_notes.proofs.Kept.{AddsPlaces, Follows, IsNextCall, KeepsTurn, log_of, seen_by}
use Rattle.lane_notes.proofs.SeenMore.{IsNoLess, SeesMore, more_called, more_trans, no_less}
use Rattle.lane_notes.specs.Worlds.{WorldOf}
use Rattle.lane_notes.proofs.PartLists.{falls_lower}

-- each call that a lane makes it keeps
abbrev pub KeepsEach : Script → WorldOf → Type 0
KeepsEach s x = (l m : LaneOf) (call : Call) (a : Answer) → IsNextCall s x l call → Called x l call a m → KeepsTurn s l call a m

-- law: a call that fits behind what its lane had seen fits behind less
pub fits_behind : (w : Witness) (c : Label) (call : Call) (a : Answer) (less before after : Seen) → IsNoLess less before → FitsCall w c call a before after
    → FitsCall w c call a less after
fits_behind w c call a less before after no_less fits = record {
  traced = fits.traced;
  does = fits.does;
  keeps = fits.keeps;
  turns = fits.turns;
  reading = fits.reading;
  begins = fits.begins;
  ends = fits.ends;
  truth = fits.truth;
  holds = fits.holds;
  clock_steps = falls_lower less.clock before.clock ((w.traces c).at ∷ map (λ x. x.0) (wrote (w.traces c).actions)) after.clock no_less.clock
      fits.clock_steps;
  move_steps = (omega (arith, no_less.moves, fits.move_steps.0), fits.move_steps.1);
}

-- law: so does its reading
pub reads_behind : (w : Witness) (c : Label) (call : Call) {less from : ℕ} → less ≤ from → ReadsInTurn w c call from → ReadsInTurn w c call less
reads_behind w c call {less} {from} le = by_call (reads_clock call)
  where
    by_call : (b : Bool) → MatchBool b (HasRead w c from) Unit → MatchBool b (HasRead w c less) Unit
    by_call true read = record { moment = read.moment; behind = omega (arith, le, read.behind); no_later = read.no_later; writes = read.writes }
    by_call false read = tt

-- ---- a call with its reading

module _ {s : Script} {l : LaneOf} {call : Call} {a : Answer} {m : LaneOf} (turn : KeepsTurn s l call a m) where
  -- law: by it the lane has seen more
  pub turn_more : SeesMore l.pass m.pass
  turn_more = more_trans (more_called turn.sees) (more_called turn.kept.sees)

  -- law: its notes stand behind the lane's
  pub turn_joins : m.notes ≡ both_noted l.notes turn.kept.added
  turn_joins = turn.kept.joins ∙ ap (λ (ns : NotesOf). both_noted ns turn.kept.added) turn.notes

  -- law: and its places among the passes'
  pub turn_places : AddsPlaces (length s.timers) l.pass m.pass turn.kept.added
  turn_places = record {
    timers = λ i n. omega (arith, turn.kept.places.timers i n, ap (count (is_place i n)) turn.timers);
    objects = λ i n. omega (arith, turn.kept.places.objects i n, ap (count (is_place i n)) turn.objects);
    clock = λ n. omega (arith, turn.kept.places.clock n, ap (count (is_place 0 n)) turn.clock);
  }

  -- law: and it fits, with its reading, in every run that goes on from there
  pub turn_promised : IsPromisedInTurn s l.label.lane l.label.call (log_of turn.begun.pass m.pass turn.kept.notes turn.kept.trace turn.kept.turned) (Follows m.pass) call a
      (seen_by l.pass) (seen_by m.pass)
  turn_promised e follows has joined =
      let log = log_of turn.begun.pass m.pass turn.kept.notes turn.kept.trace turn.kept.turned in
      let by_label = subst (λ (c : Label). IsPromised s c.lane c.call log (Follows m.pass) call a (seen_by turn.begun.pass) (seen_by m.pass)) turn.label
      turn.kept.promised in
      let fits = by_label e follows has joined in (
        fits_behind (witness_of s e) l.label call a (seen_by l.pass) (seen_by turn.begun.pass) (seen_by m.pass) (no_less (more_called turn.sees)) fits,
        turn.read e follows has joined fits,
      )

-- law: the same of the calls of a lane that are left
pub fits_lane_behind : (w : Witness) (lane index : ℕ) (less before : Seen) (ps : List CallInRound) (given : List Answer) → IsNoLess less before
    → FitsLane w lane index before ps given → FitsLane w lane index less ps given
fits_lane_behind w lane index less before [] [] no_less fits = tt
fits_lane_behind w lane index less before [] (a ∷ given) no_less fits = absurd fits
fits_lane_behind w lane index less before (p ∷ ps) [] no_less fits = absurd fits
fits_lane_behind w lane index less before (p ∷ ps) (a ∷ given) no_less fits = (
  fits.0,
  (fits_behind w (label_at lane index) p.call a less before fits.0 no_less fits.1.0, reads_behind w (label_at lane index) p.call no_less.moves fits.1.1),
  fits.2,
)
