-- From the rounds of a run to what all lanes leave in the end, and to where calls stand by rounds.
use Rattle.std.proofs.Common.{◌≡◌, ◌≤◌, ◌<◌, ℕ, ◌+◌, Some, get_or, List, [], ◌++◌, length, map, arith, refl, sym, ap, ◌∙◌, subst, ⊎_elim}
use Rattle.std.specs.List.{slice_get}
use Rattle.std.proofs.lemmas.Bool.{cases_lt}
use Rattle.std.proofs.lemmas.List.Sorted.{IsPermutation-refl}
use Rattle.std.proofs.lemmas.List.{append-nil, get_or_past, length-map}
use Rattle.std.proofs.lemmas.Option.{get_or_from_slice_get, slice_get-get_or, slice_get_within}
use Rattle.lane_notes.specs.Notes.{no_notes}
use Rattle.record_text.specs.declared.record.Label.{Label}
use Rattle.run_history.specs.Fits.{FitsLane, Seen, unseen}
use Rattle.run_history.specs.Promises.{HasLog}
use Rattle.run_history.specs.Rounds.{IsLedger, label_at, Spans}
use Rattle.run_history.specs.Runs.{CallLog, witness_of, RoundStarts}
use Rattle.run_history.proofs.Lists.{all_at, at_map}
use Rattle.run_history.specs.Order.{CallInRound, calls_of, IsLabel, round_of}
use Rattle.script_text.specs.Scripts.{all_calls, IsInRange}
use Rattle.script_text.specs.declared.script.Call.TheVariants as calls
use Rattle.script_text.specs.declared.script.Script.{Script}
use Rattle.record_text.specs.declared.record.Answer.TheVariants as answers
use Rattle.lane_notes.proofs.Kept.{AreTurnsOf, seen_by, label_of, StandAt, list_of, IsNoteSeen, TellLog, own_notes}
use Rattle.lane_notes.proofs.Left.{AreByRounds, AreLeft, sum_below, turns_at}
use Rattle.round_laws.proofs.Tallies.{sum_items, sum_same}
use Rattle.lane_notes.specs.Rounds.{LeftOf, MakesRounds, none_left}
use Rattle.lane_notes.specs.Worlds.{AreFirst, IsWhole, IsWorldOf, WorldOf}
use Rattle.lane_notes.specs.declared.lane.WorldPass.{WorldPass}
use Rattle.round_laws.proofs.Chains.{clock_list, LiesIn, ListOf, moves_list, start_of}
use Rattle.round_laws.proofs.LaneRound.{LaneSoFar, calls_in, Stands, DoneCall, answers_in, turns_done}
use Rattle.round_laws.proofs.LanesTaken.{AreLeftSoFar}
use Rattle.round_laws.proofs.NotesJoined.{own_notes-none}
use Rattle.lane_notes.proofs.PartLists.{each_weaker}
use Rattle.round_laws.proofs.RoundsLeft.{left_first, rounds_left}
use Rattle.round_laws.proofs.LaneKept.{KeepsEach}

-- a call of which nothing is kept
abbrev pub no_call : DoneCall
no_call = record {
  at = record { round = 0; call = calls.Cancel 0 };
  log = record {
    notes = [];
    trace = record { at = 0; fired = []; moved = []; actions = []; first = 0; last = 0 };
    moves = (0, 0);
    clock = (0, 0);
    turns = [];
  };
  answer = answers.NoSignal;
}

-- nothing is told of a call of which nothing is kept
tell_none : TellLog no_call.log no_notes
tell_none = record {
  receipts = IsPermutation-refl [];
  tells = record { writes = refl; looks = λ t. refl; objects = λ i. refl; skips = λ i. refl; writes_rise = tt; looks_rise = λ t. tt; objects_rise = λ i. tt };
}

stand_none : (q : WorldPass) → StandAt q no_call.log
stand_none q = record { rise = tt; below = tt; made = tt; shows = λ e follows. tt }

turned_none : (s : Script) (q : WorldPass) → AreTurnsOf s q no_call.log
turned_none s q = record { rise = tt; each = tt; are = refl }

-- ---- when no calls are left of any lane

module _ {s : Script} {past : List Seen} {q : WorldPass} {left : LeftOf} (of : ℕ → LaneSoFar) (so_far : AreLeftSoFar s past q left of)
    (rest : (j : ℕ) → (of j).rest ≡ []) where
  -- what was kept of a call
  abbrev call_at : Label → DoneCall
  call_at c = get_or (of c.lane).done c.call no_call

  abbrev log_in : Label → CallLog
  log_in c = (call_at c).log

  -- the calls of a lane that were made are all
  all_made : (lane : ℕ) → calls_of s lane ≡ calls_in (of lane).done
  all_made lane = (so_far.kept lane).parts ∙ ap (λ ps. calls_in (of lane).done ++ ps) (rest lane) ∙ append-nil (calls_in (of lane).done)

  as_many : (lane : ℕ) → length (calls_of s lane) ≡ length (of lane).done
  as_many lane = ap length (all_made lane) ∙ length-map (of lane).done (λ (k : DoneCall). k.at)

  there : (c : Label) → IsLabel s c → slice_get (of c.lane).done c.call ≡ Some (call_at c)
  there c is = slice_get-get_or (of c.lane).done c.call no_call (omega (arith, is, as_many c.lane))

  stands : (c : Label) → IsLabel s c → Stands s past q (call_at c)
  stands c is = all_at (Stands s past q) (of c.lane).done c.call (call_at c) (so_far.kept c.lane).each (there c is)

  -- of each call, and of what is none
  of_each : (c : Label) → TellLog (log_in c) (own_notes c left.notes) × StandAt q (log_in c) × AreTurnsOf s q (log_in c)
  of_each c =
      ⊎_elim (λ (is : c.call < length (calls_of s c.lane)). (
        so_far.are.tell c (log_in c) (call_at c, there c is, refl),
        (stands c is).stand,
        (stands c is).turned,
      ))
      (λ (none : length (calls_of s c.lane) ≤ c.call). let past_all : length (of c.lane).done ≤ c.call = omega (arith, none, as_many c.lane) in
      subst (λ (k : DoneCall). TellLog k.log (own_notes c left.notes) × StandAt q k.log
      × AreTurnsOf s q k.log) (sym (get_or_past (of c.lane).done c.call no_call past_all)) (
        subst (TellLog no_call.log) (sym (own_notes-none c so_far.are
            (λ g at. absurd (omega (arith, past_all, slice_get_within (of c.lane).done c.call at.0 at.1))))) tell_none,
        stand_none q,
        turned_none s q,
      ))
      (cases_lt c.call (length (calls_of s c.lane)))

  -- law: then what all lanes leave is what was kept of each call
  are_left : length left.notes.writes ≤ length (all_calls s.rounds) → IsInRange s → AreLeft s q left.notes log_in
  are_left few range = record {
    tell = λ c. (of_each c).0;
    stand = λ c. (of_each c).1;
    seen = λ k. each_weaker (list_of k left.notes) (λ n is.
        let c = label_of k n in
        let at = is.1 in (
          omega (arith, as_many c.lane, slice_get_within (of c.lane).done c.call at.0 at.1),
          subst (λ g. IsNoteSeen k q g n)
              (sym (ap (λ (d : DoneCall). d.log) (get_or_from_slice_get (of c.lane).done c.call at.0 no_call at.1) ∙ at.2)) is.2,
        )) (so_far.are.seen k);
    few = omega (arith, few, range.count);
    places = so_far.tallies;
    turned = λ c. (of_each c).2;
    unturned = λ c none. ⊎_elim (λ (is : c.call < length (calls_of s c.lane)). absurd (none is))
        (λ (past : length (calls_of s c.lane) ≤ c.call).
        ap (λ (k : DoneCall). k.log.turns) (get_or_past (of c.lane).done c.call no_call (omega (arith, past, as_many c.lane))))
        (cases_lt c.call (length (calls_of s c.lane)));
    turn_places = λ k. so_far.turned k ∙ sum_same s.lanes (λ j. turns_done k (of j).done)
        (λ j. sum_below (length (calls_of s j)) (λ i. turns_at k (log_in (label_at j i)))) (λ j.
        sum_items (λ (d : DoneCall). turns_at k d.log) no_call (of j).done
        ∙ ap (λ n. sum_below n (λ i. turns_at k (get_or (of j).done i no_call).log)) (sym (as_many j)));
  }

  -- ---- along one list

  -- the spans of the calls, and where rounds began
  abbrev spans_on : ListOf → Spans
  spans_on x = record { first = λ c. (x.span (log_in c)).0; last = λ c. (x.span (log_in c)).1; starts = start_of x past (seen_by q) }

  lies_of : (x : ListOf) (c : Label) → IsLabel s c → LiesIn x past (seen_by q) (round_of s c) (log_in c)
  lies_of x c is =
      let at = ap (λ ps. slice_get ps c.call) (all_made c.lane) ∙ at_map (λ (k : DoneCall). k.at) (of c.lane).done c.call (call_at c) (there c is) in
      subst (λ n. LiesIn x past (seen_by q) n (log_in c)) (sym (get_or_from_slice_get (map (λ (p : CallInRound). p.round) (calls_of s c.lane)) c.call
      (call_at c).at.round (length s.rounds) (at_map (λ (p : CallInRound). p.round) (calls_of s c.lane) c.call (call_at c).at at)))
      ((stands c is).lies x)

  -- law: each call's span lies in its round
  ledger_on : (x : ListOf) → IsLedger s (spans_on x)
  ledger_on x = record {
    rise = λ round. subst (λ n. start_of x past (seen_by q) round ≤ start_of x past (seen_by q) n) (omega arith) (x.rises (so_far.rise round));
    from = λ c is. (lies_of x c is).from;
    to = λ c is. (lies_of x c is).to;
    order = λ c is. (lies_of x c is).order;
    next = λ lane call is.
        let after = label_at lane (call + 1) in
        (so_far.kept lane).next x call (call_at (label_at lane call)) (call_at after) (there (label_at lane call) (omega (arith, is)))
        (subst (λ n. slice_get (of lane).done n ≡ Some (call_at after)) (omega arith) (there after is));
  }

  -- what had been seen of each list when each round began
  abbrev all_starts : RoundStarts
  all_starts = record {
    moves = start_of moves_list past (seen_by q);
    clock = start_of clock_list past (seen_by q);
  }

  -- law: then calls stand by rounds, and fit
  by_rounds : AreByRounds s q log_in all_starts left.answers
  by_rounds = record {
    moves = λ r signals. ledger_on moves_list;
    clock = λ r signals. ledger_on clock_list;
    moves_most = λ c is. (lies_of moves_list c is).most;
    clock_most = λ c is. (lies_of clock_list c is).most;
    lanes = so_far.lanes;
    calls = λ e follows has joined lane.
        let done = (of lane).done in
        let fits = (so_far.kept lane).promised e follows (λ j k at. subst (λ (h : DoneCall). HasLog e (label_at lane j) h.log)
        (get_or_from_slice_get done j k no_call at) (has (label_at lane j))) joined [] (subst
        (λ ps. FitsLane (witness_of s e) lane (length done) (seen_by q) ps []) (sym (rest lane)) tt) in
        subst (FitsLane (witness_of s e) lane 0 unseen (calls_of s lane)) (append-nil (answers_in done) ∙ sym (so_far.given lane)) fits;
  }

-- law: rounds in turn, from the first passes on, leave notes of calls that their lanes kept, and calls that stand by rounds
pub left_by_rounds : (s : Script) (x : WorldOf) (p q : WorldPass) (left : LeftOf)
    → KeepsEach s x → IsWorldOf s x → IsInRange s → IsWhole x → AreFirst x p
    → MakesRounds x s.rounds p (none_left s.lanes) q left
    → (logs : Label → CallLog) × (starts : RoundStarts) × AreLeft s q left.notes logs × AreByRounds s q logs starts left.answers
left_by_rounds s x p q left each world range whole first makes =
    let all = rounds_left each world range whole s.rounds [] (left_first s first) (λ j. refl) range.callers makes in (
      log_in all.of all.all all.behind,
      all_starts all.of all.all all.behind,
      are_left all.of all.all all.behind (omega (arith, all.few)) range,
      by_rounds all.of all.all all.behind,
    )
