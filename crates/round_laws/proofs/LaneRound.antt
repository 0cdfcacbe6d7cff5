-- What a lane leaves of one round: what it kept of its calls in it, one after another, behind what was kept of it so far.
use Rattle.run_history.specs.Promises.{HasLog, IsSoFar}
use Rattle.run_history.specs.Runs.{Ending, IsJoined}
use Rattle.run_history.specs.Fits.{FitsLane, unseen}
use Rattle.run_history.proofs.Lists.{at_left, at_seam}
use Rattle.std.proofs.Common.{◌≡◌, ◌≤◌, ℕ, ◌+◌, suc, get_or, List, [], ◌∷◌, ◌++◌, length, length-append, arith, refl, sym, ap, ◌∙◌, subst, ⊎_elim, inl, inr, Some, zero, map, ◌⊎◌}
use Rattle.std.specs.List.{AllByRecursion, slice_get}
use Rattle.std.proofs.lemmas.List.{append_assoc, append-nil, length-map, map-append}
use Rattle.lane_notes.specs.Notes.{NotesOf, both_noted, no_notes}
use Rattle.record_text.specs.declared.record.Answer.{Answer}
use Rattle.record_text.specs.declared.record.Label.{Label}
use Rattle.run_history.specs.Fits.{Seen}
use Rattle.run_history.specs.Promises.{IsPromisedInTurn}
use Rattle.run_history.specs.Runs.{CallLog, witness_of}
use Rattle.run_history.specs.Order.{CallInRound, calls_of}
use Rattle.script_text.specs.Scripts.{IsInRange}
use Rattle.script_text.specs.declared.script.Call.{Call}
use Rattle.script_text.specs.declared.script.Round.{Round}
use Rattle.script_text.specs.declared.script.Script.{Script}
use Rattle.lane_notes.specs.Called.{lane_of, LaneOf, Called}
use Rattle.lane_notes.proofs.Kept.{AreTurnsOf, Follows, KeepsTurn, log_of, seen_by, StandAt, Tallies, turn_place}
use Rattle.lane_notes.proofs.SeenMore.{follows_less, more_begun, more_called, more_split, more_trans, no_less, SeesMore, stand_later, turned_later}
use Rattle.lane_notes.specs.Rounds.{as_index, BeginsFirst, BeginsRound, IsLaneOf, lane_calls, LeftOf, MakesLane, next_of, CalledAll}
use Rattle.lane_notes.specs.Worlds.{ArePassesOf, IsWhole, IsWorldOf, WorldOf}
use Rattle.lane_notes.specs.declared.lane.Lane.{Lane}
use Rattle.lane_notes.specs.declared.lane.WorldPass.{WorldPass}
use Rattle.round_laws.proofs.CallingLanes.{calls_bound, in_round}
use Rattle.round_laws.proofs.Chains.{lies_later, lies_pushed, ListOf, lies_new, LiesIn}
use Rattle.round_laws.proofs.LaneKept.{KeepsEach, fits_lane_behind, turn_joins, turn_more, turn_places, turn_promised}
use Rattle.round_laws.proofs.NotesJoined.{are_later, AreOf, call_notes, joined, none_noted}
use Rattle.lane_notes.proofs.PartLists.{both_noted-assoc, each_weaker, no_notes-joins}
use Rattle.round_laws.proofs.Tallies.{mine_both, tallies_none, tallies_more, tallies_split}
use Rattle.pass_names.specs.Counts.{count, total}
use Rattle.pass_names.specs.Passes.{is_place}
use Rattle.pass_names.proofs.Counts.{total-append}
use Rattle.signal_queue.specs.Views.{PassOfQueue}
use Rattle.lane_notes.proofs.Left.{turns_at}
use Rattle.std.proofs.lemmas.Option.{slice_get_within, same_Some}
use Rattle.pass_names.specs.Passes.{Begins}
use Rattle.run_history.proofs.Lists.{all_at}
use Rattle.pass_names.proofs.Passes.{begins_length, begins_trans, begins_refl, begins_more}
use Rattle.timer_objects.specs.Known.{row_of}
use Rattle.run_history.specs.Rounds.{label_at}
use Rattle.record_text.proofs.Lists.{All-append}

-- ---- a lane so far

-- a call that was made, with what its lane kept of it, and its answer
pub record DoneCall : Type 0 where
  pub at : CallInRound
  pub log : CallLog
  pub answer : Answer

-- a lane's calls that were made, and those that are left
pub record LaneSoFar : Type 0 where
  pub done : List DoneCall
  pub rest : List CallInRound

abbrev pub calls_in : List DoneCall → List CallInRound
calls_in done = map (λ k. k.at) done

abbrev pub answers_in : List DoneCall → List Answer
answers_in done = map (λ k. k.answer) done

-- a run has of a lane's calls what was kept of each
abbrev pub HaveLogs : Ending → ℕ → List DoneCall → Type 0
HaveLogs e lane done = (j : ℕ) (k : DoneCall) → slice_get done j ≡ Some k → HasLog e (label_at lane j) k.log

-- how often a place is that of a push or a pop of these calls
abbrev pub turns_done : ℕ → List DoneCall → ℕ
turns_done k done = total (λ d. turns_at k d.log) done

-- what was kept of a call stands in what passes have seen, and along each list in its round
pub record Stands (s : Script) (past : List Seen) (p : WorldPass) (k : DoneCall) : Type 0 where
  pub stand : StandAt p k.log
  pub turned : AreTurnsOf s p k.log
  pub lies : (x : ListOf) → LiesIn x past (seen_by p) k.at.round k.log

-- it is what the lane kept, by where rounds began and what passes have seen
pub record IsKeptOf (s : Script) (past : List Seen) (p : WorldPass) (lane : ℕ) (d : LaneSoFar) : Type 0 where
  pub parts : calls_of s lane ≡ calls_in d.done ++ d.rest
  pub promised : (e : Ending) → Follows p e → HaveLogs e lane d.done → IsJoined s e
      → IsSoFar (witness_of s e) lane (length d.done) (seen_by p) (calls_of s lane) d.rest (answers_in d.done)
  pub each : AllByRecursion (Stands s past p) d.done
  pub next : (x : ListOf) (j : ℕ) (g h : DoneCall) → slice_get d.done j ≡ Some g → slice_get d.done (suc j) ≡ Some h → (x.span g.log).1 ≤ (x.span h.log).0

-- law: and so it is when more was seen
pub kept_later : {s : Script} {past : List Seen} {p q : WorldPass} {lane : ℕ} {d : LaneSoFar} → SeesMore p q → IsKeptOf s past p lane d
    → IsKeptOf s past q lane d
kept_later {s} {p = p} {q = q} {lane = lane} {d = d} more kept = record {
  parts = kept.parts;
  promised = λ e follows has joined later fits. kept.promised e (follows_less more follows) has joined later
      (fits_lane_behind (witness_of s e) lane (length d.done) (seen_by p) (seen_by q) d.rest later (no_less more) fits);
  each = each_weaker d.done (λ k is. record {
    stand = stand_later more is.stand;
    turned = turned_later more is.turned;
    lies = λ x. lies_later (no_less more) (is.lies x);
  }) kept.each;
  next = kept.next;
}

-- law: and when the next round begins
pub kept_pushed : {s : Script} {past : List Seen} {p : WorldPass} {lane : ℕ} {d : LaneSoFar} → IsKeptOf s past p lane d
    → IsKeptOf s (past ++ seen_by p ∷ []) p lane d
kept_pushed {d = d} kept = record {
  parts = kept.parts;
  promised = kept.promised;
  each = each_weaker d.done (λ k is. record { stand = is.stand; turned = is.turned; lies = λ x. lies_pushed (is.lies x) }) kept.each;
  next = kept.next;
}

-- an item of a list with one more behind it is one of the list's, or that one
at_push : {X : Type 0} (xs : List X) (x : X) (j : ℕ) (y : X) → slice_get (xs ++ x ∷ []) j ≡ Some y
    → (slice_get xs j ≡ Some y) ⊎ ((j ≡ length xs) × (x ≡ y))
at_push [] x zero y at = inr (refl, same_Some x y at)
at_push [] x (suc j) y at = absurd (cc)
at_push (z ∷ xs) x zero y at = inl at
at_push (z ∷ xs) x (suc j) y at = ⊎_elim (λ there. inl there) (λ last. inr (ap suc last.0, last.1)) (at_push xs x j y at)

-- what was kept of a call among these
abbrev pub IsAt : List DoneCall → Label → CallLog → Type 0
IsAt done c g = (k : DoneCall) × (slice_get done c.call ≡ Some k) × (k.log ≡ g)

-- of a lane's call, from one on
abbrev pub IsFrom : ℕ → ℕ → List DoneCall → Label → CallLog → Type 0
IsFrom lane start done c g = (c.lane ≡ lane) × (start ≤ c.call) × IsAt done c g

-- ---- one more call

module _ {s : Script} {l : LaneOf} {call : Call} {a : Answer} {m : LaneOf} (turn : KeepsTurn s l call a m) (before : List Seen) (lane : ℕ)
    (done : List DoneCall) (label : l.label ≡ label_at lane (length done)) where
  abbrev log : CallLog
  log = log_of turn.begun.pass m.pass turn.kept.notes turn.kept.trace turn.kept.turned

  begun_label : turn.begun.label ≡ label_at lane (length done)
  begun_label = turn.label ∙ label

  abbrev at : CallInRound
  at = record { round = length before; call = call }

  abbrev one : DoneCall
  one = record { at = at; log = log; answer = a }

  -- law: it was kept too
  kept_one : (base : WorldPass) (rest : List CallInRound) → SeesMore base l.pass
      → IsKeptOf s (before ++ seen_by base ∷ []) l.pass lane (record { done = done; rest = at ∷ rest })
      → IsKeptOf s (before ++ seen_by base ∷ []) m.pass lane (record { done = done ++ one ∷ []; rest = rest })
  kept_one base rest sees so_far =
      let more = turn_more turn in
      let promise : IsPromisedInTurn s lane (length done) log (Follows m.pass) call a (seen_by l.pass) (seen_by m.pass) =
      subst (λ (c : Label). IsPromisedInTurn s c.lane c.call log (Follows m.pass) call a (seen_by l.pass) (seen_by m.pass)) label (turn_promised turn) in
      record {
        parts = so_far.parts ∙ sym (append_assoc (calls_in done) (at ∷ []) rest)
            ∙ ap (λ ps. ps ++ rest) (sym (map-append (λ (d : DoneCall). d.at) done (one ∷ [])));
        promised = λ e follows has joined later fits. subst (FitsLane (witness_of s e) lane 0 unseen (calls_of s lane))
            (sym (append_assoc (answers_in done) (a ∷ []) later) ∙ ap (λ xs. xs ++ later) (sym (map-append (λ (d : DoneCall). d.answer) done (one ∷ []))))
            (so_far.promised e (follows_less more follows) (λ j k there. has j k (at_left done (one ∷ []) j k there)) joined (a ∷ later) (
              seen_by m.pass,
              promise e follows (has (length done) one (at_seam done [] one)) joined,
              subst (λ n. FitsLane (witness_of s e) lane n (seen_by m.pass) rest later) (length-append done (one ∷ [])) fits,
            ));
        each = All-append (Stands s (before ++ seen_by base ∷ []) m.pass) done (one ∷ []) (kept_later more so_far).each (
          record {
            stand = turn.kept.stand;
            turned = turn.kept.turns;
            lies = λ x. lies_new x before turn.begun.pass m.pass turn.kept.notes turn.kept.trace turn.kept.turned (no_less (more_trans sees (more_called turn.sees)))
                (no_less (more_called turn.kept.sees));
          },
          tt,
        );
        next = λ x j g h this that.
            ⊎_elim (λ there. ⊎_elim (λ behind. so_far.next x j g h there behind)
            (λ new. let most = ((all_at (Stands s (before ++ seen_by base ∷ []) l.pass) done j g so_far.each there).lies x).most in
            omega (
              arith,
              most,
              x.rises (no_less (more_called turn.sees)),
              ap (λ n. n.0) (x.of_log turn.begun.pass m.pass turn.kept.notes turn.kept.trace turn.kept.turned),
              ap (λ (d : DoneCall). (x.span d.log).0) new.1,
            ))
            (at_push done one (suc j) h that))
            (λ new. absurd (omega (arith, new.0, slice_get_within (done ++ one ∷ []) (suc j) h that, length-append done (one ∷ []))))
            (at_push done one j g this);
      }

  -- law: and its notes are among the lane's
  notes_one : (start : ℕ) → start ≤ length done → AreOf l.pass l.notes (IsFrom lane start done)
      → AreOf m.pass m.notes (IsFrom lane start (done ++ one ∷ []))
  notes_one start low are =
      subst (λ ns. AreOf m.pass ns (IsFrom lane start (done ++ one ∷ []))) (sym (turn_joins turn))
      (joined (are_later (turn_more turn) are) (call_notes turn.kept)
      (λ c g h old new. absurd (omega (arith, slice_get_within done c.call old.2.0 old.2.1, ap (λ (d : Label). d.call) (new.0 ∙ begun_label))))
      (λ c g old. (old.0, old.1, (old.2.0, at_left done (one ∷ []) c.call old.2.0 old.2.1, old.2.2)))
      (λ c g new. subst (λ (d : Label). IsFrom lane start (done ++ one ∷ []) d g) (sym (new.0 ∙ begun_label)) (refl, low, (one, at_seam done [] one, new.1)))
      (λ c g both. ⊎_elim (λ there. inl (both.0, both.1, (both.2.0, there, both.2.2)))
      (λ last. inr (ap (λ n. label_at n c.call) both.0 ∙ ap (label_at lane) last.0 ∙ sym begun_label, ap (λ (d : DoneCall). d.log) last.1 ∙ both.2.2))
      (at_push done one c.call both.2.0 both.2.1)))

-- ---- a round

-- A lane in a round, behind its calls of earlier rounds, with the first passes as they were when the round began. Behind these notes, and these places of
-- pushes and pops, the places of its passes are those of its own.
pub record IsInRound (s : Script) (x : WorldOf) (before : List Seen) (base : WorldPass) (first : List DoneCall) (start : NotesOf) (from : List (ℕ × ℕ))
    (lane : ℕ) (l : LaneOf) (d : LaneSoFar) : Type 0 where
  pub label : l.label ≡ label_at lane (as_index (length d.done))
  pub opening : l.pass.objects.knows.opening ≡ (row_of x.objects).made
  pub sees : SeesMore base l.pass
  pub begins : Begins first d.done
  pub kept : IsKeptOf s (before ++ seen_by base ∷ []) l.pass lane d
  pub are : AreOf l.pass l.notes (IsFrom lane (length first) d.done)
  pub tallies : Tallies (length s.timers) l.pass (both_noted start l.notes)
  pub turned : (k : ℕ) → count (is_place 0 k) l.pass.signals.knows.pass.mine + turns_done k first ≡ count (is_place 0 k) from + turns_done k d.done

-- a lane has made calls in the round: they are done, with these answers, and it wrote no more than this
pub record MakesInRound (s : Script) (x : WorldOf) (before : List Seen) (base : WorldPass) (first : List DoneCall) (start : NotesOf) (from : List (ℕ × ℕ))
    (lane : ℕ) (m : LaneOf) (done : List DoneCall) (rest : List CallInRound) (given : List Answer) (most : ℕ) : Type 0 where
  pub all : List DoneCall
  pub answers : answers_in all ≡ answers_in done ++ given
  pub few : length m.notes.writes ≤ most
  pub is : IsInRound s x before base first start from lane m (record { done = all; rest = rest })

-- a lane begins a round: its passes have seen what the first ones had, the places that they have made are those of these notes, and these of pushes and
-- pops, and nothing is noted
pub record BeginsSo (s : Script) (x : WorldOf) (base : WorldPass) (left : LeftOf) (start : NotesOf) (from : List (ℕ × ℕ)) (old : Lane) : Type 0 where
  pub call : old.label.call ≡ as_index (length (get_or left.answers old.label.lane []))
  pub pass : ArePassesOf x old.pass
  pub sees : SeesMore base old.pass
  pub notes : old.notes ≡ no_notes
  pub answers : old.answers.items ≡ []
  pub tallies : Tallies (length s.timers) old.pass start
  pub turned : old.pass.signals.knows.pass.mine ≡ from

-- law: so does a lane behind the first, whose passes have made nothing
pub begins_behind : {s : Script} {x : WorldOf} {base : WorldPass} {left : LeftOf} {old : Lane} → BeginsRound base left old → IsLaneOf x old
    → BeginsSo s x base left no_notes [] old
begins_behind begins of = record {
  call = begins.call;
  pass = of.pass;
  sees = more_begun begins;
  notes = begins.notes;
  answers = begins.answers;
  tallies = tallies_none begins.timers.1 begins.objects.1 begins.clock.1;
  turned = begins.signals.1;
}

-- law: and the first lane, whose passes are the first ones
pub begins_first : {s : Script} {x : WorldOf} {base : WorldPass} {left : LeftOf} {old : Lane} → BeginsFirst x base left old
    → Tallies (length s.timers) base left.notes → BeginsSo s x base left left.notes base.signals.knows.pass.mine old
begins_first {left = left} begins tallies = record {
  call = ap (λ (l : Label). l.call) begins.label ∙ sym (ap (λ (l : Label). as_index (length (get_or left.answers l.lane []))) begins.label);
  pass = begins.of;
  sees = more_split begins.split;
  notes = begins.notes;
  answers = begins.answers;
  tallies = tallies_split begins.split tallies;
  turned = begins.split.signals.1;
}

module _ {s : Script} {x : WorldOf} (each : KeepsEach s x) (world : IsWorldOf s x) (range : IsInRange s) (whole : IsWhole x) (before : List Seen)
    (base : WorldPass) (first : List DoneCall) (start : NotesOf) (from : List (ℕ × ℕ)) where
  -- one call
  one_call : {lane : ℕ} {l n : LaneOf} (done : List DoneCall) (rest : List CallInRound) {c : Call} {a : Answer}
      → IsInRound s x before base first start from lane l (record { done = done; rest = record { round = length before; call = c } ∷ rest }) → n.label ≡ l.label
      → Called x l c a n → MakesInRound s x before base first start from lane (next_of n) done rest (a ∷ []) (length l.notes.writes + 1)
  one_call {lane} {l} {n} done rest {c} {a} old same called =
      let at : CallInRound = record { round = length before; call = c } in
      let there : slice_get (calls_of s lane) (length done) ≡ Some at =
      subst (λ k. slice_get (calls_of s lane) k ≡ Some at) (length-map done (λ (d : DoneCall). d.at))
      (ap (λ ps. slice_get ps (length (calls_in done))) old.kept.parts ∙ at_seam (calls_in done) rest at) in
      let label : l.label ≡ label_at lane (length done) =
      old.label ∙ ap (label_at lane) (omega (arith, (slice_get_within (calls_of s lane) (length done) at there), calls_bound s lane range)) in
      let has = subst (λ (d : Label). slice_get (calls_of s d.lane) d.call ≡ Some at) (sym label) there in
      let turn = each l n c a (record { world = world; range = range; whole = whole; objects = old.opening; at = at; there = has; is = refl }) called in
      let k = one turn before lane done label in
      record {
        all = done ++ k ∷ [];
        answers = map-append (λ (d : DoneCall). d.answer) done (k ∷ []);
        few = omega (arith, ap (λ (ns : NotesOf). length ns.writes) (turn_joins turn), length-append l.notes.writes turn.kept.added.writes, turn.kept.few);
        is = record {
          label = ap (λ (d : Label). label_at d.lane (as_index (d.call + 1))) (same ∙ label)
              ∙ ap (λ i. label_at lane (as_index i)) (sym (length-append done (k ∷ [])));
          opening = turn.kept.sees.opening ∙ (turn.sees.opening ∙ old.opening);
          sees = more_trans old.sees (turn_more turn);
          begins = begins_trans old.begins (begins_more done (k ∷ []));
          kept = kept_one turn before lane done label base rest old.sees old.kept;
          are = notes_one turn before lane done label (length first) (begins_length old.begins) old.are;
          tallies = subst (Tallies (length s.timers) n.pass) (both_noted-assoc start l.notes turn.kept.added ∙ ap (both_noted start) (sym (turn_joins turn)))
              (tallies_more (both_noted start l.notes) turn.kept.added old.tallies (turn_places turn));
          turned = λ j.
              let test = is_place 0 j in
              let turns = turn.kept.turned in
              omega (
                arith,
                old.turned j,
                mine_both test turn.begun.pass.signals.knows.pass.mine (map turn_place turns) turn.kept.turn_places,
                ap (λ (p : PassOfQueue). count test p.knows.pass.mine) turn.signals,
                total-append (λ (d : DoneCall). turns_at j d.log) done (k ∷ []),
              );
        };
      }

  -- calls in turn
  calls_made : {lane : ℕ} (cs : List Call) (given : List Answer) {l m : LaneOf} (done : List DoneCall) (rest : List CallInRound)
      → IsInRound s x before base first start from lane l (record { done = done; rest = in_round (length before) cs ++ rest }) → CalledAll x l cs given m
      → MakesInRound s x before base first start from lane m done rest given (length l.notes.writes + length cs)
  calls_made {lane} [] [] done rest old called = record {
    all = done;
    answers = sym (append-nil (answers_in done));
    few = omega (arith, ap (λ (k : LaneOf). length k.notes.writes) called);
    is = subst (λ k. IsInRound s x before base first start from lane k (record { done = done; rest = rest })) (sym called) old;
  }
  calls_made [] (a ∷ given) done rest old called = absurd called
  calls_made (c ∷ cs) [] done rest old called = absurd called
  calls_made (c ∷ cs) (a ∷ given) done rest old called =
      let this = one_call done (in_round (length before) cs ++ rest) old called.1 called.2 in
      let others = calls_made cs given this.all rest this.is called.3 in
      record {
        all = others.all;
        answers = others.answers ∙ ap (λ zs. zs ++ given) this.answers ∙ append_assoc (answers_in done) (a ∷ []) given;
        few = omega (arith, this.few, others.few);
        is = others.is;
      }

  -- law: what a lane leaves of a round in which it made its calls
  pub leaves_from : {left : LeftOf} {r : Round} (rest : List CallInRound) {old new : Lane} → let lane = old.label.lane in
      IsKeptOf s (before ++ seen_by base ∷ []) base lane (record { done = first; rest = in_round (length before) (lane_calls lane r) ++ rest })
      → get_or left.answers lane [] ≡ answers_in first → BeginsSo s x base left start from old → MakesLane x r old new
      → MakesInRound s x before base first start from lane (lane_of new) first rest new.answers.items (length (lane_calls lane r))
  leaves_from {left} {r} rest {old} {new} so_far same begins makes =
      let lane = old.label.lane in
      let cs = lane_calls lane r in
      let begun : IsInRound s x before base first start from lane (lane_of old) (record { done = first; rest = in_round (length before) cs ++ rest }) = record {
        label = ap (label_at lane) (begins.call ∙ ap as_index (ap length same ∙ length-map first (λ (d : DoneCall). d.answer)));
        opening = begins.pass.objects.row.made;
        sees = begins.sees;
        begins = begins_refl first;
        kept = kept_later begins.sees so_far;
        are = subst (λ ns. AreOf old.pass ns (IsFrom lane (length first) first)) (sym begins.notes)
            (none_noted (λ c g is. absurd (omega (arith, is.1, slice_get_within first c.call is.2.0 is.2.1))));
        tallies = subst (Tallies (length s.timers) old.pass) (no_notes-joins start ∙ ap (both_noted start) (sym begins.notes)) begins.tallies;
        turned = λ j. let same = ap (count (is_place 0 j)) begins.turned in omega (arith, same);
      } in
      let made = calls_made cs makes.calls.given first rest begun makes.calls.calls in
      record {
        all = made.all;
        answers = made.answers
            ∙ ap (λ zs. answers_in first ++ zs) (ap (λ zs. zs ++ makes.calls.given) (sym begins.answers) ∙ sym makes.calls.answers);
        few = omega (arith, made.few, ap (λ (ns : NotesOf). length ns.writes) begins.notes);
        is = made.is;
      }
