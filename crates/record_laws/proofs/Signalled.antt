-- The pushes and pops of signals that the last pass of the queue has seen, each under the label of the call that made it.
use Rattle.std.proofs.Common.{◌≡◌, ◌<◌, ◌≤◌, ℕ, ◌+◌, zero, suc, true, false, nat_eq, filter, Some, List, [], ◌∷◌, length, map, arith, refl, sym, ap, ◌∙◌, subst}
use Rattle.std.specs.List.{AllByRecursion, slice_get}
use Rattle.std.specs.Prelude.{if◌then◌else◌, ◌==◌}
use Rattle.std.proofs.Math.Logic.{⊎_elim}
use Rattle.std.proofs.lemmas.Bool.{cases_Bool, cases_lt, eq-eqb, eqb-true}
use Rattle.std.proofs.lemmas.List.{length-map}
use Rattle.std.proofs.lemmas.Option.{same_Some, slice_get_within}
use Rattle.pass_names.specs.Counts.{count, one_if}
use Rattle.pass_names.specs.Passes.{is_place}
use Rattle.signal_queue.specs.Rules.{turns}
use Rattle.signal_queue.specs.declared.signal.Turn.{Turn}
use Rattle.record_text.specs.declared.record.Label.{Label}
use Rattle.lane_notes.specs.Notes.{NotesOf}
use Rattle.run_history.specs.Actions.{own, signalled}
use Rattle.run_history.specs.Order.{calls_from, calls_of, is_label, IsLabel}
use Rattle.run_history.specs.Rounds.{label_at}
use Rattle.run_history.specs.Runs.{CallLog}
use Rattle.run_history.specs.Signals.{SendsSignals, SignalLine, pop_counter, push_counter, signals_in}
use Rattle.run_history.proofs.Items.{Among, among_at, at_among, own_items}
use Rattle.run_history.proofs.Labels.{label_itself, same_label}
use Rattle.run_history.proofs.Lists.{all_at, each, item_at}
use Rattle.script_text.specs.Scripts.{all_calls}
use Rattle.script_text.specs.declared.script.LaneCall.{LaneCall}
use Rattle.script_text.specs.declared.script.Round.{Round}
use Rattle.script_text.specs.declared.script.Script.{Script}
use Rattle.record_text.proofs.Lists.{All-back, All-front}
use Rattle.lane_notes.proofs.Kept.{IsOfQueued, signal_at, turn_place}
use Rattle.record_laws.proofs.CounterLines.{lines_none, lines_on, lines_popped, lines_pushed, lines_queued, own_rises_on, rises_on, signalled_of, SignalMove, turns_in}
use Rattle.script_text.specs.Declarations.{kind_of}
use Rattle.signal_queue.specs.Turns.{popped, pushed}
use Rattle.lane_notes.proofs.Left.{all_turns_at, AreLastOf, AreLeft, sum_below, turns_at}
use Rattle.lane_notes.specs.Worlds.{WorldOf}
use Rattle.lane_notes.specs.declared.lane.WorldPass.{WorldPass}
use Rattle.record_laws.proofs.Numbered.{within_from}
use Rattle.record_laws.proofs.OwnLines.{rise_in}

-- ---- sums

-- a sum that isn't 0 has a value that isn't
some_below : (n : ℕ) (f : ℕ → ℕ) → 1 ≤ sum_below n f → (j : ℕ) × (j < n) × (1 ≤ f j)
some_below zero f some = absurd (omega (arith, some))
some_below (suc n) f some =
    ⊎_elim (λ (here : 0 < f 0). (0, omega arith, omega (arith, here)))
    (λ (none : f 0 ≤ 0). let rest = some_below n (λ j. f (suc j)) (omega (arith, some, none)) in (suc rest.0, omega (arith, rest.1), rest.2))
    (cases_lt 0 (f 0))

-- no value is more than the sum
most_below : (n : ℕ) (f : ℕ → ℕ) (j : ℕ) → j < n → f j ≤ sum_below n f
most_below zero f j less = absurd (omega (arith, less))
most_below (suc n) f zero less = omega arith
most_below (suc n) f (suc j) less = let rest = most_below n (λ k. f (suc k)) j (omega (arith, less)) in omega (arith, rest)

-- a sum of 1 has one value that isn't 0
one_below : (n : ℕ) (f : ℕ → ℕ) (i j : ℕ) → sum_below n f ≡ 1 → i < n → j < n → 1 ≤ f i → 1 ≤ f j → i ≡ j
one_below zero f i j one i_in j_in at_i at_j = absurd (omega (arith, i_in))
one_below (suc n) f zero zero one i_in j_in at_i at_j = refl
one_below (suc n) f zero (suc j) one i_in j_in at_i at_j =
    absurd (omega (arith, one, at_i, at_j, most_below n (λ k. f (suc k)) j (omega (arith, j_in))))
one_below (suc n) f (suc i) zero one i_in j_in at_i at_j =
    absurd (omega (arith, one, at_i, at_j, most_below n (λ k. f (suc k)) i (omega (arith, i_in))))
one_below (suc n) f (suc i) (suc j) one i_in j_in at_i at_j =
    let rest : sum_below n (λ k. f (suc k)) ≡ 1 = omega (arith, one, at_i, most_below n (λ k. f (suc k)) i (omega (arith, i_in))) in
    ap suc (one_below n (λ k. f (suc k)) i j rest (omega (arith, i_in)) (omega (arith, j_in)) at_i at_j)

-- ---- places of pushes and pops

-- the call made the push or pop that stands behind so many
pub record HasTurn (log : CallLog) (p : ℕ) : Type 0 where
  pub index : ℕ
  pub turn : Turn
  pub there : slice_get log.turns index ≡ Some (p, turn)

same_next : (a b : ℕ) → a + 1 ≡ b + 1 → a ≡ b
same_next a b is = omega (arith, is)

turn_found : (p : ℕ) (xs : List (ℕ × Turn)) → 1 ≤ count (is_place 0 (p + 1)) (map turn_place xs)
    → (i : ℕ) × (t : Turn) × (slice_get xs i ≡ Some (p, t))
turn_found p [] some = absurd (omega (arith, some))
turn_found p (x ∷ xs) some =
    ⊎_elim (λ is. (0, x.1, ap (λ n. Some (n, x.1)) (same_next x.0 p (eqb-true (x.0 + 1) (p + 1) is))))
    (λ not.
    let here : one_if (is_place 0 (p + 1) (turn_place x)) ≡ 0 = ap one_if not in
    let rest = turn_found p xs (omega (arith, some, here)) in (suc rest.0, rest.1, rest.2))
    (cases_Bool (x.0 + 1 == p + 1))

turn_counted : (p i : ℕ) (t : Turn) (xs : List (ℕ × Turn)) → slice_get xs i ≡ Some (p, t) → 1 ≤ count (is_place 0 (p + 1)) (map turn_place xs)
turn_counted p i t [] at = absurd (cc)
turn_counted p zero t (x ∷ xs) at =
    let is : (x.0 + 1 == p + 1) ≡ true = eq-eqb (x.0 + 1) (p + 1) (ap (λ (y : ℕ × Turn). y.0 + 1) (same_Some x (p, t) at)) in
    let here : one_if (is_place 0 (p + 1) (turn_place x)) ≡ 1 = ap one_if is in
    omega (arith, here)
turn_counted p (suc i) t (x ∷ xs) at = let rest = turn_counted p i t xs at in omega (arith, rest)

-- ---- a lane past the script's lanes has no calls

none_there : (lane lanes : ℕ) (cs : List LaneCall) → lanes ≤ lane → AllByRecursion (λ c. c.lane < lanes) cs → filter (λ c. nat_eq c.lane lane) cs ≡ []
none_there lane lanes [] past all = refl
none_there lane lanes (c ∷ cs) past all =
    let rest = none_there lane lanes cs past all.1 in
    elim (nat_eq c.lane lane) as (λ b. nat_eq c.lane lane ≡ b
    → (if b then c ∷ filter (λ (d : LaneCall). nat_eq d.lane lane) cs else filter (λ (d : LaneCall). nat_eq d.lane lane) cs) ≡ []) [
      | true ↦ λ is. absurd (omega (arith, past, all.0, eqb-true c.lane lane is))
      | false ↦ λ not. rest
    ] refl

no_lane : (lane lanes round : ℕ) (rs : List Round) → lanes ≤ lane → AllByRecursion (λ c. c.lane < lanes) (all_calls rs) → calls_from lane round rs ≡ []
no_lane lane lanes round [] past all = refl
no_lane lane lanes round (r ∷ rs) past all =
    rw (none_there lane lanes r.calls past (All-front (λ (c : LaneCall). c.lane < lanes) r.calls (all_calls rs) all))
    (no_lane lane lanes (round + 1) rs past (All-back (λ (c : LaneCall). c.lane < lanes) r.calls (all_calls rs) all))

-- ---- labelled turns

-- turns with a label for each place
signals_from : (ts : List Turn) → ((p : ℕ) → p < length ts → Label) → List SignalMove
signals_from [] of = []
signals_from (t ∷ ts) of = (of 0 (omega arith), t) ∷ signals_from ts (λ p less. of (suc p) (omega (arith, less)))

turns_from : (ts : List Turn) (of : (p : ℕ) → p < length ts → Label) → turns_in (signals_from ts of) ≡ ts
unfolding signals_from
turns_from [] of = refl
turns_from (t ∷ ts) of = ap (λ us. t ∷ us) (turns_from ts (λ p less. of (suc p) (omega (arith, less))))

signals_at : (P : ℕ → Label → Type 0) (ts : List Turn) (of : (p : ℕ) → p < length ts → Label) → ((p : ℕ) (less : p < length ts) → P p (of p less))
    → (p : ℕ) (m : SignalMove) → slice_get (signals_from ts of) p ≡ Some m → P p m.0 × (slice_get ts p ≡ Some m.1)
unfolding signals_from
signals_at P [] of so p m at = absurd (cc)
signals_at P (t ∷ ts) of so zero m at =
    let same = same_Some _ m at in (subst (P 0) (ap (λ (y : SignalMove). y.0) same) (so 0 (omega arith)), ap (λ (y : SignalMove). Some y.1) same)
signals_at P (t ∷ ts) of so (suc p) m at =
    signals_at (λ n c. P (suc n) c) ts (λ n less. of (suc n) (omega (arith, less))) (λ n less. so (suc n) (omega (arith, less))) p m at

-- ---- the last pass's

module _ {s : Script} {x : WorldOf} {q : WorldPass} {notes : NotesOf} {logs : Label → CallLog} (last : AreLastOf s x q) (left : AreLeft s q notes logs) where
  abbrev seen : List Turn
  seen = turns q.signals.knows

  -- each place is one call's
  abbrev IsTurnOf : ℕ → Label → Type 0
  IsTurnOf p c = IsLabel s c × HasTurn (logs c) p

  once : (p : ℕ) → p < length seen → all_turns_at s logs (p + 1) ≡ 1
  once p less =
      sym (left.turn_places (p + 1)) ∙ (last.of.passes.queue.all_entries last.of.last.signals).once 0 (p + 1)
      ∙ within_from (p + 1) (length seen) (omega arith) (omega (arith, less))

  found : (p : ℕ) → p < length seen → (c : Label) × IsTurnOf p c
  found p less =
      let of : ℕ → ℕ → ℕ = λ lane call. turns_at (p + 1) (logs (label_at lane call)) in
      let of_lane : ℕ → ℕ = λ lane. sum_below (length (calls_of s lane)) (of lane) in
      let some : 1 ≤ sum_below s.lanes of_lane = omega (arith, once p less) in
      let lane = some_below s.lanes of_lane some in
      let call = some_below (length (calls_of s lane.0)) (of lane.0) lane.2 in
      let c = label_at lane.0 call.0 in
      let its = turn_found p (logs c).turns call.2 in
      (c, (call.1, record { index = its.0; turn = its.1; there = its.2 }))

  counted : (p : ℕ) (c : Label) → HasTurn (logs c) p → 1 ≤ turns_at (p + 1) (logs c)
  counted p c its = turn_counted p its.index its.turn (logs c).turns its.there

  -- a call that has one is the script's
  turn_label : (p : ℕ) (c : Label) → HasTurn (logs c) p → IsLabel s c
  turn_label p c its =
      ⊎_elim (λ is. is)
      (λ (past : length (calls_of s c.lane) ≤ c.call).
      let none = left.unturned c (λ is. omega (arith, is, past)) in
      absurd (omega (arith, ap length none, slice_get_within (logs c).turns its.index (p, its.turn) its.there)))
      (cases_lt c.call (length (calls_of s c.lane)))

  lane_there : (c : Label) → IsLabel s c → c.lane < s.lanes
  lane_there c is =
      ⊎_elim (λ less. less)
      (λ (past : s.lanes ≤ c.lane). let none = no_lane c.lane s.lanes 0 s.rounds past last.of.range.callers in absurd (omega (arith, is, ap length none)))
      (cases_lt c.lane s.lanes)

  -- and no other has it
  same_turn : (p : ℕ) (c d : Label) → p < length seen → HasTurn (logs c) p → HasTurn (logs d) p → c ≡ d
  same_turn p c d less in_c in_d =
      let is_c = turn_label p c in_c in
      let is_d = turn_label p d in_d in
      let of : ℕ → ℕ → ℕ = λ lane call. turns_at (p + 1) (logs (label_at lane call)) in
      let of_lane : ℕ → ℕ = λ lane. sum_below (length (calls_of s lane)) (of lane) in
      let at_c : 1 ≤ of_lane c.lane = omega (arith, counted p c in_c, most_below (length (calls_of s c.lane)) (of c.lane) c.call is_c) in
      let at_d : 1 ≤ of_lane d.lane = omega (arith, counted p d in_d, most_below (length (calls_of s d.lane)) (of d.lane) d.call is_d) in
      let lanes : c.lane ≡ d.lane = one_below s.lanes of_lane c.lane d.lane (once p less) (lane_there c is_c) (lane_there d is_d) at_c at_d in
      let one : of_lane c.lane ≡ 1 = omega (arith, once p less, at_c, most_below s.lanes of_lane c.lane (lane_there c is_c)) in
      let d_here : d.call < length (calls_of s c.lane) = subst (λ n. d.call < length (calls_of s n)) (sym lanes) is_d in
      let d_at : 1 ≤ of c.lane d.call = subst (λ n. 1 ≤ of n d.call) (sym lanes) (counted p d in_d) in
      let calls : c.call ≡ d.call = one_below (length (calls_of s c.lane)) (of c.lane) c.call d.call one is_c d_here (counted p c in_c) d_at in
      ap (λ n. label_at n c.call) lanes ∙ ap (label_at d.lane) calls

  -- the pushes and pops, each under its call's label
  pub labelled : List SignalMove
  labelled = signals_from seen (λ p less. (found p less).0)

  labelled_seen : turns_in labelled ≡ seen
  unfolding labelled
  labelled_seen = turns_from seen (λ p less. (found p less).0)

  at_place : (p : ℕ) (m : SignalMove) → slice_get labelled p ≡ Some m → IsTurnOf p m.0 × (slice_get seen p ≡ Some m.1)
  unfolding labelled
  at_place = signals_at IsTurnOf seen (λ p less. (found p less).0) (λ p less. (found p less).1)

  -- what stands at a place of a call's
  turn_there : (p : ℕ) (c : Label) (its : HasTurn (logs c) p) → slice_get seen p ≡ Some its.turn
  turn_there p c its = (all_at _ (logs c).turns its.index (p, its.turn) (left.turned c).each its.there).there

  long : length labelled ≡ length seen
  long = sym (length-map labelled (λ (m : SignalMove). m.1)) ∙ ap length labelled_seen

  -- those of a call are what it made
  labelled_own : (c : Label) → own (λ m. m.0) (λ m. m.1) c 0 labelled ≡ (logs c).turns
  labelled_own c =
      let mine = (logs c).turns in
      own_items (λ m. m.0) (λ m. m.1) c 0 labelled mine (rise_in 0 mine (left.turned c).rise)
      (λ e here.
      let at = at_among e mine here in
      let its : HasTurn (logs c) e.0 = record { index = at.0; turn = e.1; there = at.1 } in
      let there = turn_there e.0 c its in
      let less = slice_get_within seen e.0 e.1 there in
      let m = item_at labelled e.0 (omega (arith, less, long)) in
      let of = at_place e.0 m.0 m.1 in
      let label = same_turn e.0 m.0.0 c less of.0.1 its in
      record {
        before = e.0;
        line = m.0;
        there = m.1;
        own = ap (is_label c) label ∙ label_itself c;
        is = ap (λ n. (n, e.1)) (from_none e.0) ∙ ap (λ t. (0 + e.0, t)) (same_Some e.1 m.0.1 (sym there ∙ of.1));
      })
      (λ p m at is.
      let of = at_place p m at in
      let its : HasTurn (logs c) p = subst (λ d. HasTurn (logs d) p) (same_label c m.0 is) of.0.1 in
      let turn : its.turn ≡ m.1 = same_Some its.turn m.1 (sym (turn_there p c its) ∙ of.1) in
      subst (λ y. Among y mine) (ap (λ n. (n, its.turn)) (from_none p) ∙ ap (λ t. (0 + p, t)) turn) (among_at mine its.index (p, its.turn) its.there))
    where
      from_none : (n : ℕ) → n ≡ 0 + n
      from_none n = omega arith

  -- law: of each counter of the queue the signals of its rises, each under its call's label
  abbrev pub signals : ℕ → List SignalLine
  signals k = lines_on s k labelled

  -- law: those of a call are what it did
  pub signals_own : (c : Label) (k : ℕ) → own (λ line. line.label) (λ line. line.signal) c 1 (signals k) ≡ signalled k (logs c).trace.actions
  signals_own c k =
      own_rises_on s k c [] labelled ∙ ap (λ ts. rises_on k (map (signal_at s ts) (own (λ m. m.0) (λ m. m.1) c 0 labelled))) labelled_seen
      ∙ ap (λ ts. rises_on k (map (signal_at s seen) ts)) (labelled_own c) ∙ ap (rises_on k) (sym (left.turned c).are)
      ∙ sym (signalled_of k (logs c).trace.actions)

  -- law: they are those that the queue's last pass has seen pushed, and popped
  pub signals_pushed : signals_in (signals (push_counter s)) ≡ pushed seen
  signals_pushed = lines_pushed s labelled ∙ ap pushed labelled_seen

  pub signals_popped : signals_in (signals (pop_counter s)) ≡ popped seen
  signals_popped = lines_popped s labelled ∙ ap popped labelled_seen

  -- law: other counters have none
  pub signals_none : (k : ℕ) → (push_counter s ≡ k → ⊥) → (pop_counter s ≡ k → ⊥) → signals k ≡ []
  signals_none k no_push no_pop = lines_none s k no_push no_pop labelled

  -- law: only queued timers' signals are pushed
  pub signals_queued : AllByRecursion (λ line. SendsSignals (kind_of s line.signal.timer)) (signals (push_counter s))
  signals_queued = lines_queued s labelled (subst (AllByRecursion (IsOfQueued s)) (sym labelled_seen) (each (IsOfQueued s) seen (λ p t at.
      let its = found p (slice_get_within seen p t at) in
      let turn = its.1.1 in
      subst (IsOfQueued s) (same_Some turn.turn t (sym (turn_there p its.0 turn) ∙ at))
      (all_at _ (logs its.0).turns turn.index (p, turn.turn) (left.turned its.0).each turn.there).of)))
