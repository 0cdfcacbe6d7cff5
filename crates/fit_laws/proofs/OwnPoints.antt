-- One timer in the order of all: its list is a history, it is at each moment as after a number of its own entries, and a moment of a call is a point of the
-- call in that list.
use Rattle.std.proofs.Common.{◌≡◌, ◌<◌, ◌≤◌, ◌⊎◌, ℕ, ◌+◌, zero, suc, false, List, [], ◌∷◌, ◌++◌, Some, length, map, take, drop, get_or, arith, refl, sym, ap, ◌∙◌, subst, inl, inr}
use Rattle.std.specs.List.{AllByRecursion, slice_get}
use Rattle.std.proofs.Math.Logic.{⊎_elim}
use Rattle.std.proofs.lemmas.Bool.{cases_lt}
use Rattle.std.proofs.lemmas.List.{drop-map, get_or_past, get_or-map, length-map, take-map}
use Rattle.seq_timer.proofs.Ties.{may_stand_behind}
use Rattle.seq_timer.specs.declared.context.Terms.{Terms}
use Rattle.seq_timer.specs.declared.context.Declared.{Declared}
use Rattle.seq_timer.specs.declared.observation.Observation.{Observation}
use Rattle.seq_timer.specs.declared.observation.Observation.TheVariants as observations
use Rattle.seq_timer.specs.Histories.{after_all, AreSteps, Entry, Holds, IsLegal}
use Rattle.seq_timer.specs.Steps.{opening, Timer}
use Rattle.seq_timer.specs.Systems.{IsSystemHistory, armed_in, entries_of, first_system, openings}
use Rattle.seq_timer.specs.Tables.{in_context, no_declared, no_timer, timer_at}
use Rattle.seq_timer.proofs.Contents.{declared-after_all}
use Rattle.seq_timer.specs.Turns.{IsInTurn, IsTurn}
use Rattle.seq_timer.proofs.Agreement.{parts, stamp_counts}
use Rattle.seq_timer.proofs.Systems.{after_entries-entries_of}
use Rattle.seq_timer.specs.declared.event.EventBy.TheVariants as events
use Rattle.seq_timer.specs.Events.{map_reading}
use Rattle.record_text.specs.declared.record.Entry.{Entry as ShownEntry}
use Rattle.record_text.specs.declared.record.Label.{Label}
use Rattle.record_text.specs.declared.record.TimerLine.{TimerLine}
use Rattle.run_history.specs.Actions.{Action, entered, own}
use Rattle.run_history.specs.Histories.{history_from, history_of, lines_of_timer, reading_at, timer_after, timer_labels}
use Rattle.script_text.specs.Declarations.{declared_as, declared_of, terms_of, declareds_of}
use Rattle.run_history.specs.Order.{is_before, IsInOrder, made_by}
use Rattle.run_history.specs.Witnesses.{Witness, entries_in, entry_of_move, entry_of_shown, IsOneHistory, labels, line_of_timer, lines_at, Move, moves_from, moves_on, OfTimer, Owner, owner_of, RunLists, Shown, TimersList, timer_along}
use Rattle.fit_laws.specs.EachTimer.{IsOwnPoint, WasSo}
use Rattle.run_history.specs.Traces.{all_entered, own_moves}
use Rattle.run_history.specs.Truths.{IsMoment, Saw}
use Rattle.run_history.proofs.Actions.{all_entered-append}
use Rattle.run_history.proofs.Lists.{at_map}
use Rattle.run_history.proofs.OwnHistories.{entries_on, own_entry, own_history}
use Rattle.fit_laws.proofs.OwnParts.{all_on, before_at, labels_of_lines, of_timer, of_timer-entered, of_timer-from, of_timer-on, on_drop, on_place, on_rises, on_take, order_on, own_early, take_from}
use Rattle.run_history.proofs.Points.{count_own}

-- an entry after so many
pub split_at : {X : Type 0} (xs : List X) (p : ℕ) (x : X) → slice_get xs p ≡ Some x → xs ≡ take p xs ++ x ∷ drop (suc p) xs
split_at [] p x at = absurd (cc)
split_at (y ∷ xs) zero x at = let same : y ≡ x = cc in ap (λ z. z ∷ xs) same
split_at (y ∷ xs) (suc p) x at = ap (λ zs. y ∷ zs) (split_at xs p x at)

-- how many entries a timer has among the first so many of all
abbrev pub seen : Witness → ℕ → ℕ → ℕ
seen w n t = length (moves_on (TimersList t) (take n w.moves))

-- the lists of a witness
abbrev pub lists_in : Witness → RunLists
lists_in w = record { run = w.run; signals = w.signals }

-- where a move stands its list has as many moves as it says
pub before_there : (w : Witness) → IsOneHistory w → (p : ℕ) (m : Move) (o : Owner) → slice_get w.moves p ≡ Some m → owner_of m.shown ≡ o
    → m.before ≡ length (moves_on o (take p w.moves))
before_there w one p m o there of =
    let many = length (moves_on o (take p w.moves)) in
    sym (none many ∙ before_at 0 many (lines_at (lists_in w) o) m (ap (λ ms. slice_get ms many) (sym (one.all o)) ∙ on_place o p w.moves m there of))
  where
    none : (n : ℕ) → n ≡ 0 + n
    none n = omega arith

-- a script's timer by its number; one that isn't there has no clock of its own
declared : (list : List Declared) (terms : Terms) (t : ℕ) → t < length list → timer_at (openings list terms) t ≡ opening (get_or list t no_declared) terms
declared list terms t less = get_or-map (λ d. opening d terms) list t no_declared no_timer less

absent : (list : List Declared) (terms : Terms) (t : ℕ) → length list ≤ t → timer_at (openings list terms) t ≡ no_timer
absent list terms t past = get_or_past (openings list terms) t no_timer (subst (λ n. n ≤ t) (sym (length-map list (λ d. opening d terms))) past)

nothing_taken : (o : Timer) (n : ℕ) (es : List Entry) → es ≡ [] → after_all o (take n es) ≡ o
nothing_taken o zero [] is = refl
nothing_taken o (suc n) [] is = refl
nothing_taken o n (e ∷ es) is = absurd (cc)

module _ (w : Witness) (one : IsOneHistory w) (timers : length w.run.timers ≡ length w.script.timers) where
  -- each entry in turn, by the timers alone
  in_turn : IsInTurn w.script.bases (declareds_of w.script) (terms_of w.script) (entries_in w)
  in_turn = λ before later x is. may_stand_behind w.script.bases (terms_of w.script) (declareds_of w.script) before later x
      (subst (IsSystemHistory w.script.bases (declareds_of w.script) (terms_of w.script)) is one.history)

  -- law: a timer has made as many entries as stand in the order
  pub stamp_then : (n t : ℕ) → (timer_along w n t).stamp ≡ seen w n t
  stamp_then n t =
      stamp_counts (terms_of w.script) (declareds_of w.script) (take n (entries_in w)) t
      ∙ ap (λ xs. length (entries_of t xs)) (take-map (entry_of_move w.run.clock) n w.moves)
      ∙ ap length (entries_on w.run.clock t (take n w.moves))
      ∙ length-map (moves_on (TimersList t) (take n w.moves)) (own_entry w.run.clock)

  early_history : (n t : ℕ) → entries_of t (take n (entries_in w)) ≡ take (seen w n t) (history_of w.run t)
  early_history n t =
      ap (entries_of t) (take-map (entry_of_move w.run.clock) n w.moves)
      ∙ entries_on w.run.clock t (take n w.moves)
      ∙ ap (map (own_entry w.run.clock)) (sym (on_take (TimersList t) n w.moves))
      ∙ sym (take-map (own_entry w.run.clock) (seen w n t) (moves_on (TimersList t) w.moves))
      ∙ ap (take (seen w n t)) (sym (entries_on w.run.clock t w.moves) ∙ own_history w one t)

  begins : (t : ℕ) → (timer_at (openings (declareds_of w.script) (terms_of w.script)) t ≡ opening (declared_of w.script t) (terms_of w.script))
      ⊎ ((timer_at (openings (declareds_of w.script) (terms_of w.script)) t ≡ no_timer) × (declared_of w.script t ≡ no_declared) × (history_of w.run t ≡ []))
  begins t = ⊎_elim
      (λ less. inl (declared (declareds_of w.script) (terms_of w.script) t less))
      (λ past. inr (
        absent (declareds_of w.script) (terms_of w.script) t past,
        get_or_past (declareds_of w.script) t no_declared past,
        ap (history_from w.run.clock) (get_or_past w.run.timers t [] (subst (λ n. n ≤ t) (length-map w.script.timers declared_as ∙ sym timers) past)),
      ))
      (cases_lt t (length (declareds_of w.script)))

  -- law: each timer's list is a history of such a timer
  pub legal_each : (t : ℕ) → IsLegal (declared_of w.script t) (terms_of w.script) (history_of w.run t)
  legal_each t = ⊎_elim
      (λ is. subst (λ x. AreSteps x (history_of w.run t)) is (subst (AreSteps (timer_at (openings (declareds_of w.script) (terms_of w.script)) t))
      (own_history w one t)
      (parts w.script.bases (length (declareds_of w.script)) (first_system (openings (declareds_of w.script) (terms_of w.script)))
      (entries_in w) one.history t)))
      (λ none. subst (AreSteps (opening (declared_of w.script t) (terms_of w.script))) (sym none.2) tt)
      (begins t)

  -- at each moment a timer is as after so many of its own entries; one that isn't there is as it began
  state_then : (n t : ℕ) → (timer_along w n t ≡ timer_after w.script w.run t (seen w n t))
      ⊎ ((timer_along w n t ≡ no_timer) × (timer_after w.script w.run t (seen w n t) ≡ opening no_declared (terms_of w.script)))
  state_then n t =
      let first = timer_at (openings (declareds_of w.script) (terms_of w.script)) t in
      let is : timer_along w n t ≡ after_all first (take (seen w n t) (history_of w.run t)) =
      after_entries-entries_of (first_system (openings (declareds_of w.script) (terms_of w.script))) t (take n (entries_in w))
      ∙ ap (after_all first) (early_history n t) in
      ⊎_elim
      (λ begun. inl (is ∙ ap (λ x. after_all x (take (seen w n t) (history_of w.run t))) begun))
      (λ none. inr (
        is ∙ nothing_taken first (seen w n t) (history_of w.run t) none.2 ∙ none.0,
        nothing_taken (opening (declared_of w.script t) (terms_of w.script)) (seen w n t) (history_of w.run t) none.2
            ∙ ap (λ d. opening d (terms_of w.script)) none.1,
      ))
      (begins t)

  -- law: so what doesn't hang on the limit is the same of both
  pub same_then : {X : Type 0} (f : Timer → X) → f no_timer ≡ f (opening no_declared (terms_of w.script)) → (n t : ℕ)
      → f (timer_along w n t) ≡ f (timer_after w.script w.run t (seen w n t))
  same_then f none n t = ⊎_elim (λ is. ap f is) (λ is. ap f is.0 ∙ none ∙ sym (ap f is.1)) (state_then n t)

  -- a timer is declared as the script says
  pub declared_then : (n t : ℕ) → (timer_along w n t).declared ≡ declared_of w.script t
  declared_then n t = same_then (λ x. x.declared) refl n t
      ∙ declared-after_all (opening (declared_of w.script t) (terms_of w.script)) (take (seen w n t) (history_of w.run t))

  holds_then : (n t : ℕ) (observation : Observation) → Holds (timer_along w n t) observation → Holds (timer_after w.script w.run t (seen w n t)) observation
  holds_then n t observation holds = ⊎_elim
      (λ is. subst (λ x. Holds x observation) is holds)
      (λ is. subst (λ x. Holds x observation) (sym is.1) (of_none observation (subst (λ x. Holds x observation) is.0 holds)))
      (state_then n t)
    where
      of_none : (observation : Observation) → Holds no_timer observation → Holds (opening no_declared (terms_of w.script)) observation
      of_none (observations.Peek peek) holds = holds
      of_none observations.Idle holds = record { armed = refl; running = refl; moving = refl }
      of_none (observations.Running generation) holds = holds
      of_none (observations.Armed generation) holds = holds
      of_none observations.Spent holds = absurd (omega (arith, holds))

  -- a timer's moves bear the labels of its lines
  labels_on : (t : ℕ) → map (λ m. m.label) (moves_on (TimersList t) w.moves) ≡ timer_labels w.run t
  labels_on t = ap (map (λ m. m.label)) (one.all (TimersList t)) ∙ labels_of_lines (line_of_timer t) 0 (lines_of_timer w.run t)

  -- law: a moment of a call is a point of the call in each timer's list
  pub point_then : (c : Label) (before rest : List Action) (n t : ℕ) → own_moves c w.moves ≡ all_entered (before ++ rest) → IsMoment w c before n
      → IsOwnPoint w.script w.run c before t (seen w n t)
  point_then c before rest n t own_are moment =
      let early = take n w.moves in
      let k = seen w n t in
      let lines = lines_of_timer w.run t in
      let taken : take k (timer_labels w.run t) ≡ map (λ m. m.label) (moves_on (TimersList t) early) =
      ap (take k) (sym (labels_on t)) ∙ take-map (λ (m : Move). m.label) k (moves_on (TimersList t) w.moves)
      ∙ ap (map (λ m. m.label)) (on_take (TimersList t) n w.moves) in
      let dropped : drop k (timer_labels w.run t) ≡ map (λ m. m.label) (moves_on (TimersList t) (drop n w.moves)) =
      ap (drop k) (sym (labels_on t)) ∙ drop-map (λ (m : Move). m.label) k (moves_on (TimersList t) w.moves)
      ∙ ap (map (λ m. m.label)) (on_drop (TimersList t) n w.moves) in
      let these : own_moves c early ≡ all_entered before = own_early c n w.moves (all_entered before) (all_entered rest)
      (own_are ∙ all_entered-append before rest) moment.so_many in
      record {
        within = record {
          small = fits (timer_labels w.run t) k (ap length taken ∙ length-map (moves_on (TimersList t) early) (λ m. m.label));
          before = subst (AllByRecursion (λ x. is_before w.script c x ≡ false)) (sym taken) (all_on (λ x. is_before w.script c x ≡ false) (TimersList t) early
              (subst (AllByRecursion (λ x. is_before w.script c x ≡ false)) (take-map (λ (m : Move). m.label) n w.moves) moment.within.before));
          behind = subst (AllByRecursion (λ x. is_before w.script x c ≡ false)) (sym dropped) (all_on (λ x. is_before w.script x c ≡ false) (TimersList t)
              (drop n w.moves)
              (subst (AllByRecursion (λ x. is_before w.script x c ≡ false)) (drop-map (λ (m : Move). m.label) n w.moves) moment.within.behind));
        };
        so_many = ap (made_by c) (take-map (λ (l : TimerLine). l.label) k lines)
            ∙ count_own (λ line. line.label) (λ line. line.entry) c 1 (take k lines)
            ∙ ap length (sym (of_timer-from c t 0 (take k lines))
            ∙ ap (λ ms. of_timer t (own_moves c ms)) (ap (moves_from 0) (sym (take-map (line_of_timer t) k lines)) ∙ take_from 0 k (map (line_of_timer t) lines)
            ∙ ap (take k) (sym (one.all (TimersList t))) ∙ on_take (TimersList t) n w.moves)
            ∙ of_timer-on c t early ∙ ap (of_timer t) these ∙ of_timer-entered t before);
      }
    where
      fits : {X : Type 0} (xs : List X) (k : ℕ) → length (take k xs) ≡ k → k ≤ length xs
      fits [] zero is = omega arith
      fits [] (suc k) is = absurd (omega (arith, is))
      fits (x ∷ xs) zero is = omega arith
      fits (x ∷ xs) (suc k) is = let below = fits xs k (omega (arith, is)) in omega (arith, below)

  -- law: a timer has no fewer entries later
  pub seen_rises : (a b t : ℕ) → a ≤ b → seen w a t ≤ seen w b t
  seen_rises a b t le = on_rises (TimersList t) w.moves a b le

  -- law: a claim was in turn at its place
  pub turn_at : (p t : ℕ) (m : Move) (entry : ShownEntry) (base reading : ℕ) → slice_get w.moves p ≡ Some m → m.shown ≡ OfTimer t entry
      → entry.event ≡ events.Claim base reading
      → IsTurn (in_context (timer_along w p t).declared.context (timer_along w p)) (armed_in (declareds_of w.script) (terms_of w.script) (take p
      (entries_in w))) base (reading_at w.run.clock reading) t
  turn_at p t m entry base reading at shown is =
      (in_turn (take p (entries_in w)) _ (entry_of_shown w.run.clock (OfTimer t entry)) (split_at (entries_in w) p (entry_of_shown w.run.clock
      (OfTimer t entry))
      (at_map (entry_of_move w.run.clock) w.moves p m at ∙ ap (λ (x : Shown). Some (entry_of_shown w.run.clock x)) shown))).turn base
      (reading_at w.run.clock reading) (ap (map_reading (reading_at w.run.clock)) is)

  -- law: what a call saw at a moment was so after a number of the timer's entries
  pub saw_then : (c : Label) (before rest : List Action) (n t number : ℕ) (observation : Observation) → own_moves c w.moves ≡ all_entered (before ++ rest)
      → IsMoment w c before n → Saw w t number observation n → WasSo w.script w.run c before t number observation
  saw_then c before rest n t number observation own_are moment saw =
      subst (λ k. WasSo w.script w.run c before t k observation) (sym (stamp_then n t) ∙ saw.stamp) (record {
        point = point_then c before rest n t own_are moment;
        holds = holds_then n t observation saw.holds;
      })

  -- law: a timer's list has of a call what the call did there
  pub entered_then : (c : Label) (actions : List Action) (t : ℕ) → own_moves c w.moves ≡ all_entered actions
      → own (λ line. line.label) (λ line. line.entry) c 1 (lines_of_timer w.run t) ≡ entered t actions
  entered_then c actions t own_are =
      sym (of_timer-from c t 0 (lines_of_timer w.run t)) ∙ ap (λ ms. of_timer t (own_moves c ms)) (sym (one.all (TimersList t))) ∙ of_timer-on c t w.moves
      ∙ ap (of_timer t) own_are ∙ of_timer-entered t actions

  -- law: along each timer's list labels are as along the order
  pub labels_each : (P : Label → Type 0) (t : ℕ) → AllByRecursion P (labels w) → AllByRecursion P (timer_labels w.run t)
  labels_each P t all = subst (AllByRecursion P) (labels_on t) (all_on P (TimersList t) w.moves all)

  -- law: and in order
  pub order_each : (t : ℕ) → IsInOrder w.script (labels w) → IsInOrder w.script (timer_labels w.run t)
  order_each t order = subst (IsInOrder w.script) (labels_on t) (order_on w.script (TimersList t) w.moves order)
