-- What a record that fits says of signals: each one that an answer names was sent, and was popped where all that were sent before it were.
use Rattle.std.proofs.Common.{◌≡◌, ◌<◌, ◌≤◌, ℕ, ◌+◌, zero, suc, true, false, nat_eq, List, [], ◌∷◌, ◌++◌, Some, length, map, take, arith, refl, sym, ap, ◌∙◌, subst, filter, if◌then◌else◌}
use Rattle.std.specs.List.{AllByRecursion, slice_get}
use Rattle.std.proofs.Math.Logic.{⊎_elim}
use Rattle.std.proofs.lemmas.Bool.{cases_lt, eqb-true, true≢false}
use Rattle.std.proofs.lemmas.Option.{same_Some}
use Rattle.std.proofs.lemmas.List.{length-map, take_all}
use Rattle.record_text.specs.declared.record.Answer.{Answer}
use Rattle.record_text.specs.declared.record.Label.{Label}
use Rattle.record_text.specs.declared.record.ObjectEntry.{ObjectEntry}
use Rattle.script_text.specs.Declarations.{kind_of}
use Rattle.signal_queue.specs.declared.signal.Signal.{Signal}
use Rattle.seq_timer.specs.Systems.{rises_of}
use Rattle.run_history.specs.Actions.{signalled}
use Rattle.run_history.specs.Fits.{FitsIn}
use Rattle.run_history.specs.Objects.{lines_of_object, object_labels}
use Rattle.run_history.specs.Order.{is_before, is_label, IsLabel, StandsWithin, made_by}
use Rattle.run_history.specs.Signals.{SendsSignals, SignalLine, most_signals, pop_counter, pops_at, push_counter, signals_in, pushes_at}
use Rattle.run_history.specs.Truths.{IsMoment, SawWaiting}
use Rattle.run_history.specs.Witnesses.{CountersList, entries_in, Move, OfRise, Witness, is_owner, labels, line_of_object, line_of_signal, moves_from, moves_on, owner_of, twice}
use Rattle.run_history.proofs.Items.{Among}
use Rattle.run_history.proofs.Labels.{label_itself}
use Rattle.run_history.proofs.Lists.{all_at, at_left, at_map, item_at, map_get}
use Rattle.fit_laws.specs.Signals.{AreDistinct, WasAnswered, MadeEntry, NamedBefore, NamedNoLater, Names, Sent, SentBefore, SentNoLater}
use Rattle.fit_laws.proofs.ObjectOrder.{no_lines, objects_called}
use Rattle.fit_laws.proofs.ObjectTurns.{on_found}
use Rattle.fit_laws.proofs.EachTimer.{not_before_itself, ordered}
use Rattle.fit_laws.proofs.Moments.{rises_counted}
use Rattle.fit_laws.proofs.OwnParts.{on_here, on_rises, stays}
use Rattle.fit_laws.proofs.SignalDeeds.{apart}
use Rattle.fit_laws.proofs.SignalLists.{among_all, among_numbered, among_part, at_early, at_late, distinct_by, distinct_part, each_among, few_among, part, part_among, part_length}
use Rattle.fit_laws.proofs.SignalCalls.{HasLine, answer_fits, answer_popped, entry_pushed, label_answer, label_of, line_label, own_once, popped_answer, pushed_entry, signal_of, there_line, told}

-- a call of a label that stands among these has made an entry
some_by : (p : ℕ) (c : Label) (ls : List Label) → slice_get ls p ≡ Some c → made_by c ls ≡ 0 → ⊥
some_by p c [] at none = cc
some_by zero c (l ∷ ls) at none =
    let mine : is_label c l ≡ true = ap (is_label c) (same_Some l c at) ∙ label_itself c in
    let one : length (if true then l ∷ filter (is_label c) ls else filter (is_label c) ls) ≡ 0 =
    subst (λ b. length (if b then l ∷ filter (is_label c) ls else filter (is_label c) ls) ≡ 0) mine none in
    absurd (cc)
some_by (suc p) c (l ∷ ls) at none =
    elim (is_label c l) as (λ b. length (if b then l ∷ filter (is_label c) ls else filter (is_label c) ls) ≡ 0 → ⊥) [
      | true ↦ λ none. absurd (cc)
      | false ↦ λ none. some_by p c ls at none
    ] none

at_take : {X : Type 0} (n p : ℕ) (xs : List X) (x : X) → slice_get xs p ≡ Some x → p < n → slice_get (take n xs) p ≡ Some x
at_take n p [] x at less = absurd (cc)
at_take zero p (y ∷ xs) x at less = absurd (omega (arith, less))
at_take (suc n) zero (y ∷ xs) x at less = at
at_take (suc n) (suc p) (y ∷ xs) x at less = at_take n p xs x at (omega (arith, less))

module _ (w : Witness) (f : FitsIn w) where
  -- ---- their places

  -- a counter behind those of the script's objects
  abbrev pub IsCounter : ℕ → Type 0
  IsCounter j = length w.script.timers < j

  pub of_pushes : IsCounter (push_counter w.script)
  of_pushes = omega arith

  pub of_pops : IsCounter (pop_counter w.script)
  of_pops = omega arith

  -- how often a counter rose in the first so many moves
  abbrev pub count : ℕ → ℕ → ℕ
  count j n = length (moves_on (CountersList j) (take n w.moves))

  -- a rise stands at this place, of this call, and so many before it
  pub record Rose (j k p : ℕ) (c : Label) : Type 0 where
    pub label : slice_get (labels w) p ≡ Some c
    pub before : count j p ≡ k
    pub here : count j (suc p) ≡ suc k
    pub still : (i : ℕ) → nat_eq j i ≡ false → count i (suc p) ≡ count i p

  -- the moves of a counter of signals
  on_counter : (j : ℕ) → IsCounter j → moves_on (CountersList j) w.moves ≡ moves_from 0 (map (line_of_signal j) (w.signals j))
  on_counter zero is = absurd (omega (arith, is))
  on_counter (suc i) is = f.history.all (CountersList (suc i)) ∙ ap (λ ls. moves_from 0 (twice (map (line_of_object i) ls)
      ++ map (line_of_signal (suc i)) (w.signals (suc i)))) (no_lines w f i (omega (arith, is)))

  -- each line stands in the order
  pub rise : (j : ℕ) → IsCounter j → {k : ℕ} {c : Label} {x : Signal} → HasLine (w.signals j) k c x → (p : ℕ) × Rose j k p c
  rise j is {k} {c} {x} l =
      let o = CountersList j in
      let at = line_move 0 k (w.signals j) l.line l.there in
      let s = on_found o k at.0 w.moves (ap (λ ms. slice_get ms k) (on_counter j is) ∙ at.1) in (
        s.place,
        record {
          label = at_map (λ (m : Move). m.label) w.moves s.place at.0 s.there ∙ ap Some (at.2 ∙ l.label);
          before = s.count;
          here = on_here o s.place w.moves at.0 s.there at.3 ∙ ap suc s.count;
          still = λ i not. stays (CountersList i) s.place w.moves at.0 s.there (ap (λ a. is_owner a (CountersList i)) at.3 ∙ not);
        },
      )
    where
      line_move : (b k : ℕ) (lines : List SignalLine) (line : SignalLine) → slice_get lines k ≡ Some line
          → (m : Move) × (slice_get (moves_from b (map (line_of_signal j) lines)) k ≡ Some m) × (m.label ≡ line.label) × (owner_of m.shown ≡ CountersList j)
      line_move b k [] line at = absurd (cc)
      line_move b zero (l ∷ lines) line at =
          (record { before = b; label = l.label; shown = OfRise j }, refl, ap label_of (same_Some l line at), refl)
      line_move b (suc k) (l ∷ lines) line at = line_move (b + 1) k lines line at

  -- law: where a call had made no entry its lines weren't there
  pub not_yet : (j : ℕ) → length w.script.timers < j → {k n : ℕ} {c : Label} {x : Signal} → HasLine (w.signals j) k c x → IsMoment w c [] n
      → rises_of j (take n (entries_in w)) ≤ k
  not_yet j is {k} {n} {c} l begins =
      let r = rise j is l in
      ⊎_elim
      (λ (early : r.0 < n). absurd (some_by r.0 c (take n (labels w)) (at_take n r.0 (labels w) c r.1.label early) begins.so_many))
      (λ (late : n ≤ r.0). omega (arith, rises_counted w j n, r.1.before, on_rises (CountersList j) w.moves n r.0 late))
      (cases_lt r.0 n)

  -- its place is before a moment that has it
  reached : {j k p n : ℕ} {c : Label} → Rose j k p c → k < count j n → p < n
  reached {j} {k} {p} {n} r less = ⊎_elim
      (λ (early : p < n). early)
      (λ (late : n ≤ p). absurd (omega (arith, less, r.before, on_rises (CountersList j) w.moves n p late)))
      (cases_lt p n)

  has : {j k p n : ℕ} {c : Label} → Rose j k p c → p < n → k < count j n
  has {j} {k} {p} {n} r less = let rises = on_rises (CountersList j) w.moves (suc p) n (omega (arith, less)) in omega (arith, r.here, rises)

  -- a moment has no more than there are
  at_most : (j n : ℕ) → IsCounter j → count j n ≤ length (w.signals j)
  at_most j n is =
      let all = on_rises (CountersList j) w.moves n (n + length w.moves) (omega arith) in
      omega (
        arith,
        all,
        ap (λ ms. length (moves_on (CountersList j) ms)) (take_all (n + length w.moves) w.moves (omega arith)),
        ap length (on_counter j is),
        as_many 0 (w.signals j),
      )
    where
      as_many : (b : ℕ) (lines : List SignalLine) → length (moves_from b (map (line_of_signal j) lines)) ≡ length lines
      as_many b [] = refl
      as_many b (l ∷ lines) = ap suc (as_many (b + 1) lines)

  -- a call of which a rise stands no later didn't begin only after the other was over
  no_later : {i j k m q p : ℕ} {c d : Label} → Rose i k q d → Rose j m p c → q ≤ p → is_before w.script c d ≡ false
  no_later {q = q} {p = p} {c = c} {d = d} one two le = ⊎_elim
      (λ (less : q < p). ordered w.script (labels w) q p d c f.order one.label two.label less)
      (λ (more : p ≤ q).
      let place : q ≡ p = omega (arith, le, more) in
      let same : d ≡ c = from_some (sym one.label ∙ ap (slice_get (labels w)) place ∙ two.label) in
      subst (λ x. is_before w.script c x ≡ false) (sym same) (not_before_itself w.script c))
      (cases_lt q p)
    where
      from_some : {a b : Label} → Some a ≡ Some b → a ≡ b
      from_some is = cc

  -- the lists of what was pushed, and popped
  abbrev pub pushes : List SignalLine
  pushes = w.signals (push_counter w.script)

  abbrev pub pops : List SignalLine
  pops = w.signals (pop_counter w.script)

  -- what was pushed is what was popped, and what waits at the end
  in_turn : (k : ℕ) (c : Label) (x : Signal) → HasLine pops k c x → (d : Label) × HasLine pushes k d x
  in_turn k c x l =
      let at = at_map signal_of pops k l.line l.there in
      let m = map_get signal_of pushes k l.line.signal
      (ap (λ xs. slice_get xs k) f.signals.in_turn ∙ at_left (signals_in pops) f.signals.waiting k l.line.signal at) in
      (m.0.label, record { line = m.0; there = m.1; label = refl; signal = m.2 ∙ l.signal })

  -- the first so many of these were popped
  gone : (k : ℕ) (c : Label) (x : Signal) → HasLine pushes k c x → k < length pops → (d : Label) × HasLine pops k d x
  gone k c x l less =
      let m = item_at pops k less in
      let back = in_turn k m.0.label m.0.signal (record { line = m.0; there = m.1; label = refl; signal = refl }) in
      let same : back.1.line ≡ l.line = same_Some _ _ (sym back.1.there ∙ l.there) in
      (m.0.label, record { line = m.0; there = m.1; label = refl; signal = sym back.1.signal ∙ ap signal_of same ∙ l.signal })

  -- ---- what is told of them

  -- the label of a push or a pop is that of a call
  pub line_called : (j : ℕ) → IsCounter j → (k : ℕ) (c : Label) (x : Signal) → HasLine (w.signals j) k c x → (a : Answer) × WasAnswered w.run c a
  line_called j is k c x l =
      let r = rise j is l in label_answer w f c (all_at (IsLabel w.script) (labels w) r.0 c f.move_calls r.1.label)

  -- law: what was pushed was sent, by the same call
  pub push_sent : (k : ℕ) (c : Label) (x : Signal) → HasLine pushes k c x → Sent w.script w.run c x
  push_sent k c x l = let a = line_called (push_counter w.script) of_pushes k c x l in pushed_entry w f c a.0 (answer_fits w f c a.0 a.1) k x l

  -- the call of an entry of an object has an answer
  pub entry_called : {i number : ℕ} {IsSuch : ObjectEntry → Type 0} (c : Label) → MadeEntry w.run c i number IsSuch → (a : Answer) × WasAnswered w.run c a
  entry_called {i} c m =
      label_answer w f c (all_at (IsLabel w.script) (object_labels w.run i) m.before c (objects_called w f i)
      (at_map line_label (lines_of_object w.run i) m.before m.line m.there ∙ ap (λ l. Some l) m.label))

  -- law: and the other way
  pub sent_push : (c : Label) (x : Signal) → Sent w.script w.run c x → (k : ℕ) × HasLine pushes k c x
  sent_push c x sent = let a = entry_called c sent.made in entry_pushed w f c a.0 (answer_fits w f c a.0 a.1) x sent

  -- law: what was popped is named, by the same call
  pub pop_names : (k : ℕ) (c : Label) (x : Signal) → HasLine pops k c x → Names w.run c x
  pop_names k c x l =
      let a = line_called (pop_counter w.script) of_pops k c x l in (a.0, a.1, popped_answer w f c a.0 (answer_fits w f c a.0 a.1) k x l)

  -- law: and the other way
  pub names_pop : (c : Label) (x : Signal) → Names w.run c x → (k : ℕ) × HasLine pops k c x
  names_pop c x named = answer_popped w f c named.0 (answer_fits w f c named.0 named.1) x named.2

  -- ---- each signal once

  -- an entry has one call
  one_sender : (c d : Label) (x : Signal) → Sent w.script w.run c x → Sent w.script w.run d x → c ≡ d
  one_sender c d x one two =
      let same : one.made.before ≡ two.made.before = omega (arith, one.made.count, two.made.count) in
      let line : one.made.line ≡ two.made.line =
      same_Some _ _ (sym one.made.there ∙ ap (slice_get (lines_of_object w.run x.timer)) same ∙ two.made.there) in
      sym one.made.label ∙ ap line_label line ∙ two.made.label

  -- law: no signal is pushed twice
  pub pushed_at : (k j : ℕ) (c d : Label) (x : Signal) → HasLine pushes k c x → HasLine pushes j d x → k ≡ j
  pushed_at k j c d x one two =
      let same = one_sender c d x (push_sent k c x one) (push_sent j d x two) in
      let a = line_called (push_counter w.script) of_pushes k c x one in
      own_once w f c a.0 (answer_fits w f c a.0 a.1) k j x one
      (record { line = two.line; there = two.there; label = two.label ∙ sym same; signal = two.signal })

  pub all_once : AreDistinct (signals_in pushes)
  all_once = distinct_by (signals_in pushes) (λ k j x one two.
      let a = map_get signal_of pushes k x one in
      let b = map_get signal_of pushes j x two in
      pushed_at k j a.0.label b.0.label x (record { line = a.0; there = a.1; label = refl; signal = a.2 })
      (record { line = b.0; there = b.1; label = refl; signal = b.2 }))

  -- law: where no timer is queued no counter behind the objects' has signals
  pub none_queued : ((t : ℕ) → SendsSignals (kind_of w.script t) → ⊥) → (j : ℕ) → length w.script.timers < j → w.signals j ≡ []
  none_queued none j is = from (w.signals j) refl
    where
      unsent : (k : ℕ) (c : Label) (x : Signal) → HasLine pushes k c x → ⊥
      unsent k c x l = none x.timer (push_sent k c x l).queued

      never : (c : Label) (x : Signal) → HasLine (w.signals j) 0 c x → ⊥
      never c x l =
          let a = line_called j is 0 c x l in
          let fa = answer_fits w f c a.0 a.1 in
          elim (nat_eq (push_counter w.script) j) as (λ b. nat_eq (push_counter w.script) j ≡ b → ⊥) [
            | true ↦ λ one. unsent 0 c x (subst (λ i. HasLine (w.signals i) 0 c x) (sym (eqb-true _ _ one)) l)
            | false ↦ λ not_pushed. elim (nat_eq (pop_counter w.script) j) as (λ b. nat_eq (pop_counter w.script) j ≡ b → ⊥) [
              | true ↦ λ one. let push = in_turn 0 c x (subst (λ i. HasLine (w.signals i) 0 c x) (sym (eqb-true _ _ one)) l) in unsent 0 push.0 x push.1
              | false ↦ λ not_popped. subst (Among x) ((told w f c a.0 fa).others j not_pushed not_popped)
                  (among_numbered 1 x (signalled j (w.traces c).actions) (there_line w f c a.0 fa j 0 x l))
            ] refl
          ] refl

      from : (lines : List SignalLine) → w.signals j ≡ lines → w.signals j ≡ []
      from [] is = is
      from (line ∷ lines) is =
          absurd (never line.label line.signal (record { line = line; there = ap (λ ls. slice_get ls 0) is; label = refl; signal = refl }))

  -- ---- their order

  -- law: of two lines of a counter the one of no higher number is of no call that began only after the other's was over
  pub lines_in_order : {j k m : ℕ} {c d : Label} {x y : Signal} → length w.script.timers < j → HasLine (w.signals j) k d y → HasLine (w.signals j) m c x
      → k ≤ m → is_before w.script c d ≡ false
  lines_in_order {j} is one two le =
      let a = rise j is one in
      let b = rise j is two in
      let sooner : a.0 < suc b.0 = reached a.1 (omega (arith, le, b.1.here)) in
      no_later a.1 b.1 (omega (arith, sooner))

  -- law: a signal is popped with the number with which it was pushed
  pub same_number : (k j : ℕ) (c d : Label) (x : Signal) → HasLine pops k c x → HasLine pushes j d x → j ≡ k
  same_number k j c d x pop push = let other = in_turn k c x pop in pushed_at j k d other.0 x push other.1

  -- law: of two signals the one that was pushed no later isn't named by a call that began only after the other one's was over
  pub named_as_pushed : {k m : ℕ} {a b : Label} {x y : Signal} (c d : Label) → HasLine pushes k a x → HasLine pushes m b y → k ≤ m
      → Names w.run c x → Names w.run d y
      → is_before w.script d c ≡ false
  named_as_pushed {k} {m} {a} {b} {x} {y} c d one two le first second =
      let p = names_pop c x first in
      let q = names_pop d y second in
      lines_in_order of_pops p.1 q.1 (omega (arith, le, same_number p.0 k c a x p.1 one, same_number q.0 m d b y q.1 two))

  -- law: a signal that is named was sent, by a call that didn't begin only after the one that names it was over
  pub named_sent : (c : Label) (x : Signal) → Names w.run c x → SentNoLater w.script w.run c x
  named_sent c x named =
      let pop = names_pop c x named in
      let push = in_turn pop.0 c x pop.1 in
      let out = rise (pop_counter w.script) of_pops pop.1 in
      let put = rise (push_counter w.script) of_pushes push.1 in
      let first = f.signals.pushed_first (suc out.0) in
      let early : put.0 < suc out.0 = reached put.1 (omega (
        arith,
        first,
        out.1.here,
        rises_counted w (pop_counter w.script) (suc out.0),
        rises_counted w (push_counter w.script) (suc out.0),
      )) in
      (push.0, push_sent pop.0 push.0 x push.1, no_later put.1 out.1 (omega (arith, early)))

  -- law: by one call
  pub named_once : (c d : Label) (x : Signal) → Names w.run c x → Names w.run d x → c ≡ d
  named_once c d x one two =
      let a = names_pop c x one in
      let b = names_pop d x two in
      let pa = in_turn a.0 c x a.1 in
      let pb = in_turn b.0 d x b.1 in
      let same = pushed_at a.0 b.0 pa.0 pb.0 x pa.1 pb.1 in
      sym a.1.label ∙ ap label_of (same_Some _ _ (sym a.1.there ∙ ap (slice_get pops) same ∙ b.1.there)) ∙ b.1.label

  -- law: a signal that was sent before one that is named is named
  pub named_in_turn : (c d : Label) (x y : Signal) → Names w.run c y → Sent w.script w.run d y → SentBefore w.script w.run d x
      → NamedNoLater w.script w.run c x
  named_in_turn c d x y named sent before =
      let pop = names_pop c y named in
      let push = sent_push d y sent in
      let same = same_number pop.0 push.0 c d y pop.1 push.1 in
      let first = sent_push before.0 x before.1 in
      let less : first.0 < push.0 = ⊎_elim
      (λ (less : first.0 < push.0). less)
      (λ (more : push.0 ≤ first.0). absurd (true≢false (sym before.2 ∙ lines_in_order of_pushes push.1 first.1 more)))
      (cases_lt first.0 push.0) in
      let out = rise (pop_counter w.script) of_pops pop.1 in
      let few = at_most (pop_counter w.script) (suc out.0) of_pops in
      let x_out = gone first.0 before.0 x first.1 (omega (arith, less, same, few, out.1.here)) in
      (x_out.0, pop_names first.0 x_out.0 x x_out.1, lines_in_order of_pops x_out.1 pop.1 (omega (arith, less, same)))

  -- law: what was popped by a moment is named
  pub named_by : (n k : ℕ) (c : Label) (x : Signal) → HasLine pushes k c x → k < pops_at w.script (entries_in w) n → (d : Label) × Names w.run d x
  named_by n k c x l less =
      let few = at_most (pop_counter w.script) n of_pops in
      let g = gone k c x l (omega (arith, less, few, rises_counted w (pop_counter w.script) n)) in (g.0, pop_names k g.0 x g.1)

  -- the signals that wait at a moment
  abbrev pub waiting_at : ℕ → List Signal
  waiting_at n = part (count (pop_counter w.script) n) (count (push_counter w.script) n) (signals_in pushes)

  -- they are as many as were pushed and not popped
  pub waiting_count : (n : ℕ) → count (pop_counter w.script) n + length (waiting_at n) ≡ count (push_counter w.script) n
  waiting_count n =
      let few = at_most (push_counter w.script) n of_pushes in
      let first = f.signals.pushed_first n in
      part_length _ _ (signals_in pushes) (omega (arith, few, length-map pushes signal_of))
      (omega (arith, first, rises_counted w (pop_counter w.script) n, rises_counted w (push_counter w.script) n))

  -- a signal that was pushed by then, and wasn't popped, waits
  waits : (n k : ℕ) (c : Label) (x : Signal) → HasLine pushes k c x → k < count (push_counter w.script) n → count (pop_counter w.script) n ≤ k
      → Among x (waiting_at n)
  waits n k c x l less more =
      among_part _ _ k (signals_in pushes) x (at_map signal_of pushes k l.line l.there ∙ ap Some l.signal) more less

  -- one that was pushed by then, and is named only later, waits
  left_waits : (n k : ℕ) (c : Label) (x : Signal) → HasLine pushes k c x → k < count (push_counter w.script) n
      → ((d : Label) (p : ℕ) → HasLine pops k d x → Rose (pop_counter w.script) k p d → p < n → ⊥) → Among x (waiting_at n)
  left_waits n k c x l less left = ⊎_elim
      (λ (out : k < count (pop_counter w.script) n).
      let few = at_most (pop_counter w.script) n of_pops in
      let g = gone k c x l (omega (arith, out, few)) in
      let at = rise (pop_counter w.script) of_pops g.1 in absurd (left g.0 at.0 g.1 at.1 (reached at.1 out)))
      (λ (more : count (pop_counter w.script) n ≤ k). waits n k c x l less more)
      (cases_lt k (count (pop_counter w.script) n))

  -- law: by a moment by which these signals were pushed, which differ, no fewer were
  pub pushed_few : (n : ℕ) (xs : List Signal) → AreDistinct xs
      → ((x : Signal) → Among x xs → (k : ℕ) × (c : Label) × HasLine pushes k c x × (k < pushes_at w.script (entries_in w) n))
      → length xs ≤ pushes_at w.script (entries_in w) n
  pushed_few n xs are each =
      let many = count (push_counter w.script) n in
      let all = at_most (push_counter w.script) n of_pushes in
      let few = few_among xs (part 0 many (signals_in pushes)) are (λ x here. let e = each x here in
      among_part 0 many e.0 (signals_in pushes) x (at_map signal_of pushes e.0 e.2.line e.2.there ∙ ap Some e.2.signal) (omega arith)
      (omega (arith, e.3, rises_counted w (push_counter w.script) n))) in
      omega (
        arith,
        few,
        part_length 0 many (signals_in pushes) (omega (arith, all, length-map pushes signal_of)) (omega arith),
        rises_counted w (push_counter w.script) n,
      )

  -- law: and no more were pushed by a moment than those among which each is
  pub pushed_among : (n : ℕ) (ys : List Signal)
      → ((k : ℕ) (c : Label) (x : Signal) → HasLine pushes k c x → k < pushes_at w.script (entries_in w) n → Among x ys)
      → pushes_at w.script (entries_in w) n ≤ length ys
  pushed_among n ys each =
      let many = count (push_counter w.script) n in
      let all = at_most (push_counter w.script) n of_pushes in
      let few = few_among (part 0 many (signals_in pushes)) ys (distinct_part 0 many (signals_in pushes) all_once) (λ x here.
      let at = part_among 0 many (signals_in pushes) x here in
      let m = map_get signal_of pushes at.0 x at.1 in
      each at.0 m.0.label x (record { line = m.0; there = m.1; label = refl; signal = m.2 })
      (omega (arith, at.3, rises_counted w (push_counter w.script) n))) in
      omega (
        arith,
        few,
        part_length 0 many (signals_in pushes) (omega (arith, all, length-map pushes signal_of)) (omega arith),
        rises_counted w (push_counter w.script) n,
      )

  -- law: none was popped by a moment at which no call that names one had made anything
  pub none_popped : (n : ℕ) → ((d : Label) (y : Signal) → Names w.run d y → (m : ℕ) × (n ≤ m) × IsMoment w d [] m)
      → pops_at w.script (entries_in w) n ≡ 0
  none_popped n late = ⊎_elim
      (λ (some : 0 < count (pop_counter w.script) n).
      let few = at_most (pop_counter w.script) n of_pops in
      let i = item_at pops 0 (omega (arith, some, few)) in
      let l : HasLine pops 0 i.0.label i.0.signal = record { line = i.0; there = i.1; label = refl; signal = refl } in
      let m = late i.0.label i.0.signal (pop_names 0 i.0.label i.0.signal l) in
      let none = not_yet (pop_counter w.script) of_pops l m.2 in
      let more = on_rises (CountersList (pop_counter w.script)) w.moves n m.0 m.1 in
      absurd (omega (arith, some, none, more, rises_counted w (pop_counter w.script) m.0)))
      (λ (none : count (pop_counter w.script) n ≤ 0). omega (arith, none, rises_counted w (pop_counter w.script) n))
      (cases_lt 0 (count (pop_counter w.script) n))

  -- law: a signal that was sent found room beside those that were sent before and not named by then
  pub sent_with_room : (c : Label) (y : Signal) → Sent w.script w.run c y → (xs : List Signal) → AreDistinct xs
      → AllByRecursion (λ x. SentBefore w.script w.run c x × (NamedNoLater w.script w.run c x → ⊥)) xs → length xs < most_signals
  sent_with_room c y sent xs are left =
      let push = sent_push c y sent in
      let put = rise (push_counter w.script) of_pushes push.1 in
      let p = put.0 in
      let room = f.signals.room (suc p) in
      let few = few_among xs (waiting_at p) are (λ x here. waits_there put x (among_all _ xs x left here)) in
      omega (
        arith,
        room,
        few,
        waiting_count p,
        put.1.before,
        put.1.here,
        put.1.still (pop_counter w.script) (apart w.script).0,
        rises_counted w (pop_counter w.script) (suc p),
        rises_counted w (push_counter w.script) (suc p),
      )
    where
      waits_there : {k : ℕ} (put : (p : ℕ) × Rose (push_counter w.script) k p c) (x : Signal)
          → SentBefore w.script w.run c x × (NamedNoLater w.script w.run c x → ⊥) → Among x (waiting_at put.0)
      waits_there put x left =
          let sent = left.0 in
          let push = sent_push sent.0 x sent.1 in
          let at = rise (push_counter w.script) of_pushes push.1 in
          left_waits put.0 push.0 sent.0 x push.1 (⊎_elim
          (λ (less : at.0 < put.0). has at.1 less)
          (λ (more : put.0 ≤ at.0). absurd (true≢false (sym sent.2 ∙ no_later put.1 at.1 more)))
          (cases_lt at.0 put.0))
          (λ d q line rose less. left.1 (d, pop_names push.0 d x line, no_later rose put.1 (omega (arith, less))))

  -- what waits, or is popped, at a moment within a call's bounds
  module _ (c : Label) (n : ℕ) (within : StandsWithin w.script c n (labels w)) where
    -- a call of which a rise stands behind the moment wasn't over before
    late_call : {j k p : ℕ} {d : Label} → Rose j k p d → n ≤ p → is_before w.script d c ≡ false
    late_call {p = p} {d = d} r more = at_late (λ y. is_before w.script y c ≡ false) n p (labels w) d within.behind r.label more

    -- one of which a rise stands before it didn't begin only after
    early_call : {j k p : ℕ} {d : Label} → Rose j k p d → p < n → is_before w.script c d ≡ false
    early_call {p = p} {d = d} r less = at_early (λ y. is_before w.script c y ≡ false) n p (labels w) d within.before r.label less

    -- law: what was sent before was pushed by then
    pub pushed_before : {k : ℕ} {d : Label} {x : Signal} → HasLine pushes k d x → is_before w.script d c ≡ true → k < pushes_at w.script (entries_in w) n
    pushed_before l before =
        let at = rise (push_counter w.script) of_pushes l in
        ⊎_elim
        (λ (less : at.0 < n). let has_it = has at.1 less in omega (arith, has_it, rises_counted w (push_counter w.script) n))
        (λ (more : n ≤ at.0). absurd (true≢false (sym before ∙ late_call at.1 more)))
        (cases_lt at.0 n)

    -- law: where none waits, each signal that was sent before is named
    pub none_left : SawWaiting w 0 n → (x : Signal) → SentBefore w.script w.run c x → NamedNoLater w.script w.run c x
    none_left none x sent =
        let push = sent_push sent.0 x sent.1 in
        let k = push.0 in
        let there = pushed_before push.1 sent.2 in
        let few = at_most (pop_counter w.script) n of_pops in
        let popped : k < count (pop_counter w.script) n = omega (arith, there, none, rises_counted w (pop_counter w.script) n) in
        let g = gone k sent.0 x push.1 (omega (arith, popped, few)) in
        let out = rise (pop_counter w.script) of_pops g.1 in
        (g.0, pop_names k g.0 x g.1, early_call out.1 (reached out.1 popped))

    -- law: each signal that waits was sent, and isn't named before
    pub waiting_sent : AllByRecursion (λ x. SentNoLater w.script w.run c x × (NamedBefore w.script w.run c x → ⊥)) (waiting_at n)
    waiting_sent = each_among _ (waiting_at n) (λ x here.
        let at = part_among _ _ (signals_in pushes) x here in
        let m = map_get signal_of pushes at.0 x at.1 in
        let line : HasLine pushes at.0 m.0.label x = record { line = m.0; there = m.1; label = refl; signal = m.2 } in
        let put = rise (push_counter w.script) of_pushes line in (
          (m.0.label, push_sent at.0 m.0.label x line, early_call put.1 (reached put.1 at.3)),
          λ named. not_named x at.0 m.0.label line at.2 named,
        ))
      where
        not_named : (x : Signal) (k : ℕ) (d : Label) → HasLine pushes k d x → count (pop_counter w.script) n ≤ k → NamedBefore w.script w.run c x → ⊥
        not_named x k d line more named =
            let pop = names_pop named.0 x named.1 in
            let push = in_turn pop.0 named.0 x pop.1 in
            let same = pushed_at pop.0 k push.0 d x push.1 line in
            let out = rise (pop_counter w.script) of_pops pop.1 in
            ⊎_elim
            (λ (less : out.0 < n). let has_it = has out.1 less in absurd (omega (arith, has_it, same, more)))
            (λ (late : n ≤ out.0). true≢false (sym named.2 ∙ late_call out.1 late))
            (cases_lt out.0 n)

  -- law: no two that wait are the same
  pub waiting_once : (n : ℕ) → AreDistinct (waiting_at n)
  waiting_once n = distinct_part _ _ (signals_in pushes) all_once
