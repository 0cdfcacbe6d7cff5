-- What calls were told of a queue that was empty or full, and the laws of signals.
use Rattle.std.proofs.Common.{◌≡◌, ◌<◌, ◌≤◌, ℕ, ◌+◌, suc, true, false, nat_eq, List, [], ◌∷◌, ◌++◌, length, take, arith, refl, ap, ◌∙◌, subst, length-append}
use Rattle.std.specs.List.{AllByRecursion}
use Rattle.std.proofs.Math.Logic.{⊎_elim}
use Rattle.std.proofs.lemmas.Bool.{cases_lt, eqb-true}
use Rattle.std.proofs.lemmas.List.{take-map}
use Rattle.record_text.specs.declared.record.Answer.TheVariants as answers
use Rattle.record_text.specs.declared.record.Label.{Label}
use Rattle.record_text.specs.declared.record.ObjectEntry.{ObjectEntry}
use Rattle.record_text.specs.declared.record.ObjectEntry.TheVariants as entries
use Rattle.record_text.specs.declared.record.RunRecord.{RunRecord}
use Rattle.script_text.specs.declared.script.Call.{Call}
use Rattle.script_text.specs.declared.script.Call.TheVariants as calls
use Rattle.script_text.specs.declared.script.Script.{Script}
use Rattle.signal_queue.specs.declared.signal.Signal.{Signal}
use Rattle.run_history.specs.Actions.{Action, Made, also, made}
use Rattle.run_history.specs.Fits.{Fits, FitsIn}
use Rattle.run_history.specs.Objects.{lines_of_object}
use Rattle.run_history.specs.Order.{is_label, made_by}
use Rattle.run_history.specs.Signals.{most_signals, pop_counter, push_counter}
use Rattle.run_history.specs.Calls.{AnswerHolds, Does}
use Rattle.run_history.specs.Truths.{IsMoment, IsTrueEntry, SawWaiting, sight_of}
use Rattle.run_history.specs.Witnesses.{CountersList, Evacuation, Fired, Move, OfRise, Witness, labels, owner_of, witness_with, Shown, turns_along}
use Rattle.run_history.proofs.Items.{Among, stands_own}
use Rattle.run_history.proofs.Labels.{label_itself}
use Rattle.run_history.specs.Traces.{all_entered, own_moves}
use Rattle.run_history.proofs.Actions.{all_entered-append}
use Rattle.fit_laws.specs.Signals.{AreDistinct, FoundFull, WasAnswered, IsOverflow, NamedBefore, NamedNoLater, Names, Sent, SentBefore, SentNoLater}
use Rattle.fit_laws.proofs.EachTimer.{true_at, stands}
use Rattle.fit_laws.proofs.Moments.{rises_counted, own_here}
use Rattle.fit_laws.proofs.OwnParts.{on_here, on_rises, stays, count_moves}
use Rattle.fit_laws.proofs.OwnParts as parts
use Rattle.fit_laws.proofs.OwnPoints.{before_there}
use Rattle.fit_laws.proofs.SignalCalls.{answer_fits, line_entry, line_label}
use Rattle.fit_laws.proofs.Signals.{entry_called, named_in_turn, named_once, named_sent, none_left, sent_with_room, waiting_at, waiting_count, waiting_once, waiting_sent}

-- ---- what calls were told

-- a call that was told that no signal waits found none
none_told : (w : Witness) (c : Label) (first last at : ℕ) (call : Call) (fired : List Fired) (moved : List Evacuation) (actions : List Action)
    → Does (sight_of w first last) w.script at call answers.NoneQueued fired moved actions
    → AnswerHolds w first last c at actions call answers.NoneQueued → SawWaiting w 0 last
none_told w c first last at calls.Sigwait fired moved actions does holds = holds
none_told w c first last at call fired moved actions does holds = absurd does

-- an expiry that found no room found as many waiting as may
full_told : (w : Witness) (i number n : ℕ) (entry : ObjectEntry) → IsOverflow entry → IsTrueEntry w i number entry n → SawWaiting w most_signals n
full_told w i number n (entries.Overflow generation reading) is true_there = true_there
full_told w i number n entry is true_there = absurd is

-- an entry that a call made stands among what it did
made_there : (i number : ℕ) (entry : ObjectEntry) (ds : List Action) → Among (number, entry) (made i ds)
    → (before : List Action) × (rest : List Action) × (ds ≡ before ++ Made i number entry ∷ rest)
made_there i number entry [] here = absurd here
made_there i number entry (Made j n e ∷ ds) here =
    let more : Among (number, entry) (made i ds) → (before : List Action) × (rest : List Action) × (Made j n e ∷ ds ≡ before ++ Made i number entry ∷ rest) =
    λ later. let m = made_there i number entry ds later in (Made j n e ∷ m.0, m.1, ap (λ xs. Made j n e ∷ xs) m.2) in
    elim (nat_eq j i) as (λ b. nat_eq j i ≡ b → Among (number, entry) (also b (n, e) (made i ds))
    → (before : List Action) × (rest : List Action) × (Made j n e ∷ ds ≡ before ++ Made i number entry ∷ rest)) [
      | true ↦ λ is here. ⊎_elim
          (λ this. ([], ds, this_one (eqb-true j i is) (ap (λ (y : ℕ × ObjectEntry). y.0) this) (ap (λ (y : ℕ × ObjectEntry). y.1) this))) more here
      | false ↦ λ is here. more here
    ] refl here
  where
    this_one : j ≡ i → number ≡ n → entry ≡ e → Made j n e ∷ ds ≡ Made i number entry ∷ ds
    this_one of same such = cc
made_there i number entry (d ∷ ds) here =
    let m = made_there i number entry ds here in (d ∷ m.0, m.1, ap (λ xs. d ∷ xs) m.2)

-- ---- the laws

-- law: a signal that is named was sent
pub signal_sent : (s : Script) (r : RunRecord) → Fits s r → (c : Label) (x : Signal) → Names r c x → SentNoLater s r c x
signal_sent s r (moves, signals, traces, fits) = named_sent (witness_with s r moves signals traces) fits

-- law: no two answers name the same
pub signal_named_once : (s : Script) (r : RunRecord) → Fits s r → (c d : Label) (x : Signal) → Names r c x → Names r d x → c ≡ d
signal_named_once s r (moves, signals, traces, fits) = named_once (witness_with s r moves signals traces) fits

-- law: signals are named in turn
pub signals_in_turn : (s : Script) (r : RunRecord) → Fits s r → (c d : Label) (x y : Signal) → Names r c y → Sent s r d y → SentBefore s r d x
    → NamedNoLater s r c x
signals_in_turn s r (moves, signals, traces, fits) = named_in_turn (witness_with s r moves signals traces) fits

-- law: where none is found, none is left of those that were sent before
pub found_empty : (s : Script) (r : RunRecord) → Fits s r → (c : Label) → WasAnswered r c answers.NoneQueued → (x : Signal) → SentBefore s r c x
    → NamedNoLater s r c x
found_empty s r (moves, signals, traces, fits) c at =
    let w = witness_with s r moves signals traces in
    let a = answer_fits w fits c answers.NoneQueued at in
    let t = traces c in
    none_left w fits c t.last a.fits.ends.within (none_told w c t.first t.last t.at a.call t.fired t.moved t.actions a.fits.does a.fits.holds)

-- law: a signal that was sent found room
pub found_room : (s : Script) (r : RunRecord) → Fits s r → (c : Label) (y : Signal) → Sent s r c y → (xs : List Signal) → AreDistinct xs
    → AllByRecursion (λ x. SentBefore s r c x × (NamedNoLater s r c x → ⊥)) xs → length xs < most_signals
found_room s r (moves, signals, traces, fits) = sent_with_room (witness_with s r moves signals traces) fits

-- law: a call that found no room saw that at a moment no later than its last, nor than any at which the object has its entry
pub saw_full : (w : Witness) (f : FitsIn w) (c : Label) (full : FoundFull w.run c)
    → (n : ℕ) × (early : List Action) × IsMoment w c early n × SawWaiting w most_signals n × (n ≤ (w.traces c).last)
    × ((k : ℕ) → full.1 + full.1 ≤ turns_along w k full.0 → n ≤ k)
saw_full w f c (i, number, m) =
    let t = w.traces c in
    let a = entry_called w f c m in
    let fa = answer_fits w f c a.0 a.1 in
    let mine : is_label c m.line.label ≡ true = ap (is_label c) m.label ∙ label_itself c in
    let among = stands_own line_label line_entry c 1 m.before (lines_of_object w.run i) m.line m.there mine in
    let there = made_there i (1 + m.before) m.line.entry t.actions (subst (Among (1 + m.before, m.line.entry)) (fa.fits.traced.objects i) among) in
    let its = Made i (1 + m.before) m.line.entry in
    let is_true = true_at w c t.first [] t.actions there.0 its there.1 t.last fa.fits.truth there.2 in
    let n = is_true.0 in
    let own : (k : ℕ) → made_by c (take k (labels w)) ≡ length (own_moves c (take k w.moves)) =
    λ k. ap (made_by c) (take-map (λ (m : Move). m.label) k w.moves) ∙ count_moves c (take k w.moves) in (
      n,
      there.0,
      is_true.1.0,
      full_told w i (1 + m.before) n m.line.entry m.such is_true.1.1,
      ⊎_elim
          (λ (late : t.last < n). absurd (omega (
            arith,
            parts.own_rises c w.moves t.last n (omega (arith, late)),
            own t.last,
            own n,
            fa.fits.ends.so_many,
            is_true.1.0.so_many,
            ap length (ap all_entered there.2 ∙ all_entered-append there.0 (its ∷ there.1)),
            length-append (all_entered there.0) (all_entered (its ∷ there.1)),
          )))
          (λ (early : n ≤ t.last). early)
          (cases_lt t.last n),
      λ k has_it.
          let s = stands c w.moves (all_entered there.0) (all_entered there.1) (1 + m.before + (1 + m.before), OfRise (suc i))
          (fa.fits.traced.moves ∙ ap all_entered there.2 ∙ all_entered-append there.0 (its ∷ there.1)) in
          let o = CountersList (suc i) in
          let before = before_there w f.history s.place s.move o s.there (ap (λ (e : ℕ × Shown). owner_of e.1) s.is) in
          let here = own_here c s.place w.moves s.move s.there s.label in
          ⊎_elim
          (λ (late : k < n). absurd (⊎_elim
          (λ (behind : s.place < n). omega (
            arith,
            parts.own_rises c w.moves (suc s.place) n (omega (arith, behind)),
            here,
            own n,
            is_true.1.0.so_many,
            ap length s.own,
          ))
          (λ (ahead : n ≤ s.place). omega (
            arith,
            has_it,
            m.count,
            rises_counted w (suc i) k,
            on_rises o w.moves k s.place (omega (arith, ahead, late)),
            before,
            ap (λ (e : ℕ × Shown). e.0) s.is,
          ))
          (cases_lt s.place n)))
          (λ (early : n ≤ k). early)
          (cases_lt k n),
    )

-- law: where no room is found, as many wait as may
pub found_full : (s : Script) (r : RunRecord) → Fits s r → (c : Label) → FoundFull r c → (xs : List Signal) × (length xs ≡ most_signals) × AreDistinct xs
    × AllByRecursion (λ x. SentNoLater s r c x × (NamedBefore s r c x → ⊥)) xs
found_full s r (moves, signals, traces, fits) c full =
    let w = witness_with s r moves signals traces in
    let saw = saw_full w fits c full in
    let n = saw.0 in
    let count = waiting_count w fits n in
    let many : length (waiting_at w fits n) ≡ most_signals =
    omega (arith, saw.3, count, rises_counted w (pop_counter s) n, rises_counted w (push_counter s) n) in
    (waiting_at w fits n, many, waiting_once w fits n, waiting_sent w fits c n saw.2.within)
