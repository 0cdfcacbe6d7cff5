-- What a call did to the queue of signals is what its entries and its answer tell.
use Rattle.std.proofs.Common.{◌≡◌, ◌≤◌, ◌⊎◌, ℕ, ◌+◌, Bool, true, false, nat_eq, Option, None, Some, List, [], ◌∷◌, ◌++◌, map, arith, refl, sym, ap, ◌∙◌, subst, inl, inr}
use Rattle.std.specs.Prelude.{flat_map}
use Rattle.std.specs.List.{AllByRecursion}
use Rattle.std.proofs.Math.Logic.{⊎_elim}
use Rattle.std.proofs.lemmas.Bool.{eq-eqb, eqb-true}
use Rattle.std.proofs.lemmas.List.{append_assoc, map-append}
use Rattle.ktime.specs.declared.mode.Mode.{Mode}
use Rattle.ktime.specs.declared.mode.Mode.TheVariants as modes
use Rattle.seq_timer.specs.declared.event.EventBy.TheVariants as events
use Rattle.seq_timer.specs.declared.event.Reply.TheVariants as replies
use Rattle.record_text.specs.declared.record.Answer.{Answer}
use Rattle.record_text.specs.declared.record.Answer.TheVariants as answers
use Rattle.record_text.specs.declared.record.Armed.{Armed}
use Rattle.record_text.specs.declared.record.Armed.TheVariants as armings
use Rattle.record_text.specs.declared.record.ObjectEntry.{ObjectEntry}
use Rattle.record_text.specs.declared.record.ObjectEntry.TheVariants as entries
use Rattle.script_text.specs.Declarations.{kind_of, without_slack}
use Rattle.script_text.specs.declared.script.Call.{Call}
use Rattle.script_text.specs.declared.script.Call.TheVariants as calls
use Rattle.script_text.specs.declared.script.Callback.TheVariants as callbacks
use Rattle.script_text.specs.declared.script.Kind.{Kind}
use Rattle.script_text.specs.declared.script.Kind.TheVariants as kinds
use Rattle.script_text.specs.declared.script.Script.{Script}
use Rattle.script_text.specs.declared.script.StartRequest.{StartRequest}
use Rattle.script_text.proofs.Lists.{All-append}
use Rattle.signal_queue.specs.declared.signal.Signal.{Signal}
use Rattle.timer_setting.specs.declared.arming.Wanted.{Wanted}
use Rattle.run_history.specs.Actions.{Action, Began, Entered, Made, Shifted, Signalled, also, made, signalled}
use Rattle.run_history.specs.Calls.{Does, call_row}
use Rattle.run_history.specs.Deeds.{Anew, Cancels, Deed, Did, Evacuates, IsBody, IsQueuedTrigger, IsTrigger, Never, Nothing, Pops, Rearms, Runs, Shifts, Starts, Where, Writes, evacuates, fires}
use Rattle.run_history.specs.ObjectCalls.{Arms, ArmsAs, cancels}
use Rattle.run_history.specs.Signals.{SendsSignals, pop_counter, push_counter}
use Rattle.run_history.specs.Starts.{Arming, SentTo, Sight, arming_actions, from_moment, moves}
use Rattle.run_history.specs.Witnesses.{Evacuation, Fired}
use Rattle.run_history.proofs.Items.{Among, RiseIn}
use Rattle.run_history.proofs.Labels.{refuted}
use Rattle.fit_laws.specs.Signals.{AreDistinct, IsCounted, IsNamedBy}
use Rattle.fit_laws.proofs.SignalLists.{among_either, among_left, among_right, none_from}

-- ---- what is told

-- what an entry of an object of this kind tells of pushes: the signal of an expiry that counts has the number of the entry
abbrev pub pushed_with : Kind → ℕ → ℕ → ObjectEntry → List Signal
pushed_with (kinds.Queued base) i number (entries.Trigger generation reading true) = record { timer = i; number = number } ∷ []
pushed_with kind i number entry = []

-- what a call has pushed, by what it made
abbrev pub pushed_in : Script → List Action → List Signal
pushed_in s [] = []
pushed_in s (Made i number entry ∷ ds) = pushed_with (kind_of s i) i number entry ++ pushed_in s ds
pushed_in s (d ∷ ds) = pushed_in s ds

-- what a call has popped, by its answer
abbrev pub popped_by : Answer → List Signal
popped_by (answers.Signal timer number overrun) = record { timer = timer; number = number } ∷ []
popped_by (answers.StaleSignal timer number) = record { timer = timer; number = number } ∷ []
popped_by (answers.SpentSignal timer number) = record { timer = timer; number = number } ∷ []
popped_by answer = []

-- the signals of a counter's rises, by what a call did
abbrev pub raised : ℕ → List Action → List Signal
raised k ds = map (λ (e : ℕ × Signal). e.1) (signalled k ds)

-- a push stands among what a call did, in a turn of its timer's object, which ends with the entry of its number
pub record StandsInTurn (ds : List Action) (pushes number : ℕ) (x : Signal) : Type 0 where
  pub before : List Action
  pub after : List Action
  pub stamp : ℕ
  pub entry : ObjectEntry
  pub is : x.number ≡ stamp + 1
  pub split : ds ≡ before ++ Began x.timer stamp ∷ Signalled pushes number x ∷ Made x.timer (stamp + 1) entry ∷ after

-- a call that did so pushed what its entries tell, and popped these, and raised no other counter so
pub record Tells (s : Script) (ds : List Action) (popped : List Signal) : Type 0 where
  pub pushes : raised (push_counter s) ds ≡ pushed_in s ds
  pub pops : raised (pop_counter s) ds ≡ popped
  pub others : (k : ℕ) → nat_eq (push_counter s) k ≡ false → nat_eq (pop_counter s) k ≡ false → raised k ds ≡ []
  pub turns : (number : ℕ) (x : Signal) → Among (number, x) (signalled (push_counter s) ds) → StandsInTurn ds (push_counter s) number x

-- ---- parts of what a call did

also-append : {A : Type 0} (b : Bool) (x : A) (xs ys : List A) → also b x (xs ++ ys) ≡ also b x xs ++ ys
also-append true x xs ys = refl
also-append false x xs ys = refl

signalled-append : (k : ℕ) (ds es : List Action) → signalled k (ds ++ es) ≡ signalled k ds ++ signalled k es
signalled-append k [] es = refl
signalled-append k (Signalled counter number signal ∷ ds) es =
    ap (also (nat_eq counter k) (number, signal)) (signalled-append k ds es)
    ∙ also-append (nat_eq counter k) (number, signal) (signalled k ds) (signalled k es)
signalled-append k (Made i number entry ∷ ds) es = signalled-append k ds es
signalled-append k (d ∷ ds) es = signalled-append k ds es

pub pushed_in-append : (s : Script) (ds es : List Action) → pushed_in s (ds ++ es) ≡ pushed_in s ds ++ pushed_in s es
pushed_in-append s [] es = refl
pushed_in-append s (Made i number entry ∷ ds) es =
    let this = pushed_with (kind_of s i) i number entry in
    ap (λ xs. this ++ xs) (pushed_in-append s ds es) ∙ sym (append_assoc this (pushed_in s ds) (pushed_in s es))
pushed_in-append s (d ∷ ds) es = pushed_in-append s ds es

tells-append : {s : Script} {ds es : List Action} {ps qs : List Signal} → Tells s ds ps → Tells s es qs → Tells s (ds ++ es) (ps ++ qs)
tells-append {s} {ds} {es} {ps} {qs} one two = record {
  pushes = both (push_counter s) ∙ ap (λ xs. xs ++ raised (push_counter s) es) one.pushes ∙ ap (λ xs. pushed_in s ds ++ xs) two.pushes
      ∙ sym (pushed_in-append s ds es);
  pops = both (pop_counter s) ∙ ap (λ xs. xs ++ raised (pop_counter s) es) one.pops ∙ ap (λ xs. ps ++ xs) two.pops;
  others = λ k a b. both k ∙ ap (λ xs. xs ++ raised k es) (one.others k a b) ∙ two.others k a b;
  turns = λ number x here. ⊎_elim
      (λ left. let t = one.turns number x left in record {
        before = t.before;
        after = t.after ++ es;
        stamp = t.stamp;
        entry = t.entry;
        is = t.is;
        split = ap (λ xs. xs ++ es) t.split
            ∙ append_assoc t.before (Began x.timer t.stamp ∷ Signalled (push_counter s) number x ∷ Made x.timer (t.stamp + 1) t.entry ∷ t.after) es;
      })
      (λ right. let t = two.turns number x right in record {
        before = ds ++ t.before;
        after = t.after;
        stamp = t.stamp;
        entry = t.entry;
        is = t.is;
        split = ap (λ xs. ds ++ xs) t.split
            ∙ sym (append_assoc ds t.before (Began x.timer t.stamp ∷ Signalled (push_counter s) number x ∷ Made x.timer (t.stamp + 1) t.entry ∷ t.after));
      })
      (among_either (number, x) (signalled (push_counter s) ds) (signalled (push_counter s) es)
      (subst (Among (number, x)) (signalled-append (push_counter s) ds es) here));
}
  where
    both : (k : ℕ) → raised k (ds ++ es) ≡ raised k ds ++ raised k es
    both k = ap (map (λ (e : ℕ × Signal). e.1)) (signalled-append k ds es) ∙ map-append (λ (e : ℕ × Signal). e.1) (signalled k ds) (signalled k es)

-- the counters of pushes and of pops are two
pub apart : (s : Script) → (nat_eq (push_counter s) (pop_counter s) ≡ false) × (nat_eq (pop_counter s) (push_counter s) ≡ false)
apart s = (
  refuted _ (λ is. let same = eqb-true (push_counter s) (pop_counter s) is in omega (arith, same)),
  refuted _ (λ is. let same = eqb-true (pop_counter s) (push_counter s) is in omega (arith, same)),
)

-- an action that neither raises a counter of signals nor makes an entry that tells of a push
abbrev IsQuiet : Script → Action → Type 0
IsQuiet s (Made i number entry) = pushed_with (kind_of s i) i number entry ≡ []
IsQuiet s (Signalled counter number signal) = ⊥
IsQuiet s other = Unit {0}

abbrev AreQuiet : Script → List Action → Type 0
AreQuiet s ds = AllByRecursion (IsQuiet s) ds

-- one action more before them, by which no counter of signals rose
behind : {s : Script} {ds : List Action} {popped : List Signal} (d : Action) → Tells s ds popped → raised (push_counter s) (d ∷ ds) ≡ pushed_in s (d ∷ ds)
    → ((k : ℕ) → signalled k (d ∷ ds) ≡ signalled k ds) → Tells s (d ∷ ds) popped
behind {s} {ds} d tells pushes same = record {
  pushes = pushes;
  pops = ap (map (λ (e : ℕ × Signal). e.1)) (same (pop_counter s)) ∙ tells.pops;
  others = λ k a b. ap (map (λ (e : ℕ × Signal). e.1)) (same k) ∙ tells.others k a b;
  turns = λ number x here.
      let t = tells.turns number x (subst (Among (number, x)) (same (push_counter s)) here) in
      record { before = d ∷ t.before; after = t.after; stamp = t.stamp; entry = t.entry; is = t.is; split = ap (λ xs. d ∷ xs) t.split };
}

quiet_tells : (s : Script) (ds : List Action) → AreQuiet s ds → Tells s ds []
quiet_tells s [] quiet = record { pushes = refl; pops = refl; others = λ k a b. refl; turns = λ number x here. absurd here }
quiet_tells s (Made i number entry ∷ ds) quiet =
    let rest = quiet_tells s ds quiet.1 in
    behind (Made i number entry) rest (rest.pushes ∙ ap (λ xs. xs ++ pushed_in s ds) (sym quiet.0)) (λ k. refl)
quiet_tells s (Signalled counter number signal ∷ ds) quiet = absurd quiet.0
quiet_tells s (d ∷ ds) quiet = let rest = quiet_tells s ds quiet.1 in behind d rest rest.pushes (λ k. refl)

-- an entry by which nothing counted tells of no push
uncounted : (k : Kind) (i number : ℕ) (entry : ObjectEntry) → (IsCounted entry → ⊥) → pushed_with k i number entry ≡ []
uncounted (kinds.Queued base) i number (entries.Trigger generation reading true) not = absurd (not tt)
uncounted k i number entry not = refl

moves_quiet : (s : Script) (timer : ℕ) (outs : List SentTo) → AreQuiet s (moves timer outs)
moves_quiet s timer [] = tt
moves_quiet s timer (out ∷ outs) = (tt, moves_quiet s timer outs)

start_quiet : (s : Script) (timer reading : ℕ) (request : StartRequest) (a : Arming) → AreQuiet s (arming_actions timer request reading a)
start_quiet s timer reading request a = All-append (IsQuiet s) (moves timer a.outs) _ (moves_quiet s timer a.outs) (tt, tt)

cancels_quiet : (s : Script) (timer : ℕ) (cancel : Option (ℕ × ℕ)) → AreQuiet s (cancels timer cancel)
cancels_quiet s timer None = tt
cancels_quiet s timer (Some c) = (tt, tt)

evacuated_quiet : (s : Script) (heir reading : ℕ) (moved : List Evacuation) → AreQuiet s (flat_map (evacuates heir reading) moved)
evacuated_quiet s heir reading [] = tt
evacuated_quiet s heir reading (e ∷ moved) = (tt, (tt, evacuated_quiet s heir reading moved))

-- an entry behind such actions
entry_behind : (s : Script) (ds : List Action) (timer number : ℕ) (entry : ObjectEntry) → AreQuiet s ds → (IsCounted entry → ⊥)
    → Tells s (ds ++ Made timer number entry ∷ []) []
entry_behind s ds timer number entry quiet not =
    quiet_tells s _ (All-append (IsQuiet s) ds _ quiet (uncounted (kind_of s timer) timer number entry not, tt))

-- ---- rows of the table

-- whether this deed's entry counts an expiry, by how it armed its timer; or what ends a move of timers is something else than an entry of a base
abbrev Counts : Deed → Armed → Type 0
Counts (Anew timer wanted entry) arm = IsCounted (entry arm)
Counts (Rearms timer entry) arm = IsCounted (entry arm)
Counts (Evacuates heir count (Shifted base stamp event ∷ []) IsCount) arm = ⊥
Counts (Evacuates heir count [] IsCount) arm = ⊥
Counts (Evacuates heir count end IsCount) arm = Unit
Counts (Pops signal did) arm = Counts did arm
Counts (Where did IsSo) arm = Counts did arm
Counts did arm = ⊥

-- what a deed popped; by one that never was it may be anything
abbrev pops_of : Deed → List Signal → List Signal
pops_of Never pops = pops
pops_of (Pops signal did) pops = signal ∷ pops_of did []
pops_of (Where did IsSo) pops = pops_of did pops
pops_of did pops = []

-- (the clauses are there to have the last one tried at each call and answer)
row_counts : (s : Script) (reading : ℕ) (call : Call) (answer : Answer)
    → (pops_of (call_row s reading call answer).did (popped_by answer) ≡ popped_by answer)
    × ((arm : Armed) → Counts (call_row s reading call answer).did arm → ⊥)
row_counts s reading (calls.Start timer request) (answers.Started generation on was_armed) = (refl, λ arm counts. counts)
row_counts s reading call (answers.Idle stamp) = (refl, λ arm counts. counts)
row_counts s reading call answer = (refl, λ arm counts. counts)

module _ (sight : Sight) (s : Script) where
  arms_quiet : (timer ns reading base : ℕ) (mode : Mode) (arm : Armed) (start : List Action) → Arms sight s.limit timer mode ns reading base arm start
      → AreQuiet s start
  arms_quiet timer ns reading base mode armings.None start is = subst (AreQuiet s) (sym is) tt
  arms_quiet timer ns reading base mode (armings.Generation generation) start is =
      subst (AreQuiet s) (sym is.1) (start_quiet s timer reading (without_slack mode ns base) is.0)
  arms_quiet timer ns reading base mode armings.Unarmed start is = subst (AreQuiet s) (sym is) tt

  as_quiet : (timer : ℕ) (wanted : Option Wanted) (reading base : ℕ) (arm : Armed) (start : List Action)
      → ArmsAs sight s.limit timer wanted reading base arm start → AreQuiet s start
  as_quiet timer None reading base arm start is = subst (AreQuiet s) (sym is.1) tt
  as_quiet timer (Some wanted) reading base arm start is = arms_quiet timer wanted.ns reading base wanted.mode arm start is

module _ (sight : Sight) (s : Script) where
  quiet : (ds : List Action) {es : List Action} → es ≡ ds → AreQuiet s ds → Tells s es []
  quiet ds is are = subst (λ es. Tells s es []) (sym is) (quiet_tells s ds are)

  trigger_tells : (reading : ℕ) (f : Fired) → (SendsSignals (kind_of s f.timer) → ⊥) → IsTrigger reading f → Tells s f.body []
  trigger_tells reading f not is = ⊎_elim
      (λ trigger. quiet _ trigger.2 (tt, (unsent (trigger.0 + 1) (kind_of s f.timer) (entries.Trigger f.generation reading trigger.1) not, tt)))
      (λ skipped. quiet _ skipped.1 (tt, tt)) is.0
    where
      unsent : (number : ℕ) (k : Kind) (entry : ObjectEntry) → (SendsSignals k → ⊥) → pushed_with k f.timer number entry ≡ []
      unsent number (kinds.Queued base) entry not = absurd (not tt)
      unsent number k entry not = refl

  queued_tells : (reading base : ℕ) (f : Fired) → kind_of s f.timer ≡ kinds.Queued base → IsQueuedTrigger (push_counter s) reading f → Tells s f.body []
  queued_tells reading base f kind is = ⊎_elim
      (λ told. quiet _ told.1 (tt, (uncounted (kind_of s f.timer) f.timer _ _ (λ counted. counted), tt)))
      (λ other. ⊎_elim
      (λ sent. subst (λ ds. Tells s ds []) (sym sent.2) (pushes sent.0 sent.1))
      (λ rest. ⊎_elim
      (λ full. quiet _ full.1 (tt, (uncounted (kind_of s f.timer) f.timer _ _ (λ counted. counted), tt)))
      (λ skipped. quiet _ skipped.1 (tt, tt)) rest) other) is.0
    where
      pushes : (stamp number : ℕ) → Tells s (Began f.timer stamp ∷ Signalled (push_counter s) number (record { timer = f.timer; number = stamp + 1 })
          ∷ Made f.timer (stamp + 1) (entries.Trigger f.generation reading true) ∷ []) []
      pushes stamp number =
          let x : Signal = record { timer = f.timer; number = stamp + 1 } in
          record {
            pushes = ap (λ b. map (λ (e : ℕ × Signal). e.1) (also b (number, x) [])) (eq-eqb (push_counter s) (push_counter s) refl)
                ∙ ap (λ k. pushed_with k f.timer (stamp + 1) (entries.Trigger f.generation reading true) ++ []) (sym kind);
            pops = ap (λ b. map (λ (e : ℕ × Signal). e.1) (also b (number, x) [])) (apart s).0;
            others = λ k a b. ap (λ b. map (λ (e : ℕ × Signal). e.1) (also b (number, x) [])) a;
            turns = λ n y here. ⊎_elim
                (λ (same : (n, y) ≡ (number, x)). subst (λ (e : ℕ × Signal). StandsInTurn (Began f.timer stamp ∷ Signalled (push_counter s) number x
                ∷ Made f.timer (stamp + 1) (entries.Trigger f.generation reading true) ∷ []) (push_counter s) e.0 e.1) (sym same)
                (record { before = []; after = []; stamp = stamp; entry = entries.Trigger f.generation reading true; is = refl; split = refl }))
                (λ none. absurd none)
                (subst (λ b. Among {X = ℕ × Signal} (n, y) (also b (number, x) [])) (eq-eqb (push_counter s) (push_counter s) refl) here);
          }

  body_tells : (kind : Kind) (reading : ℕ) (f : Fired) → kind_of s f.timer ≡ kind → IsBody sight s kind reading f → Tells s f.body []
  body_tells (kinds.Raw context callbacks.Once) reading f kind is = quiet _ is.0 tt
  body_tells (kinds.Raw context (callbacks.Every interval)) reading f kind is =
      ⊎_elim (λ forward. quiet _ forward.2 (tt, tt)) (λ looked. ⊎_elim (λ armed. quiet _ armed.2 (tt, tt)) (λ spent. quiet _ spent.1 (tt, tt)) looked) is.0
  body_tells (kinds.Raw context callbacks.Cancels) reading f kind is = quiet _ is.0.1 (tt, tt)
  body_tells (kinds.Raw context (callbacks.Starts ns base)) reading f kind is =
      ⊎_elim (λ a. quiet _ a.1 (start_quiet s f.timer reading (without_slack modes.Rel ns base) a.0)) (λ spent. quiet _ spent.1 (tt, tt)) is.0
  body_tells (kinds.Queued base) reading f kind is = queued_tells reading base f kind is
  body_tells (kinds.Posix base) reading f kind is = trigger_tells reading f (λ sends. subst SendsSignals kind sends) is
  body_tells (kinds.Fd base) reading f kind is = trigger_tells reading f (λ sends. subst SendsSignals kind sends) is
  body_tells (kinds.Sleeper base) reading f kind is = trigger_tells reading f (λ sends. subst SendsSignals kind sends) is

  fired_tells : (base reading : ℕ) (fired : List Fired) → AllByRecursion (λ f. IsBody sight s (kind_of s f.timer) reading f) fired
      → Tells s (flat_map (fires base reading) fired) []
  fired_tells base reading [] bodies = record { pushes = refl; pops = refl; others = λ k a b. refl; turns = λ number x here. absurd here }
  fired_tells base reading (f ∷ fired) bodies =
      let finish = Entered f.timer f.finish (record { event = events.Finish f.restart; reply = replies.Finish f.generation f.restarted }) in
      let body = tells-append (body_tells (kind_of s f.timer) reading f refl bodies.0) (quiet_tells s (finish ∷ []) (tt, tt)) in
      let claim = Entered f.timer f.claim (record { event = events.Claim base reading; reply = replies.Claim f.generation }) in
      tells-append (behind claim body body.pushes (λ k. refl))
      (fired_tells base reading fired bodies.1)

  did_tells : (reading : ℕ) (did : Deed) (pops : List Signal) (fired : List Fired) (moved : List Evacuation) (actions : List Action)
      → ((arm : Armed) → Counts did arm → ⊥) → Did sight s reading did fired moved actions → Tells s actions (pops_of did pops)
  did_tells reading Never pops fired moved actions not did = absurd did
  did_tells reading Nothing pops fired moved actions not did = quiet [] did tt
  did_tells reading (Starts timer request generation on was_armed) pops fired moved actions not did = quiet _ did.1 (start_quiet s timer reading request did.0)
  did_tells reading (Cancels timer generation) pops fired moved actions not did = quiet _ did.1 (tt, tt)
  did_tells reading (Writes stamp write) pops fired moved actions not did = quiet _ did (tt, tt)
  did_tells reading (Runs context base shown timers IsCount) pops fired moved actions not did =
      subst (λ ds. Tells s ds []) (sym did.0.done) (fired_tells base reading fired did.0.bodies)
  did_tells reading (Anew timer wanted entry) pops fired moved actions not did =
      let early = All-append (IsQuiet s) (cancels timer did.cancel) did.start (cancels_quiet s timer did.cancel)
      (as_quiet (from_moment sight did.turn.begun) s timer wanted reading _ did.arm did.start did.arms) in
      subst (λ ds. Tells s ds []) (sym did.done) (entry_behind s (Began timer did.stamp ∷ cancels timer did.cancel ++ did.start)
      timer (did.stamp + 1) (entry did.arm) (tt, early) (not did.arm))
  did_tells reading (Rearms timer entry) pops fired moved actions not did =
      subst (λ ds. Tells s ds []) (sym did.done) (entry_behind s (Began timer did.stamp ∷ did.start) timer (did.stamp + 1) (entry did.arm)
      (tt, arms_quiet (from_moment sight did.turn.begun) s timer did.ns reading _ _ did.arm did.start did.arms) (not did.arm))
  did_tells reading (Evacuates heir count [] IsCount) pops fired moved actions not did =
      quiet _ did.0.done (All-append (IsQuiet s) _ _ (evacuated_quiet s heir reading moved) tt)
  did_tells reading (Evacuates heir count (Shifted base stamp event ∷ []) IsCount) pops fired moved actions not did =
      quiet _ did.0.done (All-append (IsQuiet s) _ _ (evacuated_quiet s heir reading moved) (tt, tt))
  did_tells reading (Evacuates heir count end IsCount) pops fired moved actions not did = absurd (not armings.None tt)
  did_tells reading (Shifts base stamp event) pops fired moved actions not did = quiet _ did (tt, tt)
  did_tells reading (Pops signal rest) pops fired moved actions not did =
      let rest_tells = did_tells reading rest [] fired moved did.1 not did.3 in
      subst (λ ds. Tells s ds (signal ∷ pops_of rest [])) (sym did.2) (record {
        pushes = ap (λ b. map (λ (e : ℕ × Signal). e.1) (also b (did.0, signal) (signalled (push_counter s) did.1))) (apart s).1 ∙ rest_tells.pushes;
        pops = ap (λ b. map (λ (e : ℕ × Signal). e.1) (also b (did.0, signal) (signalled (pop_counter s) did.1))) (eq-eqb (pop_counter s) (pop_counter s) refl)
            ∙ ap (λ xs. signal ∷ xs) rest_tells.pops;
        others = λ k a b. ap (λ b. map (λ (e : ℕ × Signal). e.1) (also b (did.0, signal) (signalled k did.1))) b ∙ rest_tells.others k a b;
        turns = λ number x here.
            let t = rest_tells.turns number x
            (subst (λ b. Among (number, x) (also b (did.0, signal) (signalled (push_counter s) did.1))) (apart s).1 here) in
            record {
              before = Signalled (pop_counter s) did.0 signal ∷ t.before;
              after = t.after;
              stamp = t.stamp;
              entry = t.entry;
              is = t.is;
              split = ap (λ xs. Signalled (pop_counter s) did.0 signal ∷ xs) t.split;
            };
      })
  did_tells reading (Where rest IsSo) pops fired moved actions not did = did_tells reading rest pops fired moved actions not did.0

  -- law: what a call pushed and popped is what its entries and its answer tell
  pub call_tells : (reading : ℕ) (call : Call) (answer : Answer) (fired : List Fired) (moved : List Evacuation) (actions : List Action)
      → Does sight s reading call answer fired moved actions → Tells s actions (popped_by answer)
  call_tells reading call answer fired moved actions does =
      let row = row_counts s reading call answer in
      subst (Tells s actions) row.0 (did_tells reading (call_row s reading call answer).did (popped_by answer) fired moved actions row.1 does)

-- ---- the signals that are told

named_so : (timer number : ℕ) (x : Signal) → Among x (record { timer = timer; number = number } ∷ []) → (timer ≡ x.timer) × (number ≡ x.number)
named_so timer number x here =
    ⊎_elim (λ is. (sym (ap (λ (y : Signal). y.timer) is), sym (ap (λ (y : Signal). y.number) is))) (λ none. absurd none) here

-- an answer names what it popped
pub names_popped : (a : Answer) (x : Signal) → Among x (popped_by a) → IsNamedBy a x
names_popped (answers.Signal timer number overrun) x here = named_so timer number x here
names_popped (answers.StaleSignal timer number) x here = named_so timer number x here
names_popped (answers.SpentSignal timer number) x here = named_so timer number x here
names_popped a x here = absurd here

same_signal : (timer number : ℕ) (x : Signal) → timer ≡ x.timer → number ≡ x.number → x ≡ record { timer = timer; number = number }
same_signal timer number x of is =
    ap {A = ℕ} (λ t. record { timer = t; number = x.number }) (sym of) ∙ ap {A = ℕ} (λ n. record { timer = timer; number = n }) (sym is)

-- and popped what it names
pub popped_named : (a : Answer) (x : Signal) → IsNamedBy a x → Among x (popped_by a)
popped_named (answers.Signal timer number overrun) x is = inl (same_signal timer number x is.0 is.1)
popped_named (answers.StaleSignal timer number) x is = inl (same_signal timer number x is.0 is.1)
popped_named (answers.SpentSignal timer number) x is = inl (same_signal timer number x is.0 is.1)
popped_named a x is = absurd is

-- an entry tells of this push
pushes : (k : Kind) (i number : ℕ) (entry : ObjectEntry) (x : Signal) → Among x (pushed_with k i number entry)
    → SendsSignals k × IsCounted entry × (x ≡ record { timer = i; number = number })
pushes (kinds.Queued base) i number (entries.Trigger generation reading true) x here = (tt, tt, ⊎_elim (λ is. is) (λ none. absurd none) here)
pushes k i number entry x here = absurd here

counted_pushes : (k : Kind) (i number : ℕ) (entry : ObjectEntry) → SendsSignals k → IsCounted entry
    → pushed_with k i number entry ≡ record { timer = i; number = number } ∷ []
counted_pushes (kinds.Queued base) i number (entries.Trigger generation reading true) queued counted = refl
counted_pushes (kinds.Queued base) i number entry queued counted = absurd counted
counted_pushes k i number entry queued counted = absurd queued

-- a call made a queued timer's entry that counted
pub record MadeCounted (s : Script) (ds : List Action) (x : Signal) : Type 0 where
  pub queued : SendsSignals (kind_of s x.timer)
  pub entry : ObjectEntry
  pub counted : IsCounted entry
  pub among : Among (x.number, entry) (made x.timer ds)

made_more : {s : Script} {ds : List Action} {x : Signal} (i number : ℕ) (entry : ObjectEntry) → MadeCounted s ds x → MadeCounted s (Made i number entry ∷ ds) x
made_more {s} {ds} {x} i number entry m = record {
  queued = m.queued;
  entry = m.entry;
  counted = m.counted;
  among = elim (nat_eq i x.timer) as (λ b. Among (x.number, m.entry) (also b (number, entry) (made x.timer ds))) [
    | true ↦ inr m.among
    | false ↦ m.among
  ];
}

-- what a call pushed by what it made it pushed by such an entry
pub pushed_made : (s : Script) (ds : List Action) (x : Signal) → Among x (pushed_in s ds) → MadeCounted s ds x
pushed_made s [] x here = absurd here
pushed_made s (Made i number entry ∷ ds) x here = ⊎_elim
    (λ this. by_this (pushes (kind_of s i) i number entry x this))
    (λ more. made_more i number entry (pushed_made s ds x more))
    (among_either x (pushed_with (kind_of s i) i number entry) (pushed_in s ds) here)
  where
    by_this : SendsSignals (kind_of s i) × IsCounted entry × (x ≡ record { timer = i; number = number })
        → MadeCounted s (Made i number entry ∷ ds) x
    by_this is =
        subst (MadeCounted s (Made i number entry ∷ ds)) (sym is.2) (record {
          queued = is.0;
          entry = entry;
          counted = is.1;
          among = subst (λ b. Among (number, entry) (also b (number, entry) (made i ds))) (sym (eq-eqb i i refl)) (inl refl);
        })
pushed_made s (d ∷ ds) x here =
    let m = pushed_made s ds x here in record { queued = m.queued; entry = m.entry; counted = m.counted; among = m.among }

-- and by each such entry it pushed
pub made_pushed : (s : Script) (ds : List Action) (i number : ℕ) (entry : ObjectEntry) → Among (number, entry) (made i ds) → SendsSignals (kind_of s i)
    → IsCounted entry → Among (record { timer = i; number = number }) (pushed_in s ds)
made_pushed s [] i number entry here queued counted = absurd here
made_pushed s (Made j n e ∷ ds) i number entry here queued counted =
    let more : Among (number, entry) (made i ds) → Among (record { timer = i; number = number }) (pushed_in s (Made j n e ∷ ds)) =
    λ rest. among_right _ (pushed_with (kind_of s j) j n e) (pushed_in s ds) (made_pushed s ds i number entry rest queued counted) in
    elim (nat_eq j i) as (λ b. nat_eq j i ≡ b → Among (number, entry) (also b (n, e) (made i ds))
    → Among (record { timer = i; number = number }) (pushed_in s (Made j n e ∷ ds))) [
      | true ↦ λ is here. ⊎_elim
          (λ this. by_this (eqb-true j i is) (ap (λ (y : ℕ × ObjectEntry). y.0) this) (ap (λ (y : ℕ × ObjectEntry). y.1) this)) more here
      | false ↦ λ is here. more here
    ] refl here
  where
    by_this : j ≡ i → number ≡ n → entry ≡ e → Among (record { timer = i; number = number }) (pushed_in s (Made j n e ∷ ds))
    by_this of same such =
        let one : pushed_with (kind_of s j) j n e ≡ record { timer = j; number = n } ∷ [] =
        counted_pushes (kind_of s j) j n e (subst (λ j. SendsSignals (kind_of s j)) (sym of) queued) (subst IsCounted such counted) in
        among_left _ (pushed_with (kind_of s j) j n e) (pushed_in s ds) (subst (Among (record { timer = i; number = number })) (sym one)
        (inl (ap {A = ℕ} (λ k. record { timer = k; number = number }) (sym of) ∙ ap {A = ℕ} (λ k. record { timer = j; number = k }) same)))
made_pushed s (d ∷ ds) i number entry here queued counted = made_pushed s ds i number entry here queued counted

-- ---- a call pushes each signal once

pub no_less : {A : Type 0} (k : ℕ) (e : ℕ × A) (xs : List (ℕ × A)) → RiseIn k xs → Among e xs → k ≤ e.0
no_less k e [] rise here = absurd here
no_less {A} k e (x ∷ xs) rise here = ⊎_elim
    (λ (is : e ≡ x). omega (arith, ap (λ (p : ℕ × A). p.0) is, rise.0))
    (λ more. omega (arith, rise.0, no_less (x.0 + 1) e xs rise.1 more)) here

one_push : (k : Kind) (i number : ℕ) (entry : ObjectEntry)
    → (pushed_with k i number entry ≡ []) ⊎ (pushed_with k i number entry ≡ record { timer = i; number = number } ∷ [])
one_push (kinds.Queued base) i number (entries.Trigger generation reading true) = inr refl
one_push k i number entry = inl refl

-- an object's entries among these have rising numbers
abbrev pub Rise : List Action → Type 0
Rise ds = (i : ℕ) → (k : ℕ) × RiseIn k (made i ds)

rise_behind : (b : Bool) (x : ℕ × ObjectEntry) (xs : List (ℕ × ObjectEntry)) → (k : ℕ) × RiseIn k (also b x xs) → (k : ℕ) × RiseIn k xs
rise_behind true x xs rise = (x.0 + 1, rise.1.1)
rise_behind false x xs rise = rise

pub pushed_once : (s : Script) (ds : List Action) → Rise ds → AreDistinct (pushed_in s ds)
pushed_once s [] rise = tt
pushed_once s (Made i number entry ∷ ds) rise =
    let rest = pushed_once s ds (λ j. rise_behind (nat_eq i j) (number, entry) (made j ds) (rise j)) in
    let x : Signal = record { timer = i; number = number } in
    let this = pushed_with (kind_of s i) i number entry in
    let above : RiseIn (number + 1) (made i ds) =
    (subst (λ b. RiseIn (rise i).0 (also b (number, entry) (made i ds))) (eq-eqb i i refl) (rise i).1).1 in
    ⊎_elim
    (λ (none : this ≡ []). subst AreDistinct (ap (λ xs. xs ++ pushed_in s ds) (sym none)) rest)
    (λ (one : this ≡ x ∷ []). subst AreDistinct (ap (λ xs. xs ++ pushed_in s ds) (sym one)) (
      none_from x (pushed_in s ds) (λ here.
          let m = pushed_made s ds x here in
          let less = no_less (number + 1) (number, m.entry) (made i ds) above m.among in omega (arith, less)),
      rest,
    ))
    (one_push (kind_of s i) i number entry)
pushed_once s (d ∷ ds) rise = pushed_once s ds rise
