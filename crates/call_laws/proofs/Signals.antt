-- The pushes and pops of signals of a call, part by part; and how many signals waited at a moment of the run.
use Rattle.std.proofs.Common.{◌≡◌, ℕ, ◌+◌, Some, List, [], ◌∷◌, ◌++◌, length, length-append, map, take, arith, refl, sym, ap, ◌∙◌, subst}
use Rattle.std.specs.List.{AllByRecursion, slice_get}
use Rattle.std.proofs.Math.Seq.{take-append_seam}
use Rattle.std.proofs.lemmas.List.{append-nil, append_assoc, map-append}
use Rattle.std.proofs.lemmas.Option.{slice_get_within}
use Rattle.base_row.specs.declared.view.Opening.{Opening}
use Rattle.ordered_signals.specs.Places.{HasSignalRing, RingStandsAt, pops_seen, pushes_seen}
use Rattle.pass_names.specs.Passes.{Adds, Begins, Looks}
use Rattle.pass_names.proofs.Passes.{begins_length, begins_trans}
use Rattle.seq_timer.specs.Systems.{rises_of}
use Rattle.seq_timer.specs.declared.system.SystemEntry.{SystemEntry}
use Rattle.signal_queue.specs.Rules.{turns}
use Rattle.signal_queue.specs.Turns.{popped, pushed, waiting_after}
use Rattle.signal_queue.specs.Views.{KnowsQueue}
use Rattle.signal_queue.specs.declared.signal.Signal.{Signal}
use Rattle.signal_queue.specs.declared.signal.Turn.{Turn}
use Rattle.signal_queue.specs.declared.signal.Turn.TheVariants.{Popped, Pushed}
use Rattle.signal_queue.specs.declared.view.QueueView.{QueueView}
use Rattle.signal_queue.proofs.Turns.{counted, popped-append, pushed-append}
use Rattle.run_history.specs.Actions.{Action, Signalled}
use Rattle.run_history.specs.Promises.{RunGoesOn}
use Rattle.run_history.specs.Runs.{Ending, IsJoined, witness_of}
use Rattle.run_history.specs.Signals.{most_signals, pop_counter, push_counter}
use Rattle.run_history.specs.Truths.{SawWaiting}
use Rattle.run_history.proofs.Known.{rises_along}
use Rattle.run_history.proofs.Lists.{at_seam}
use Rattle.script_text.specs.declared.script.Script.{Script}
use Rattle.lane_notes.proofs.Kept.{IsOfQueued, IsTurnSeen, signal_at, signals_of, turn_place}
use Rattle.lane_notes.proofs.PartLists.{each_joined, rises_none, rises_on, RisesTo}
use Rattle.lane_notes.proofs.SeenMore.{begins_same, signals_later, stands_on}
use Rattle.lane_notes.specs.Called.{LeavesSignals}
use Rattle.lane_notes.specs.Worlds.{IsWorldOf, WorldOf}
use Rattle.lane_notes.specs.declared.lane.WorldPass.{WorldPass}

-- ---- a part of a call

-- By its pass of the queue before and after a part a call made these turns, each behind so many, which are these pushes and pops.
pub record TurnsPart (s : Script) (p q : QueueView) (told : List (ℕ × (ℕ × Signal))) (made : List (ℕ × Turn)) : Type 0 where
  pub seen : Begins (turns p) (turns q)
  pub are : told ≡ map (signal_at s (turns q)) made
  pub span : RisesTo (length (turns p)) made (length (turns q))
  pub each : AllByRecursion (IsTurnSeen s (turns q)) made
  pub mine : q.pass.mine ≡ p.pass.mine ++ map turn_place made

module _ {s : Script} where
  -- law: none, where the pass was left alone, or only looked
  pub turns_looked : {p q : QueueView} → Looks p.pass q.pass → TurnsPart s p q [] []
  turns_looked {p} looks = record {
    seen = looks.seen.each 0;
    are = refl;
    span = rises_none (begins_length (looks.seen.each 0));
    each = tt;
    mine = looks.mine ∙ sym (append-nil p.pass.mine);
  }

  pub turns_none : {p q : QueueView} → q ≡ p → TurnsPart s p q [] []
  turns_none {p} same = record {
    seen = begins_same (ap turns same);
    are = refl;
    span = rises_none (begins_length (begins_same (ap turns same)));
    each = tt;
    mine = ap (λ v. v.pass.mine) same ∙ sym (append-nil p.pass.mine);
  }

  -- law: one
  pub turns_one : {p q : QueueView} (turn : Turn) (adds : Adds p.pass q.pass 0 (turn ∷ [])) → IsOfQueued s turn
      → TurnsPart s p q (signal_at s (turns q) (length adds.before, turn) ∷ []) ((length adds.before, turn) ∷ [])
  turns_one {p} {q} turn adds of =
      let low = begins_length adds.begins in
      let there : slice_get (turns q) (length adds.before) ≡ Some turn =
      ap (λ ts. slice_get ts (length adds.before)) adds.last ∙ at_seam adds.before [] turn in
      let less = slice_get_within (turns q) (length adds.before) turn there in
      record {
        seen = adds.seen.each 0;
        are = refl;
        span = record { rise = (low, tt); above = (low, tt); below = (less, tt); le = begins_length (adds.seen.each 0) };
        each = (record { there = there; of = of }, tt);
        mine = adds.mine;
      }

  -- law: a part behind another
  pub turns_then : {p q r : QueueView} {a b : List (ℕ × (ℕ × Signal))} {xs ys : List (ℕ × Turn)} → TurnsPart s p q a xs → TurnsPart s q r b ys
      → TurnsPart s p r (a ++ b) (xs ++ ys)
  turns_then {p} {q} {r} {a} {b} {xs} {ys} one two = record {
    seen = begins_trans one.seen two.seen;
    are = (λ i. (one.are ∙ signals_later s two.seen xs one.each) i ++ two.are i) ∙ sym (map-append (signal_at s (turns r)) xs ys);
    span = rises_on one.span two.span;
    each = each_joined xs ys (λ x is. record { there = stands_on x.0 two.seen is.there; of = is.of }) (λ x is. is) one.each two.each;
    mine = two.mine ∙ ap (λ ms. ms ++ map turn_place ys) one.mine ∙ append_assoc p.pass.mine (map turn_place xs) (map turn_place ys)
        ∙ ap (λ ms. p.pass.mine ++ ms) (sym (map-append turn_place xs ys));
  }

  -- law: a call that left the queue alone has pushed and popped nothing
  pub turns_alone : (p q : WorldPass) (ds : List Action) → LeavesSignals p q → signals_of ds ≡ []
      → TurnsPart s p.signals.knows q.signals.knows (signals_of ds) []
  turns_alone p q ds same none = rw none (turns_none (ap (λ u. u.knows) same))

-- law: a push has the number of the pushes that are known then, and a pop that of the pops
pub push_numbered : (s : Script) (p q : QueueView) (x : Signal) (adds : Adds p.pass q.pass 0 (Pushed x ∷ []))
    → signal_at s (turns q) (length adds.before, Pushed x) ≡ (push_counter s, (pushes_seen q, x))
push_numbered s p q x adds =
    let first : take (length adds.before) (turns q) ≡ adds.before =
    ap (take (length adds.before)) adds.last ∙ take-append_seam adds.before (Pushed x ∷ []) in
    ap (λ n. (push_counter s, (n, x))) (omega (
      arith,
      ap (λ ts. length (pushed ts)) first,
      ap (λ ts. length (pushed ts)) adds.last,
      ap length (pushed-append adds.before (Pushed x ∷ [])),
      length-append (pushed adds.before) (x ∷ []),
    ))

pub pop_numbered : (s : Script) (p q : QueueView) (x : Signal) (adds : Adds p.pass q.pass 0 (Popped x ∷ []))
    → signal_at s (turns q) (length adds.before, Popped x) ≡ (pop_counter s, (pops_seen q, x))
pop_numbered s p q x adds =
    let first : take (length adds.before) (turns q) ≡ adds.before =
    ap (take (length adds.before)) adds.last ∙ take-append_seam adds.before (Popped x ∷ []) in
    ap (λ n. (pop_counter s, (n, x))) (omega (
      arith,
      ap (λ ts. length (popped ts)) first,
      ap (λ ts. length (popped ts)) adds.last,
      ap length (popped-append adds.before (Popped x ∷ [])),
      length-append (popped adds.before) (x ∷ []),
    ))

-- law: the pushes and pops of two parts
pub signals_of-append : (ds es : List Action) → signals_of (ds ++ es) ≡ signals_of ds ++ signals_of es
signals_of-append [] es = refl
signals_of-append (Signalled counter number signal ∷ ds) es = ap (λ xs. (counter, (number, signal)) ∷ xs) (signals_of-append ds es)
signals_of-append (d ∷ ds) es = signals_of-append ds es

-- ---- in the run

module _ {s : Script} {x : WorldOf} (is : IsWorldOf s x) where
  abbrev o : Opening
  o = x.timers.about

  -- law: the timers have a ring for the queue
  pub has_ring : {room : ℕ} → room ≡ most_signals → HasSignalRing o.rings room
  has_ring same = let rings = ap (λ (y : Opening). y.rings) is.timers in rw (rings, same) (record { within = omega arith; same = refl })

  -- law: whose counters are those of pushes and of pops
  pub counter_of_pushes : o.counters + (0 + 0) ≡ push_counter s
  counter_of_pushes = omega (arith, ap (λ (y : Opening). y.counters) is.timers)

  pub counter_of_pops : o.counters + (0 + 0) + 1 ≡ pop_counter s
  counter_of_pops = omega (arith, ap (λ (y : Opening). y.counters) is.timers)

  -- law: a moment at which there were so many pushes and pops is one of the run at which so many signals waited
  pub stood : {old new : List SystemEntry} {put taken : ℕ} (many : ℕ) (at : RingStandsAt o old new put taken) → put ≡ taken + many → {e : Ending} → IsJoined s e
      → RunGoesOn at.at e → SawWaiting (witness_of s e) many (length at.at)
  stood {put = put} {taken = taken} many at waits joined goes =
      let pushes = subst (λ k. rises_of k at.at ≡ put) counter_of_pushes at.pushes in
      let pops = subst (λ k. rises_of k at.at ≡ taken) counter_of_pops at.pops in
      omega (arith, waits, pushes, pops, rises_along (push_counter s) at.at joined goes, rises_along (pop_counter s) at.at joined goes)

-- law: by what is known of the queue as many more were pushed than popped as wait
pub waits : (t : QueueView) {many : ℕ} → KnowsQueue t → length (waiting_after [] (turns t)) ≡ many → pushes_seen t ≡ pops_seen t + many
waits t knows many = counted t.room (turns t) knows.legal ∙ ap (λ n. length (popped (turns t)) + n) many
