-- The first passes, looking at one object after another, and the run that ends so.
use Rattle.std.proofs.Common.{◌≡◌, ◌<◌, ◌≤◌, ℕ, ◌+◌, [], length, arith, refl, sym, ap, ◌∙◌, subst, ⊎_elim}
use Rattle.std.proofs.lemmas.Bool.{cases_lt}
use Rattle.clock_cell.specs.Views.{IsPassOfClock, KnowsClock}
use Rattle.hr_timers.specs.Known.{IsPassOf}
use Rattle.pass_names.specs.Passes.{Looks}
use Rattle.pass_names.specs.SharedHistory.{LooksOn}
use Rattle.pass_names.proofs.Passes.{begins_length, begins_refl, begins_trans}
use Rattle.run_history.specs.Witnesses.{CountersList}
use Rattle.timer_objects.specs.Known.{IsObjectsPass, seen_of}
use Rattle.timer_objects.specs.Rearming.{FindsObject}
use Rattle.timer_objects.specs.Signals.{IsSignalPass}
use Rattle.signal_queue.specs.Views.{KnowsQueue}
use Rattle.timer_objects.specs.Turns.{turns_counter, turns_told}
use Rattle.timer_objects.specs.declared.object.Object.{Object}
use Rattle.lane_notes.proofs.SeenMore.{begins_same, count_begins}
use Rattle.lane_notes.specs.Rounds.{IsMain, LeftOf, MakesRounds, none_left}
use Rattle.lane_notes.specs.Runs.{LooksAtAll, LooksAtQueue, MakesRun, Settles, ShowsLeft}
use Rattle.record_text.specs.declared.record.RunRecord.{RunRecord}
use Rattle.script_text.specs.declared.script.Script.{Script}
use Rattle.std.specs.Prelude.{Err, IfOk, Ok, Result}
use Rattle.std.specs.declared.alloc.AllocError.{AllocError}
use Rattle.lane_notes.specs.Worlds.{WorldOf}
use Rattle.lane_notes.specs.declared.lane.WorldPass.{WorldPass}
use Rattle.lane_run.proofs.Mains.{main_ran}

-- so many objects were looked at, and nothing else was done
pub record LookedAt (x : WorldOf) (p q : WorldPass) (many : ℕ) : Type 0 where
  pub main : IsMain x q []
  pub timers : LooksOn p.timers.known q.timers.known
  pub objects : Looks p.objects.knows.pass q.objects.knows.pass
  pub opening : q.objects.knows.opening ≡ p.objects.knows.opening
  pub clock : q.clock ≡ p.clock
  pub signals : q.signals ≡ p.signals
  pub no_more : (i : ℕ) → i < many → turns_told i p.timers.known ≤ length (seen_of q.objects i) + length (seen_of q.objects i)

-- law: none
pub looked_none : {x : WorldOf} {p : WorldPass} → IsMain x p [] → LookedAt x p p 0
looked_none {p = p} main = record {
  main = main;
  timers = record { seen = begins_refl p.timers.known.seen; mine = refl; id = refl; claims = refl };
  objects = record { seen = record { each = λ i. begins_same refl }; mine = refl; id = refl };
  opening = refl;
  clock = refl;
  signals = refl;
  no_more = λ i less. absurd (omega (arith, less));
}

-- law: one more
pub looked_more : {x : WorldOf} {p q r : WorldPass} {id : ℕ} {object : Object} {n : ℕ} → LookedAt x p q id → IsPassOf x.timers r.timers
    → IsObjectsPass x.objects r.objects → r.clock ≡ q.clock → r.signals ≡ q.signals → LooksOn q.timers.known r.timers.known
    → FindsObject q.objects r.objects id object n
    → turns_told id r.timers.known ≡ n + n → r.objects.knows.pass.id ≡ q.objects.knows.pass.id → LookedAt x p r (id + 1)
looked_more {x = x} {p = p} {q = q} {r = r} {id = id} {n = n} before timers objects clock signals looks finds told name = record {
  main = main_ran [] [] (record {
    timers = timers;
    objects = objects;
    clock = subst (IsPassOfClock x.clock) (sym clock) before.main.pass.clock;
    known = subst (λ c. KnowsClock c.knows) (sym clock) before.main.pass.known;
    heard = ap (λ c. c.knows.heard) clock ∙ before.main.pass.heard;
    signals = subst (IsSignalPass x.objects) (sym signals) before.main.pass.signals;
    queue = subst (λ s. KnowsQueue s.knows) (sym signals) before.main.pass.queue;
  }) (record {
    timers = looks.id;
    claims = looks.claims;
    objects = name;
    clock = ap (λ c. c.knows.pass.id) clock;
    signals = ap (λ s. s.knows.pass.id) signals;
  }) refl (λ k d less. absurd (omega (arith, less))) before.main;
  timers = record {
    seen = begins_trans before.timers.seen looks.seen;
    mine = looks.mine ∙ before.timers.mine;
    id = looks.id ∙ before.timers.id;
    claims = looks.claims ∙ before.timers.claims;
  };
  objects = record {
    seen = record { each = λ i. begins_trans (before.objects.seen.each i) (finds.reads.pass.seen.each i) };
    mine = finds.reads.pass.mine ∙ before.objects.mine;
    id = finds.reads.pass.id ∙ before.objects.id;
  };
  opening = finds.reads.opening ∙ before.opening;
  clock = clock ∙ before.clock;
  signals = signals ∙ before.signals;
  no_more = λ i less. ⊎_elim
      (λ (lower : i < id). omega (arith, before.no_more i lower, begins_length (finds.reads.pass.seen.each i)))
      (λ (same : id ≤ i).
      let is : id ≡ i = omega (arith, less, same) in
      subst (λ j. turns_told j p.timers.known ≤ length (seen_of r.objects j) + length (seen_of r.objects j)) is (omega (
        arith,
        count_begins (CountersList (turns_counter id)) before.timers.seen,
        count_begins (CountersList (turns_counter id)) looks.seen,
        told,
        finds.stamp,
      )))
      (cases_lt i id);
}

-- law: the first passes where the queue was looked at
pub main_heard : {x : WorldOf} {p q : WorldPass} → IsMain x p [] → IsPassOf x.timers q.timers → LooksOn p.timers.known q.timers.known
    → IsSignalPass x.objects q.signals → KnowsQueue q.signals.knows → Looks p.signals.knows.pass q.signals.knows.pass → q.objects ≡ p.objects
    → q.clock ≡ p.clock → IsMain x q []
main_heard {x = x} main timers looks signals knows heard objects clock = main_ran [] [] (record {
  timers = timers;
  objects = subst (IsObjectsPass x.objects) (sym objects) main.pass.objects;
  clock = subst (IsPassOfClock x.clock) (sym clock) main.pass.clock;
  known = subst (λ c. KnowsClock c.knows) (sym clock) main.pass.known;
  heard = ap (λ c. c.knows.heard) clock ∙ main.pass.heard;
  signals = signals;
  queue = knows;
}) (record {
  timers = looks.id;
  claims = looks.claims;
  objects = ap (λ o. o.knows.pass.id) objects;
  clock = ap (λ c. c.knows.pass.id) clock;
  signals = heard.id;
}) refl (λ k d less. absurd (omega (arith, less))) main

-- law: rounds in turn, after which the clock was settled, and the queue and each object looked at, make a run, where the record of what they left wanted no
-- memory
pub run_made : {x : WorldOf} (s : Script) (p : WorldPass) {before settled queued q : WorldPass} (left : LeftOf) (made : Result RunRecord AllocError)
    → MakesRounds x s.rounds p (none_left s.lanes) before left → IsMain x settled [] → Settles before settled → LooksAtQueue x settled queued
    → LooksAtAll x queued q
    → IfOk made (ShowsLeft s left) → IfOk made (λ r. MakesRun x s p r q)
run_made s p {before = before} {settled = settled} {queued = queued} left (Ok r) rounds of settles heard looks shows = record {
  left = left;
  before = before;
  rounds = rounds;
  settled = settled;
  of = of;
  settles = settles;
  queued = queued;
  heard = heard;
  looks = looks;
  shows = shows;
}
run_made s p left (Err fault) rounds of settles heard looks shows = tt
