-- What lanes have left, by passes that have settled the clock, and looked at the queue and at each object since.
use Rattle.std.proofs.Common.{◌≡◌, List, arith, refl, ap, ◌∙◌}
use Rattle.lane_notes.specs.Notes.{NotesOf}
use Rattle.pass_names.specs.Counts.{count}
use Rattle.pass_names.specs.Passes.{is_place}
use Rattle.pass_names.proofs.Passes.{begins_length}
use Rattle.timer_objects.specs.Known.{seen_of}
use Rattle.clock_cell.specs.Views.{writes}
use Rattle.record_text.specs.declared.record.Answer.{Answer}
use Rattle.record_text.specs.declared.record.Label.{Label}
use Rattle.run_history.specs.Runs.{CallLog, RoundStarts}
use Rattle.script_text.specs.declared.script.Script.{Script}
use Rattle.lane_notes.proofs.Kept.{label_of, list_of}
use Rattle.lane_notes.proofs.Left.{AreByRounds, AreLeft}
use Rattle.lane_notes.proofs.PartLists.{each_weaker}
use Rattle.lane_notes.proofs.SeenMore.{begins_same, follows_less, seen_later, SeesMore, stand_later, turned_later}
use Rattle.signal_queue.specs.Rules.{turns}
use Rattle.lane_notes.specs.Runs.{LooksAtAll, LooksAtQueue, Settles}
use Rattle.lane_notes.specs.Worlds.{WorldOf}
use Rattle.lane_notes.specs.declared.lane.WorldPass.{WorldPass}

-- passes that have only seen more since
pub record OnlySees (p q : WorldPass) : Type 0 where
  pub more : SeesMore p q
  pub timers : q.timers.known.mine ≡ p.timers.known.mine
  pub objects : q.objects.knows.pass.mine ≡ p.objects.knows.pass.mine
  pub clock : q.clock.knows.pass.mine ≡ p.clock.knows.pass.mine
  pub signals : q.signals.knows.pass.mine ≡ p.signals.knows.pass.mine

-- law: as when the clock was settled
pub only_settles : {p q : WorldPass} → Settles p q → OnlySees p q
only_settles settles = record {
  more = record {
    timers = settles.timers.seen;
    clock = settles.clock.seen.each 0;
    objects = λ i. begins_same (ap (λ o. seen_of o i) settles.objects);
    signals = begins_same (ap (λ u. turns u.knows) settles.signals);
  };
  timers = settles.timers.mine;
  objects = ap (λ o. o.knows.pass.mine) settles.objects;
  clock = settles.clock.mine;
  signals = ap (λ u. u.knows.pass.mine) settles.signals;
}

-- passes that have looked at the queue and the objects, that of the timers as it was before
abbrev pub before_looks : WorldPass → WorldPass → WorldPass
before_looks p q = record q { timers = p.timers }

-- law: as when the queue was looked at
pub only_hears : {x : WorldOf} {p q : WorldPass} → LooksAtQueue x p q → OnlySees p (before_looks p q)
only_hears looks = record {
  more = record {
    timers = begins_same refl;
    clock = begins_same (ap (λ c. writes c.knows) looks.clock);
    objects = λ i. begins_same (ap (λ o. seen_of o i) looks.objects);
    signals = looks.signals.seen.each 0;
  };
  timers = refl;
  objects = ap (λ o. o.knows.pass.mine) looks.objects;
  clock = ap (λ c. c.knows.pass.mine) looks.clock;
  signals = looks.signals.mine;
}

-- law: and behind that each object
pub only_looks : {x : WorldOf} (o : WorldPass) {p q : WorldPass} → LooksAtAll x p q → OnlySees (before_looks o p) (before_looks o q)
only_looks o looks = record {
  more = record {
    timers = begins_same refl;
    clock = begins_same (ap (λ c. writes c.knows) looks.clock);
    objects = λ i. looks.objects.seen.each i;
    signals = begins_same (ap (λ u. turns u.knows) looks.signals);
  };
  timers = refl;
  objects = looks.objects.mine;
  clock = ap (λ c. c.knows.pass.mine) looks.clock;
  signals = ap (λ u. u.knows.pass.mine) looks.signals;
}

-- law: nothing else was made since
pub left_later : {s : Script} {p q : WorldPass} {notes : NotesOf} {logs : Label → CallLog} → OnlySees p q → AreLeft s p notes logs → AreLeft s q notes logs
left_later {notes = notes} {logs = logs} sees left = record {
  tell = left.tell;
  stand = λ c. stand_later sees.more (left.stand c);
  seen = λ k. each_weaker (list_of k notes) (λ n is. (is.0, seen_later k (logs (label_of k n)) n sees.more is.1)) (left.seen k);
  few = left.few;
  places = record {
    timers = λ i n. ap (count (is_place i n)) sees.timers ∙ left.places.timers i n;
    objects = λ i n. ap (count (is_place i n)) sees.objects ∙ left.places.objects i n;
    clock = λ n. ap (count (is_place 0 n)) sees.clock ∙ left.places.clock n;
  };
  turned = λ c. turned_later sees.more (left.turned c);
  unturned = left.unturned;
  turn_places = λ k. ap (count (is_place 0 k)) sees.signals ∙ left.turn_places k;
}

-- law: and calls stand by rounds as before
pub rounds_later : {s : Script} {p q : WorldPass} {logs : Label → CallLog} {starts : RoundStarts} {answers : List (List Answer)} → OnlySees p q
    → AreByRounds s p logs starts answers → AreByRounds s q logs starts answers
rounds_later sees rounds = record {
  moves = rounds.moves;
  clock = rounds.clock;
  moves_most = λ c is. omega (arith, rounds.moves_most c is, begins_length sees.more.timers);
  clock_most = λ c is. omega (arith, rounds.clock_most c is, begins_length sees.more.clock);
  lanes = rounds.lanes;
  calls = λ e follows has joined lane. rounds.calls e (follows_less sees.more follows) has joined lane;
}
