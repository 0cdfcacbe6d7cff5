-- Each call of the record with a full queue is right, by the tests that its place passes.
use Rattle.std.proofs.Common.{◌≡◌, ◌+◌, ◌<◌, ◌≤◌, le_refl, ◌&&◌, ℕ, zero, suc, Bool, true, false, not, is_some, nat_eq, nat_le, nat_lt, None, Option, Some, if◌then◌else◌, List, [], ◌∷◌, length, arith, refl, sym, ap, ◌∙◌, subst, inl, inr}
use Rattle.std.specs.List.Sorted.{IsPermutation}
use Rattle.std.proofs.lemmas.List.Sorted.{IsPermutation-refl}
use Rattle.std.proofs.lemmas.Bool.{and_parts, eqb-true, true≢false}
use Rattle.std.proofs.lemmas.Bool.Decides.{nat_tests}
use Rattle.std.proofs.lemmas.List.{nil_from_length}
use Rattle.seq_timer.specs.Histories.{IsIdle}
use Rattle.seq_timer.specs.Steps.{Timer}
use Rattle.seq_timer.specs.Systems.{after_entry, changed}
use Rattle.record_text.specs.declared.record.Answer.{Answer}
use Rattle.record_text.specs.declared.record.Answer.TheVariants as answers
use Rattle.record_text.specs.declared.record.Label.{Label}
use Rattle.ktime.specs.declared.clock_id.ClockId.{ClockId}
use Rattle.ktime.specs.declared.clock_id.ClockId.TheVariants as clocks
use Rattle.record_text.specs.declared.record.ObjectEntry.{ObjectEntry}
use Rattle.record_text.specs.declared.record.ObjectEntry.TheVariants as object_entries
use Rattle.script_text.specs.Declarations.{kind_of}
use Rattle.script_text.specs.declared.script.Call.{Call}
use Rattle.script_text.specs.declared.script.Call.TheVariants as calls
use Rattle.ktime.specs.declared.write.Write.TheVariants as writes
use Rattle.run_history.specs.Actions.{also, looked, made, own, own_looks, own_skips, signalled, skipped, wrote}
use Rattle.run_history.specs.Fits.{FitsInTurn, Seen, TraceExplains, unseen}
use Rattle.run_history.specs.Histories.{clock_labels, lines_of_timer}
use Rattle.run_history.specs.Objects.{ArmedAs, lines_of_object, object_armed_after}
use Rattle.run_history.specs.Order.{IsPoint}
use Rattle.run_history.specs.Signals.{pops_at, pushes_at}
use Rattle.run_history.specs.Told.{IsArmedLike}
use Rattle.run_history.specs.Traces.{HasTraced, all_entered, own_moves}
use Rattle.run_history.specs.Witnesses.{Trace, entries_in, labels, standing_along, timer_along, turns_along, writes_along}
use Rattle.run_cases.specs.FullQueue.{full_queue_record, full_queue_script}
use Rattle.run_cases.specs.Lines.{at, counted_entry, hard_expire, set_entry_of, settime_to}
use Rattle.run_cases.proofs.Calls.{in_turn}
use Rattle.run_cases.proofs.FullQueue.{full_trace, full_witness, is_armed_like, is_called, is_full, is_idle, is_monotonic, is_place, is_sent, is_set, pops, pushes_from, sent_trace, set_trace}
use Rattle.run_cases.proofs.FullQueueOwn.{no_looks, no_skips, own_entries}
use Rattle.run_cases.proofs.FullQueuePlaces.{place_passes}
use Rattle.run_cases.proofs.Tests.{HasOthers, heard_passes, is_heard, is_point, lt, point_passes}
use Rattle.run_cases.proofs.Witnesses.{armed_by, set_anew, stays}

-- what the tests of a call show
pub record Called (c m : ℕ) : Type 0 where
  pub first : IsPoint full_queue_script (at 0 c) 0 m (labels full_witness)
  pub writes : writes_along full_witness m ≡ 1
  pub heard : is_heard full_witness (at 0 c) ≡ true
  pub reading : IsPoint full_queue_script (at 0 c) 0 1 (clock_labels full_queue_record)
  pub clock : own (λ line. line.label) (λ line. line.write) (at 0 c) 1 full_queue_record.clock ≡ []

pub called_passes : (c m : ℕ) → c < 132 → is_called c m ≡ true → Called c m
called_passes c m less e =
    let mine = own (λ line. line.label) (λ line. line.write) (at 0 c) 1 full_queue_record.clock in
    let all = and_parts (is_place c 0 m && nat_eq (writes_along full_witness m) 1)
    ((is_heard full_witness (at 0 c) && is_point full_queue_script (at 0 c) 0 1 (clock_labels full_queue_record)) && nat_eq (length mine) 0) e in
    let one = and_parts (is_place c 0 m) (nat_eq (writes_along full_witness m) 1) all.0 in
    let two = and_parts (is_heard full_witness (at 0 c) && is_point full_queue_script (at 0 c) 0 1 (clock_labels full_queue_record))
    (nat_eq (length mine) 0) all.1 in
    let three = and_parts (is_heard full_witness (at 0 c)) (is_point full_queue_script (at 0 c) 0 1 (clock_labels full_queue_record)) two.0 in
    record {
      first = place_passes c 0 m less one.0;
      writes = eqb-true (writes_along full_witness m) 1 one.1;
      heard = three.0;
      reading = point_passes full_queue_script (at 0 c) 0 1 (clock_labels full_queue_record) three.1;
      clock = nil_from_length mine (eqb-true (length mine) 0 two.1);
    }

none_passes : (x : Option ℕ) → not (is_some x) ≡ true → x ≡ None
none_passes None e = refl
none_passes (Some n) e = cc

idle_passes : (t : Timer) → is_idle t ≡ true → IsIdle t
idle_passes t e =
    let parts = and_parts (not (is_some t.armed)) (not (is_some t.running) && not t.moving) e in
    let rest = and_parts (not (is_some t.running)) (not t.moving) parts.1 in
    record { armed = none_passes t.armed parts.0; running = none_passes t.running rest.0; moving = still t.moving rest.1 }
  where
    still : (b : Bool) → not b ≡ true → b ≡ false
    still false e = refl
    still true e = cc

same_clock : (x y : ClockId) → (is_monotonic x && is_monotonic y) ≡ true → x ≡ y
same_clock clocks.Monotonic clocks.Monotonic e = refl
same_clock clocks.Monotonic clocks.Realtime e = absurd (true≢false (sym e))
same_clock clocks.Monotonic clocks.Boottime e = absurd (true≢false (sym e))
same_clock clocks.Realtime y e = absurd (true≢false (sym e))
same_clock clocks.Boottime y e = absurd (true≢false (sym e))

armed_passes : (a : Option ArmedAs) (generation : ℕ) (t : Timer) → is_armed_like a generation t ≡ true → IsArmedLike true a generation t
armed_passes None generation t e = absurd (true≢false (sym e))
armed_passes (Some a) generation t e =
    let halves = and_parts (nat_eq a.generation generation && nat_eq a.expires t.expires) (is_monotonic a.clock && is_monotonic t.clock) e in
    let parts = and_parts (nat_eq a.generation generation) (nat_eq a.expires t.expires) halves.0 in
    (eqb-true a.generation generation parts.0, eqb-true a.expires t.expires parts.1, λ on. same_clock a.clock t.clock halves.1)

-- no other counter has signals
pub no_others : HasOthers full_witness
no_others k one two =
    ap (λ b. if b then pushes_from 64 1 0 else if nat_eq k 3 then pops else []) one ∙ ap (λ b. if b then pops else []) two

-- what a call has in the record, where its trace is this
pub record Own (c b : ℕ) (t : Trace) (made : List (ℕ × ObjectEntry)) : Type 0 where
  pub trace : full_witness.traces (at 0 c) ≡ t
  pub moves : own_moves (at 0 c) full_witness.moves ≡ all_entered t.actions
  pub entries : own_entries (at 0 c) 1 (lines_of_object full_queue_record 0) ≡ made

not_first : (i : ℕ) → nat_eq 0 (suc i) ≡ false
not_first i = grind (arith, nat_tests)

-- nothing hangs under a line
looks : (c : Label) (i : ℕ) → own_looks c 1 (lines_of_timer full_queue_record i) ≡ []
looks c zero = no_looks c 1 65 1 0
looks c (suc i) = refl

skips : (c : Label) (i : ℕ) → own_skips c 1 (lines_of_object full_queue_record i) ≡ []
skips c zero = no_skips c (λ g. object_entries.Overflow g 1) 1 64 1 0
skips c (suc i) = refl

-- what it has there is what it did: it made this entry of the object, and no look
its_traced : (c m b : ℕ) (t : Trace) (entry : ObjectEntry) → Called c m → Own c b t ((b + 1, entry) ∷ []) → wrote t.actions ≡ []
    → ((i : ℕ) → looked i t.actions ≡ []) → ((i : ℕ) → skipped i t.actions ≡ []) → ((i : ℕ) → made i t.actions ≡ also (nat_eq 0 i) (b + 1, entry) [])
    → HasTraced full_witness (at 0 c) t.actions
its_traced c m b t entry called its none no_look no_skip its_entry = record {
  clock = called.clock ∙ sym none;
  moves = its.moves;
  looks = λ i. looks (at 0 c) i ∙ sym (no_look i);
  objects = objects;
  skips = λ i. subst (λ xs. IsPermutation xs (skipped i t.actions)) (no_skip i ∙ sym (skips (at 0 c) i)) (IsPermutation-refl (skipped i t.actions));
  signals = λ k. heard_passes full_witness no_others (at 0 c) called.heard k ∙ ap (λ (t : Trace). signalled k t.actions) its.trace;
}
  where
    objects : (i : ℕ) → own_entries (at 0 c) 1 (lines_of_object full_queue_record i) ≡ made i t.actions
    objects zero = its.entries ∙ sym (its_entry 0)
    objects (suc i) = sym (its_entry (suc i) ∙ ap (λ x. also x (b + 1, entry) []) (not_first i))

-- a call of this trace is right, and read the clock at its first moment
pub its_turn : (c m b : ℕ) (before : Seen) (t : Trace) {made : List (ℕ × ObjectEntry)} (call : Call) (answer : Answer) → before.moves ≤ m → t.first ≡ m
    → t.at ≡ 1 → Called c m → Own c b t made
    → TraceExplains full_witness (at 0 c) t call answer before (record { clock = 1; moves = t.last })
    → FitsInTurn full_witness (at 0 c) call answer before (record { clock = 1; moves = t.last })
its_turn c m b before t call answer seen first reading called its explains = (
  subst (λ x. TraceExplains full_witness (at 0 c) x call answer before (record { clock = 1; moves = t.last })) (sym its.trace) explains,
  in_turn full_witness (at 0 c) call before.moves (record {
    moment = m;
    behind = seen;
    no_later = subst (λ (x : Trace). m ≤ x.first) (sym its.trace) (subst (λ n. m ≤ n) (sym first) (le_refl m));
    writes = called.writes ∙ sym reading ∙ ap (λ (x : Trace). x.at) (sym its.trace);
  }),
)

-- ---- the write

-- the lane's first call
pub clock_fits : FitsInTurn full_witness (at 0 0) (calls.Clock (writes.Advance 100)) (answers.Clock 1) unseen (record { clock = 1; moves = 1 })
clock_fits = (
  record {
    traced = record {
      clock = refl;
      moves = refl;
      looks = looks (at 0 0);
      objects = objects;
      skips = λ i. subst (λ xs. IsPermutation xs []) (sym (skips (at 0 0) i)) (IsPermutation-refl []);
      signals = heard_passes full_witness no_others (at 0 0) refl;
    };
    does = refl;
    keeps = tt;
    turns = tt;
    reading = point_passes full_queue_script (at 0 0) 0 0 (clock_labels full_queue_record) refl;
    begins = place_passes 0 0 0 (omega arith) refl;
    ends = place_passes 0 1 1 (omega arith) refl;
    truth = (0, le_refl 0, tt, omega arith);
    holds = tt;
    clock_steps = (le_refl 0, (omega arith, le_refl 1));
    move_steps = (le_refl 0, le_refl 1);
  },
  record { moment = 0; behind = le_refl 0; no_later = le_refl 0; writes = refl },
)
  where
    objects : (i : ℕ) → own_entries (at 0 0) 1 (lines_of_object full_queue_record i) ≡ []
    objects zero = refl
    objects (suc i) = refl

-- ---- the settime

-- it is right
pub set_fits : (c a b m : ℕ) (before : Seen) → c < 132 → before.clock ≤ 1 → before.moves ≤ m → Called c m → is_set c a b m ≡ true
    → Own c b (set_trace a b m) ((b + 1, set_entry_of 100 1 (a + 1) 0) ∷ [])
    → TraceExplains full_witness (at 0 c) (set_trace a b m) (settime_to 100) (answers.Old 0 0) before (record { clock = 1; moves = m + 1 + 1 + 1 })
set_fits c a b m before less seen_clock seen_moves called e its =
    let places = is_place c 1 (m + 1) && (is_place c 2 (m + 1 + 1) && is_place c 3 (m + 1 + 1 + 1)) in
    let idle = is_idle (timer_along full_witness (m + 1) 0) in
    let room = nat_le (a + 1) 1000 && (nat_lt (b + b) (turns_along full_witness (m + 1) 0) && idle) in
    let online = not (is_some (standing_along full_witness (m + 1) 0).heir) in
    let early = nat_lt (timer_along full_witness (m + 1) 0).stamp (a + 1) in
    let stamp = nat_eq (timer_along full_witness (m + 1 + 1) 0).stamp (a + 1) in
    let armed = is_armed_like (object_armed_after full_queue_script full_queue_record 0 (b + 1) (kind_of full_queue_script 0)) (a + 1)
    (timer_along full_witness (m + 1 + 1) 0) in
    let halves = and_parts places (room && ((online && early) && (stamp && armed))) e in
    let points = and_parts (is_place c 1 (m + 1)) (is_place c 2 (m + 1 + 1) && is_place c 3 (m + 1 + 1 + 1)) halves.0 in
    let later = and_parts (is_place c 2 (m + 1 + 1)) (is_place c 3 (m + 1 + 1 + 1)) points.1 in
    let rest = and_parts room ((online && early) && (stamp && armed)) halves.1 in
    let below = and_parts (nat_le (a + 1) 1000) (nat_lt (b + b) (turns_along full_witness (m + 1) 0) && idle) rest.0 in
    let began = and_parts (nat_lt (b + b) (turns_along full_witness (m + 1) 0)) idle below.1 in
    let tail = and_parts (online && early) (stamp && armed) rest.1 in
    let base = and_parts online early tail.0 in
    let start = and_parts stamp armed tail.1 in
    record {
      traced = its_traced c m b (set_trace a b m) (set_entry_of 100 1 (a + 1) 0) called its refl (λ i. refl) (λ i. refl) (λ i. refl);
      does = set_anew b (a + 1) began.0 (record { known = refl; good_value = lt refl; good_interval = lt refl })
          (armed_by (a + 1) 100, refl, refl, stays below.0 refl refl (none_passes _ base.0) (three_on m) base.1);
      keeps = tt;
      turns = tt;
      reading = called.reading;
      begins = called.first;
      ends = place_passes c 3 (m + 1 + 1 + 1) less later.1;
      truth = (
        m,
        le_refl m,
        tt,
        (
          m,
          le_refl m,
          tt,
          (
            m + 1 + 1,
            omega arith,
            (
              place_passes c 2 (m + 1 + 1) less later.0,
              (eqb-true (timer_along full_witness (m + 1 + 1) 0).stamp (a + 1) start.0, armed_passes _ _ _ start.1),
            ),
            omega arith,
          ),
        ),
      );
      holds = (m + 1, omega arith, omega arith, place_passes c 1 (m + 1) less points.0, idle_passes (timer_along full_witness (m + 1) 0) began.1);
      clock_steps = (seen_clock, le_refl 1);
      move_steps = (seen_moves, le_refl (m + 1 + 1 + 1));
    }
  where
    three_on : (m : ℕ) → nat_le (m + 1) (m + 1 + 1 + 1) ≡ true
    three_on m = grind (arith, nat_tests)

-- ---- the expiries

-- one that counts
pub sent_fits : (c a b p m : ℕ) (before : Seen) → c < 132 → before.clock ≤ 1 → before.moves ≤ m → Called c m → is_sent c m ≡ true
    → Own c b (sent_trace a b p m) ((b + 1, counted_entry a 1) ∷ [])
    → TraceExplains full_witness (at 0 c) (sent_trace a b p m) (hard_expire 0 1) (answers.More 1 (0 ∷ [])) before
    (record { clock = 1; moves = m + 1 + 1 + 1 + 1 + 1 })
sent_fits c a b p m before less seen_clock seen_moves called e its =
    let points = and_parts (is_place c 3 (m + 1 + 1 + 1)) (is_place c 5 (m + 1 + 1 + 1 + 1 + 1)) e in
    record {
      traced = its_traced c m b (sent_trace a b p m) (counted_entry a 1) called its refl (λ i. refl) (λ i. refl) (λ i. refl);
      does = (
        record { one_reading = refl; claimed = refl; done = refl; contexts = (refl, tt); bodies = ((inr (inl (b, p + 1, refl)), refl), tt) },
        refl,
      );
      keeps = tt;
      turns = tt;
      reading = called.reading;
      begins = called.first;
      ends = place_passes c 5 (m + 1 + 1 + 1 + 1 + 1) less points.1;
      truth = (
        m,
        le_refl m,
        called.first,
        (
          m,
          le_refl m,
          tt,
          (
            m,
            le_refl m,
            tt,
            (
              m + 1 + 1 + 1,
              omega arith,
              (
                place_passes c 3 (m + 1 + 1 + 1) less points.0,
                tt,
              ),
              (m + 1 + 1 + 1, le_refl (m + 1 + 1 + 1), tt, omega arith),
            ),
          ),
        ),
      );
      holds = tt;
      clock_steps = (seen_clock, le_refl 1);
      move_steps = (seen_moves, le_refl (m + 1 + 1 + 1 + 1 + 1));
    }

-- one that finds no room
pub full_fits : (c a b m : ℕ) (before : Seen) → c < 132 → before.clock ≤ 1 → before.moves ≤ m → Called c m → is_full c m ≡ true
    → Own c b (full_trace a b m) ((b + 1, object_entries.Overflow a 1) ∷ [])
    → TraceExplains full_witness (at 0 c) (full_trace a b m) (hard_expire 0 1) (answers.More 1 (0 ∷ [])) before
    (record { clock = 1; moves = m + 1 + 1 + 1 + 1 })
full_fits c a b m before less seen_clock seen_moves called e its =
    let pushed = pushes_at full_queue_script (entries_in full_witness) (m + 1 + 1) in
    let popped = pops_at full_queue_script (entries_in full_witness) (m + 1 + 1) in
    let parts = and_parts (is_place c 2 (m + 1 + 1) && is_place c 4 (m + 1 + 1 + 1 + 1)) (nat_eq pushed (popped + 64)) e in
    let points = and_parts (is_place c 2 (m + 1 + 1)) (is_place c 4 (m + 1 + 1 + 1 + 1)) parts.0 in
    record {
      traced = its_traced c m b (full_trace a b m) (object_entries.Overflow a 1) called its refl (λ i. refl) (λ i. refl) (λ i. refl);
      does = (
        record { one_reading = refl; claimed = refl; done = refl; contexts = (refl, tt); bodies = ((inr (inr (inl (b, refl))), refl), tt) },
        refl,
      );
      keeps = tt;
      turns = tt;
      reading = called.reading;
      begins = called.first;
      ends = place_passes c 4 (m + 1 + 1 + 1 + 1) less points.1;
      truth = (
        m,
        le_refl m,
        called.first,
        (
          m,
          le_refl m,
          tt,
          (
            m + 1 + 1,
            omega arith,
            (
              place_passes c 2 (m + 1 + 1) less points.0,
              eqb-true pushed (popped + 64) parts.1,
            ),
            (m + 1 + 1, le_refl (m + 1 + 1), tt, omega arith),
          ),
        ),
      );
      holds = tt;
      clock_steps = (seen_clock, le_refl 1);
      move_steps = (seen_moves, le_refl (m + 1 + 1 + 1 + 1));
    }

-- ---- the signal that is taken

-- the first one, which is stale, while the queue is full
pub taken_fits : FitsInTurn full_witness (at 0 131) calls.Sigwait (answers.StaleSignal 0 2) (record { clock = 1; moves = 520 })
    (record { clock = 1; moves = 521 })
unfolding after_entry changed
taken_fits = (
  record {
    traced = record {
      clock = refl;
      moves = refl;
      looks = looks (at 0 131);
      objects = objects;
      skips = λ i. subst (λ xs. IsPermutation xs []) (sym (skips (at 0 131) i)) (IsPermutation-refl []);
      signals = heard_passes full_witness no_others (at 0 131) refl;
    };
    does = ((1, [], refl, refl), tt);
    keeps = tt;
    turns = tt;
    reading = point_passes full_queue_script (at 0 131) 0 1 (clock_labels full_queue_record) refl;
    begins = place_passes 131 0 520 (omega arith) refl;
    ends = place_passes 131 1 521 (omega arith) refl;
    truth = (520, le_refl 520, tt, omega arith);
    holds = record { stamp = 130; had = refl; sent = omega arith; room = omega arith; stale = refl };
    clock_steps = (le_refl 1, le_refl 1);
    move_steps = (le_refl 520, le_refl 521);
  },
  record { moment = 520; behind = le_refl 520; no_later = le_refl 520; writes = refl },
)
  where
    objects : (i : ℕ) → own_entries (at 0 131) 1 (lines_of_object full_queue_record i) ≡ []
    objects zero = refl
    objects (suc i) = refl
