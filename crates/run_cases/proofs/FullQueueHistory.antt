-- The histories of the record with a full queue: the timer's with its base, and its object's.
use Rattle.std.proofs.Common.{◌≡◌, ◌+◌, ◌<◌, ◌&&◌, ℕ, zero, suc, Bool, true, false, nat_le, [], ◌∷◌, map, arith, refl, sym, ap, ◌∙◌, subst, inl, inr}
use Rattle.std.proofs.lemmas.Bool.Decides.{nat_tests}
use Rattle.ktime.specs.declared.clock_id.ClockId.TheVariants as clocks
use Rattle.ktime.specs.Times.{passed}
use Rattle.record_text.specs.declared.record.ObjectEntry.TheVariants as object_entries
use Rattle.record_text.specs.declared.record.ObjectLine.{ObjectLine}
use Rattle.seq_timer.specs.Contents.{no_content}
use Rattle.seq_timer.specs.Events.{Event}
use Rattle.seq_timer.specs.declared.event.Reply.{Reply}
use Rattle.seq_timer.specs.Standings.{first_standing}
use Rattle.seq_timer.specs.Steps.{Needs, Timer, after, opening, reply_to}
use Rattle.seq_timer.specs.Systems.{AreSystemSteps, BaseContent, FitsBase, IsSystemHistory, IsSystemStep, System, after_entry, changed, updated}
use Rattle.seq_timer.specs.declared.system.TimerEntry.{TimerEntry}
use Rattle.script_text.specs.Declarations.{declared_of, declareds_of, kind_of, terms_of}
use Rattle.run_history.specs.Histories.{entry_shown}
use Rattle.run_history.specs.Witnesses.{entries_in, entry_of_move}
use Rattle.record_text.specs.declared.record.Entry.{Entry}
use Rattle.run_cases.specs.FullQueue.{full_queue_record, full_queue_script, set_and_signalled}
use Rattle.posix_timer.specs.declared.queued_state.QueuedState.{QueuedState}
use Rattle.posix_timer.specs.Queued.{queued_table}
use Rattle.timer_setting.specs.StepTables.{AreCalls}
use Rattle.timer_setting.specs.declared.phase.Phase.TheVariants as phases
use Rattle.run_history.specs.Objects.{IsLegalObject}
use Rattle.run_history.specs.ObjectEntries.{object_entry_shown}
use Rattle.run_cases.specs.Lines.{claim_entry, finish_entry, set_start}
use Rattle.run_cases.proofs.FullQueue.{full_witness, moves_from}
use Rattle.run_cases.proofs.Tests.{le}

-- ---- the timer and its base

-- the timer as it rests behind so many entries, kept at this time
abbrev pub resting : ℕ → ℕ → Timer
resting a expires = record (opening (declared_of full_queue_script 0) (terms_of full_queue_script)) { soft = expires; expires = expires; stamp = a }

-- the base that has it
abbrev pub base_with : Timer → BaseContent
base_with t = record { content = no_content; states = t ∷ []; standing = first_standing }

-- the timer and its base are these
pub record Has (u : System) (t : Timer) (b : BaseContent) : Type 0 where
  pub timer : u.timers 0 ≡ t
  pub base : u.bases 0 ≡ b

-- an event of the timer on base 0 may come next, and this is its reply
pub record MayBe (t : Timer) (b : BaseContent) (e : Event) (told : Reply) : Type 0 where
  pub needs : Needs t e
  pub reply : told ≡ reply_to t e
  pub base : FitsBase 1 b 0 t e

-- then it is a step, and this is what comes of it
stepped : (u : System) (t : Timer) (b : BaseContent) (e : Event) (reply : Reply) → t.base ≡ 0 → Has u t b → MayBe t b e reply
    → IsSystemStep 1 1 u (record { timer = 0; event = e; reply = reply })
    × Has (after_entry u (record { timer = 0; event = e; reply = reply })) (after t e) (changed 0 t e b)
unfolding after_entry
stepped u t b e reply first has may = (
  record {
    within = omega arith;
    needs = subst (λ t. Needs t e) (sym has.timer) may.needs;
    reply = may.reply ∙ ap (λ t. reply_to t e) (sym has.timer);
    base = subst (λ t. FitsBase 1 (u.bases t.base) 0 t e) (sym has.timer)
        (subst (λ n. FitsBase 1 (u.bases n) 0 t e) (sym first) (subst (λ b. FitsBase 1 b 0 t e) (sym has.base) may.base));
  },
  record {
    timer = ap (λ t. after t e) has.timer;
    base = subst (λ t'. updated u.bases t'.base (changed 0 t' e (u.bases t'.base)) 0 ≡ changed 0 t e b) (sym has.timer)
        (subst (λ n. updated u.bases n (changed 0 t e (u.bases n)) 0 ≡ changed 0 t e b) (sym first) (ap (changed 0 t e) has.base));
  },
)

-- what is left of the order may come behind these three entries
record Cycle (u : System) (a x : ℕ) (e1 e2 e3 : TimerEntry) : Type 0 where
  start : IsSystemStep 1 1 u e1
  claim : IsSystemStep 1 1 (after_entry u e1) e2
  finish : IsSystemStep 1 1 (after_entry (after_entry u e1) e2) e3
  rests : Has (after_entry (after_entry (after_entry u e1) e2) e3) (resting (a + 1 + 1 + 1) 100) (base_with (resting (a + 1 + 1 + 1) 100))

abbrev entry_of : Entry → TimerEntry
entry_of e = record { timer = 0; event = (entry_shown full_queue_record.clock e).event; reply = (entry_shown full_queue_record.clock e).reply }

cycle : (u : System) (a x : ℕ) → a < 1000 → Has u (resting a x) (base_with (resting a x))
    → Cycle u a x (entry_of (set_start 100 1 false)) (entry_of (claim_entry 0 1 (a + 1))) (entry_of (finish_entry false (a + 1)))
unfolding changed passed
cycle u a x less has =
    let e1 = entry_of (set_start 100 1 false) in
    let e2 = entry_of (claim_entry 0 1 (a + 1)) in
    let e3 = entry_of (finish_entry false (a + 1)) in
    let t0 = resting a x in
    let b0 = base_with t0 in
    let t1 = after t0 e1.event in
    let b1 = changed 0 t0 e1.event b0 in
    let t2 = after t1 e2.event in
    let b2 = changed 0 t1 e2.event b1 in
    let one = stepped u t0 b0 e1.event e1.reply refl has (record {
      needs = (inr refl, inl less);
      reply = refl;
      base = record { needs = tt; online = λ e. refl; heir = λ e. absurd (cc) };
    }) in
    let two = stepped (after_entry u e1) t1 b1 e2.event e2.reply refl one.1 (record {
      needs = (refl, refl, refl, refl, le refl);
      reply = refl;
      base = record { needs = (refl, refl); online = λ e. absurd (cc); heir = λ e. absurd (cc) };
    }) in
    let three = stepped (after_entry (after_entry u e1) e2) t2 b2 e3.event e3.reply refl two.1 (record {
      needs = refl;
      reply = refl;
      base = record { needs = tt; online = λ e. absurd (cc); heir = λ e. absurd (cc) };
    }) in
    record { start = one.0; claim = two.0; finish = three.0; rests = record { timer = three.1.timer; base = three.1.base } }

-- so often, and once more, it is so
steps : (u : System) (n c a b p x : ℕ) → a + (n + n + n) < 900 → Has u (resting a x) (base_with (resting a x))
    → AreSystemSteps 1 1 u (map (entry_of_move full_queue_record.clock) (moves_from n c a b p))
steps u zero c a b p x few has =
    let c = cycle u a x (omega (arith, few)) has in (tt, (c.start, (tt, (c.claim, (tt, (tt, (c.finish, (tt, tt))))))))
steps u (suc n) c a b p x few has =
    let y = cycle u a x (omega (arith, few)) has in (
      tt,
      (
        y.start,
        (
          tt,
          (
            y.claim,
            (
              tt,
              (
                tt,
                (
                  tt,
                  (
                    y.finish,
                    steps (after_entry (after_entry (after_entry u (entry_of (set_start 100 1 false)))
                        (entry_of (claim_entry 0 1 (a + 1)))) (entry_of (finish_entry false (a + 1)))) n (c + 1 + 1) (a + 1 + 1 + 1) (b + 1 + 1) (p + 1) 100
                        (omega (arith, few)) y.rests,
                  ),
                ),
              ),
            ),
          ),
        ),
      ),
    )

-- law: the moves are a history
pub is_history : IsSystemHistory 1 (declareds_of full_queue_script) (terms_of full_queue_script) (entries_in full_witness)
is_history = (tt, steps _ 64 1 0 0 0 0 (omega arith) (record { timer = refl; base = refl }))

-- ---- the object

-- the object as it stands behind so many entries: none of its signals was accepted
abbrev pub standing : Bool → ℕ → ℕ → QueuedState
standing pending signalled b = record {
  timer = record {
    clock = clocks.Monotonic;
    base = 0;
    interval = 0;
    phase = phases.Idle;
    pending = pending;
    overrun = 0;
    stamp = b;
    limit = 1000;
  };
  signalled = signalled;
}

own_expiry : (g : ℕ) → nat_le g g ≡ true
own_expiry g = grind (arith, nat_tests)

-- its lines from there on
calls_from : (n c a b signalled : ℕ) (pending : Bool) → b + (n + n) < 900
    → AreCalls queued_table (standing pending signalled b) (map (λ (l : ObjectLine). object_entry_shown full_queue_record.clock l.entry)
    (set_and_signalled (λ g. object_entries.Overflow g 1) n c a))
calls_from zero c a b signalled pending few = (
  (omega (arith, few), refl, le refl, le refl, (λ e. absurd (cc), λ e. absurd (cc))),
  refl,
  ((omega (arith, few), ap (λ t. t && true) (own_expiry (a + 1))), refl, tt),
)
calls_from (suc n) c a b signalled pending few = (
  (omega (arith, few), refl, le refl, le refl, (λ e. absurd (cc), λ e. absurd (cc))),
  refl,
  (
    omega (arith, few),
    rw (own_expiry (a + 1)) refl,
    rw (own_expiry (a + 1)) (calls_from n (c + 1 + 1) (a + 1 + 1 + 1) (b + 1 + 1) (b + 1 + 1) true (omega (arith, few))),
  ),
)

-- law: they are a history of one object
pub is_object_history : IsLegalObject full_queue_script full_queue_record 0 (kind_of full_queue_script 0)
is_object_history = calls_from 64 1 0 0 0 false (omega arith)
