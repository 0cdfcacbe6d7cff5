-- What the functions of an expiry run leave, the run leaves; and a run by a handler as one by another handler that is in it.
use Rattle.std.proofs.Common.{ℕ, zero, suc, List, sym, ap, subst}
use Rattle.ktime.specs.Readings.{ClockReading}
use Rattle.seq_timer.specs.declared.context.Context.{Context}
use Rattle.base_row.specs.declared.view.Opening.{Opening}
use Rattle.hr_timers.specs.declared.numbers.ClaimNumbers.{ClaimNumbers}
use Rattle.hr_timers.specs.Known.{KnownOfTimers}
use Rattle.hr_timers.specs.declared.expiry.ExpireAnswer.{ExpireAnswer}
use Rattle.hr_timers.specs.declared.expiry.ExpireAnswer.TheVariants as expiries
use Rattle.hr_timers.specs.declared.handler.Restart.{Restart}
use Rattle.base_row.specs.declared.log.Receipt.{Receipt}
use Rattle.hr_timers.specs.Handlers.{Meaning}
use Rattle.hr_timers.specs.Expiring.{Expires, Turns}

-- what each function of a run leaves, the run leaves
module _ {A : Type 0} (m : Meaning A) (o : Opening) (reading : ClockReading) (Leaves : A → A → Type 0) (same : (h : A) → Leaves h h)
    (then : (h i j : A) → Leaves h i → Leaves i j → Leaves h j)
    (each : (h h' : A) (v w : KnownOfTimers) (c : ClaimNumbers) (restart : Restart) → m.did o h h' v w c reading restart → Leaves h h') where
  turns_leave : (x : Context) (base n : ℕ) (k : KnownOfTimers) (h : A) (log : List Receipt) (k' : KnownOfTimers) (h' : A) (log' : List Receipt)
      → Turns m o x base reading n k h log k' h' log' → Leaves h h'
  turns_leave x base zero k h log k' h' log' turns = subst (Leaves h) (sym turns.1) (same h)
  turns_leave x base (suc n) k h log k' h' log' turns =
      let turn = turns.4 in
      then h turns.1 h' (turns_leave x base n k h log turns.0 turns.1 turns.2 turns.3)
      (each turns.1 h' turn.claimed turn.ran.done turn.claim turn.ran.restart turn.ran.did)

  -- law: so does a run
  pub run_leaves : (x : Context) (base budget : ℕ) (k : KnownOfTimers) (h : A) (log : List Receipt) (k' : KnownOfTimers) (h' : A) (log' : List Receipt)
      (a : ExpireAnswer) → Expires m o x base reading budget k h log k' h' log' a → Leaves h h'
  run_leaves x base budget k h log k' h' log' (expiries.More fired) is = turns_leave x base fired k h log k' h' log' is.1
  run_leaves x base budget k h log k' h' log' (expiries.Done fired) is = turns_leave x base fired k h log is.1.0 h' log' is.1.1
  run_leaves x base budget k h log k' h' log' (expiries.BaseBusy fired t g) is = turns_leave x base fired k h log is.1.0 h' log' is.1.1

-- `of` is a handler that is in another one, which does what that one does
module _ {A B : Type 0} (m : Meaning A) (n : Meaning B) (of : A → B) (o : Opening) (reading : ClockReading)
    (does : (h h' : A) (v w : KnownOfTimers) (c : ClaimNumbers) (restart : Restart) → m.did o h h' v w c reading restart
    → n.did o (of h) (of h') v w c reading restart) where
  turns_of : (x : Context) (base many : ℕ) (k : KnownOfTimers) (h : A) (log : List Receipt) (k' : KnownOfTimers) (h' : A) (log' : List Receipt)
      → Turns m o x base reading many k h log k' h' log' → Turns n o x base reading many k (of h) log k' (of h') log'
  turns_of x base zero k h log k' h' log' turns = (turns.0, ap of turns.1, turns.2)
  turns_of x base (suc many) k h log k' h' log' turns =
      let ran = turns.4.ran in (
        turns.0,
        of turns.1,
        turns.2,
        turns_of x base many k h log turns.0 turns.1 turns.2 turns.3,
        record {
          claim = turns.4.claim;
          claimed = turns.4.claimed;
          claims = turns.4.claims;
          ran = record {
            done = ran.done;
            restart = ran.restart;
            did = does turns.1 h' turns.4.claimed ran.done turns.4.claim ran.restart ran.did;
            keeps = ran.keeps;
            finished = ran.finished;
            finishes = ran.finishes;
          };
          receipts = turns.4.receipts;
        },
      )

  -- law: a run by the outer one is a run by the inner one
  pub expires_of : (x : Context) (base budget : ℕ) (k : KnownOfTimers) (h : A) (log : List Receipt) (k' : KnownOfTimers) (h' : A) (log' : List Receipt)
      (a : ExpireAnswer) → Expires m o x base reading budget k h log k' h' log' a → Expires n o x base reading budget k (of h) log k' (of h') log' a
  expires_of x base budget k h log k' h' log' (expiries.More fired) is = (is.0, turns_of x base fired k h log k' h' log' is.1)
  expires_of x base budget k h log k' h' log' (expiries.Done fired) is = (is.0, (is.1.0, turns_of x base fired k h log is.1.0 h' log' is.1.1, is.1.2))
  expires_of x base budget k h log k' h' log' (expiries.BaseBusy fired t g) is =
      (is.0, (is.1.0, turns_of x base fired k h log is.1.0 h' log' is.1.1, is.1.2))
