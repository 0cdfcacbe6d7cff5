-- What the functions of timers leave of the objects' pass that was lent to them, and what a run of them leaves.
use Rattle.std.proofs.Common.{◌≡◌, ℕ, List, refl, sym, subst, inl, inr, ◌∙◌}
use Rattle.std.specs.Prelude.{Option, Some, None, []}
use Rattle.ktime.specs.Readings.{ClockReading}
use Rattle.base_row.specs.declared.view.Opening.{Opening}
use Rattle.hr_timers.specs.declared.numbers.ClaimNumbers.{ClaimNumbers}
use Rattle.hr_timers.specs.Known.{KnownOfTimers}
use Rattle.hr_timers.specs.declared.expiry.ExpireAnswer.{ExpireAnswer}
use Rattle.hr_timers.specs.declared.handler.Restart.{Restart}
use Rattle.base_row.specs.declared.log.Receipt.{Receipt}
use Rattle.counted_row.specs.Views.{IsPassOfRow, Knows}
use Rattle.timer_setting.specs.declared.object_call.ObjectCall.{ObjectCall}
use Rattle.timer_objects.specs.Meaning.{object_meaning}
use Rattle.timer_objects.specs.Firings.{Fires, FiresBy, Firing, IsSameLoan, LeavesPass, firing}
use Rattle.timer_objects.specs.Known.{IsObjectsPass, KeepsObjectsPass, ObjectsOf, ObjectsPass, row_of}
use Rattle.seq_timer.specs.declared.context.Context.{Context}
use Rattle.hr_timers.specs.Expiring.{Expires}
use Rattle.hr_timers.proofs.ExpiryEnds.{run_leaves}
use Rattle.pass_names.specs.Passes.{Adds, Begins, Looks}
use Rattle.pass_names.proofs.Passes.{begins_refl, begins_trans, goes_refl, goes_trans}

-- ---- the pass

pub keeps_same : (p : ObjectsPass) → KeepsObjectsPass p p
keeps_same p = record { id = refl; seen = goes_refl p.knows.pass.seen; mine = begins_refl p.knows.pass.mine }

pub keeps_both : (p q r : ObjectsPass) → KeepsObjectsPass p q → KeepsObjectsPass q r → KeepsObjectsPass p r
keeps_both p q r a b = record { id = b.id ∙ a.id; seen = goes_trans a.seen b.seen; mine = begins_trans a.mine b.mine }

pub keeps_read : (p q : ObjectsPass) → Looks p.knows.pass q.knows.pass → KeepsObjectsPass p q
keeps_read p q looks =
    record { id = looks.id; seen = looks.seen; mine = subst (λ m. Begins p.knows.pass.mine m) (sym looks.mine) (begins_refl p.knows.pass.mine) }

pub keeps_added : (p q : ObjectsPass) (i : ℕ) (es : List _) → Adds p.knows.pass q.knows.pass i es → KeepsObjectsPass p q
keeps_added p q i es adds = record { id = adds.id; seen = adds.seen; mine = record { rest = _; whole = adds.mine } }

-- ---- the loan

pub leaves_same : (h : Firing) → LeavesPass h h
leaves_same h = record { loan = record { objects = refl; callbacks = refl; lent = refl }; keeps = keeps_same h.objects_pass.now; knows = λ k. k }

pub leaves_trans : (h i j : Firing) → LeavesPass h i → LeavesPass i j → LeavesPass h j
leaves_trans h i j a b = record {
  loan = record {
    objects = b.loan.objects ∙ a.loan.objects;
    callbacks = b.loan.callbacks ∙ a.loan.callbacks;
    lent = b.loan.lent ∙ a.loan.lent;
  };
  keeps = keeps_both h.objects_pass.now i.objects_pass.now j.objects_pass.now a.keeps b.keeps;
  knows = λ k. b.knows (a.knows k);
}

-- a function of a timer by itself, or of an object's
by_call : (o : Opening) (h h' : Firing) (v w : KnownOfTimers) (c : ClaimNumbers) (reading : ClockReading) (restart : Restart) (call : Option ObjectCall)
    → IsSameLoan h h' → FiresBy o h h' v w c reading restart call → LeavesPass h h'
by_call o h h' v w c reading restart None loan by = record {
  loan = loan;
  keeps = subst (λ (p : ObjectsPass). KeepsObjectsPass h.objects_pass.now p) (sym by.1) (keeps_same h.objects_pass.now);
  knows = subst (λ (p : ObjectsPass). Knows object_meaning h.objects_pass.now.knows → Knows object_meaning p.knows) (sym by.1) (λ k. k);
}
by_call o h h' v w c reading restart (Some call) loan (inl enters, same, log, stops) = record {
  loan = loan;
  keeps = keeps_added h.objects_pass.now h'.objects_pass.now c.timer _ enters.commits.adds;
  knows = λ k. enters.commits.knows;
}
by_call o h h' v w c reading restart (Some call) loan (inr skips, same, log, stops) = record {
  loan = loan;
  keeps = keeps_read h.objects_pass.now h'.objects_pass.now skips.reads.pass;
  knows = λ k. skips.reads.knows;
}

-- the function of a claim leaves it so
pub leaves_fired : (o : Opening) (h h' : Firing) (v w : KnownOfTimers) (c : ClaimNumbers) (reading : ClockReading) (restart : Restart)
    → Fires o h h' v w c reading restart → LeavesPass h h'
leaves_fired o h h' v w c reading restart fires = by_call o h h' v w c reading restart _ fires.loan fires.fires

-- a run of functions leaves the pass so
pub leaves_pass : (o : Opening) (reading : ClockReading) (x : Context) (base budget : ℕ) (k : KnownOfTimers) (h : Firing) (log : List Receipt) (k' : KnownOfTimers)
    (h' : Firing) (log' : List Receipt) (a : ExpireAnswer) → Expires firing o x base reading budget k h log k' h' log' a → LeavesPass h h'
leaves_pass o reading =
    run_leaves firing o reading LeavesPass leaves_same leaves_trans (λ h h' v w c restart fires. leaves_fired o h h' v w c reading restart fires)

-- a pass that belongs to these objects' row, with nothing held or claimed, is one of theirs
pub pass_left : (x y : ObjectsOf) (p : ObjectsPass) → y ≡ x → IsPassOfRow (row_of y) p → p.knows.held ≡ None → p.knows.claims ≡ [] → Knows object_meaning p.knows
    → IsObjectsPass x p
pass_left x y p e row idle unclaimed knows =
    record { row = subst (λ (z : ObjectsOf). IsPassOfRow (row_of z) p) e row; idle = idle; unclaimed = unclaimed; knows = knows }

-- so a pass that was lent is one of the objects after it
pub pass_after : (x : ObjectsOf) (h h' : Firing) → h.objects.now ≡ x → LeavesPass h h' → Knows object_meaning h.objects_pass.now.knows
    → IsObjectsPass x h'.objects_pass.now
pass_after x h h' e left knows =
    pass_left x h'.objects.now h'.objects_pass.now (left.loan.objects ∙ e) h'.row h'.idle h'.unclaimed (left.knows knows)
