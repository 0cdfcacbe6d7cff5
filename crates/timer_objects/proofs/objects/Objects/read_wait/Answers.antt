use Rattle.std.proofs.Common.{arith, subst, ℕ}
use Rattle.clock_cell.specs.Views.{seen_reading}
use Rattle.timer_objects.specs.BlockingReads.{ReadsBlocking}
use Rattle.timer_objects.specs.Rearming.{caller_of}
use Rattle.timer_objects.proofs.Waited.{read_after, reads_blocking}
use Rattle.timer_objects.proofs.objects.Objects.read_wait.Goals as goal

pub returns-in-Some-tried-clause-reads : goal.returns-in-Some-tried-clause-reads
returns-in-Some-tried-clause-reads g c =
    let x = c.args.self.now in
    let o = c.args.timers.now.about in
    let tried = c.try_read-tried.new in
    let old = caller_of c.args.pass.now c.args.objects_pass.now c.args.log.now c.args.object_log.now in
    let mid = caller_of c.loop.pass c.loop.objects_pass c.loop.log c.loop.object_log in
    let new = caller_of tried.pass tried.objects_pass tried.log tried.object_log in
    let reading = seen_reading tried.clock_pass.knows in
    let e = c.in-Some-tried.ended in
    let a = c.answer_of.result in
    let id = c.id-id.result in
    subst (λ (i : ℕ). ReadsBlocking x o old new i c.args.len reading a) c.id-id.ensures
    (reads_blocking x o old new id reading c.args.len (omega (arith, c.if-len-lt-COUNT_LENGTH.false)) e a
    (read_after x o old mid new id reading e c.loop.invariant.waits c.in-Some-tried.ensures.reads) c.answer_of.ensures)
