use Rattle.std.proofs.Common.{◌∙◌, ap}
use Rattle.hr_timers.proofs.ExpiryTurns.{keeps_trans}
use Rattle.pass_names.proofs.Passes.{begins_trans, goes_trans}
use Rattle.timer_objects.proofs.Lending.{keeps_both}
use Rattle.object_uses.specs.declared.queued.Taken.{Taken}
use Rattle.object_uses.proofs.NextSignals.{keeps_next, keeps_queue}
use Rattle.object_uses.proofs.queued.take_signals.Goals as goal
use Rattle.object_uses.proofs.queued.take_signals.Goals.{in-Accepted, in-Spent}

pub loop-preserved : goal.loop-preserved
loop-preserved g c =
    let n = c.next_signal-next in
    let told = n.ensures in
    let was = c.loop.invariant in
    let both = keeps_next c.args.objects.now c.args.timers.now.about _ _ c.args.reading c.loop.signal_pass.knows n.new.signal_pass.knows n.result told.next in
    let queue = keeps_queue c.args.objects.now c.args.timers.now.about _ _ c.args.reading c.loop.signal_pass.knows n.new.signal_pass.knows n.result told.next in
    record {
      keeps = record {
        of_timers = told.pass;
        keeps = keeps_trans c.args.pass.now.known c.loop.pass.known n.new.pass.known was.keeps.keeps both.0;
        of_objects = told.objects;
        goes_on = keeps_both c.args.objects_pass.now c.loop.objects_pass n.new.objects_pass was.keeps.goes_on both.1;
      };
      signals = record {
        pass = told.signals;
        keeps = record {
          id = queue.id ∙ was.signals.keeps.id;
          seen = goes_trans was.signals.keeps.seen queue.seen;
          mine = begins_trans was.signals.keeps.mine queue.mine;
        };
      };
      more = elim c.match-next.branch [
        | in-Accepted w ↦ ap (λ (t : Taken). t.is_drained) w.taken-is ∙ was.more
        | in-Spent w ↦ ap (λ (t : Taken). t.is_drained) w.taken-is ∙ was.more
      ];
    }
