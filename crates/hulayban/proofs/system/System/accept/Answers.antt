use Rattle.std.proofs.Common.{rules}
use Rattle.timer_objects.specs.Calls.{Accepts}
use Rattle.hulayban.proofs.Rooms.{from_empty}
use Rattle.hulayban.specs.Systems.{HandleOf}
use Rattle.hulayban.proofs.system.System.accept.Goals as goal

pub returns-clause-ok : goal.returns-clause-ok
returns-clause-ok g c =
    let done = c.accept-answer in
    let mid : HandleOf = record { timers = c.me.inside.timers; objects = c.me.inside.objects; clock = c.me.inside.clock; signals = c.me.inside.signals } in record {
      keeps = search rules;
      mid = mid;
      reading = c.now-reading.result;
      reads = search rules;
      log = done.new.log.receipts;
      object_log = done.new.object_log.receipts;
      does = from_empty (λ y v w reading. Accepts y.objects y.timers.about v w c.args.id reading done.result) _ _ mid _ _ _ _ c.self.view_is c.in_ok-make_room.ensures done.ensures.accepts;
      clock = search rules;
      signals = search rules;
    }
