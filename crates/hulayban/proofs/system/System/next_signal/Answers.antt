use Rattle.std.proofs.Common.{rules, ◌∙◌}
use Rattle.timer_objects.specs.Signals.{TakesNext}
use Rattle.hulayban.proofs.Rooms.{from_empty, next_named}
use Rattle.hulayban.specs.Systems.{HandleOf}
use Rattle.hulayban.proofs.system.System.next_signal.Goals as goal

pub returns-clause-ok : goal.returns-clause-ok
returns-clause-ok g c =
    let done = c.next_signal-next in
    let mid : HandleOf = record { timers = c.me.inside.timers; objects = c.me.inside.objects; clock = c.me.inside.clock; signals = c.me.inside.signals } in record {
      keeps = record {
        is = record {
          timers = search rules;
          unclaimed = search rules;
          objects = search rules;
          objects_name = search rules;
          clock = search rules;
          clock_name = search rules;
          known = search rules;
          heard = search rules;
          signals = search rules;
          signals_name = next_named _ _ _ _ _ _ _ _ done.ensures.next ∙ search rules;
          ring = search rules;
        };
        name = search rules;
      };
      mid = mid;
      reading = c.now-reading.result;
      reads = search rules;
      log = done.new.log.receipts;
      object_log = done.new.object_log.receipts;
      does = from_empty (λ y v w reading. TakesNext y.objects y.timers.about v w c.me.inside.signals.knows done.new.signal_pass.knows reading done.result) _ _ mid _ _ _ _
          c.self.view_is c.in_ok-make_room.ensures done.ensures.next;
      clock = search rules;
    }
