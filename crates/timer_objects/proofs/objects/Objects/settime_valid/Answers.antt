use Rattle.timer_objects.proofs.AnewMade.{settime_answered}
use Rattle.timer_objects.proofs.objects.Objects.settime_valid.Goals as goal

pub returns-in-Made-Settime-clause-made : goal.returns-in-Made-Settime-clause-made
returns-in-Made-Settime-clause-made g c =
    settime_answered c.args.self.now c.args.timers.now.about _ _ c.args.id c.args.valid c.in-Made-Settime.reply c.in-Made-Settime.answer c.in-Made-Settime.ensures.ends
    c.in-Made-Settime.reply-is
