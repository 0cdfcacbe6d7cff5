use Rattle.timer_objects.proofs.AnewMade.{sleep_answered}
use Rattle.timer_objects.proofs.objects.Objects.sleep_valid.Goals as goal

pub returns-in-Made-Sleep-clause-made : goal.returns-in-Made-Sleep-clause-made
returns-in-Made-Sleep-clause-made g c =
    sleep_answered c.args.self.now c.args.timers.now.about _ _ c.args.id c.args.valid c.in-Made-Sleep.reply c.in-Made-Sleep.answer c.in-Made-Sleep.ensures.ends
    c.in-Made-Sleep.reply-is
