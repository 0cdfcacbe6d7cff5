use Rattle.timer_objects.proofs.AnewMade.{interrupt_answered}
use Rattle.timer_objects.proofs.objects.Objects.interrupt.Goals as goal

pub returns-in-Made-Interrupt-clause-interrupts : goal.returns-in-Made-Interrupt-clause-interrupts
returns-in-Made-Interrupt-clause-interrupts g c =
    interrupt_answered c.args.self.now c.args.timers.now.about _ _ c.args.id c.args.reading c.in-Made-Interrupt.reply c.in-Made-Interrupt.answer c.in-Made-Interrupt.ensures.ends
    c.in-Made-Interrupt.reply-is
