use Rattle.std.proofs.Common.{◌<◌, ◌≤◌, arith, length, refl}
use Rattle.std.specs.Prelude.{get_or}
use Rattle.std.proofs.lemmas.List.Recursion.{max_bounds}
use Rattle.timer_objects.specs.Callbacks.{bases_for, bases_of}
use Rattle.timer_objects.specs.declared.callback.Callback.TheVariants as callbacks
use Rattle.timer_objects.proofs.queued_firing.QueuedFiringWithLogObjectLogHandler.fire.Goals as goal

pub run-requires-clause-bases : goal.run-requires-clause-bases
run-requires-clause-bases g c =
    let mine = c.args.self.now in
    let t = c.timer-timer.result in
    let within : t < length mine.callbacks.now = omega (arith, c.timer-timer.ensures, c.requires.claim.within, c.requires.suits.timers, mine.many) in
    let least : bases_for (get_or mine.callbacks.now t callbacks.Once) ≤ bases_of mine.callbacks.now =
    max_bounds bases_of bases_for refl (λ x xs. refl) mine.callbacks.now t callbacks.Once within in
    omega (arith, least, c.requires.suits.bases)
