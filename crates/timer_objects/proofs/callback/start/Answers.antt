use Rattle.std.proofs.Common.{[], ◌∷◌, ◌++◌, subst, ◌∙◌}
use Rattle.ktime.specs.declared.mode.Mode.TheVariants as modes
use Rattle.seq_timer.specs.Calls.{asked_for}
use Rattle.seq_timer.specs.declared.event.EventBy.TheVariants as events
use Rattle.seq_timer.specs.declared.observation.Observation.TheVariants as observations
use Rattle.base_row.specs.Logs.{kept}
use Rattle.hr_timers.specs.declared.answer.StartAnswer.TheVariants as starts
use Rattle.hr_timers.specs.Logged.{StartsLogged}
use Rattle.timer_objects.specs.Callbacks.{look_receipt}
use Rattle.timer_objects.proofs.Running.{start_entered, start_refused, start_room}
use Rattle.timer_objects.proofs.callback.start.Given.{Over}
use Rattle.timer_objects.proofs.callback.start.Goals as goal

-- the start as one of the claim's timer
made : (g : Over) (c : goal.In_default g) → let a = c.in_default in
    StartsLogged kept c.args.timers.now.about c.args.pass.now.known c.start_logged.new.pass.known c.args.claim.now.timer
    (asked_for modes.Rel c.args.ns 0 c.args.base c.args.reading) (starts.Started a.field-0 a.field-1 a.field-2 a.field-3 a.field-4) c.args.log.now c.start_logged.new.sink
made g c =
    let a = c.in_default in
    subst (λ t. StartsLogged kept c.args.timers.now.about c.args.pass.now.known c.start_logged.new.pass.known t
    (asked_for modes.Rel c.args.ns 0 c.args.base c.args.reading) (starts.Started a.field-0 a.field-1 a.field-2 a.field-3 a.field-4) c.args.log.now
    c.start_logged.new.sink) c.timer-timer.ensures c.in_default.ensures.starts

pub returns-in-Spent-clause-runs : goal.returns-in-Spent-clause-runs
returns-in-Spent-clause-runs g c =
    let o = c.args.timers.now.about in
    let v = c.args.pass.now.known in
    let w = c.start_logged.new.pass.known in
    let mine = c.args.claim.now in
    let asked = asked_for modes.Rel c.args.ns 0 c.args.base c.args.reading in
    let log = c.args.log.now in
    let mid = c.start_logged.new.sink in
    let n = c.in-Spent.stamp in
    start_refused o v w mine c.start_logged.ensures.pass.knows c.requires.claim c.args.ns c.args.base c.args.reading log mid n c.note_look.new.self.receipts
    (subst (λ t. StartsLogged kept o v w t asked (starts.Spent n) log mid) c.timer-timer.ensures c.in-Spent.ensures.starts)
    (c.note_look.ensures.receipts ∙ (λ i. mid.receipts ++ record (look_receipt mine n (events.Start asked) observations.Spent) { timer = c.timer-timer.ensures i } ∷ []))

pub returns-in_default-clause-runs : goal.returns-in_default-clause-runs
returns-in_default-clause-runs g c = start_entered _ _ _ _ c.start_logged.ensures.pass.knows c.requires.claim _ _ _ _ _ _ _ _ _ _ (made g c)

pub returns-in_default-clause-spare : goal.returns-in_default-clause-spare
returns-in_default-clause-spare g c = start_room _ _ _ _ c.start_logged.ensures.pass.knows c.requires.claim _ _ _ _ _ _ _ _ _ _ (made g c)
