use Rattle.std.proofs.Common.{subst}
use Rattle.std.specs.Prelude.{Bool}
use Rattle.base_row.specs.Logs.{kept}
use Rattle.hr_timers.specs.Logged.{FinishesLogged}
use Rattle.hr_timers.proofs.ExpiryTurns.{finish_noted, still_has}
use Rattle.hr_timers.proofs.expiry.run.Goals as goal

pub finish_logged-requires-clause-claim : goal.finish_logged-requires-clause-claim
finish_logged-requires-clause-claim g c = still_has c.args.timers.now.about c.args.pass.now.known c.fire-restart.new.pass.known c.args.claim
    c.fire-restart.ensures.keeps c.requires.claim

pub returns-clause-ran : goal.returns-clause-ran
returns-clause-ran g c =
    let o = c.args.timers.now.about in
    let done = c.fire-restart.new.pass.known in
    let last = c.finish_logged.new.pass.known in
    let log = c.args.log.now in
    let new = c.finish_logged.new.sink in
    let logged = subst (λ (b : Bool). FinishesLogged kept o done last c.args.claim b c.finish_logged.result log new) c.asks.ensures
    c.finish_logged.ensures.finishes in (
      record {
        done = done;
        restart = c.fire-restart.result;
        did = c.fire-restart.ensures.did;
        keeps = c.fire-restart.ensures.keeps;
        finished = c.finish_logged.result;
        finishes = logged.finishes;
      },
      finish_noted o done last c.args.claim c.fire-restart.result c.finish_logged.result log new logged,
    )
