use Rattle.std.proofs.Common.{◌<◌, sym, subst, ◌∙◌}
use Rattle.seq_timer.specs.Systems.{IsOn}
use Rattle.base_row.specs.Calls.{timer_seen}
use Rattle.hr_timers.proofs.Making.{looks_refl}
use Rattle.hr_timers.proofs.Standing.{still_runs}
use Rattle.hr_timers.proofs.trying_once.hold_claim_once.Goals as goal

pub lock_once-requires-clause-within : goal.lock_once-requires-clause-within
lock_once-requires-clause-within c =
    let o = c.args.row.now.about in
    let u = c.args.pass.now.knows in
    (still_runs o u u c.args.claim c.fresh.ensures.fresh c.requires.rest.row.about c.known.ensures c.fresh.ensures.some
    (looks_refl u) c.requires.claim).2

pub returns-clause-holds : goal.returns-clause-holds
returns-clause-holds c =
    let o = c.args.row.now.about in
    let v = c.lock_once.new.pass.knows in
    let told = still_runs o c.args.pass.now.knows v c.args.claim c.fresh.ensures.fresh c.in_ok-held.ensures.row.about c.known-2.ensures
    c.fresh.ensures.some c.in_ok-held.ensures.looks c.requires.claim in
    record {
      holds = record {
        row = c.in_ok-held.ensures.row;
        within = subst (λ b. b < o.bases) (sym c.in_ok-held.ensures.at) told.2;
        held = c.in_ok-held.ensures.held;
        free = c.in_ok-held.ensures.looks.carry ∙ c.requires.rest.rests.carry;
      };
      within = c.requires.claim.within;
      on = subst (λ b. IsOn b (timer_seen o v c.args.claim.timer)) (sym c.in_ok-held.ensures.at) told.1;
    }

pub returns-clause-runs : goal.returns-clause-runs
returns-clause-runs c = (still_runs c.args.row.now.about c.args.pass.now.knows c.lock_once.new.pass.knows c.args.claim c.fresh.ensures.fresh
    c.in_ok-held.ensures.row.about c.known-2.ensures c.fresh.ensures.some c.in_ok-held.ensures.looks c.requires.claim).0
