use Rattle.std.proofs.Common.{refl, [], ap, sym, ◌∙◌, arith}
use Rattle.std.proofs.lemmas.List.{append-nil}
use Rattle.pass_names.proofs.Passes.{begins_trans}
use Rattle.seq_timer.specs.Systems.{entries_of}
use Rattle.std.specs.Prelude.{is_some}
use Rattle.seq_timer.specs.Steps.{Timer}
use Rattle.hr_timers.specs.declared.answer.StartAnswer.TheVariants as starts
use Rattle.hr_timers.specs.declared.moving.Arrival.{Arrival}
use Rattle.hr_timers.specs.Known.{timer_then}
use Rattle.hr_timers.proofs.Moments.{stamp_rises}
use Rattle.hr_timers.proofs.Ways.{finds_here}
use Rattle.hr_timers.proofs.starting.start_held.Goals as goal

pub returns-then-stamp-limit-clause-starts : goal.returns-then-stamp-limit-clause-starts
returns-then-stamp-limit-clause-starts g c = λ low before on.
    let o = c.args.row.now.about in
    let v = c.args.pass.now.knows in
    let w = c.leave.new.pass.knows in
    let is = c.state_of-state.ensures in
    record {
      starts = record {
        at = v.seen;
        sent = [];
        last = c.args.asked.now.base;
        on_way = finds_here o w.seen c.args.timer low (timer_then o v.seen c.args.timer).stamp c.args.asked.now.base
            (begins_trans before c.leave.ensures.looks.seen) (stamp_rises o low v.seen c.args.timer before) on;
        made = record {
          from = before;
          seen = c.leave.ensures.looks.seen;
          own = c.leave.ensures.own c.requires.holds.on ∙ sym (append-nil (entries_of c.args.timer v.seen));
          mine = c.leave.ensures.looks.mine ∙ sym (append-nil v.mine);
          id = c.leave.ensures.looks.id;
        };
        fits = (
          c.requires.holds.on.still,
          omega (arith, c.stamp-stamp.ensures, c.limit.ensures, ap (λ (t : Timer). t.stamp) is, ap (λ (t : Timer). t.terms.limit) is, c.if-stamp-limit.true),
          c.stamp-stamp.ensures ∙ ap (λ (t : Timer). t.stamp) is,
        );
        claims = c.leave.ensures.looks.claims;
      };
      logged = refl;
    }

pub returns-clause-starts : goal.returns-clause-starts
returns-clause-starts g c = λ low before on.
    let v = c.args.pass.now.knows in
    let is = c.state_of-state.ensures in
    let r = c.enter_start-arrival.ensures.starts in
    let was = c.is_some-was_armed.ensures ∙ (ap is_some c.armed.ensures ∙ ap (λ (t : Timer). is_some t.armed) is) in
    record {
      starts = record {
        at = v.seen;
        sent = r.sent;
        last = r.last;
        on_way = r.on_way low before on;
        made = record { from = before; seen = r.adds.seen; own = r.adds.own; mine = r.adds.mine; id = r.adds.id };
        fits = (
          c.requires.holds.on.still,
          omega (arith, c.stamp-stamp.ensures, c.limit.ensures, ap (λ (t : Timer). t.stamp) is, ap (λ (t : Timer). t.terms.limit) is, c.if-stamp-limit.false),
          (λ i. let a : Arrival = r.told i in starts.Started (was i) a.generation a.asked a.outs a.placement),
        );
        claims = c.enter_start-arrival.ensures.claims;
      };
      logged = r.logged;
    }
