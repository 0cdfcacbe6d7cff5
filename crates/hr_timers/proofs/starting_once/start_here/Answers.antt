use Rattle.std.proofs.Common.{refl, inl, [], ap, sym, ◌∙◌, arith}
use Rattle.std.proofs.lemmas.List.{append-nil}
use Rattle.std.specs.Prelude.{is_some}
use Rattle.pass_names.proofs.Passes.{begins_trans}
use Rattle.seq_timer.specs.Calls.{moves_first}
use Rattle.seq_timer.specs.Steps.{Timer}
use Rattle.seq_timer.specs.Systems.{entries_of}
use Rattle.hr_timers.specs.declared.answer.StartAnswer.TheVariants as starts
use Rattle.hr_timers.specs.declared.moving.Arrival.{Arrival}
use Rattle.hr_timers.specs.Known.{timer_then}
use Rattle.hr_timers.proofs.Moments.{stamp_rises}
use Rattle.hr_timers.proofs.Ways.{finds_here}
use Rattle.hr_timers.proofs.starting_once.start_here.Goals as goal

pub returns-then-stamp-limit-clause-starts : goal.returns-then-stamp-limit-clause-starts
returns-then-stamp-limit-clause-starts c = λ low before on.
    let o = c.args.row.now.about in
    let v = c.args.pass.now.knows in
    let w = c.leave.new.pass.knows in
    let is = c.state_of-state.ensures in (
      record {
        at = v.seen;
        sent = [];
        last = c.args.asked.now.base;
        on_way = finds_here o w.seen c.args.timer low (timer_then o v.seen c.args.timer).stamp c.args.asked.now.base
            (begins_trans before c.leave.ensures.looks.seen) (stamp_rises o low v.seen c.args.timer before) on;
        made = record {
          from = before;
          seen = c.leave.ensures.looks.seen;
          own = c.leave.ensures.own c.requires.holds.on ∙ sym (append-nil (entries_of c.args.timer v.seen));
          mine = c.leave.ensures.looks.mine ∙ sym (append-nil v.mine);
          id = c.leave.ensures.looks.id;
        };
        fits = (
          c.requires.holds.on.still,
          omega (arith, c.stamp-stamp.ensures, c.limit.ensures, ap (λ (t : Timer). t.stamp) is, ap (λ (t : Timer). t.terms.limit) is, c.if-stamp-limit.true),
          c.stamp-stamp.ensures ∙ ap (λ (t : Timer). t.stamp) is,
        );
        claims = c.leave.ensures.looks.claims;
      },
      refl,
    )

pub returns-then-moves_first-clause-starts : goal.returns-then-moves_first-clause-starts
returns-then-moves_first-clause-starts c = λ low before on.
    let o = c.args.row.now.about in
    let v = c.args.pass.now.knows in
    let looks = c.leave-then-moves_first.ensures.looks in
    let is = c.state_of-state.ensures in
    let to = c.args.asked.now.base in
    record {
      at = v.seen;
      looks = record {
        looks = record { seen = begins_trans before looks.seen; mine = looks.mine; id = looks.id; claims = looks.claims };
        from = before;
        seen = looks.seen;
      };
      base = sym (c.base-base.ensures ∙ ap (λ (t : Timer). t.base) is);
      moves = inl (
        to,
        finds_here o c.leave-then-moves_first.new.pass.knows.seen c.args.timer low (timer_then o v.seen c.args.timer).stamp to
            (begins_trans before looks.seen) (stamp_rises o low v.seen c.args.timer before) on,
        ap (λ (t : Timer). moves_first t to) (sym is) ∙ (sym c.moves_first.ensures ∙ c.if-moves_first.true),
      );
    }

pub returns-clause-starts : goal.returns-clause-starts
returns-clause-starts c = λ low before on.
    let o = c.args.row.now.about in
    let v = c.args.pass.now.knows in
    let w = c.stay_first-first.new.pass.knows in
    let is = c.state_of-state.ensures in
    let r = c.stay_first-first.ensures in
    let was = c.is_some-was_armed.ensures ∙ (ap is_some c.armed.ensures ∙ ap (λ (t : Timer). is_some t.armed) is) in (
      record {
        at = v.seen;
        sent = [];
        last = c.args.asked.now.base;
        on_way = finds_here o w.seen c.args.timer low (timer_then o v.seen c.args.timer).stamp c.args.asked.now.base
            (begins_trans before r.adds.seen) (stamp_rises o low v.seen c.args.timer before) on;
        made = record { from = before; seen = r.adds.seen; own = r.adds.own; mine = r.adds.mine; id = r.adds.id };
        fits = (
          c.requires.holds.on.still,
          omega (arith, c.stamp-stamp.ensures, c.limit.ensures, ap (λ (t : Timer). t.stamp) is, ap (λ (t : Timer). t.terms.limit) is, c.if-stamp-limit.false),
          (λ i. let a : Arrival = r.told i in starts.Started (was i) a.generation a.asked a.outs a.placement),
        );
        claims = r.claims;
      },
      r.first,
    )
