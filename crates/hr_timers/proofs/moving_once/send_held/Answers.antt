use Rattle.std.proofs.Common.{◌≡◌, ◌∷◌, [], true, arith, ap, subst, sym, ◌∙◌}
use Rattle.std.specs.Prelude.{is_some}
use Rattle.pass_names.proofs.Passes.{begins_trans}
use Rattle.seq_timer.specs.Calls.{moves_first}
use Rattle.seq_timer.specs.Steps.{Timer, after}
use Rattle.seq_timer.specs.declared.event.EventBy.TheVariants.{Out}
use Rattle.base_row.specs.Calls.{known_of, timer_seen}
use Rattle.hr_timers.specs.Calls.{entry_by}
use Rattle.hr_timers.specs.Known.{MadeAt, timer_then}
use Rattle.hr_timers.specs.Moves.{known_from}
use Rattle.hr_timers.specs.Ways.{Finds}
use Rattle.hr_timers.proofs.Moments.{stamp_rises}
use Rattle.hr_timers.proofs.Ways.{finds_here}
use Rattle.hr_timers.proofs.moving_once.send_held.Goals as goal

pub returns-then-not-moves_first-clause-sends : goal.returns-then-not-moves_first-clause-sends
returns-then-not-moves_first-clause-sends c = λ low before on.
    let o = c.args.row.now.about in
    let v = c.args.pass.now.knows in
    let looks = c.leave-then-not-moves_first.ensures.looks in
    let is = c.state_of-state.ensures in
    record {
      at = v.seen;
      looks = record {
        looks = record { seen = begins_trans before looks.seen; mine = looks.mine; id = looks.id; claims = looks.claims };
        from = before;
        seen = looks.seen;
      };
      base = sym (c.base-base.ensures ∙ ap (λ (t : Timer). t.base) is);
      to = c.args.to;
      found = finds_here o c.leave-then-not-moves_first.new.pass.knows.seen c.args.timer low (timer_then o v.seen c.args.timer).stamp c.args.to
          (begins_trans before looks.seen) (stamp_rises o low v.seen c.args.timer before) on;
      stays = ap (λ (t : Timer). moves_first t c.args.to) (sym is)
          ∙ (sym c.moves_first.ensures ∙ c.if-not-moves_first.true);
    }

pub returns-clause-sends : goal.returns-clause-sends
returns-clause-sends c = λ low before on.
    let o = c.args.row.now.about in
    let v = c.args.pass.now.knows in
    let w = c.send-state.new.pass.knows in
    let t = c.args.timer in
    let first : Timer = timer_seen o v t in
    let told = c.send-state.ensures in
    let is = c.state_of-state.ensures in
    let there : c.send-state.result.base ≡ c.args.to = ap (λ (x : Timer). x.base) told.after in
    record {
      at = v.seen;
      found = subst (λ b. Finds o w.seen t low first.stamp c.args.to b) (sym there)
          (finds_here o w.seen t low first.stamp c.args.to (begins_trans before told.adds.seen) (stamp_rises o low v.seen t before) on);
      made = subst (λ b. MadeAt (known_from v low) (known_of w) t v.seen (entry_by first (Out b) ∷ [])) (sym there)
          (record { from = before; seen = told.adds.seen; own = told.adds.own; mine = told.adds.mine; id = told.adds.id });
      below = omega (arith, c.stamp-stamp.ensures, c.limit.ensures, ap (λ (x : Timer). x.stamp) is, ap (λ (x : Timer). x.terms.limit) is, c.if-stamp-limit.false);
      still = c.requires.holds.on.still;
      moves = subst (λ b. moves_first first b ≡ true) (sym there) (ap (λ (x : Timer). moves_first x c.args.to) (sym is)
          ∙ (sym c.moves_first.ensures ∙ c.if-not-moves_first.false));
      becomes = told.after ∙ ap (λ b. after first (Out b)) (sym there);
      armed = c.is_some-was_armed.ensures ∙ (ap is_some c.armed.ensures ∙ ap (λ (x : Timer). is_some x.armed) is);
      claims = told.claims;
    }
