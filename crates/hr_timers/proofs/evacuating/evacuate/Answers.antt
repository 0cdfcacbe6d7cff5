use Rattle.std.proofs.Common.{◌<◌, ℕ, List, [], ◌∷◌, ◌++◌, ap, sym, subst, ◌∙◌, arith}
use Rattle.std.proofs.lemmas.Bool.{ltb-true}
use Rattle.std.proofs.lemmas.List.{length-append}
use Rattle.pass_names.specs.declared.PassId.{PassId}
use Rattle.seq_timer.specs.declared.standing.Standing.{Standing}
use Rattle.seq_timer.specs.Standings.{last_standing}
use Rattle.base_row.specs.Calls.{known_of}
use Rattle.hr_timers.proofs.Locks.{locks_trans}
use Rattle.hr_timers.proofs.Shifts.{standing_kept}
use Rattle.hr_timers.proofs.Turning.{moved_then}
use Rattle.hr_timers.proofs.evacuating.evacuate.Goals as goal

pub loop-moved-preserved : goal.loop-moved-preserved
loop-moved-preserved g c =
    let o = c.args.row.now.about in
    let inv = c.loop-moved.invariant in
    let told = c.in-Moved.ensures in
    let v = c.loop-moved.pass.knows in
    let w = c.take_turn.new.pass.knows in
    let m = told.turns.0 in
    let some : c.loop-moved.moved < c.args.budget = ltb-true c.loop-moved.moved c.args.budget told.turns.1 in
    let base = standing_kept o v w c.args.base (m.keeps inv.first c.args.base) in
    let heir = standing_kept o v w c.args.heir (m.keeps inv.first c.args.heir) in
    let more : List ℕ = c.in-Moved.timer ∷ [] in
    let room = told.room in
    record {
      rest = told.rest;
      first = ap (λ (i : PassId). i.name) m.made.id ∙ inv.first;
      may = record {
        online = ap (λ (s : Standing). s.heir) base ∙ inv.may.online;
        heir_online = ap (λ (s : Standing). s.heir) heir ∙ inv.may.heir_online;
        stamp = subst (λ (s : Standing). s.stamp < last_standing) (sym base) inv.may.stamp;
      };
      moves = (
        inv.moves.0 ++ more,
        omega (arith, inv.moves.1, length-append inv.moves.0 more),
        moved_then g.S.ReceiptSink.pushed o c.args.base c.args.heir c.args.reading (known_of c.args.pass.now.knows) inv.moves.0 (known_of v) (known_of w)
            c.in-Moved.timer c.args.sink.now c.loop-moved.sink c.take_turn.new.sink inv.moves.2 m,
      );
      few = omega (arith, some);
      room = omega (arith, inv.room, room);
      locks = locks_trans inv.locks told.locks;
    }
