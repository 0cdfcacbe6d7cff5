use Rattle.std.proofs.Common.{sym, subst, refl}
use Rattle.base_row.specs.Calls.{AreFresh}
use Rattle.seq_timer.proofs.Agreement.{all_fresh, rooms_within}
use Rattle.base_row.proofs.row.BaseRow.make_ringed.Goals as goal

pub with_timers-requires-clause-fresh : goal.with_timers-requires-clause-fresh
with_timers-requires-clause-fresh c =
    subst (λ l. AreFresh l) (sym c.in_ok-timers.ensures.timers)
    (record {
      each = all_fresh c.args.timers.now c.args.terms;
      room = rooms_within c.args.timers.now c.args.terms c.requires.room;
      opened = (c.args.timers.now, c.args.terms, c.requires.limit, c.requires.room, refl);
    })
