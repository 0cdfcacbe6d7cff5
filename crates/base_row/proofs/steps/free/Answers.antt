use Rattle.base_row.specs.Places.{lock_at}
use Rattle.std.proofs.Common.{◌+◌, [], ◌∷◌, subst}
use Rattle.std.specs.Prelude.{slice_index, Some}
use mathlib.Core.Option.{none}
use Rattle.atomic_table.specs.Table.{step, Allows}
use Rattle.base_row.specs.declared.view.Opening.{Opening}
use Rattle.base_row.specs.Rules.{HasOneHistory}
use Rattle.base_row.specs.Plays.{SeatState, FreesOwn}
use Rattle.base_row.proofs.Freeing.{frees}
use Rattle.base_row.proofs.steps.free.Goals as goal

pub store-requires : goal.store-requires
store-requires c =
    let seat = c.args.seat.now in
    let slots = c.args.cells.now.table_id.slots in
    let held = c.requires.held in
    let h = held.0 in
    let me : SeatState = (seat.me.0, (h.base, Some h.content) ∷ []) in
    let stored = slice_index seat.me.0.met h.base + 1 in (
      c.requires.same,
      held.4,
      rw (held.2, held.3, held.5) (subst (λ (o : Opening). Allows (HasOneHistory o) slots seat.id me (lock_at h.base) (λ _. stored)
          (λ _. FreesOwn (step slots (lock_at h.base) stored 0 none) me stored)) c.requires.about
          (frees seat.me.0.opening slots seat.id seat.me.0 h c.requires.live held.1)),
    )
