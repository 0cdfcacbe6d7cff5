use Rattle.std.proofs.Common.{◌≡◌, arith, ap, sym, ◌∙◌, subst}
use Rattle.std.specs.Prelude.{Option}
use mathlib.Core.Option.{none}
use Rattle.atomic_table.specs.Table.{Allows, Me, step}
use Rattle.signal_queue.specs.declared.ends.End.{End}
use Rattle.signal_queue.specs.Locks.{FreesLock, IsLock}
use Rattle.signal_queue.specs.declared.lock.LockView.{LockView}
use Rattle.signal_queue.proofs.Locks.{held, returns}
use Rattle.signal_queue.proofs.lock.EndLock.free.Goals as goal

pub store-requires : goal.store-requires
store-requires g c =
    let end = c.requires.0 in
    let holds = c.requires.1.1 in
    let is_end = g.S.Side.is_end in
    let of = c.self.inside.table.shared.key in
    let same : of ≡ c.args.self.now.of = ap (λ l. l.of) c.self.view_is in
    let me = holds.me ∙ ap (λ o. held is_end o end) (sym same) in
    let P : Me (Option End) LockView → Type 0 =
    λ m. Allows (IsLock is_end of) c.self.inside.table.shared.table_id.slots c.args.seat.id m 0 (λ n. 0)
    (λ n. FreesLock (step c.self.inside.table.shared.table_id.slots 0 0 0 none) m 0) in (
      holds.same ∙ sym (ap (λ l. l.id) c.self.view_is),
      omega (arith, c.self.invariant.0),
      subst P (sym me) (returns is_end of _ _ end (subst (λ o. is_end o end) (sym same) c.requires.1.0)),
    )
