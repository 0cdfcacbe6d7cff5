use Rattle.std.proofs.Common.{ap, sym, ◌∙◌, ◌∷◌}
use Rattle.atomic_table.specs.Table.{rest}
use Rattle.signal_queue.proofs.Locks.{same_slot}
use Rattle.signal_queue.proofs.lock.EndLock.exchange.Goals as goal

pub exchange-requires : goal.exchange-requires
exchange-requires g c =
    let holds = c.requires.holds.1 in (
      holds.same ∙ sym (ap (λ l. l.id) c.self.view_is),
      (c.requires.holds.0, ap (λ m. m.1) holds.me ∙ ap (λ m. (0, c.requires.holds.0) ∷ rest m.1) (sym holds.me)),
    )

pub returns-clause-holds : goal.returns-clause-holds
returns-clause-holds g c =
    let holds = c.requires.holds.1 in
    let told = c.exchange.ensures in
    record { same = told.0 ∙ holds.same; me = told.3 ∙ ap (λ m. (m.0, (0, c.args.new) ∷ rest m.1)) holds.me }

pub returns-clause-out : goal.returns-clause-out
returns-clause-out g c = λ old holds. sym (same_slot _ _ _ _ _ (sym (ap (λ m. m.1) holds.me) ∙ c.exchange.ensures.2))
