use Rattle.base_row.specs.Rules.{opening_in}
use Rattle.std.proofs.Common.{◌≡◌, ap, subst, sym, ◌∙◌, arith, inl, inr}
use Rattle.std.specs.Prelude.{MatchOption}
use Rattle.base_row.specs.declared.view.Opening.{Opening}
use Rattle.base_row.specs.Plays.{SeatState, GotBase, Lost}
use Rattle.base_row.proofs.Catching.{lost_at, told_after}
use Rattle.base_row.proofs.slots.attempt.Goals.{else-first-eq0-via-then-first-eq0+else-first-lt-LAST, else-first-eq0-via-else-first-eq0}
use Rattle.base_row.proofs.slots.attempt.Goals as goal

pub returns-else-first-eq0-clause-taken : goal.returns-else-first-eq0-clause-taken
returns-else-first-eq0-clause-taken c =
    let key = c.args.cells.now.key in
    let o : Opening = opening_in key in
    subst (λ (x : Opening). Lost x c.args.base c.args.seat.now.me c.meet_lock-first.new.seat.me) (sym c.requires.may.about)
    (lost_at o c.args.base c.args.seat.now.me c.meet_lock-first.new.seat.me c.meet_lock-first.result c.meet_lock-first.ensures.met
    (elim c.else-first-eq0.branch [
      | else-first-eq0-via-then-first-eq0+else-first-lt-LAST w ↦ inr (omega (arith, w.if-first-lt-LAST))
      | else-first-eq0-via-else-first-eq0 w ↦ inl (omega (arith, w.if-first-eq0))
    ]))

pub returns-then-first-lt-LAST-clause-taken : goal.returns-then-first-lt-LAST-clause-taken
returns-then-first-lt-LAST-clause-taken c =
    let key = c.args.cells.now.key in
    let o : Opening = opening_in key in
    let me = c.args.seat.now.me in
    let mid = c.meet_lock-first.new.seat.me in
    let new = c.take_free.new.seat.me in
    let met = c.meet_lock-first.ensures.met in
    let same : mid.0.opening ≡ o = ap (λ (m : SeatState). m.0.opening) met.rest ∙ c.requires.may.about in
    subst (λ (x : Opening). MatchOption c.take_free.result (Lost x c.args.base me new) (λ h. GotBase x c.args.base me new h)) (sym c.requires.may.about)
    (told_after o c.args.base me mid c.meet_lock-first.result met new c.take_free.result
    (subst (λ (x : Opening). MatchOption c.take_free.result (Lost x c.args.base mid new)
    (λ h. GotBase x c.args.base mid new h)) same c.take_free.ensures.taken))
