use Rattle.base_row.specs.Places.{lock_at}
use Rattle.std.proofs.Common.{◌≡◌, ℕ, eqb, ◌+◌, Bool, true, false, nat_eq, [], ap, subst, arith, ◌<◌}
use Rattle.std.specs.Prelude.{MatchBool}
use mathlib.Core.Option.{none}
use prog.Atomic.{either}
use Rattle.atomic_table.specs.Table.{step, Allows}
use Rattle.base_row.specs.declared.view.Opening.{Opening}
use Rattle.base_row.specs.Rules.{HasOneHistory, opening_in}
use Rattle.base_row.specs.Plays.{SeatState, TookBase, FoundTaken, TakesOwn}
use Rattle.base_row.proofs.Taking.{takes_lock}
use Rattle.base_row.proofs.steps.take.Goals as goal

pub compare_exchange-requires : goal.compare_exchange-requires
compare_exchange-requires c =
    let seat = c.args.seat.now in
    let slots = c.args.cells.now.table_id.slots in
    let first = c.args.first in
    let may = c.requires.may in
    let inside : c.args.base < seat.me.0.opening.bases = omega (arith, may.within, ap (λ (o : Opening). o.bases) may.about) in (
      may.same,
      may.inside,
      rw (c.requires.empty, may.at) (subst (λ (o : Opening). Allows (HasOneHistory o) slots seat.id (seat.me.0, []) (lock_at c.args.base)
          (λ n. either (eqb n first) (first + 1) n) (TakesOwn (step slots (lock_at c.args.base) first (first + 1) none) (seat.me.0, []))) may.about
          (takes_lock seat.me.0.opening slots seat.id seat.me.0 may.live may.idle c.args.base first inside c.requires.known.0 c.requires.known.1)),
    )

loose : (o : Opening) (b first found : ℕ) (hit : Bool) (me new : SeatState)
    → MatchBool hit ((k : ℕ) × (first + 2 ≡ k + k) × TookBase o b k (first + 1) me new)
    (FoundTaken o b first me found new)
    → MatchBool hit ((k : ℕ) × (first + 2 ≡ k + k) × TookBase o b k (first + 1) me new) ((x : ℕ)
    × FoundTaken o b first me x new)
loose o b first found true me new told = told
loose o b first found false me new told = (found, told)

pub returns-clause-took : goal.returns-clause-took
returns-clause-took c =
    let key = c.args.cells.now.key in
    loose (opening_in key) c.args.base c.args.first c.compare_exchange.result
    (nat_eq c.compare_exchange.result c.args.first) c.args.seat.now.me c.compare_exchange.new.seat.me
    (subst (λ (o : Opening). MatchBool (nat_eq c.compare_exchange.result c.args.first) ((k : ℕ) × (c.args.first + 2 ≡ k + k)
    × TookBase o c.args.base k (c.args.first + 1) c.args.seat.now.me c.compare_exchange.new.seat.me)
    (FoundTaken o c.args.base c.args.first c.args.seat.now.me c.compare_exchange.result
    c.compare_exchange.new.seat.me)) c.requires.may.about (c.compare_exchange.ensures.2 c.args.base c.requires.may.at))
