use Rattle.std.proofs.Common.{◌≡◌, ap, arith, inr, refl, subst}
use Rattle.clock_cell.proofs.Taking.{hears_again, takes_again}
use Rattle.clock_cell.specs.Views.{seen_reading, writes}
use Rattle.ktime.specs.Clocks.{IsAccepted}
use Rattle.ktime.proofs.Writes.{shown_by}
use Rattle.ordered_clock.proofs.Moments.{counted_at, grown, risen_at}
use Rattle.ordered_clock.proofs.Refusing.{accepts, refuses}
use Rattle.ordered_clock.specs.Moments.{ReadsAt, clock_counter}
use Rattle.ordered_clock.proofs.ordered.turn.Goals as goal

pub at-requires-clause-counted : goal.at-requires-clause-counted
at-requires-clause-counted g c = (shown_by _ _ c.read_from-reading.ensures.reading c.read_from-reading.ensures.known.legal).counted

pub at-requires-clause-changes : goal.at-requires-clause-changes
at-requires-clause-changes g c = (shown_by _ _ c.read_from-reading.ensures.reading c.read_from-reading.ensures.known.legal).changes

pub returns-in-Err-clause-places : goal.returns-in-Err-clause-places
returns-in-Err-clause-places g c = record {
  place = tt;
  refused = subst (ReadsAt c.args.pass.now.known.seen c.raise_counter.new.pass.known.seen) c.read_from-reading.ensures.count
      (counted_at clock_counter _ c.counter-least.ensures.looks.seen c.raise_counter.ensures.looks.seen
      (omega (arith, c.counter-least.ensures.count, c.read_from-reading.ensures.least))
      (omega (arith, c.raise_counter.ensures.count, ap (λ r. r.stamp) c.reading.view_is)));
  told = omega (arith, c.raise_counter.ensures.count, ap (λ r. r.stamp) c.reading.view_is, c.read_from-reading.ensures.count);
}

pub returns-in-Ok-clause-heard : goal.returns-in-Ok-clause-heard
returns-in-Ok-clause-heard g c =
    let a = c.in-Ok.ensures.answers in
    hears_again _ _ _ (inr c.read_from-reading.ensures.heard) (a.ok.adds.seen.each 0) a.hears

pub returns-in-Ok-clause-answers : goal.returns-in-Ok-clause-answers
returns-in-Ok-clause-answers g c =
    let a = c.in-Ok.ensures.answers in
    record {
      ok = takes_again _ _ _ c.args.write c.in-Ok.after c.read_from-reading.ensures.looks a.ok;
      err = tt;
      hears = hears_again _ _ _ (inr c.read_from-reading.ensures.heard) (a.ok.adds.seen.each 0) a.hears;
      known = a.known;
    }

pub returns-in-Ok-clause-places : goal.returns-in-Ok-clause-places
returns-in-Ok-clause-places g c =
    let a = c.in-Ok.ensures.answers in
    record {
      place = risen_at clock_counter c.in-Ok.after.stamp c.counter-least.ensures.looks.seen c.raise_counter-in-Ok.ensures.looks.seen
          (omega (arith, c.counter-least.ensures.count, c.read_from-reading.ensures.least, c.read_from-reading.ensures.count, grown a.ok))
          (omega (arith, c.raise_counter-in-Ok.ensures.count, ap (λ r. r.stamp) c.after.view_is));
      refused = tt;
      told = omega (arith, c.raise_counter-in-Ok.ensures.count, ap (λ r. r.stamp) c.after.view_is, a.ok.count);
    }

pub returns-clause-why : goal.returns-clause-why
returns-clause-why g c =
    let now = c.read_from-reading.new.pass.knows in
    let refused = c.in_default-write.ensures.answers.err in
    let is : c.at.result ≡ seen_reading now = cc in record {
      at = writes now;
      from = c.read_from-reading.ensures.looks.seen.each 0;
      seen = refused.looks.seen.each 0;
      accepted = subst (λ r. IsAccepted r c.args.write) is (accepts _ _ c.args.write c.in_default.ensures.refused);
      refused = refuses _ c.args.write _ refl refused.cause;
    }
