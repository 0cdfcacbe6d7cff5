use Rattle.std.proofs.Common.{ap, sym, ◌∙◌, refl}
use Rattle.seq_timer.specs.Systems.{BaseContent, next_on}
use Rattle.hr_timers.proofs.Making.{looks_on}
use Rattle.hr_timers.proofs.claiming.claim_on.Goals as goal

pub returns-in-Some-clause-claims : goal.returns-in-Some-clause-claims
returns-in-Some-clause-claims g c =
    let v = c.args.pass.now.knows in
    let w = c.leave_base.new.pass.knows in record {
      claims = (
        looks_on v w c.leave_base.ensures.looks,
        c.leave_base.ensures.busy c.args.context c.in-Some.timer
            c.in-Some.generation (sym c.in-Some.ensures.running),
      );
      logged = refl;
    }

pub returns-in_default-first-clause-claims : goal.returns-in_default-first-clause-claims
returns-in_default-first-clause-claims g c =
    let v = c.args.pass.now.knows in
    let w = c.leave_base-in_default-first.new.pass.knows in
    let told = c.leave_base-in_default-first.ensures in record {
      claims = (
        looks_on v w told.looks,
        record {
          idle = told.idle c.args.context (sym c.in_default.ensures.running);
          first = ap (λ (b : BaseContent). next_on c.args.context b c.args.reading) told.content ∙ sym c.in_default-first.ensures.first;
          none = told.none c.args.context c.args.reading (sym c.in_default-first.ensures.first);
        },
      );
      logged = refl;
    }
