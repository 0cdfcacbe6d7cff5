use Rattle.std.proofs.Common.{ap, sym, refl, [], ◌∷◌, ◌∙◌}
use Rattle.seq_timer.specs.declared.standing.Standing.{Standing}
use Rattle.hr_timers.proofs.moving.+chase.Goals as goal

pub returns-in-None-clause-way : goal.returns-in-None-clause-way
returns-in-None-clause-way t c = (
  [],
  (
    refl,
    record {
      from = c.load_standing-standing.ensures.sees.seen;
      stood = ap (λ (s : Standing). s.heir) (sym c.load_standing-standing.ensures.standing) ∙ c.in-None.is;
    },
  ),
)

pub returns-in-Some-clause-way : goal.returns-in-Some-clause-way
returns-in-Some-clause-way t c =
    let w = c.load_standing-standing.new.pass.knows in
    let r = c.chase.ensures.way in (
      c.in-Some.heir ∷ r.0,
      (
        w.seen,
        record {
          from = c.load_standing-standing.ensures.sees.seen;
          stood = ap (λ (s : Standing). s.heir) (sym c.load_standing-standing.ensures.standing) ∙ c.in-Some.is;
        },
        r.1,
      ),
    )
