use Rattle.std.proofs.Common.{ap, sym, refl, ◌∙◌, arith}
use Rattle.pass_names.specs.declared.PassId.{PassId}
use Rattle.seq_timer.specs.declared.standing.Standing.{Standing}
use Rattle.base_row.specs.Calls.{known_of}
use Rattle.hr_timers.proofs.Making.{looks_on, looks_seen, looks_trans}
use Rattle.hr_timers.proofs.Shifts.{off_before, on_before, standing_kept}
use Rattle.hr_timers.proofs.Turning.{goes_offline, keeps_loads}
use Rattle.hr_timers.proofs.evacuating.go_offline.Goals as goal

pub returns-then-is_some-clause-fits : goal.returns-then-is_some-clause-fits
returns-then-is_some-clause-fits g c =
    let o = c.args.row.now.about in
    let v = c.args.pass.now.knows in
    let w = c.load_standing-standing.new.pass.knows in
    let told = c.load_standing-standing.ensures in
    let same = told.steady.shifts c.requires.first c.args.base in (
      record { looks = looks_on v w (looks_seen v w told.sees); keeps = told.steady.shifts; sink = refl },
      off_before o v w c.args.base c.load_standing-standing.result told.standing same (sym c.is_some.ensures ∙ c.if-is_some.true),
      ap (λ (s : Standing). s.stamp) (told.standing ∙ standing_kept o v w c.args.base same),
    )

pub returns-then-is_some-2-clause-fits : goal.returns-then-is_some-2-clause-fits
returns-then-is_some-2-clause-fits g c =
    let o = c.args.row.now.about in
    let v = c.args.pass.now.knows in
    let w = c.load_standing-standing.new.pass.knows in
    let x = c.load_standing-of_heir.new.pass.knows in
    let told = c.load_standing-standing.ensures in
    let of_heir = c.load_standing-of_heir.ensures in
    let keeps = keeps_loads v w x told.sees told.steady of_heir.steady in
    let same = keeps c.requires.first c.args.heir in (
      record { looks = looks_on v x (looks_trans v w x (looks_seen v w told.sees) (looks_seen w x of_heir.sees)); keeps = keeps; sink = refl },
      on_before o v w c.args.base c.load_standing-standing.result told.standing (told.steady.shifts c.requires.first c.args.base)
          (sym c.is_some.ensures ∙ c.if-is_some.false),
      off_before o v x c.args.heir c.load_standing-of_heir.result of_heir.standing same (sym c.is_some-2.ensures ∙ c.if-is_some-2.true),
      ap (λ (s : Standing). s.stamp) (of_heir.standing ∙ standing_kept o v x c.args.heir same),
    )

pub returns-then-stamp-ge-LAST_STANDING-clause-fits : goal.returns-then-stamp-ge-LAST_STANDING-clause-fits
returns-then-stamp-ge-LAST_STANDING-clause-fits g c =
    let o = c.args.row.now.about in
    let v = c.args.pass.now.knows in
    let w = c.load_standing-standing.new.pass.knows in
    let x = c.load_standing-of_heir.new.pass.knows in
    let told = c.load_standing-standing.ensures in
    let of_heir = c.load_standing-of_heir.ensures in
    let keeps = keeps_loads v w x told.sees told.steady of_heir.steady in
    let base_same = told.steady.shifts c.requires.first c.args.base in (
      record { looks = looks_on v x (looks_trans v w x (looks_seen v w told.sees) (looks_seen w x of_heir.sees)); keeps = keeps; sink = refl },
      on_before o v w c.args.base c.load_standing-standing.result told.standing base_same (sym c.is_some.ensures ∙ c.if-is_some.false),
      on_before o v x c.args.heir c.load_standing-of_heir.result of_heir.standing (keeps c.requires.first c.args.heir)
          (sym c.is_some-2.ensures ∙ c.if-is_some-2.false),
      omega (arith, c.if-stamp-ge-LAST_STANDING.true),
      ap (λ (s : Standing). s.stamp) (told.standing ∙ standing_kept o v w c.args.base base_same),
    )

pub evacuate-requires-clause-may : goal.evacuate-requires-clause-may
evacuate-requires-clause-may g c =
    let o = c.args.row.now.about in
    let w = c.load_standing-standing.new.pass.knows in
    let x = c.load_standing-of_heir.new.pass.knows in
    let told = c.load_standing-standing.ensures in
    let of_heir = c.load_standing-of_heir.ensures in
    let name = ap (λ (i : PassId). i.name) (looks_seen c.args.pass.now.knows w told.sees).id ∙ c.requires.first in
    let base_same = of_heir.steady.shifts name c.args.base in
    record {
      online = ap (λ (s : Standing). s.heir) (standing_kept o w x c.args.base base_same)
          ∙ on_before o w w c.args.base c.load_standing-standing.result told.standing refl (sym c.is_some.ensures ∙ c.if-is_some.false);
      heir_online = on_before o x x c.args.heir c.load_standing-of_heir.result of_heir.standing refl (sym c.is_some-2.ensures ∙ c.if-is_some-2.false);
      stamp = omega (
        arith,
        c.if-stamp-ge-LAST_STANDING.false,
        ap (λ (s : Standing). s.stamp) (told.standing ∙ sym (standing_kept o w x c.args.base base_same)),
      );
    }

pub returns-clause-fits : goal.returns-clause-fits
returns-clause-fits g c =
    let o = c.args.row.now.about in
    let v = c.args.pass.now.knows in
    let w = c.load_standing-standing.new.pass.knows in
    let x = c.load_standing-of_heir.new.pass.knows in
    let told = c.load_standing-standing.ensures in
    let of_heir = c.load_standing-of_heir.ensures in
    let keeps = keeps_loads v w x told.sees told.steady of_heir.steady in
    let base_same = told.steady.shifts c.requires.first c.args.base in
    goes_offline g.S.ReceiptSink.pushed o c.args.base c.args.heir c.args.reading (known_of v) (known_of x) (known_of c.evacuate.new.pass.knows)
    c.args.budget c.evacuate.result c.args.sink.now c.evacuate.new.sink
    (record {
      online = on_before o v w c.args.base c.load_standing-standing.result told.standing base_same (sym c.is_some.ensures ∙ c.if-is_some.false);
      heir_online = on_before o v x c.args.heir c.load_standing-of_heir.result of_heir.standing (keeps c.requires.first c.args.heir)
          (sym c.is_some-2.ensures ∙ c.if-is_some-2.false);
      stamp = omega (
        arith,
        c.if-stamp-ge-LAST_STANDING.false,
        ap (λ (s : Standing). s.stamp) (told.standing ∙ standing_kept o v w c.args.base base_same),
      );
    })
    (looks_on v x (looks_trans v w x (looks_seen v w told.sees) (looks_seen w x of_heir.sees))) keeps c.evacuate.ensures.ends
