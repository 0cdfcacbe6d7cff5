-- A cancel that waits for nobody, from its first look on.
use Rattle.std.proofs.Common.{◌≡◌, ℕ, sym, ◌∙◌}
use Rattle.std.specs.Prelude.{List}
use Rattle.pass_names.proofs.Passes.{begins_trans}
use Rattle.seq_timer.specs.declared.system.SystemEntry.{SystemEntry}
use Rattle.base_row.specs.declared.view.Opening.{Opening}
use Rattle.base_row.specs.declared.view.BaseView.{BaseView}
use Rattle.seq_timer.specs.Systems.{BaseContent}
use Rattle.base_row.specs.Calls as rows
use Rattle.hr_timers.specs.declared.answer.NowAnswer.{NowAnswer}
use Rattle.hr_timers.specs.declared.answer.NowAnswer.TheVariants as nows
use Rattle.hr_timers.specs.Known.{KnownOfTimers, OnlySeesMore, pass_of, timer_then}
use Rattle.hr_timers.specs.Calls.{HeldFits, LooksAt, NowFits}
use Rattle.hr_timers.proofs.Making.{looks_on, looks_trans, made_before}
use Rattle.pass_names.proofs.SharedHistory as shared

-- looks before a call that made no entry
pub looks_at_before : (u v : BaseView BaseContent) (w : KnownOfTimers) (x : List SystemEntry) → OnlySeesMore u v → LooksAt (rows.known_of v) w x
    → LooksAt (rows.known_of u) w x
looks_at_before u v w x first at = record {
  looks = shared.looks_trans (rows.known_of u) (rows.known_of v) w (looks_on u v first) at.looks;
  from = begins_trans first.seen at.from;
  seen = at.seen;
}

-- a look that found the timer on this base, a look by which its lock was got, and then what was done under the lock
pub now_from : (o : Opening) (p l m q : rows.BasePassOf) (t base : ℕ) (a : NowAnswer) → OnlySeesMore p.knows l.knows → OnlySeesMore l.knows m.knows
    → (timer_then o l.knows.seen t).base ≡ base → HeldFits o (pass_of m) (pass_of q) t base a
    → NowFits o (pass_of p) (pass_of q) t a
now_from o p l m q t base (nows.Tried c) first second on fits =
    let looks = looks_trans p.knows l.knows m.knows first second in
    record {
      at = fits.at;
      made = made_before p.knows m.knows (rows.known_of q.knows) t fits.at _ looks fits.made;
      fits = fits.fits;
      claims = fits.claims ∙ looks.claims;
    }
now_from o p l m q t base (nows.Contended b) first second on fits = absurd fits
now_from o p l m q t base (nows.Moving b) first second on fits =
    record {
      at = fits.at;
      looks = looks_at_before p.knows m.knows (rows.known_of q.knows) fits.at
          (looks_trans p.knows l.knows m.knows first second) fits.looks;
      moving = fits.moving;
      base = fits.base;
    }
now_from o p l m q t base (nows.Moved a b) first second on fits =
    let was = fits.2 in
    let all = looks_at_before p.knows m.knows (rows.known_of q.knows) was.at (looks_trans p.knows l.knows m.knows first second) was.looks in
    record {
      at = l.knows.seen;
      looks = record { looks = all.looks; from = first.seen; seen = begins_trans second.seen (begins_trans was.looks.from was.looks.seen) };
      base = on ∙ sym fits.0;
      later = was.at;
      goes_on = begins_trans second.seen was.looks.from;
      seen = was.looks.seen;
      base_later = was.base;
      apart = fits.1;
    }
