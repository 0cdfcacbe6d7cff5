use Rattle.std.proofs.Common.{◌≡◌, ◌∷◌, [], Some, ℕ, arith, ap, rules, sym, subst, ◌∙◌}
use Rattle.seq_timer.specs.Steps.{Timer, after, placement_of}
use Rattle.seq_timer.specs.declared.event.EventBy.TheVariants.{Out, Start}
use Rattle.seq_timer.specs.Systems.{BaseContent}
use Rattle.seq_timer.specs.declared.standing.Standing.{Standing}
use Rattle.base_row.specs.Calls.{base_seen, timer_seen}
use Rattle.base_row.specs.Plays.{Steady}
use Rattle.base_row.specs.declared.view.BaseView.{BaseView}
use Rattle.base_row.specs.declared.view.Opening.{Opening}
use Rattle.base_row.proofs.Calling.{seen_same}
use Rattle.hr_timers.specs.Calls.{entry_by}
use Rattle.hr_timers.specs.Known.{AddsBehind}
use Rattle.hr_timers.proofs.Arriving.{reach_of}
use Rattle.hr_timers.proofs.Trying.{adds_before}
use Rattle.hr_timers.proofs.moving_once.try_arrive.Goals as goal

-- when the lock was got the timer was as it is carried
carried : (o : Opening) (u v : BaseView BaseContent) (t : ℕ) (s : Timer) → Steady u v → u.carry ≡ Some t → s ≡ timer_seen o u t → timer_seen o v t ≡ s
carried o u v t s steady carry state = seen_same o u v t (steady.carried t carry) ∙ sym state

pub land-requires-clause-state : goal.land-requires-clause-state
land-requires-clause-state c = sym (carried c.args.row.now.about c.args.pass.now.knows c.lock_once.new.pass.knows c.args.timer c.args.state.now c.in-Some.ensures.steady
    c.requires.carries.carry c.requires.carries.state)

pub send_on-sent-requires-clause-state : goal.send_on-sent-requires-clause-state
send_on-sent-requires-clause-state c = sym (carried c.args.row.now.about c.args.pass.now.knows c.lock_once.new.pass.knows c.args.timer c.args.state.now c.in-Some.ensures.steady
    c.requires.carries.carry c.requires.carries.state)

pub send_on-sent-requires-clause-down : goal.send_on-sent-requires-clause-down
send_on-sent-requires-clause-down c = (
  c.standing-standing.ensures.fits.heir c.in-Some-heir.heir c.in-Some-heir.is,
  reach_of c.args.row.now.about c.args.pass.now.knows c.args.timer c.args.state.now c.standing-standing.result.heir c.in-Some-heir.heir
      c.requires.carries.state c.in-Some-heir.is c.standing-standing.ensures.reach c.requires.carries.within,
)

pub returns-in-None-clause-arrives : goal.returns-in-None-clause-arrives
returns-in-None-clause-arrives c =
    let u = c.args.pass.now.knows in
    let v = c.lock_once.new.pass.knows in
    let w = c.land.new.pass.knows in
    let e = Start c.args.asked.now in
    let looks = c.in-Some.ensures.looks in
    let told = c.land.ensures in
    let is = carried c.args.row.now.about u v c.args.timer c.args.state.now c.in-Some.ensures.steady c.requires.carries.carry c.requires.carries.state in
    record {
      adds = subst (λ (x : Timer). AddsBehind u w c.args.timer (entry_by x e ∷ [])) is
          (adds_before u v w c.args.timer _ looks (c.in-Some.ensures.steady.carried c.args.timer c.requires.carries.carry) told.adds);
      base = told.base ∙ c.requires.base;
      generation = told.generation;
      placement = told.placement ∙ ap (λ (x : Timer). placement_of (after x e)) is;
      first = told.first;
      claims = told.claims ∙ looks.claims;
    }

pub returns-in-Some-heir-clause-arrives : goal.returns-in-Some-heir-clause-arrives
returns-in-Some-heir-clause-arrives c =
    let o = c.args.row.now.about in
    let u = c.args.pass.now.knows in
    let v = c.lock_once.new.pass.knows in
    let w = c.send_on-sent.new.pass.knows in
    let heir = c.in-Some-heir.heir in
    let looks = c.in-Some.ensures.looks in
    let told = c.send_on-sent.ensures in
    let is = carried c.args.row.now.about u v c.args.timer c.args.state.now c.in-Some.ensures.steady c.requires.carries.carry c.requires.carries.state in
    let becomes = told.after ∙ ap (λ (x : Timer). after x (Out heir)) is in
    let there : c.send_on-sent.result.base ≡ heir = ap (λ (x : Timer). x.base) becomes in
    let at = c.in-Some.ensures.at ∙ c.requires.base in
    record {
      adds = subst (λ b. AddsBehind u w c.args.timer (entry_by c.args.state.now (Out b) ∷ [])) (sym there)
          (subst (λ (x : Timer). AddsBehind u w c.args.timer (entry_by x (Out heir) ∷ [])) is
          (adds_before u v w c.args.timer _ looks (c.in-Some.ensures.steady.carried c.args.timer c.requires.carries.carry) told.adds));
      becomes = becomes ∙ ap (λ b. after c.args.state.now (Out b)) (sym there);
      down = omega (arith, there, c.standing-standing.ensures.fits.heir heir c.in-Some-heir.is, c.in-Some.ensures.at, c.requires.base);
      at = v.seen;
      from = looks.seen;
      seen = told.adds.seen;
      heir = ap (λ b. (base_seen o v b).standing.heir) (sym at) ∙ (ap (λ (s : Standing). s.heir) (sym c.standing-standing.ensures.seen)
          ∙ (c.in-Some-heir.is ∙ ap Some (sym there)));
      claims = told.claims ∙ looks.claims;
    }

pub returns-in_default-clause-stands : goal.returns-in_default-clause-stands
returns-in_default-clause-stands c = record {
  row = c.lock_once.ensures.row;
  within = c.requires.carries.within;
  held = search rules;
  carry = c.lock_once.ensures.looks.carry ∙ c.requires.carries.carry;
  state = c.requires.carries.state ∙ sym (seen_same c.args.row.now.about c.args.pass.now.knows c.lock_once.new.pass.knows c.args.timer
      (c.lock_once.ensures.steady.carried c.args.timer c.requires.carries.carry));
  moving = c.requires.carries.moving;
  idle = c.requires.carries.idle;
  base = c.requires.carries.base;
}
