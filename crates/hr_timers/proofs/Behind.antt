-- A cancel behind a rise of a counter.
use Rattle.std.proofs.Common.{◌≡◌, ℕ, ◌∙◌, ap, refl, sym, subst, true, false}
use Rattle.std.proofs.lemmas.Bool.{true≢false}
use Rattle.std.specs.Prelude.{Some}
use Rattle.pass_names.proofs.Passes.{begins_trans}
use Rattle.seq_timer.specs.Systems.{BaseContent, IsOn}
use Rattle.seq_timer.specs.declared.answer.CancelAnswer.{CancelAnswer}
use Rattle.seq_timer.specs.declared.answer.CancelAnswer.TheVariants as cancels
use Rattle.base_row.specs.Calls as rows
use Rattle.base_row.specs.Plays.{KnowsOwn, RisesFrom}
use Rattle.base_row.specs.declared.log.Receipt.{Receipt}
use Rattle.base_row.specs.declared.view.BaseView.{BaseView}
use Rattle.base_row.specs.declared.view.HeldContent.{HeldContent}
use Rattle.base_row.specs.declared.view.Opening.{Opening}
use Rattle.base_row.proofs.Holding.{kept_state, knows_about, shown_state}
use Rattle.hr_timers.specs.Calls.{tells_running}
use Rattle.hr_timers.specs.Known.{HoldsTimer, KnownOfTimers, OnlySeesMore}
use Rattle.hr_timers.specs.Logged.{CancelsBehind, CancelsLogged, RisesUnlessRunning}
use Rattle.hr_timers.proofs.Logging.{cancels_before}
use Rattle.hr_timers.proofs.Making.{looks_on, looks_trans}

-- law: a pass that saw more while it held a timer's base holds it still, and has seen no more of the timer
pub holds_still : (r : rows.BaseRowOf) (p q : rows.BasePassOf) (h : HeldContent BaseContent) (t : ℕ) → HoldsTimer r p h t → rows.IsBasePassOf r q
    → rows.SeesFurther p.knows q.knows → KnowsOwn p.knows → KnowsOwn q.knows
    → HoldsTimer r q h t × (rows.timer_seen r.about q.knows t ≡ rows.timer_seen r.about p.knows t)
holds_still r p q h t holds row sees knows knows' =
    let o = r.about in
    let held : q.knows.held ≡ Some h = ap (λ (y : BaseView BaseContent). y.held) sees.rest ∙ holds.holds.held in
    let kept = kept_state o p.knows h (knows_about o p.knows holds.holds.row.about knows) holds.holds.held t holds.within holds.on in
    let same = shown_state o q.knows h (knows_about o q.knows row.about knows') held t holds.within (subst (IsOn h.base) (sym kept) holds.on) ∙ kept in (
      record {
        holds = record {
          row = row;
          within = holds.holds.within;
          held = held;
          free = ap (λ (y : BaseView BaseContent). y.carry) sees.rest ∙ holds.holds.free;
        };
        within = holds.within;
        on = subst (IsOn h.base) (sym same) holds.on;
      },
      same,
    )

module _ {A : Type 0} (put : A → Receipt → A) (o : Opening) (u v : BaseView BaseContent) (w : KnownOfTimers) (t counter from : ℕ) (a : CancelAnswer) (s s' : A)
    (looks : OnlySeesMore u v) where
  -- law: no rise where the timer's function was running
  pub behind_none : tells_running a ≡ true → CancelsLogged put o (rows.known_of v) w t a s s' → CancelsBehind put o counter from (rows.known_of u) w t a s s'
  behind_none runs c = record { risen = rows.known_of u; rises = none a runs; cancels = cancels_before put o u v w t a s s' looks c }
    where
      none : (a : CancelAnswer) → tells_running a ≡ true → RisesUnlessRunning a counter from (rows.known_of u) (rows.known_of u)
      none (cancels.Running g n) runs = refl
      none (cancels.Idle n) runs = absurd (true≢false (sym runs))
      none (cancels.Cancelled g n) runs = absurd (true≢false (sym runs))

  -- law: else one, and then the cancel
  pub behind_rise : (x : BaseView BaseContent) → OnlySeesMore v x → RisesFrom counter from v.seen x.seen → tells_running a ≡ false
      → CancelsLogged put o (rows.known_of x) w t a s s' → CancelsBehind put o counter from (rows.known_of u) w t a s s'
  behind_rise x more rose still c = record { risen = rows.known_of x; rises = by_answer a still; cancels = c }
    where
      by_answer : (a : CancelAnswer) → tells_running a ≡ false → RisesUnlessRunning a counter from (rows.known_of u) (rows.known_of x)
      by_answer (cancels.Running g n) still = absurd (true≢false still)
      by_answer (cancels.Idle n) still =
          (looks_on u x (looks_trans u v x looks more), record { before = rose.before; seen = begins_trans looks.seen rose.seen; count = rose.count; last = rose.last })
      by_answer (cancels.Cancelled g n) still =
          (looks_on u x (looks_trans u v x looks more), record { before = rose.before; seen = begins_trans looks.seen rose.seen; count = rose.count; last = rose.last })
