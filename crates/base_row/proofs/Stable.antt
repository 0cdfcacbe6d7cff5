-- What a pass has seen of the timers on the base that it holds, and of the one that it carries, is the whole of it.
use Rattle.std.proofs.Common.{◌≡◌, ℕ, ◌<◌, ◌⊎◌, ⊎_elim, true, List, length, ap, sym, ◌∙◌}
use Rattle.std.specs.Prelude.{Option, Some}
use Rattle.atomic_table.specs.Table.{State}
use Rattle.seq_timer.specs.declared.system.SystemEntry.{SystemEntry}
use Rattle.base_row.specs.declared.view.HeldContent.{HeldContent}
use Rattle.base_row.specs.declared.view.BaseView.{BaseView}
use Rattle.seq_timer.specs.Systems.{BaseContent, first_system, IsOn, entries_of, shifts_of, system_after}
use Rattle.base_row.specs.Plays.{Steady}
use Rattle.pass_names.specs.declared.PassId.{PassId}
use Rattle.base_row.specs.Rules.{PassHolds, RowHolds, timer_seen}
use Rattle.seq_timer.proofs.Systems.{shows, same_on}
use Rattle.base_row.proofs.Begun.{steps_begins, same_own}
use Rattle.base_row.specs.declared.view.Opening.{Opening}

module _ (o : Opening) (log : List SystemEntry) (s : State (Option BaseContent) (BaseView BaseContent)) (home : RowHolds o log s)
    (v : BaseView BaseContent) (fits : PassHolds o log s.words v) where
  module _ (h : HeldContent BaseContent) (held : v.held ≡ Some h) (t : ℕ) (within : t < length o.timers)
      (ours : IsOn h.base (timer_seen o v t) ⊎ (v.carry ≡ Some t)) where
    pub stable : (system_after o.timers log).timers t ≡ timer_seen o v t
    stable =
        ⊎_elim
        (λ on.
        let holds = fits.held h held in
        same_on (length o.timers) (system_after o.timers v.seen) (system_after o.timers log) h.base t
        (shows o.bases o.timers v.seen (steps_begins o.bases (length o.timers) (first_system o.timers) v.seen log fits.seen home.allowed))
        (shows o.bases o.timers log home.allowed)
        (sym holds.seen ∙ holds.whole) within on)
        (λ carry. sym (fits.carry t carry))
        ours

    pub stable_own : entries_of t log ≡ entries_of t v.seen
    stable_own = same_own (first_system o.timers) t v.seen log fits.seen stable

  -- where a pass has seen the whole history, and no entry of a timer or a base behind it, it is steady
  pub steady_along : {w : BaseView BaseContent} → v.id.live ≡ true → ((t : ℕ) → entries_of t w.seen ≡ entries_of t log)
      → ((b : ℕ) → shifts_of b w.seen ≡ shifts_of b log) → Steady v w
  steady_along {w} live entries shifts = record {
    carried = λ t e. entries t ∙ same_own (first_system o.timers) t v.seen log fits.seen (sym (fits.carry t e));
    shifts = λ name b. shifts b ∙ sym (fits.first live name b);
  }

  pub steady_own : {w : BaseView BaseContent} → v.id.live ≡ true → w.seen ≡ log → Steady v w
  steady_own {w} live whole = steady_along live (λ t. ap (entries_of t) whole) (λ b. ap (shifts_of b) whole)

-- two looks that are steady, one after the other
pub steady_trans : {v x w : BaseView BaseContent} → Steady v x → Steady x w → x.carry ≡ v.carry → x.id ≡ v.id → Steady v w
steady_trans first second carry id = record {
  carried = λ t e. second.carried t (carry ∙ e) ∙ first.carried t e;
  shifts = λ name b. second.shifts (ap (λ (i : PassId). i.name) id ∙ name) b ∙ first.shifts name b;
}
