-- The moment of a counter's step, and what a held base answers of its front.
use Rattle.std.specs.Prelude.{ℕ, ◌≡◌, ◌≢◌, Bool, true, false, List, Option, Some, MatchBool, IfSome, IfNone}
use Rattle.seq_timer.specs.Contents.{front_of}
use Rattle.seq_timer.specs.Systems.{BaseContent, rises_of}
use Rattle.seq_timer.specs.Tables.{is_armed_on}
use Rattle.seq_timer.specs.declared.system.SystemEntry.{SystemEntry}
use Rattle.base_row.specs.Plays.{RisesFrom}
use Rattle.base_row.specs.Rules.{timer_seen}
use Rattle.base_row.specs.declared.view.BaseView.{BaseView}
use Rattle.base_row.specs.declared.view.HeldContent.{HeldContent}
use Rattle.base_row.specs.declared.view.Opening.{Opening}

-- a counter rose by one where it was so far, as a step of it answers
abbrev pub StepFits : ℕ → ℕ → List SystemEntry → List SystemEntry → Bool → Type 0
StepFits k from old new rose = MatchBool rose (RisesFrom k from old new) (rises_of k new ≢ from)

-- the entries behind which it rose, or had another number
abbrev pub step_moment : (k from : ℕ) (old new : List SystemEntry) (rose : Bool) → StepFits k from old new rose → List SystemEntry
step_moment k from old new true s = s.before
step_moment k from old new false s = new

-- what `front` of a row of bases answers of a held base
pub record FrontFits (o : Opening) (v : BaseView BaseContent) (h : HeldContent BaseContent) (a : Option ℕ) : Type 0 where
  pub armed : IfSome a (λ t. is_armed_on h.base (timer_seen o v t) ≡ true)
  pub front : IfSome a (λ t. (expires : ℕ) × (front_of h.content.content ≡ Some (expires, t)))
  pub none : IfNone a ((t : ℕ) → is_armed_on h.base (timer_seen o v t) ≡ false)
