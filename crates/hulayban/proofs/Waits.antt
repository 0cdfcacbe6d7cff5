-- How long a thread may sleep is one answer at the same moments.
use Rattle.std.proofs.Common.{◌≡◌, ◌∙◌, ℕ, List, ap, refl, sym, false}
use Rattle.std.specs.Prelude.{◌-◌, Option, Some, None}
use Rattle.std.proofs.lemmas.Bool.{true≢false}
use Rattle.ktime.specs.Readings.{ClockReading, value_of}
use Rattle.ktime.specs.declared.clock_id.ClockId.{ClockId}
use Rattle.ktime.specs.declared.clock_id.ClockId.TheVariants as clocks
use Rattle.seq_timer.specs.Contents.{front_on}
use Rattle.seq_timer.specs.Systems.{system_after}
use Rattle.seq_timer.specs.Tables.{in_context, is_kept_on}
use Rattle.seq_timer.specs.declared.context.Context.{Context}
use Rattle.seq_timer.specs.declared.context.Context.TheVariants as contexts
use Rattle.seq_timer.specs.declared.system.SystemEntry.{SystemEntry}
use Rattle.base_row.specs.declared.view.Opening.{Opening}
use Rattle.hr_timers.specs.Known.{KnownOfTimers, timer_then}
use Rattle.hr_timers.specs.Once.{LeadsOn}
use Rattle.hulayban.specs.Expiries.{BaseWaits, ContextWaits, FirstWaits, LooksAlike, lesser_wait}

module _ (o : Opening) where
  same_first : (a b : ℕ × ℕ) → Some a ≡ Some b → a.0 ≡ b.0
  same_first a b e = let same : a ≡ b = cc in ap (λ (p : ℕ × ℕ). p.0) same

  module _ (k k' : KnownOfTimers) (x : Context) (base : ℕ) (clock : ClockId) (same : k.seen ≡ k'.seen) where
    one_front : (t s expires other : ℕ) → LeadsOn o k x base clock t expires → LeadsOn o k' x base clock s other → expires ≡ other
    one_front t s expires other a b = same_first (expires, t) (other, s)
        (sym a.first ∙ (ap (λ (l : List SystemEntry). front_on x clock ((system_after o.timers l).bases base).content) same ∙ b.first))

    none_leads : (t expires : ℕ) → LeadsOn o k x base clock t expires
        → ((s : ℕ) → is_kept_on base clock (in_context x (timer_then o k'.seen) s) ≡ false) → ⊥
    none_leads t expires a none = true≢false (sym a.leads.kept
        ∙ (ap (λ (l : List SystemEntry). is_kept_on base clock (in_context x (timer_then o l) t)) same ∙ none t))

  waits_once : (k k' : KnownOfTimers) (x : Context) (base : ℕ) (clock : ClockId) (reading : ClockReading) (a a' : Option ℕ)
      → FirstWaits o k x base clock reading a → FirstWaits o k' x base clock reading a' → k.seen ≡ k'.seen → a ≡ a'
  waits_once k k' x base clock reading (Some m) (Some n) c d same = ap Some (c.2 ∙ (ap (λ z. z - value_of clock reading)
      (one_front k k' x base clock same c.1.0 d.1.0 c.0 d.0 c.1.1 d.1.1) ∙ sym d.2))
  waits_once k k' x base clock reading (Some m) None c d same = absurd (none_leads k k' x base clock same c.1.0 c.0 c.1.1 d)
  waits_once k k' x base clock reading None (Some n) c d same = absurd (none_leads k' k x base clock (sym same) d.1.0 d.0 d.1.1 c)
  waits_once k k' x base clock reading None None c d same = refl

  context_once : (v w v' w' : KnownOfTimers) (x : Context) (base : ℕ) (reading : ClockReading) (a a' : Option ℕ)
      (c : ContextWaits o v w x base reading a) (d : ContextWaits o v' w' x base reading a') → LooksAlike c d → a ≡ a'
  context_once v w v' w' x base reading a a' c d alike =
      let one = waits_once c.one d.one x base clocks.Monotonic reading c.monotonic d.monotonic c.first d.first alike.first in
      let two = waits_once c.two d.two x base clocks.Realtime reading c.realtime d.realtime c.second d.second alike.second in
      let last = waits_once w w' x base clocks.Boottime reading c.boottime d.boottime c.third d.third alike.last in
      c.least ∙ (ap (λ m. lesser_wait m (lesser_wait c.realtime c.boottime)) one
      ∙ (ap (λ m. lesser_wait d.monotonic (lesser_wait m c.boottime)) two
      ∙ (ap (λ m. lesser_wait d.monotonic (lesser_wait d.realtime m)) last ∙ sym d.least)))

  pub base_once : (v w v' w' : KnownOfTimers) (base : ℕ) (reading : ClockReading) (a a' : Option ℕ) (c : BaseWaits o v w base reading a)
      (d : BaseWaits o v' w' base reading a') → LooksAlike c.hard_waits d.hard_waits → LooksAlike c.soft_waits d.soft_waits → a ≡ a'
  base_once v w v' w' base reading a a' c d hard soft =
      let one = context_once v c.between v' d.between contexts.Hard base reading c.hard d.hard c.hard_waits d.hard_waits hard in
      let two = context_once c.between w d.between w' contexts.Soft base reading c.soft d.soft c.soft_waits d.soft_waits soft in
      c.least ∙ (ap (λ m. lesser_wait m c.soft) one ∙ (ap (λ m. lesser_wait d.hard m) two ∙ sym d.least))
