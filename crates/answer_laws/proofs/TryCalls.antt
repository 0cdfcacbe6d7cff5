-- Each call that tries a lock once has one answer at one moment, and leaves the same.
use Rattle.std.proofs.Common.{◌≡◌, ℕ, List, [], ◌∷◌, Bool, true, false, Option, Some, None, ap, sym, ◌∙◌, subst, refl}
use Rattle.std.specs.Prelude.{MatchBool, is_some}
use Rattle.std.proofs.lemmas.Bool.{true≢false}
use Rattle.ktime.specs.declared.clock_id.ClockId.{ClockId}
use Rattle.seq_timer.specs.Contents.{front_on}
use Rattle.seq_timer.specs.Events.{Asked}
use Rattle.seq_timer.specs.Histories as seq
use Rattle.seq_timer.specs.Steps.{Timer, after}
use Rattle.seq_timer.specs.Systems.{system_after}
use Rattle.seq_timer.specs.Tables.{in_context, is_kept_on}
use Rattle.seq_timer.specs.declared.context.Context.{Context}
use Rattle.seq_timer.specs.declared.event.EventBy.TheVariants.{Out}
use Rattle.seq_timer.specs.declared.system.SystemEntry.{SystemEntry}
use Rattle.base_row.specs.Calls.{AreFresh}
use Rattle.base_row.specs.declared.view.Opening.{Opening}
use Rattle.hr_timers.specs.declared.answer.StartAnswer.{StartAnswer}
use Rattle.hr_timers.specs.declared.answer.StartAnswer.TheVariants as starts
use Rattle.hr_timers.specs.declared.once_answer.HereAnswer.TheVariants as heres
use Rattle.hr_timers.specs.declared.once_answer.Landed.{Landed}
use Rattle.hr_timers.specs.declared.once_answer.Miss.{Miss}
use Rattle.hr_timers.specs.declared.once_answer.Miss.TheVariants as misses
use Rattle.hr_timers.specs.declared.once_answer.NextAnswer.{NextAnswer}
use Rattle.hr_timers.specs.declared.once_answer.NextAnswer.TheVariants as nexts
use Rattle.hr_timers.specs.Calls.{NowFits, entry_by}
use Rattle.hr_timers.specs.Carrying.{AddsCarried, Lands, NeedsNoMove, SendsOff, SendsOn, StillCarries, WasSpent}
use Rattle.hr_timers.specs.Known.{KnownOfTimers, KnowsTimers, PassOf, timer_then}
use Rattle.hr_timers.specs.Once.{FirstFits, HereFits, LeadsQueue, MissFits, NeedsMove, NextFits, SaysFirst}
use Rattle.hr_timers.specs.Ways.{standing_then}
use Rattle.answer_laws.specs.Outcomes.{SameOutcome, SameOwn, is_contended, now_moment, start_moment}
use Rattle.answer_laws.specs.Tries.{as_now, is_missed, miss_moment}
use Rattle.answer_laws.proofs.NowCalls.{now_once}
use Rattle.answer_laws.proofs.Outcomes.{looked_once, made_once, own_same}
use Rattle.answer_laws.proofs.TimerCalls.{start_once}

-- ---- misses

-- a miss is what a cancel that waits for nobody tells
abbrev now_of : (o : Opening) (p q : PassOf) (t : ℕ) (m : Miss) → MissFits o p q t m → NowFits o p q t (as_now m)
now_of o p q t (misses.Contended b) f = (f.0.missed, f.1, f.0.takes)
now_of o p q t (misses.Moving b) f = f
now_of o p q t (misses.Moved a b) f = f

same_moment : (o : Opening) (p q : PassOf) (t : ℕ) (m : Miss) (f : MissFits o p q t m) → now_moment o p q t (as_now m) (now_of o p q t m f) ≡ miss_moment o p q t m f
same_moment o p q t (misses.Contended b) f = refl
same_moment o p q t (misses.Moving b) f = refl
same_moment o p q t (misses.Moved a b) f = refl

same_miss : (m n : Miss) → as_now m ≡ as_now n → m ≡ n
same_miss (misses.Contended a) (misses.Contended b) e = let f : a ≡ b = cc in ap misses.Contended f
same_miss (misses.Contended a) (misses.Moving b) e = absurd cc
same_miss (misses.Contended a) (misses.Moved b c) e = absurd cc
same_miss (misses.Moving a) (misses.Contended b) e = absurd cc
same_miss (misses.Moving a) (misses.Moving b) e = let f : a ≡ b = cc in ap misses.Moving f
same_miss (misses.Moving a) (misses.Moved b c) e = absurd cc
same_miss (misses.Moved a d) (misses.Contended b) e = absurd cc
same_miss (misses.Moved a d) (misses.Moving b) e = absurd cc
same_miss (misses.Moved a d) (misses.Moved b c) e = let f : a ≡ b = cc in let g : d ≡ c = cc in cc

pub miss_once : (o : Opening) (t : ℕ) (p q q' : PassOf) → AreFresh o.timers → KnowsTimers o q.known → (m n : Miss) (c : MissFits o p q t m) (d : MissFits o p q' t n)
    → miss_moment o p q t m c ≡ miss_moment o p q' t n d → is_contended (as_now m) ≡ is_contended (as_now n) → (m ≡ n) × SameOwn q.known q'.known
miss_once o t p q q' fresh knows m n c d e f =
    let same = now_once o t p q q' fresh knows (as_now m) (as_now n) (now_of o p q t m c) (now_of o p q' t n d)
    (same_moment o p q t m c ∙ (e ∙ sym (same_moment o p q' t n d))) f in
    (same_miss m n same.0, same.1)

-- ---- the first of a queue

says_once : (P : Type 0) (f g : Bool) → MatchBool f P (P → ⊥) → MatchBool g P (P → ⊥) → f ≡ g
says_once P true true a b = refl
says_once P true false a b = absurd (b a)
says_once P false true a b = absurd (a b)
says_once P false false a b = refl

first_once : (o : Opening) (x : List SystemEntry) (t : ℕ) (a : StartAnswer) (f g : Bool) → FirstFits o x t a f → FirstFits o x t a g → f ≡ g
first_once o x t (starts.Started was_armed generation asked outs placement) f g c d = says_once (LeadsQueue o x t) f g c d
first_once o x t (starts.Spent n) f g c d = c ∙ sym d

-- ---- starts

pub here_once : (o : Opening) (p q q' : PassOf) (t : ℕ) (asked : Asked) (a a' : StartAnswer) (f f' : Bool) (c : HereFits o p q t asked (heres.Tried a f))
    (d : HereFits o p q' t asked (heres.Tried a' f')) → start_moment o p.known q.known t asked a c.0 ≡ start_moment o p.known q'.known t asked a' d.0
    → q.known.seen ≡ q'.known.seen → (a ≡ a') × (f ≡ f') × SameOutcome q.known q'.known t
here_once o p q q' t asked a a' f f' c d e seen =
    let same = start_once o p.known p.known q.known q'.known (own_same p.known) t asked asked a a' c.0 d.0 refl e in (
      same.0,
      first_once o q'.known.seen t a' f f' (subst (λ b. FirstFits o q'.known.seen t b f) same.0 (subst (λ x. FirstFits o x t a f) seen c.1)) d.1,
      same.1,
    )

pub elsewhere_once : (o : Opening) (v w w' : KnownOfTimers) (t asked b b' : ℕ) (c : NeedsMove o v w t asked b) (d : NeedsMove o v w' t asked b')
    → c.at ≡ d.at → (b ≡ b') × SameOwn w w'
elsewhere_once o v w w' t asked b b' c d e =
    (sym c.base ∙ (ap (λ x. (timer_then o x t).base) e ∙ d.base), looked_once v v w w' (own_same v) c.looks.looks d.looks.looks)

-- ---- looks at a queue

abbrev told : Option (ℕ × ℕ) → NextAnswer
told None = nexts.NoneArmed
told (Some p) = nexts.First p.1 p.0

pub next_once : (o : Opening) (p q q' : PassOf) (x : Context) (base : ℕ) (clock : ClockId) (a a' : NextAnswer) → NextFits o p q x base clock a
    → NextFits o p q' x base clock a' → q.known.seen ≡ q'.known.seen → is_missed a ≡ is_missed a' → (a ≡ a') × SameOwn q.known q'.known
next_once o p q q' x base clock (nexts.First t e) (nexts.First t' e') c d seen f = (
  ap told (sym c.1.first ∙ (ap (λ y. front_on x clock ((system_after o.timers y).bases base).content) seen ∙ d.1.first)),
  looked_once _ _ _ _ (own_same p.known) c.0 d.0,
)
next_once o p q q' x base clock (nexts.First t e) nexts.NoneArmed c d seen f =
    absurd (true≢false (sym c.1.leads.kept ∙ (ap (λ y. is_kept_on base clock (in_context x (timer_then o y) t)) seen ∙ d.1 t)))
next_once o p q q' x base clock (nexts.First t e) nexts.Contended c d seen f = absurd cc
next_once o p q q' x base clock nexts.NoneArmed (nexts.First t e) c d seen f =
    absurd (true≢false (sym d.1.leads.kept ∙ (ap (λ y. is_kept_on base clock (in_context x (timer_then o y) t)) (sym seen) ∙ c.1 t)))
next_once o p q q' x base clock nexts.NoneArmed nexts.NoneArmed c d seen f = (refl, looked_once _ _ _ _ (own_same p.known) c.0 d.0)
next_once o p q q' x base clock nexts.NoneArmed nexts.Contended c d seen f = absurd cc
next_once o p q q' x base clock nexts.Contended (nexts.First t e) c d seen f = absurd cc
next_once o p q q' x base clock nexts.Contended nexts.NoneArmed c d seen f = absurd cc
next_once o p q q' x base clock nexts.Contended nexts.Contended c d seen f = (refl, looked_once _ _ _ _ (own_same p.known) c.looks d.looks)

-- ---- sends

pub send_once : (o : Opening) (v w w' : KnownOfTimers) (t asked : ℕ) (s s' : Timer) (f f' : Bool) (c : SendsOff o v w t asked s f)
    (d : SendsOff o v w' t asked s' f') → c.at ≡ d.at → s.base ≡ s'.base → (s ≡ s') × (f ≡ f') × SameOutcome w w' t
send_once o v w w' t asked s s' f f' c d at base = (
  c.becomes ∙ ((λ i. after (timer_then o (at i) t) (Out (base i))) ∙ sym d.becomes),
  c.armed ∙ (ap (λ x. is_some (timer_then o x t).armed) at ∙ sym d.armed),
  made_once v v w w' t t c.at d.at _ _ (own_same v) c.made d.made refl at (λ i. entry_by (timer_then o (at i) t) (Out (base i)) ∷ [])
      (c.claims ∙ sym d.claims),
)

pub spent_once : (o : Opening) (v w w' : KnownOfTimers) (t n n' : ℕ) (c : WasSpent o v w t n) (d : WasSpent o v w' t n') → c.at ≡ d.at
    → (n ≡ n') × SameOwn w w'
spent_once o v w w' t n n' c d e =
    (c.stamp ∙ (ap (λ x. (timer_then o x t).stamp) e ∙ sym d.stamp), looked_once v v w w' (own_same v) c.looks.looks d.looks.looks)

pub stays_once : (o : Opening) (v w w' : KnownOfTimers) (t asked b b' : ℕ) (c : NeedsNoMove o v w t asked b) (d : NeedsNoMove o v w' t asked b')
    → c.at ≡ d.at → (b ≡ b') × SameOwn w w'
stays_once o v w w' t asked b b' c d e =
    (sym c.base ∙ (ap (λ x. (timer_then o x t).base) e ∙ d.base), looked_once v v w w' (own_same v) c.looks.looks d.looks.looks)

-- ---- arrivals

-- what was added of a carried timer, the same by both
added_once : (v w w' : KnownOfTimers) (t : ℕ) (es : List seq.Entry) → AddsCarried v w t es → AddsCarried v w' t es → w.claims ≡ w'.claims
    → SameOutcome w w' t
added_once v w w' t es a b claims =
    record { own = record { mine = a.mine ∙ sym b.mine; id = a.id ∙ sym b.id; claims = claims }; entries = a.own ∙ sym b.own }

pub land_once : (o : Opening) (v w w' : KnownOfTimers) (t : ℕ) (s : Timer) (asked : Asked) (l l' : Landed) → Lands o v w t s asked l
    → Lands o v w' t s asked l' → w.seen ≡ w'.seen → (l ≡ l') × SameOutcome w w' t
land_once o v w w' t s asked l l' c d seen =
    let base = c.base ∙ sym d.base in
    let generation = c.generation ∙ sym d.generation in
    let placement = c.placement ∙ sym d.placement in
    let first = says_once (LeadsQueue o w'.seen t) l.first l'.first (subst (λ x. SaysFirst o x t l.first) seen c.first) d.first in (
      (λ i. record { base = base i; generation = generation i; placement = placement i; first = first i }),
      added_once v w w' t _ c.adds d.adds (c.claims ∙ sym d.claims),
    )

pub send_on_once : (o : Opening) (v w w' : KnownOfTimers) (t : ℕ) (s n n' : Timer) (c : SendsOn o v w t s n) (d : SendsOn o v w' t s n') → c.at ≡ d.at
    → (n ≡ n') × SameOutcome w w' t
send_on_once o v w w' t s n n' c d at =
    let same : Some n.base ≡ Some n'.base = sym c.heir ∙ (ap (λ x. (standing_then o x s.base).heir) at ∙ d.heir) in
    let base : n.base ≡ n'.base = cc in (
      c.becomes ∙ (ap (λ b. after s (Out b)) base ∙ sym d.becomes),
      added_once v w w' t (entry_by s (Out n'.base) ∷ []) (subst (λ b. AddsCarried v w t (entry_by s (Out b) ∷ [])) base c.adds) d.adds
          (c.claims ∙ sym d.claims),
    )

pub carry_once : (p q q' : PassOf) (t : ℕ) (s : Timer) → StillCarries p q t s → StillCarries p q' t s → SameOutcome q.known q'.known t
carry_once p q q' t s c d =
    record { own = looked_once _ _ _ _ (own_same p.known) c.contended.looks d.contended.looks; entries = c.own ∙ sym d.own }
