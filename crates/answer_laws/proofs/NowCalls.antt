-- A cancel that waits for nobody, and one behind a counter's rise, have one answer at one moment.
use Rattle.std.proofs.Common.{◌≡◌, ℕ, List, ap, sym, ◌∙◌, subst, refl, true, length}
use Rattle.pass_names.specs.Passes.{Begins}
use Rattle.seq_timer.specs.Steps.{Timer}
use Rattle.seq_timer.specs.Systems.{first_system, rises_of}
use Rattle.seq_timer.specs.declared.answer.CancelAnswer.{CancelAnswer}
use Rattle.seq_timer.specs.declared.answer.CancelAnswer.TheVariants as cancels
use Rattle.seq_timer.specs.declared.system.SystemEntry.{SystemEntry}
use Rattle.seq_timer.proofs.Agreement.{agrees}
use Rattle.seq_timer.proofs.Effects.{IsApart}
use Rattle.base_row.specs.Calls.{AreFresh}
use Rattle.base_row.specs.Plays.{RisesFrom}
use Rattle.base_row.specs.declared.log.Receipt.{Receipt}
use Rattle.base_row.specs.declared.view.Opening.{Opening}
use Rattle.base_row.proofs.Begun.{steps_begins}
use Rattle.hr_timers.specs.declared.answer.NowAnswer.{NowAnswer}
use Rattle.hr_timers.specs.declared.answer.NowAnswer.TheVariants as nows
use Rattle.hr_timers.specs.Calls.{CancelFits, NowFits, WasMoved, cancel_entries}
use Rattle.hr_timers.specs.Known.{KnownOfTimers, KnowsTimers, PassOf, timer_then}
use Rattle.hr_timers.specs.Logged.{CancelsBehind, HadRisenOtherwise, RisesUnlessRunning}
use Rattle.answer_laws.specs.Outcomes.{NowMoment, SameOutcome, SameOwn, is_contended, now_moment}
use Rattle.answer_laws.proofs.Outcomes.{logged_once, looked_once, own_same}
use Rattle.answer_laws.proofs.TimerCalls.{cancel_once}

-- at a moment that a pass has seen a timer is not both on the move and running
apart_then : (o : Opening) (k : KnownOfTimers) (x : List SystemEntry) (t : ℕ) → AreFresh o.timers → KnowsTimers o k → Begins x k.seen
    → IsApart (timer_then o x t)
apart_then o k x t fresh knows begins =
    (agrees o.bases o.timers x fresh.each (steps_begins o.bases (length o.timers) (first_system o.timers) x k.seen begins knows.history)).apart t

-- a timer on the move isn't told to be idle, disarmed or running
still_told : (u : Timer) (a : CancelAnswer) → IsApart u → CancelFits u a → u.moving ≡ true → ⊥
still_told u (cancels.Idle n) apart fits moves = let e = fits.0.moving in cc
still_told u (cancels.Cancelled g n) apart fits moves = let e = fits.2 in cc
still_told u (cancels.Running g n) apart fits moves = let e = (apart moves).1 in let f = fits.0 in cc

module _ (o : Opening) (t : ℕ) where
  -- who was on two bases was there at two moments
  two_moments : (v w : KnownOfTimers) (a b : ℕ) (f : WasMoved o v w t a b) (x : List SystemEntry) → x ≡ f.at → x ≡ f.later → ⊥
  two_moments v w a b f x d e = f.apart (sym f.base ∙ (ap (λ y. (timer_then o y t).base) (sym d ∙ e) ∙ f.base_later))

  module _ (p q q' : PassOf) (fresh : AreFresh o.timers) (knows : KnowsTimers o q.known) where
    moves_then : (a : CancelAnswer) (x y : List SystemEntry) → Begins x q.known.seen → x ≡ y → CancelFits (timer_then o x t) a
        → (timer_then o y t).moving ≡ true
        → ⊥
    moves_then a x y begins e fits moves = still_told (timer_then o x t) a (apart_then o q.known x t fresh knows begins) fits
        (ap (λ z. (timer_then o z t).moving) e ∙ moves)

    pub now_once : (a a' : NowAnswer) (c : NowFits o p q t a) (d : NowFits o p q' t a') → now_moment o p q t a c ≡ now_moment o p q' t a' d
        → is_contended a ≡ is_contended a' → (a ≡ a') × SameOwn q.known q'.known
    now_once (nows.Tried a) (nows.Tried b) c d e f =
        let same = cancel_once o p.known p.known q.known q'.known (own_same p.known) t a b c d (ap (λ (m : NowMoment). m.at) e) in
        (ap nows.Tried same.0, same.1.own)
    now_once (nows.Tried a) (nows.Contended b) c d e f = absurd cc
    now_once (nows.Tried a) (nows.Moving b) c d e f = absurd (moves_then a c.at d.at c.made.seen (ap (λ (m : NowMoment). m.at) e) c.fits d.moving)
    now_once (nows.Tried a) (nows.Moved b b') c d e f =
        absurd (two_moments _ _ b b' d c.at (ap (λ (m : NowMoment). m.at) e) (ap (λ (m : NowMoment). m.later) e))
    now_once (nows.Contended b) (nows.Tried a) c d e f = absurd cc
    now_once (nows.Contended b) (nows.Contended b') c d e f = (
      ap nows.Contended (sym c.1.base ∙ (ap (λ (m : NowMoment). (timer_then o m.at t).base) e ∙ d.1.base)),
      looked_once _ _ _ _ (own_same p.known) c.1.looks.looks d.1.looks.looks,
    )
    now_once (nows.Contended b) (nows.Moving b') c d e f = absurd cc
    now_once (nows.Contended b) (nows.Moved a' b') c d e f = absurd cc
    now_once (nows.Moving b) (nows.Tried a) c d e f = absurd (still_told (timer_then o d.at t) a
        (subst (λ x. IsApart (timer_then o x t)) (ap (λ (m : NowMoment). m.at) e) (apart_then o q.known c.at t fresh knows c.looks.seen)) d.fits
        (sym (ap (λ (m : NowMoment). (timer_then o m.at t).moving) e) ∙ c.moving))
    now_once (nows.Moving b) (nows.Contended b') c d e f = absurd cc
    now_once (nows.Moving b) (nows.Moving b') c d e f = (
      ap nows.Moving (sym c.base ∙ (ap (λ (m : NowMoment). (timer_then o m.at t).base) e ∙ d.base)),
      looked_once _ _ _ _ (own_same p.known) c.looks.looks d.looks.looks,
    )
    now_once (nows.Moving b) (nows.Moved a' b') c d e f =
        absurd (two_moments _ _ a' b' d c.at (ap (λ (m : NowMoment). m.at) e) (ap (λ (m : NowMoment). m.later) e))
    now_once (nows.Moved b b') (nows.Tried a) c d e f =
        absurd (two_moments _ _ b b' c d.at (sym (ap (λ (m : NowMoment). m.at) e)) (sym (ap (λ (m : NowMoment). m.later) e)))
    now_once (nows.Moved b b') (nows.Contended a) c d e f = absurd cc
    now_once (nows.Moved b b') (nows.Moving a) c d e f =
        absurd (two_moments _ _ b b' c d.at (sym (ap (λ (m : NowMoment). m.at) e)) (sym (ap (λ (m : NowMoment). m.later) e)))
    now_once (nows.Moved b b') (nows.Moved a a') c d e f = (
      moved_same (sym c.base ∙ (ap (λ (m : NowMoment). (timer_then o m.at t).base) e ∙ d.base))
          (sym c.base_later ∙ (ap (λ (m : NowMoment). (timer_then o m.later t).base) e ∙ d.base_later)),
      looked_once _ _ _ _ (own_same p.known) c.looks.looks d.looks.looks,
    )
      where
        moved_same : {i j k l : ℕ} → i ≡ j → k ≡ l → nows.Moved i k ≡ nows.Moved j l
        moved_same x y = cc

-- what stands before a cancel's rise is the pass's own, as before
risen_own : (counter from : ℕ) (v r : KnownOfTimers) (a : CancelAnswer) → RisesUnlessRunning a counter from v r → SameOwn v r
risen_own counter from v r (cancels.Idle n) rises = record { mine = sym rises.0.mine; id = sym rises.0.id; claims = sym rises.0.claims }
risen_own counter from v r (cancels.Cancelled g n) rises = record { mine = sym rises.0.mine; id = sym rises.0.id; claims = sym rises.0.claims }
risen_own counter from v r (cancels.Running g n) rises = subst (SameOwn v) (sym rises) (own_same v)

pub own_between : (v w u : KnownOfTimers) → SameOwn v w → SameOwn v u → SameOwn w u
own_between v w u a b = record { mine = sym a.mine ∙ b.mine; id = sym a.id ∙ b.id; claims = sym a.claims ∙ b.claims }

module _ {A : Type 0} (put : A → Receipt → A) (o : Opening) (counter from : ℕ) (v w w' : KnownOfTimers) (t : ℕ) where
  pub behind_once : (a a' : CancelAnswer) (s r r' : A) (c : CancelsBehind put o counter from v w t a s r) (d : CancelsBehind put o counter from v w' t a' s r')
      → c.cancels.cancels.at ≡ d.cancels.cancels.at → (a ≡ a') × (r ≡ r') × SameOutcome w w' t
  behind_once a a' s r r' c d e =
      let own = own_between v c.risen d.risen (risen_own counter from v c.risen a c.rises) (risen_own counter from v d.risen a' d.rises) in
      let same = cancel_once o c.risen d.risen w w' own t a a' c.cancels.cancels d.cancels.cancels e in
      (same.0, logged_once put o t t _ _ _ _ s r r' c.cancels.logged d.cancels.logged refl e (ap cancel_entries same.0), same.1)

pub not_refused : (counter from : ℕ) (v w w' : KnownOfTimers) (h : HadRisenOtherwise counter from v w) (r : RisesFrom counter from v.seen w'.seen)
    → h.at ≡ r.before → ⊥
not_refused counter from v w w' h r e = h.other (ap (rises_of counter) e ∙ r.count)
