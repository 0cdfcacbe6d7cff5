-- Before a return that is no misfit there were timers that agree with what was known.
use Rattle.std.proofs.Common.{◌≡◌, ◌≢◌, ℕ, Bool, true, false, not, ◌&&◌, ◌||◌, if◌then◌else◌, Option, Some, None, refl, sym, ap, subst, ◌∙◌, inl, inr, nat_eq}
use Rattle.std.specs.Prelude.{IfSome, is_some}
use Rattle.std.proofs.lemmas.Bool.{both_ways, cases_eq, eqb-true, false_from_ne_true, not-false}
use Rattle.seq_timer.specs.declared.context.Context.{Context}
use Rattle.seq_timer.specs.declared.context.Context.TheVariants as contexts
use Rattle.seq_timer.specs.Systems.{updated}
use Rattle.seq_timer.proofs.Systems.{updated_here, updated_else}
use Rattle.trace_text.specs.declared.event.KernelEvent.TheVariants as kernel
use Rattle.trace_text.specs.declared.event.Site.{Site}
use Rattle.trace_check.specs.declared.known.ArmedKnown.{ArmedKnown}
use Rattle.trace_check.specs.declared.known.ArmedKnown.TheVariants as arms
use Rattle.trace_check.specs.declared.known.FunctionKnown.{FunctionKnown}
use Rattle.trace_check.specs.declared.known.FunctionKnown.TheVariants as functions
use Rattle.trace_check.specs.declared.known.HalfKnown.{HalfKnown}
use Rattle.trace_check.specs.declared.known.HalfKnown.TheVariants as halves
use Rattle.trace_check.specs.declared.known.KnownProcessor.{KnownProcessor}
use Rattle.trace_check.specs.declared.known.KnownTimer.{KnownTimer}
use Rattle.trace_check.specs.Knowledge.{closed_in, context_left, exited_there, half_without, home_after, is_untold, Knowledge, known_exited, learned, left_for, may_be_left, may_run, misfit, misfits_of, vacated}
use Rattle.trace_check.specs.Traced.{context_at}
use Rattle.trace_check.proofs.Plain.{IsExited, IsHidden, LeavesOne, Plain, PlainTimers}
use Rattle.trace_check.proofs.Agreement.{Agrees, AgreesAt, ArmedAs, RunsAs, Sound, SoundFunction, half_of, is_open}
use Rattle.trace_check.proofs.Parts.{IsAs, all_fail, before_left, elsewhere, is_as, known_as, known_kept, line_known}
use Rattle.trace_check.proofs.OnProcessors.{both_untold, hard_soft, same_half, untold_half}
use Rattle.trace_check.proofs.Before.{Led, agree_before, at_before, before, else_known, here_known, home_is, if_unarmed, no_home, not_running, spared_before}
use Rattle.trace_check.proofs.BackEntries.{closed_untold, free_untold, taken_untold, told_some}

-- ---- a return

-- the expiry of a function that is known to run was shown
abbrev was_shown : FunctionKnown → Bool
was_shown functions.Untold = false
was_shown functions.Rests = false
was_shown (functions.Runs c) = true

-- the timer whose function was running
abbrev before_exit : KnownTimer → ℕ → Plain → Plain
before_exit known processor new = record new {
  running = true;
  base = processor;
  clocked = is_some known.clock;
  told = known.told;
  order = known.order;
  shown = was_shown known.function;
}

exit_armed : (a : ArmedKnown) (known : KnownTimer) (processor : ℕ) (new : Plain) → ArmedAs a new → ArmedAs a (before_exit known processor new)
exit_armed arms.Untold known processor new h = tt
exit_armed arms.No known processor new h = h
exit_armed (arms.Until soft expires) known processor new h = h

-- a function that may run on a processor
abbrev MayRun : ℕ → Option Context → KnownProcessor → FunctionKnown → Type 0
MayRun processor line there f = not (may_run processor line there f) ≡ false

exit_function : (f : FunctionKnown) (known : KnownTimer) (line : Option Context) (there : KnownProcessor) (processor : ℕ) (new : Plain)
    → MayRun processor line there f → known.function ≡ f → RunsAs f (before_exit known processor new)
exit_function functions.Untold known line there processor new may is = λ run. ap was_shown is
exit_function functions.Rests known line there processor new may is = absurd cc
exit_function (functions.Runs c) known line there processor new may is = (refl, sym (eqb-true c processor (not-false _ may)), ap was_shown is)

exit_home : (there : ℕ → KnownProcessor) (t : ℕ) (known : KnownTimer) (line : Option Context) (at : KnownProcessor) (processor : ℕ) (new : Plain)
    (f : FunctionKnown) → MayRun processor line at f → SoundFunction there t known f → ArmedAs known.armed new
    → IfSome known.home (λ b. new.armed ≡ true → processor ≡ b)
exit_home there t known line at processor new functions.Untold may s armed = no_home known.home processor new.armed s.0
exit_home there t known line at processor new functions.Rests may s armed = absurd cc
exit_home there t known line at processor new (functions.Runs c) may s armed = elim s.2 [
  | inl no_arm ↦ if_unarmed known.home processor new.armed (subst (λ a. ArmedAs a new) no_arm armed)
  | inr home ↦ home_is known.home c processor new.armed home (sym (eqb-true c processor (not-false _ may)))
]

exit_stays : (there : ℕ → KnownProcessor) (t : ℕ) (known : KnownTimer) (line : Option Context) (at : KnownProcessor) (processor : ℕ) (new : Plain)
    (f : FunctionKnown) → MayRun processor line at f → SoundFunction there t known f → ArmedAs known.armed new
    → IfSome (home_after processor f known.home) (λ b. new.armed ≡ true → new.base ≡ b) → new.armed ≡ true → new.base ≡ processor
exit_stays there t known line at processor new functions.Untold may s armed home is = home is
exit_stays there t known line at processor new functions.Rests may s armed home is = absurd cc
exit_stays there t known line at processor new (functions.Runs c) may s armed home is = elim s.2 [
  | inl no_arm ↦ absurd (both_ways new.armed (subst (λ a. ArmedAs a new) no_arm armed) is)
  | inr by ↦ (subst (λ o. IfSome o (λ b. new.armed ≡ true → new.base ≡ b)) by home) is ∙ eqb-true c processor (not-false _ may)
]

rests_may : (f : FunctionKnown) (processor : ℕ) (line : Option Context) (there : KnownProcessor) → f ≡ functions.Rests → MayRun processor line there f → ⊥
rests_may functions.Untold processor line there is may = absurd cc
rests_may functions.Rests processor line there is may = absurd cc
rests_may (functions.Runs c) processor line there is may = absurd cc

untold_by : (f : FunctionKnown) (processor : ℕ) (line : Option Context) (there : KnownProcessor) → MayRun processor line there f → was_shown f ≡ false
    → f ≡ functions.Untold
untold_by functions.Untold processor line there may shown = refl
untold_by functions.Rests processor line there may shown = absurd cc
untold_by (functions.Runs c) processor line there may shown = absurd (not_running (sym shown))

-- in which context a function may have run that returns now, where nothing was known of it
open_none : (there : KnownProcessor) (y : Context) (a b : Bool) → is_untold there.hard ≡ a → is_untold there.soft ≡ b → a || b ≡ true
    → IsAs (if a then (if b then None else Some contexts.Hard) else Some contexts.Soft) y → half_of there y ≡ halves.Untold
open_none there contexts.Hard true b hard soft may is = untold_half there.hard hard
open_none there contexts.Soft true true hard soft may is = untold_half there.soft soft
open_none there contexts.Soft true false hard soft may is = absurd (hard_soft is refl)
open_none there contexts.Hard false b hard soft may is = absurd (hard_soft refl is)
open_none there contexts.Soft false b hard soft may is = untold_half there.soft (soft ∙ may)

open_by : (line : Option Context) (there : KnownProcessor) (y : Context) → may_be_left line there ≡ true → IsAs line y
    → (line ≡ None → IsAs (context_left there.hard there.soft) y) → half_of there y ≡ halves.Untold
open_by None there y may told left = open_none there y (is_untold there.hard) (is_untold there.soft) refl refl may (left refl)
open_by (Some contexts.Hard) there y may told left = ap (half_of there) told ∙ untold_half there.hard may
open_by (Some contexts.Soft) there y may told left = ap (half_of there) told ∙ untold_half there.soft may

-- where only one context is left for it, that is closed now
closing_none : (there : KnownProcessor) (a b : Bool) → is_untold there.hard ≡ a → is_untold there.soft ≡ b → a || b ≡ true → a && b ≡ false
    → (z : Context) × ((if a then (if b then None else Some contexts.Hard) else Some contexts.Soft) ≡ Some z) × (half_of there z ≡ halves.Untold)
closing_none there true true hard soft may not_both = absurd (not_running (sym not_both))
closing_none there true false hard soft may not_both = (contexts.Hard, refl, untold_half there.hard hard)
closing_none there false b hard soft may not_both = (contexts.Soft, refl, untold_half there.soft (soft ∙ may))

closing_one : (line : Option Context) (there : KnownProcessor) → may_be_left line there ≡ true → is_open there ≡ false
    → (z : Context) × (context_at line (context_left there.hard there.soft) ≡ Some z) × (half_of there z ≡ halves.Untold)
closing_one None there may not_both = closing_none there (is_untold there.hard) (is_untold there.soft) refl refl may not_both
closing_one (Some contexts.Hard) there may not_both = (contexts.Hard, refl, untold_half there.hard may)
closing_one (Some contexts.Soft) there may not_both = (contexts.Soft, refl, untold_half there.soft may)

closed_not : (closing : Option Context) (there : KnownProcessor) (y : Context) → closing ≡ Some y → half_of (closed_in closing there) y ≡ halves.Untold → ⊥
closed_not closing there contexts.Hard same is = closed_untold there.hard (sym (ap (λ o. (closed_in o there).hard) same) ∙ is)
closed_not closing there contexts.Soft same is = closed_untold there.soft (sym (ap (λ o. (closed_in o there).soft) same) ∙ is)

half_was_untold : (t : ℕ) (h : HalfKnown) → half_without t h ≡ halves.Untold → h ≡ halves.Untold
half_was_untold t halves.Untold is = refl
half_was_untold t halves.Free is = absurd (free_untold is)
half_was_untold t (halves.Taken u) is = absurd (neither (nat_eq u t) is)
  where
    neither : (b : Bool) → (if b then halves.Free else halves.Taken u) ≡ halves.Untold → ⊥
    neither true e = free_untold e
    neither false e = taken_untold e

was_untold : (closing : Option Context) (t : ℕ) (there : KnownProcessor) (y : Context) → half_of (closed_in closing (vacated t there)) y ≡ halves.Untold
    → half_of there y ≡ halves.Untold
was_untold None t there contexts.Hard is = half_was_untold t there.hard is
was_untold None t there contexts.Soft is = half_was_untold t there.soft is
was_untold (Some contexts.Hard) t there contexts.Hard is = absurd (closed_untold _ is)
was_untold (Some contexts.Hard) t there contexts.Soft is = half_was_untold t there.soft is
was_untold (Some contexts.Soft) t there contexts.Hard is = half_was_untold t there.hard is
was_untold (Some contexts.Soft) t there contexts.Soft is = absurd (closed_untold _ is)

both_open : (there : KnownProcessor) (y z : Context) → half_of there y ≡ halves.Untold → half_of there z ≡ halves.Untold → (z ≡ y → ⊥) → is_open there ≡ true
both_open there contexts.Hard contexts.Hard a b other = absurd (other refl)
both_open there contexts.Hard contexts.Soft a b other = rw (a, b) refl
both_open there contexts.Soft contexts.Hard a b other = rw (a, b) refl
both_open there contexts.Soft contexts.Soft a b other = absurd (other refl)

stays_closed : (closing : Option Context) (t : ℕ) (there : KnownProcessor) → is_open there ≡ false → is_open (closed_in closing (vacated t there)) ≡ false
stays_closed closing t there is = false_from_ne_true _ (λ open_.
    let both = both_untold (closed_in closing (vacated t there)) open_ in
    both_ways (is_open there) is (both_open there contexts.Hard contexts.Soft (was_untold closing t there contexts.Hard both.0)
    (was_untold closing t there contexts.Soft both.1) (λ e. hard_soft e refl)))

told_closes : (closing : Option Context) (there : KnownProcessor) (y : Context) → closing ≡ Some y → is_open (closed_in closing there) ≡ false
told_closes closing there y same = false_from_ne_true _ (λ open_.
    let both = both_untold (closed_in closing there) open_ in
    closed_not closing there y same (halves_of y both.0 both.1))
  where
    halves_of : (x : Context) → (closed_in closing there).hard ≡ halves.Untold → (closed_in closing there).soft ≡ halves.Untold
        → half_of (closed_in closing there) x ≡ halves.Untold
    halves_of contexts.Hard a b = a
    halves_of contexts.Soft a b = b

pub back_exit : (k : Knowledge) (w' : PlainTimers) (t : ℕ) (site : Site) → Sound k → misfit k (kernel.Exit t site) ≡ None
    → Agrees (learned k (kernel.Exit t site)) w' → Led k (kernel.Exit t site) w'
back_exit k w' t site s none a =
    let fails = all_fail (misfits_of k (kernel.Exit t site)) none in
    let known = k.timers t in
    let c = site.processor in
    let there = k.processors c in
    let line = context_at site.context known.told in
    let context = context_at site.context known.context in
    let left = left_for known.function there in
    let closing = context_at line left in
    let exited = exited_there t site known there in
    let new_there = updated k.processors c exited in
    let new = here_known new_there k.claims k.timers t (known_exited site there known) (w' t) (a.each t) in
    let old = before_exit known c (w' t) in
    let was = updated_here w' t old in
    let sf = (s.each t).function in
    let context_is : IsAs context (w' t).context = before_left context left (w' t).context new.context in
    let line_is : IsAs line (w' t).context =
    known_as line context (w' t).context (line_known site.context known.told known.context fails.0 (s.each t).told) context_is in
    let others : (u : ℕ) → u ≢ t → AgreesAt new_there k.claims (k.timers u) (w' u) = λ u other.
    else_known new_there k.claims k.timers t u _ (w' u) other (a.each u) in
    let else_hidden : (d u : ℕ) → u ≢ t → IsHidden d (before w' t old u) → IsHidden d (w' u) = λ d u other hidden.
    subst (λ p. IsHidden d p) (updated_else w' t u old other) hidden in
    let half_there : (u : ℕ) → u ≢ t → IsHidden c (w' u) → half_of exited (w' u).context ≡ halves.Untold = λ u other hidden.
    ap (λ p. half_of p (w' u).context) (sym (updated_here k.processors c exited)) ∙ same_half new_there (sym hidden.runs.at) refl
    ∙ (others u other).hidden hidden.runs.running hidden.shown in
    let untold : (was_shown known.function ≡ false) → known.function ≡ functions.Untold = λ shown. untold_by known.function c line there fails.1.0 shown in
    let may : known.function ≡ functions.Untold → may_be_left line there ≡ true = λ is.
    not-false _ (ap (λ f. not (may_run c line there f)) (sym is) ∙ fails.1.0) in
    let alone_t : (v : ℕ) → v ≢ t → is_open there ≡ false → (before w' t old t).shown ≡ false → IsHidden c (w' v) → ⊥ = λ v other not_both shown hidden.
    let is = untold (ap (λ p. p.shown) (sym was) ∙ shown) in
    let one = closing_one line there (may is) not_both in
    let closes : closing ≡ Some one.0 = ap (λ f. context_at line (left_for f there)) is ∙ one.1 in
    let half = half_there v other hidden in
    both_ways (is_open there) not_both (both_open there (w' v).context one.0 (was_untold closing t there (w' v).context half) one.2
    (λ same. closed_not closing (vacated t there) (w' v).context (closes ∙ ap Some same) half)) in (
      before w' t old,
      agree_before k w' t old
          (record {
            armed = exit_armed known.armed known c (w' t) new.armed;
            function = exit_function known.function known line there c (w' t) fails.1.0 refl;
            home = exit_home k.processors t known line there c (w' t) known.function fails.1.0 sf new.armed;
            clock = new.clock;
            clocked = refl;
            context = known_as known.context context (w' t).context (known_kept site.context known.context fails.0) context_is;
            told = refl;
            order = refl;
            hidden = λ run shown.
                let is = untold shown in
                open_by line there (w' t).context (may is) line_is (λ no_line. subst (λ o. IsAs o (w' t).context)
                (ap (λ o. context_at o left) (no_context site.context known.told known.context no_line (no_known k.processors t known known.function is sf))
                ∙ ap (λ f. left_for f there) is) new.context);
            waits = λ m some tells. absurd (rests_may known.function c line there ((s.each t).order m some).rests fails.1.0);
          })
          (λ u other. elsewhere new_there k.processors k.claims k.claims (k.timers u) (w' u) (others u other)
          (λ run shown. elim (cases_eq (w' u).base c) [
            | inl at ↦ same_half k.processors at refl ∙ was_untold closing t there (w' u).context
                (half_there u other (record { runs = record { running = run; at = at }; shown = shown }))
            | inr at ↦ ap (λ p. half_of p (w' u).context) (sym (updated_else k.processors c (w' u).base exited at)) ∙ (others u other).hidden run shown
          ])
          (others u other).waits)
          (λ d u v told hidden_u hidden_v. elim (cases_eq d c) [
            | inl same ↦
                let not_both : is_open there ≡ false = ap (λ e. is_open (k.processors e)) (sym same) ∙ told in
                let at_c : (i : ℕ) → i ≢ t → IsHidden d (before w' t old i) → IsHidden c (w' i) = λ i other hidden.
                subst (λ e. IsHidden e (w' i)) same (else_hidden d i other hidden) in
                elim (cases_eq u t) [
                  | inl u_is ↦ elim (cases_eq v t) [
                    | inl v_is ↦ u_is ∙ sym v_is
                    | inr v_other ↦ absurd (alone_t v v_other not_both (ap (λ i. (before w' t old i).shown) (sym u_is) ∙ hidden_u.shown)
                        (at_c v v_other hidden_v))
                  ]
                  | inr u_other ↦ elim (cases_eq v t) [
                    | inl v_is ↦ absurd (alone_t u u_other not_both (ap (λ i. (before w' t old i).shown) (sym v_is) ∙ hidden_v.shown) (at_c u u_other hidden_u))
                    | inr v_other ↦ a.alone c u v (ap (λ p. is_open p) (updated_here k.processors c exited) ∙ stays_closed closing t there not_both)
                        (at_c u u_other hidden_u) (at_c v v_other hidden_v)
                  ]
                ]
            | inr other_d ↦
                let not_t : (i : ℕ) → IsHidden d (before w' t old i) → i ≢ t = λ i hidden same. other_d
                (sym hidden.runs.at ∙ ap (λ j. (before w' t old j).base) same ∙ ap (λ p. p.base) was) in
                a.alone d u v (ap (λ p. is_open p) (updated_else k.processors c d exited other_d) ∙ told)
                (else_hidden d u (not_t u hidden_u) hidden_u) (else_hidden d v (not_t v hidden_v) hidden_v)
          ]),
      (
        at_before (λ p. IsExited site p (w' t)) w' t old (record {
          keeps = record { clock = refl; context = refl; clocked = new.clocked };
          told = new.told;
          order = new.order;
          context = line_is;
          runs = refl;
          at = refl;
          still = new.function;
          armed = refl;
          stays = λ is. record {
            base = exit_stays k.processors t known line there c (w' t) known.function fails.1.0 sf new.armed new.home is;
            soft = refl;
            expires = refl;
          };
        }),
        subst (λ p. LeavesOne (before w' t old) (context_at site.context p.told) c t) (sym was) (record {
          other = λ u told other hidden within.
              let some = told_some line told in
              let same : (w' u).context ≡ some.0 = ap (λ p. p.context) (sym (updated_else w' t u old other)) ∙ within ∙ ap (λ p. p.context) was
              ∙ is_as line some.0 (w' t).context line_is some.1 in
              closed_not closing (vacated t there) (w' u).context (ap (λ o. context_at o left) some.1 ∙ ap Some (sym same))
              (half_there u other (else_hidden c u other hidden));
          alone = λ u v told other_u other_v hidden_u hidden_v.
              let some = told_some line told in
              a.alone c u v (ap (λ p. is_open p) (updated_here k.processors c exited)
              ∙ told_closes closing (vacated t there) some.0 (ap (λ o. context_at o left) some.1))
              (else_hidden c u other_u hidden_u) (else_hidden c v other_v hidden_v);
        }),
        spared_before w' t old,
      ),
    )
  where
    no_context : (flags told context : Option Context) → context_at flags told ≡ None → context ≡ None → context_at flags context ≡ None
    no_context None told context none_ is = is
    no_context (Some x) told context none_ is = none_

    no_known : (there : ℕ → KnownProcessor) (t : ℕ) (known : KnownTimer) (f : FunctionKnown) → f ≡ functions.Untold → SoundFunction there t known f
        → known.context ≡ None
    no_known there t known functions.Untold is s = s.4
    no_known there t known functions.Rests is s = absurd cc
    no_known there t known (functions.Runs c) is s = absurd cc
