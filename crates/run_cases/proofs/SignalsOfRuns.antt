-- Of the signals of one expiry run the one whose timer was claimed second isn't named first: the run pushed them in the order of its claims.
use Rattle.std.proofs.Common.{◌≡◌, ◌<◌, ℕ, ◌+◌, true, false, nat_eq, List, [], ◌∷◌, ◌++◌, map, flat_map, arith, refl, ap, ◌∙◌, subst, inl, inr}
use Rattle.std.specs.List.{AllByRecursion}
use Rattle.std.proofs.Math.Logic.{⊎_elim}
use Rattle.std.proofs.lemmas.Bool.{eqb-true, true≢false}
use Rattle.std.proofs.lemmas.List.{append-nil}
use Rattle.record_text.specs.declared.record.Answer.TheVariants as answers
use Rattle.record_text.specs.declared.record.ObjectEntry.{ObjectEntry}
use Rattle.script_text.specs.Declarations.{kind_of}
use Rattle.signal_queue.specs.declared.signal.Signal.{Signal}
use Rattle.run_history.specs.Actions.{Action, Entered, also, made, signalled}
use Rattle.run_history.specs.Deeds.{IsBody, IsQueuedTrigger, fires}
use Rattle.run_history.specs.Fits.{Fits}
use Rattle.run_history.specs.Signals.{SignalLine}
use Rattle.run_history.specs.Truths.{sight_of}
use Rattle.run_history.specs.Witnesses.{Fired, witness_with}
use Rattle.run_history.proofs.Expires.{finish_of}
use Rattle.run_history.proofs.Items.{Among, RiseIn, own_rises}
use Rattle.fit_laws.specs.Signals.{Sent}
use Rattle.fit_laws.proofs.EachTimer.{heads}
use Rattle.fit_laws.proofs.SignalDeeds.{call_tells, no_less, pushed_in, pushed_in-append, pushed_made}
use Rattle.fit_laws.proofs.SignalLists.{among_numbered}
use Rattle.fit_laws.proofs.SignalCalls.{answer_fits, there_line}
use Rattle.fit_laws.proofs.Signals.{named_as_pushed, sent_push}
use Rattle.run_cases.specs.Fitting.{signals_script}
use Rattle.run_cases.specs.Lines.{at, hard_expire}
use Rattle.run_cases.specs.Wrong.{swapped_record}

-- ---- what a run pushed

-- an entry that stands alone is of its own object
alone : (i t : ℕ) (e x : ℕ × ObjectEntry) → Among e (also (nat_eq i t) x []) → i ≡ t
alone i t e x here = elim (nat_eq i t) as (λ b. nat_eq i t ≡ b → Among e (also b x []) → i ≡ t) [
  | true ↦ λ is here. eqb-true i t is
  | false ↦ λ is here. absurd here
] refl here

-- what a callback of a queued timer made is of that timer
of_its_timer : (pushes reading base t : ℕ) (f : Fired) (e : ℕ × ObjectEntry) → IsQueuedTrigger pushes reading f → Among e (made t (fires base reading f))
    → f.timer ≡ t
of_its_timer pushes reading base t f e trigger here =
    let behind : List Action = Entered f.timer f.finish (finish_of f) ∷ [] in
    ⊎_elim
    (λ told. alone f.timer t e _ (subst (λ body. Among e (made t (body ++ behind))) told.1 here))
    (λ other. ⊎_elim
    (λ sent. alone f.timer t e _ (subst (λ body. Among e (made t (body ++ behind))) sent.2 here))
    (λ rest. ⊎_elim
    (λ full. alone f.timer t e _ (subst (λ body. Among e (made t (body ++ behind))) full.1 here))
    (λ skip. absurd (subst (λ body. Among e (made t (body ++ behind))) skip.1 here)) rest) other) trigger.0

-- ---- numbered things

-- of two things of a list in two parts, one that isn't in the second and one that isn't in the first, the one has the lower number
in_order : {A : Type 0} (k : ℕ) (es : List (ℕ × A)) (xs ys : List A) (p q : ℕ) (a b : A) → RiseIn k es → map (λ e. e.1) es ≡ xs ++ ys
    → Among (p, a) es → Among (q, b) es → (Among a ys → ⊥) → (Among b xs → ⊥) → p < q
in_order k [] xs ys p q a b rise are one two not_late not_early = absurd one
in_order k (e ∷ es) [] ys p q a b rise are one two not_late not_early =
    absurd (not_late (subst (Among a) are (among_numbered p a (e ∷ es) one)))
in_order {A} k (e ∷ es) (x ∷ xs) ys p q a b rise are one two not_late not_early =
    let head : e.1 ≡ x = heads e.1 x _ (xs ++ ys) are in
    let tail : map (λ e. e.1) es ≡ xs ++ ys = cc in
    ⊎_elim
    (λ (here : (q, b) ≡ e). absurd (not_early (inl (ap (λ (y : ℕ × A). y.1) here ∙ head))))
    (λ later. ⊎_elim
    (λ (here : (p, a) ≡ e). omega (arith, ap (λ (y : ℕ × A). y.0) here, no_less (e.0 + 1) (q, b) es rise.1 later))
    (λ more. in_order (e.0 + 1) es xs ys p q a b rise.1 tail more later not_late (λ early. not_early (inr early))) one) two

-- ---- the two callbacks of the run

record AreTwo (fired : List Fired) : Type 0 where
  first : Fired
  second : Fired
  are : fired ≡ first ∷ second ∷ []
  one : first.timer ≡ 1
  other : second.timer ≡ 0

are_two : (fired : List Fired) → 1 ∷ 0 ∷ [] ≡ map (λ f. f.timer) fired → AreTwo fired
are_two [] claimed = absurd (cc)
are_two (f ∷ []) claimed = absurd (cc)
are_two (f ∷ g ∷ []) claimed = record { first = f; second = g; are = refl; one = cc; other = cc }
are_two (f ∷ g ∷ h ∷ fs) claimed = absurd (cc)

-- the signal of the second entry of a timer
abbrev signal_of : ℕ → Signal
signal_of timer = record { timer = timer; number = 2 }

-- law: it does not fit
pub swapped_doesnt_fit : Fits signals_script swapped_record → ⊥
swapped_doesnt_fit o =
    let w = witness_with signals_script swapped_record o.0 o.1 o.2 in
    let f = o.3 in
    let run = (f.calls 0).2.2.2.1.0 in
    let t = o.2 (at 0 3) in
    let two = are_two t.fired run.does.0.claimed in
    let s = signals_script in
    let of_one : Sent s swapped_record (at 0 3) (signal_of 1) =
    record { queued = tt; made = record { before = 1; count = refl; line = _; there = refl; label = refl; such = tt } } in
    let of_other : Sent s swapped_record (at 0 3) (signal_of 0) =
    record { queued = tt; made = record { before = 1; count = refl; line = _; there = refl; label = refl; such = tt } } in
    let one = sent_push w f (at 0 3) (signal_of 1) of_one in
    let other = sent_push w f (at 0 3) (signal_of 0) of_other in
    let es = signalled 3 t.actions in
    let first = pushed_in s (fires 0 t.at two.first) in
    let second = pushed_in s (fires 0 t.at two.second) in
    let bodies = subst (AllByRecursion (λ f. IsBody (sight_of w t.first t.last) s (kind_of s f.timer) t.at f)) two.are run.does.0.bodies in
    let trigger_one : IsQueuedTrigger 3 t.at two.first =
    subst (λ i. IsBody (sight_of w t.first t.last) s (kind_of s i) t.at two.first) two.one bodies.0 in
    let trigger_other : IsQueuedTrigger 3 t.at two.second =
    subst (λ i. IsBody (sight_of w t.first t.last) s (kind_of s i) t.at two.second) two.other bodies.1.0 in
    -- the run pushed what its first callback did, and then what its second one did
    let told = call_tells (sight_of w t.first t.last) s t.at (hard_expire 0 4) (answers.Done 1 (1 ∷ 0 ∷ [])) t.fired t.moved t.actions run.does in
    let all : map (λ e. e.1) es ≡ first ++ second =
    told.pushes ∙ ap (pushed_in s) (run.does.0.done ∙ ap (flat_map (fires 0 t.at)) two.are)
    ∙ pushed_in-append s (fires 0 t.at two.first) (fires 0 t.at two.second ++ [])
    ∙ ap (λ ds. first ++ pushed_in s ds) (append-nil (fires 0 t.at two.second)) in
    let not_second : Among (signal_of 1) second → ⊥ =
    λ here. let m = pushed_made s (fires 0 t.at two.second) (signal_of 1) here in
    omega (arith, of_its_timer 3 t.at 0 1 two.second (2, m.entry) trigger_other m.among, two.other) in
    let not_first : Among (signal_of 0) first → ⊥ =
    λ here. let m = pushed_made s (fires 0 t.at two.first) (signal_of 0) here in
    omega (arith, of_its_timer 3 t.at 0 0 two.first (2, m.entry) trigger_one m.among, two.one) in
    let fa = answer_fits w f (at 0 3) (answers.Done 1 (1 ∷ 0 ∷ [])) refl in
    let less = in_order 1 es first second (1 + one.0) (1 + other.0) (signal_of 1) (signal_of 0)
    (subst (RiseIn 1) (run.traced.signals 3) (own_rises (λ (l : SignalLine). l.label) (λ (l : SignalLine). l.signal) (at 0 3) 1 (o.1 3))) all
    (there_line w f (at 0 3) _ fa 3 one.0 (signal_of 1) one.1) (there_line w f (at 0 3) _ fa 3 other.0 (signal_of 0) other.1) not_second not_first in
    -- so the first one's isn't named second
    true≢false (named_as_pushed w f (at 0 6) (at 0 5) one.1 other.1 (omega (arith, less)) (_, refl, (refl, refl)) (_, refl, (refl, refl)))
