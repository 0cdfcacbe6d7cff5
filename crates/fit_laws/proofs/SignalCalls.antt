-- The calls of a record that fits, and what they pushed and popped: which lines of the queue's two lists are theirs.
use Rattle.std.proofs.Common.{◌≡◌, ◌<◌, ℕ, ◌+◌, zero, suc, true, List, [], ◌∷◌, Some, length, arith, refl, sym, ap, ◌∙◌, subst}
use Rattle.std.specs.List.{slice_get}
use Rattle.std.proofs.lemmas.Option.{same_Some}
use Rattle.record_text.specs.declared.record.Answer.{Answer}
use Rattle.record_text.specs.declared.record.Label.{Label}
use Rattle.record_text.specs.declared.record.ObjectEntry.{ObjectEntry}
use Rattle.record_text.specs.declared.record.ObjectLine.{ObjectLine}
use Rattle.script_text.specs.declared.script.Call.{Call}
use Rattle.signal_queue.specs.declared.signal.Signal.{Signal}
use Rattle.run_history.specs.Actions.{Action, own, signalled}
use Rattle.run_history.specs.Fits.{FitsCall, FitsIn, FitsLane, Seen, unseen}
use Rattle.run_history.specs.Histories.{answers_of}
use Rattle.run_history.specs.Objects.{lines_of_object}
use Rattle.run_history.specs.Order.{CallInRound, calls_of, is_label, IsLabel}
use Rattle.run_history.specs.Signals.{SignalLine, pop_counter, push_counter}
use Rattle.run_history.specs.Truths.{sight_of}
use Rattle.run_history.specs.Witnesses.{Witness}
use Rattle.run_history.proofs.Items.{Among, RiseIn, own_rises, stands_own}
use Rattle.run_history.proofs.Labels.{label_itself, same_label}
use Rattle.fit_laws.specs.Signals.{AreDistinct, WasAnswered, IsCounted, IsNamedBy, Sent}
use Rattle.fit_laws.proofs.SignalDeeds.{Rise, Tells, call_tells, made_pushed, names_popped, popped_by, popped_named, pushed_in, pushed_made, pushed_once, raised}
use Rattle.fit_laws.proofs.SignalLists.{among_numbered, among_things, one_number, own_line}

abbrev pub line_label : ObjectLine → Label
line_label line = line.label

abbrev pub line_entry : ObjectLine → ObjectEntry
line_entry line = line.entry

abbrev pub label_of : SignalLine → Label
label_of line = line.label

abbrev pub signal_of : SignalLine → Signal
signal_of line = line.signal

-- the line of this number, the first being 0, is of this call and this signal
pub record HasLine (lines : List SignalLine) (k : ℕ) (c : Label) (x : Signal) : Type 0 where
  pub line : SignalLine
  pub there : slice_get lines k ≡ Some line
  pub label : line.label ≡ c
  pub signal : line.signal ≡ x

-- ---- the calls of a record that fits

-- a call fits that was answered so
pub record FitsAnswer (w : Witness) (c : Label) (answer : Answer) : Type 0 where
  pub call : Call
  pub before : Seen
  pub after : Seen
  pub fits : FitsCall w c call answer before after

fits_at : (w : Witness) (lane start k index : ℕ) (before : Seen) (ps : List CallInRound) (given : List Answer) (a : Answer)
    → FitsLane w lane start before ps given → start + k ≡ index → slice_get given k ≡ Some a → FitsAnswer w (record { lane = lane; call = index }) a
fits_at w lane start k index before [] [] a fits is at = absurd (cc)
fits_at w lane start k index before [] (g ∷ given) a fits is at = absurd fits
fits_at w lane start k index before (p ∷ ps) [] a fits is at = absurd fits
fits_at w lane start zero index before (p ∷ ps) (g ∷ given) a fits is at =
    subst (λ n. FitsAnswer w (record { lane = lane; call = n }) a) (none start ∙ is)
    (subst (FitsAnswer w (record { lane = lane; call = start })) (same_Some g a at)
    (record { call = p.call; before = before; after = fits.0; fits = fits.1.0 }))
  where
    none : (n : ℕ) → n ≡ n + 0
    none n = omega arith
fits_at w lane start (suc k) index before (p ∷ ps) (g ∷ given) a fits is at =
    fits_at w lane (start + 1) k index fits.0 ps given a fits.2 (omega (arith, is)) at

answer_at : (w : Witness) (lane start k : ℕ) (before : Seen) (ps : List CallInRound) (given : List Answer) → FitsLane w lane start before ps given
    → k < length ps → (a : Answer) × (slice_get given k ≡ Some a)
answer_at w lane start k before [] given fits less = absurd (omega (arith, less))
answer_at w lane start k before (p ∷ ps) [] fits less = absurd fits
answer_at w lane start zero before (p ∷ ps) (g ∷ given) fits less = (g, refl)
answer_at w lane start (suc k) before (p ∷ ps) (g ∷ given) fits less =
    answer_at w lane (start + 1) k fits.0 ps given fits.2 (omega (arith, less))

module _ (w : Witness) (f : FitsIn w) where
  -- law: each answer is that of a call that fits
  pub answer_fits : (c : Label) (a : Answer) → WasAnswered w.run c a → FitsAnswer w c a
  answer_fits c a at = fits_at w c.lane 0 c.call c.call unseen (calls_of w.script c.lane) (answers_of w.run c.lane) a (f.calls c.lane) (omega arith) at

  -- law: each call has an answer
  pub label_answer : (c : Label) → IsLabel w.script c → (a : Answer) × WasAnswered w.run c a
  label_answer c is = answer_at w c.lane 0 c.call unseen (calls_of w.script c.lane) (answers_of w.run c.lane) (f.calls c.lane) is

  module _ (c : Label) (a : Answer) (fa : FitsAnswer w c a) where
    abbrev pub did : List Action
    did = (w.traces c).actions

    pub told : Tells w.script did (popped_by a)
    told = let t = w.traces c in
        call_tells (sight_of w t.first t.last) w.script t.at fa.call a t.fired t.moved did fa.fits.does

    -- what a call pushed or popped stands in the list
    line_there : (j : ℕ) (x : Signal) → Among x (raised j did) → (k : ℕ) × HasLine (w.signals j) k c x
    line_there j x here =
        let e = among_things x (signalled j did) here in
        let s = own_line label_of signal_of c 1 (w.signals j) (e.0, x) (subst (Among (e.0, x)) (sym (fa.fits.traced.signals j)) e.1) in (
          s.before,
          record { line = s.line; there = s.there; label = same_label c s.line.label s.own; signal = sym (ap (λ (y : ℕ × Signal). y.1) s.is) },
        )

    -- and no more
    pub there_line : (j k : ℕ) (x : Signal) → HasLine (w.signals j) k c x → Among (1 + k, x) (signalled j did)
    there_line j k x l =
        let mine : is_label c l.line.label ≡ true = ap (is_label c) l.label ∙ label_itself c in
        subst (Among (1 + k, x)) (fa.fits.traced.signals j)
        (subst (λ y. Among (1 + k, y) (own label_of signal_of c 1 (w.signals j))) l.signal
        (stands_own label_of signal_of c 1 k (w.signals j) l.line l.there mine))

    -- what it pushed it had made entries for
    pub pushed_entry : (k : ℕ) (x : Signal) → HasLine (w.signals (push_counter w.script)) k c x → Sent w.script w.run c x
    pushed_entry k x l =
        let m = pushed_made w.script did x (subst (Among x) told.pushes
        (among_numbered (1 + k) x (signalled (push_counter w.script) did) (there_line (push_counter w.script) k x l))) in
        let s = own_line line_label line_entry c 1 (lines_of_object w.run x.timer) (x.number, m.entry)
        (subst (Among (x.number, m.entry)) (sym (fa.fits.traced.objects x.timer)) m.among) in
        let number : x.number ≡ 1 + s.before = ap (λ (y : ℕ × ObjectEntry). y.0) s.is in
        record {
          queued = m.queued;
          made = record {
            before = s.before;
            count = omega (arith, number);
            line = s.line;
            there = s.there;
            label = same_label c s.line.label s.own;
            such = subst IsCounted (ap (λ (y : ℕ × ObjectEntry). y.1) s.is) m.counted;
          };
        }

    -- for each entry that counted it pushed a signal
    pub entry_pushed : (x : Signal) → Sent w.script w.run c x → (k : ℕ) × HasLine (w.signals (push_counter w.script)) k c x
    entry_pushed x sent =
        let m = sent.made in
        let mine : is_label c m.line.label ≡ true = ap (is_label c) m.label ∙ label_itself c in
        let among = stands_own line_label line_entry c 1 m.before (lines_of_object w.run x.timer) m.line m.there mine in
        let number : 1 + m.before ≡ x.number = omega (arith, m.count) in
        let here = made_pushed w.script did x.timer (1 + m.before) m.line.entry
        (subst (Among (1 + m.before, m.line.entry)) (fa.fits.traced.objects x.timer) among) sent.queued m.such in
        line_there (push_counter w.script) x (subst (Among x) (sym told.pushes)
        (subst (λ (n : ℕ). Among (record { timer = x.timer; number = n }) (pushed_in w.script did)) number here))

    -- what it popped its answer names
    pub popped_answer : (k : ℕ) (x : Signal) → HasLine (w.signals (pop_counter w.script)) k c x → IsNamedBy a x
    popped_answer k x l = names_popped a x (subst (Among x) told.pops
        (among_numbered (1 + k) x (signalled (pop_counter w.script) did) (there_line (pop_counter w.script) k x l)))

    pub answer_popped : (x : Signal) → IsNamedBy a x → (k : ℕ) × HasLine (w.signals (pop_counter w.script)) k c x
    answer_popped x named = line_there (pop_counter w.script) x (subst (Among x) (sym told.pops) (popped_named a x named))

    -- it pushed each signal once
    pub own_once : (k j : ℕ) (x : Signal) → HasLine (w.signals (push_counter w.script)) k c x → HasLine (w.signals (push_counter w.script)) j c x → k ≡ j
    own_once k j x one two =
        let rise : Rise did = λ i. (1, subst (RiseIn 1) (fa.fits.traced.objects i) (own_rises line_label line_entry c 1 (lines_of_object w.run i))) in
        let same = one_number (1 + k) (1 + j) x (signalled (push_counter w.script) did)
        (subst AreDistinct (sym told.pushes) (pushed_once w.script did rise))
        (there_line (push_counter w.script) k x one) (there_line (push_counter w.script) j x two) in
        omega (arith, same)
