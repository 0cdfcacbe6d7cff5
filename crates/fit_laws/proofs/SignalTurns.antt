-- Where pushes stand beside the entries of their timers' objects, and pops beside what else their calls did.
use Rattle.std.proofs.Common.{◌≡◌, ◌<◌, ◌≤◌, ℕ, ◌+◌, suc, List, [], ◌∷◌, ◌++◌, length, take, arith, sym, ap, ◌∙◌, subst, length-append}
use Rattle.std.proofs.Math.Logic.{⊎_elim}
use Rattle.std.proofs.lemmas.Bool.{cases_lt}
use Rattle.std.proofs.lemmas.List.{append_assoc}
use Rattle.record_text.specs.declared.record.Label.{Label}
use Rattle.signal_queue.specs.declared.signal.Signal.{Signal}
use Rattle.run_history.specs.Fits.{FitsIn}
use Rattle.run_history.specs.Signals.{push_counter, pushes_at}
use Rattle.run_history.specs.Traces.{all_entered}
use Rattle.run_history.specs.Witnesses.{CountersList, OfRise, Owner, Shown, Witness, entries_in, moves_on, owner_of, turns_along}
use Rattle.run_history.proofs.Actions.{all_entered-append}
use Rattle.fit_laws.proofs.EachTimer.{Stands, stands}
use Rattle.fit_laws.proofs.Moments.{rises_counted}
use Rattle.fit_laws.proofs.OwnParts.{on_here, on_rises, own_rises}
use Rattle.fit_laws.proofs.OwnPoints.{before_there}
use Rattle.fit_laws.proofs.SignalCalls.{HasLine, answer_fits, there_line, told}
use Rattle.fit_laws.proofs.Signals.{line_called, of_pushes, pushes, rise}

longer : {X : Type 0} (early xs ys : List X) → length xs < length ys → length (early ++ xs) < length (early ++ ys)
longer early xs ys less = omega (arith, less, length-append early xs, length-append early ys)

one_longer : {X : Type 0} (early : List X) (x : X) → length early < length (early ++ x ∷ [])
one_longer early x = omega (arith, length-append early (x ∷ []))

module _ (w : Witness) (f : FitsIn w) (k : ℕ) (c : Label) (x : Signal) (l : HasLine (pushes w f) k c x) where
  abbrev own_turn : Owner
  own_turn = CountersList (suc x.timer)

  -- the three moves of the turn in which the signal was pushed
  record Turn : Type 0 where
    stamp : ℕ
    is : x.number ≡ stamp + 1
    early : List (ℕ × Shown)
    begun : Stands c w.moves early (stamp + stamp + 1, OfRise (suc x.timer))
    put : Stands c w.moves (early ++ (stamp + stamp + 1, OfRise (suc x.timer)) ∷ []) (1 + k, OfRise (push_counter w.script))
    made : Stands c w.moves (early ++ (stamp + stamp + 1, OfRise (suc x.timer)) ∷ (1 + k, OfRise (push_counter w.script)) ∷ [])
        (stamp + 1 + (stamp + 1), OfRise (suc x.timer))

  turn : Turn
  turn =
      let a = line_called w f (push_counter w.script) (of_pushes w f) k c x l in
      let fa = answer_fits w f c a.0 a.1 in
      let t = (told w f c a.0 fa).turns (1 + k) x (there_line w f c a.0 fa (push_counter w.script) k x l) in
      let early = all_entered t.before in
      let one : ℕ × Shown = (t.stamp + t.stamp + 1, OfRise (suc x.timer)) in
      let two : ℕ × Shown = (1 + k, OfRise (push_counter w.script)) in
      let three : ℕ × Shown = (t.stamp + 1 + (t.stamp + 1), OfRise (suc x.timer)) in
      let rest = all_entered t.after in
      let own = fa.fits.traced.moves ∙ ap all_entered t.split ∙ all_entered-append t.before _ in
      record {
        stamp = t.stamp;
        is = t.is;
        early = early;
        begun = stands c w.moves early (two ∷ three ∷ rest) one own;
        put = stands c w.moves (early ++ one ∷ []) (three ∷ rest) two (own ∙ sym (append_assoc early (one ∷ []) (two ∷ three ∷ rest)));
        made = stands c w.moves (early ++ one ∷ two ∷ []) rest three (own ∙ sym (append_assoc early (one ∷ two ∷ []) (three ∷ rest)));
      }

  -- what a call did before stands before
  follows : {before later : List (ℕ × Shown)} {d e : ℕ × Shown} (a : Stands c w.moves before d) (b : Stands c w.moves later e)
      → length before < length later → a.place < b.place
  follows a b more = ⊎_elim
      (λ (less : a.place < b.place). less)
      (λ (late : b.place ≤ a.place). absurd (omega (arith, more, own_rises c w.moves b.place a.place late, ap length a.own, ap length b.own)))
      (cases_lt a.place b.place)

  -- a move's list has so many behind it
  here : {before : List (ℕ × Shown)} {number : ℕ} (shown : Shown) (s : Stands c w.moves before (number, shown))
      → (length (moves_on (owner_of shown) (take s.place w.moves)) + 1 ≡ number)
      × (length (moves_on (owner_of shown) (take (suc s.place) w.moves)) ≡ number)
  here shown s =
      let of : owner_of s.move.shown ≡ owner_of shown = ap (λ (e : ℕ × Shown). owner_of e.1) s.is in
      let before = before_there w f.history s.place s.move (owner_of shown) s.there of in
      let one = on_here (owner_of shown) s.place w.moves s.move s.there of in
      let number = ap (λ (e : ℕ × Shown). e.0) s.is in
      (omega (arith, before, number), omega (arith, before, one, number))

  -- law: where its timer's object has the entry of the signal's number, the signal was pushed
  pub pushed_by_entry : (n : ℕ) → x.number + x.number ≤ turns_along w n x.timer → k < pushes_at w.script (entries_in w) n
  pushed_by_entry n had =
      let t = turn in
      let put_first = follows t.put t.made (longer t.early (_ ∷ []) (_ ∷ _ ∷ []) (omega arith)) in
      ⊎_elim
      (λ (less : t.made.place < n). omega (
        arith,
        (here (OfRise (push_counter w.script)) t.put).1,
        on_rises (CountersList (push_counter w.script)) w.moves (suc t.put.place) n (omega (arith, less, put_first)),
        rises_counted w (push_counter w.script) n,
      ))
      (λ (late : n ≤ t.made.place). absurd (omega (
        arith,
        had,
        t.is,
        (here (OfRise (suc x.timer)) t.made).0,
        on_rises own_turn w.moves n t.made.place late,
        rises_counted w (suc x.timer) n,
      )))
      (cases_lt t.made.place n)

  -- law: where it was pushed, a call's turn of the object has begun behind all entries of lower numbers
  pub begun_by_push : (n : ℕ) → k < pushes_at w.script (entries_in w) n → x.number + x.number ≤ turns_along w n x.timer + 1
  begun_by_push n there =
      let t = turn in
      let begun_first = follows t.begun t.put (one_longer t.early _) in
      ⊎_elim
      (λ (less : t.put.place < n). omega (
        arith,
        t.is,
        (here (OfRise (suc x.timer)) t.begun).1,
        on_rises own_turn w.moves (suc t.begun.place) n (omega (arith, less, begun_first)),
        rises_counted w (suc x.timer) n,
      ))
      (λ (late : n ≤ t.put.place). absurd (omega (
        arith,
        there,
        (here (OfRise (push_counter w.script)) t.put).0,
        on_rises (CountersList (push_counter w.script)) w.moves n t.put.place late,
        rises_counted w (push_counter w.script) n,
      )))
      (cases_lt t.put.place n)

-- law: signals of one timer are pushed in the order of their numbers
pub own_in_turn : (w : Witness) (f : FitsIn w) {k m : ℕ} {c d : Label} {x y : Signal} → HasLine (pushes w f) k c x → HasLine (pushes w f) m d y
    → x.timer ≡ y.timer → x.number < y.number → k ≤ m
own_in_turn w f {k} {m} {c} {d} {x} {y} one two same less =
    let r = rise w f (push_counter w.script) (of_pushes w f) two in
    let n = suc r.0 in
    let now = rises_counted w (push_counter w.script) n in
    let begun = begun_by_push w f m d y two n (omega (arith, now, r.1.here)) in
    let its : x.number + x.number ≤ turns_along w n x.timer = subst (λ i. x.number + x.number ≤ turns_along w n i) (sym same) (omega (arith, begun, less)) in
    let there = pushed_by_entry w f k c x one n its in omega (arith, now, r.1.here, there)
