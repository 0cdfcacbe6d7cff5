-- While bases stay off line or on line as they are, a start asks for one base, is sent there or nowhere, and the timer says which.
use Rattle.std.proofs.Common.{◌≡◌, ℕ, List, [], ◌∷◌, ap, sym, ◌∙◌, subst, refl, length, arith, ◌⊎◌, inl, inr}
use Rattle.std.specs.Prelude.{◌+◌, ◌++◌, IsSome, Some, None}
use Rattle.seq_timer.specs.Calls.{entries_along, step_all}
use Rattle.pass_names.specs.Passes.{Begins, places}
use Rattle.pass_names.proofs.Passes.{begins_refl, begins_trans}
use Rattle.seq_timer.specs.Events.{Asked}
use Rattle.seq_timer.specs.Histories as seq
use Rattle.seq_timer.specs.Steps.{Needs, Timer, after}
use Rattle.seq_timer.specs.Systems.{entries_of, first_system}
use Rattle.seq_timer.specs.Tables.{timer_at}
use Rattle.seq_timer.specs.declared.event.EventBy.TheVariants as events
use Rattle.seq_timer.specs.declared.system.SystemEntry.{SystemEntry}
use Rattle.seq_timer.proofs.Agreement.{parts}
use Rattle.base_row.specs.declared.view.Opening.{Opening}
use Rattle.hr_timers.specs.declared.answer.StartAnswer.{StartAnswer}
use Rattle.hr_timers.specs.declared.answer.StartAnswer.TheVariants as starts
use Rattle.hr_timers.specs.Calls.{StartsTimer, start_answer}
use Rattle.hr_timers.specs.Known.{KnownOfTimers, KnowsTimers, MadeAt, timer_then}
use Rattle.hr_timers.specs.Ways.{Finds, IsSentBy, IsWay, asking, standing_then, start_on}
use Rattle.hr_timers.proofs.Ways.{way_ends, way_rises}
use Rattle.hr_timers.proofs.Moments.{timer_own}
use Rattle.answer_laws.specs.Outcomes.{BasesStay, SameOutcome, SameOwn, StartMoment, unasked}
use Rattle.answer_laws.proofs.Outcomes.{made_once, own_same}
use Rattle.answer_laws.proofs.TimerCalls.{start_once}

second_steps : (t : Timer) (xs ys : List seq.Entry) → seq.AreSteps t (xs ++ ys) → seq.AreSteps (seq.after_all t xs) ys
second_steps t [] ys are = are
second_steps t (x ∷ xs) ys are = second_steps (after t x.event) xs ys are.2

-- the entries of a call are steps of its timer at the moment
own_steps : (o : Opening) (v w : KnownOfTimers) (t : ℕ) (x : List SystemEntry) (es : List seq.Entry) → KnowsTimers o w → MadeAt v w t x es
    → seq.AreSteps (timer_then o x t) es
own_steps o v w t x es knows made = subst (λ u. seq.AreSteps u es) (sym (timer_own o x t)) (second_steps (timer_at o.timers t) (entries_of t x) es
    (subst (seq.AreSteps (timer_at o.timers t)) made.own (parts o.bases (length o.timers) (first_system o.timers) w.seen knows.history t)))

no_heir : {heir : ℕ} → Some heir ≡ None → ⊥
no_heir wrong = cc

some_same : (a b : ℕ) → Some a ≡ Some b → a ≡ b
some_same a b e = cc

module _ (o : Opening) (low high : List SystemEntry) (t : ℕ) (stay : BasesStay o low high) where
  -- a start is sent to one base at most, which it found on line
  straight : (n asked last : ℕ) (sent : List ℕ) → IsSentBy o high t low n asked sent last
      → Finds o high t low n asked last × ((sent ≡ []) ⊎ (sent ≡ last ∷ []))
  straight n asked last [] s = (s, inl refl)
  straight n asked last (b ∷ []) s = (subst (Finds o high t low n asked) s.1 s.0, inr (ap (λ z. z ∷ []) s.1))
  straight n asked last (b ∷ c ∷ cs) s =
      let f = s.0 in
      let g = s.1.0 in
      let way : IsWay o f.at b (c ∷ []) c g.at = subst (λ path. IsWay o f.at b path c g.at) s.1.1 g.way in
      let from = way_rises o low asked f.path b f.at f.way in
      let x = way.0 in
      absurd (no_heir (sym way.1.stood ∙ (stay x b (begins_trans from way.1.from) (begins_trans (way_rises o x c [] c g.at way.2) g.seen)
      ∙ (sym (stay f.at b from f.seen) ∙ way_ends o low asked f.path b f.at f.way))))

-- while bases stay as they are, all ways from a base end where one does
module _ (o : Opening) (low high high' : List SystemEntry) (stay : BasesStay o low high) (stay' : BasesStay o low high') where
  one_end : (x x' : List SystemEntry) (a b b' : ℕ) (path path' : List ℕ) (at at' : List SystemEntry) → Begins low x → Begins low x' → Begins at high
      → Begins at' high' → IsWay o x a path b at → IsWay o x' a path' b' at' → b ≡ b'
  one_end x x' a b b' [] [] at at' down down' up up' way way' = sym way.0 ∙ way'.0
  one_end x x' a b b' [] (d ∷ ds) at at' down down' up up' way way' =
      absurd (no_heir (sym (heir_at x' a d ds b' at' down' up' way') ∙ (sym (stay at a (begins_trans down way.1.from) up) ∙ way.1.stood)))
    where
      heir_at : (x : List SystemEntry) (a d : ℕ) (ds : List ℕ) (b : ℕ) (at : List SystemEntry) → Begins low x → Begins at high' → IsWay o x a (d ∷ ds) b at
          → (standing_then o low a).heir ≡ Some d
      heir_at x a d ds b at down up way =
          sym (stay' way.0 a (begins_trans down way.1.from) (begins_trans (way_rises o way.0 d ds b at way.2) up)) ∙ way.1.stood
  one_end x x' a b b' (c ∷ cs) [] at at' down down' up up' way way' =
      absurd (no_heir (sym way.1.stood ∙ (stay way.0 a (begins_trans down way.1.from) (begins_trans (way_rises o way.0 c cs b at way.2) up)
      ∙ (sym (stay' at' a (begins_trans down' way'.1.from) up') ∙ way'.1.stood))))
  one_end x x' a b b' (c ∷ cs) (d ∷ ds) at at' down down' up up' way way' =
      let here = begins_trans down way.1.from in
      let there = begins_trans down' way'.1.from in
      let same = some_same c d (sym way.1.stood ∙ (stay way.0 a here (begins_trans (way_rises o way.0 c cs b at way.2) up)
      ∙ (sym (stay' way'.0 a there (begins_trans (way_rises o way'.0 d ds b' at' way'.2) up')) ∙ way'.1.stood))) in
      one_end way.0 way'.0 c b b' cs ds at at' here there up up' way.2 (subst (λ k. IsWay o way'.0 k ds b' at') (sym same) way'.2)

-- a timer isn't both started where it is and sent there
not_both_ways : (t u : Timer) (asked : Asked) (b c : ℕ) → t ≡ u → b ≡ c → Needs t (events.Start (asking asked b)) → Needs u (events.Out c) → ⊥
not_both_ways t u asked b c e f stays goes = by_cause stays.0
  where
    by_cause : (IsSome t.running ⊎ (b ≡ t.base)) → ⊥
    by_cause (inl some) = let g = ap (λ (x : Timer). x.running) e in let h = goes.0 in cc
    by_cause (inr base) = goes.1 (sym f ∙ (base ∙ ap (λ (x : Timer). x.base) e))

abbrev moment : List SystemEntry → List ℕ → ℕ → StartMoment
moment x s l = record { at = x; sent = s; last = l }

moment_same : (x y : List SystemEntry) (s r : List ℕ) (l k : ℕ) → x ≡ y → s ≡ r → l ≡ k → moment x s l ≡ moment y r k
moment_same x y s r l k e f g = cc

module _ (o : Opening) (v w w' : KnownOfTimers) (t : ℕ) (asked : Asked) (knows : KnowsTimers o w) (knows' : KnowsTimers o w')
    (stay : BasesStay o v.seen w.seen) (stay' : BasesStay o v.seen w'.seen) where
  mixed : (k k' : KnownOfTimers) (x y : List SystemEntry) (s r : List ℕ) (b c : ℕ) → KnowsTimers o k → KnowsTimers o k' → x ≡ y → b ≡ c → s ≡ [] → r ≡ c ∷ []
      → MadeAt v k t x (entries_along (timer_then o x t) (start_on asked s b)) → MadeAt v k' t y (entries_along (timer_then o y t) (start_on asked r c)) → ⊥
  mixed k k' x y s r b c p q e f g h made made' =
      let stays = subst (λ z. seq.AreSteps (timer_then o x t) (entries_along (timer_then o x t) (start_on asked z b))) g (own_steps o v k t x _ p made) in
      let goes = subst (λ z. seq.AreSteps (timer_then o y t) (entries_along (timer_then o y t) (start_on asked z c))) h (own_steps o v k' t y _ q made') in
      not_both_ways (timer_then o x t) (timer_then o y t) asked b c (ap (λ z. timer_then o z t) e) f stays.0 goes.0

  pub plain_start_once : (a a' : StartAnswer) (c : StartsTimer o v w t asked a) (d : StartsTimer o v w' t asked a') → c.at ≡ d.at
      → (a ≡ a') × SameOutcome w w' t
  plain_start_once (starts.Spent n) (starts.Spent m) c d e = (
    ap starts.Spent (c.fits.2 ∙ (ap (λ x. (timer_then o x t).stamp) e ∙ sym d.fits.2)),
    made_once v v w w' t t c.at d.at [] [] (own_same v) c.made d.made refl e refl (c.claims ∙ sym d.claims),
  )
  plain_start_once (starts.Spent n) (starts.Started x g b s p) c d e =
      absurd (omega (arith, c.fits.1, d.fits.1, ap (λ x. (timer_then o x t).stamp) e, ap (λ x. (timer_then o x t).terms.limit) e))
  plain_start_once (starts.Started x g b s p) (starts.Spent n) c d e =
      absurd (omega (arith, c.fits.1, d.fits.1, ap (λ x. (timer_then o x t).stamp) e, ap (λ x. (timer_then o x t).terms.limit) e))
  plain_start_once (starts.Started x g b s p) (starts.Started x' g' b' s' p') c d e = by_way way.1 way'.1
    where
      way : Finds o w.seen t v.seen (timer_then o c.at t).stamp asked.base c.last × ((c.sent ≡ []) ⊎ (c.sent ≡ c.last ∷ []))
      way = straight o v.seen w.seen t stay (timer_then o c.at t).stamp asked.base c.last c.sent c.on_way

      way' : Finds o w'.seen t v.seen (timer_then o d.at t).stamp asked.base d.last × ((d.sent ≡ []) ⊎ (d.sent ≡ d.last ∷ []))
      way' = straight o v.seen w'.seen t stay' (timer_then o d.at t).stamp asked.base d.last d.sent d.on_way

      last : c.last ≡ d.last
      last = one_end o v.seen w.seen w'.seen stay stay' v.seen v.seen asked.base c.last d.last way.0.path way'.0.path way.0.at way'.0.at
          (begins_refl v.seen) (begins_refl v.seen) way.0.seen way'.0.seen way.0.way way'.0.way

      alike : c.sent ≡ d.sent → (starts.Started x g b s p ≡ starts.Started x' g' b' s' p') × SameOutcome w w' t
      alike sent = start_once o v v w w' (own_same v) t asked asked _ _ c d refl (moment_same _ _ _ _ _ _ e sent last)

      by_way : ((c.sent ≡ []) ⊎ (c.sent ≡ c.last ∷ [])) → ((d.sent ≡ []) ⊎ (d.sent ≡ d.last ∷ []))
          → (starts.Started x g b s p ≡ starts.Started x' g' b' s' p') × SameOutcome w w' t
      by_way (inl i) (inl j) = alike (i ∙ sym j)
      by_way (inr i) (inr j) = alike (i ∙ (ap (λ z. z ∷ []) last ∙ sym j))
      by_way (inl i) (inr j) = absurd (mixed w w' c.at d.at c.sent d.sent c.last d.last knows knows' e last i j c.made d.made)
      by_way (inr i) (inl j) = absurd (mixed w' w d.at c.at d.sent c.sent d.last c.last knows' knows (sym e) (sym last) j i d.made c.made)

-- ---- a timer whose function runs

unsent : (u : Timer) (asked : Asked) (s : List ℕ) (l : ℕ) → seq.AreSteps u (entries_along u (start_on asked s l)) → IsSome u.running → s ≡ []
unsent u asked [] l steps runs = refl
unsent u asked (b ∷ bs) l steps runs = let e = steps.0.0 in absurd cc

-- what such a start answers and where its entry stands, whatever base it asked for
answer_here : (u : Timer) (asked : Asked) (s : List ℕ) (l : ℕ) → s ≡ []
    → unasked (start_answer u (step_all u (start_on asked s l)) s l) ≡ unasked (start_answer u (step_all u (start_on asked [] 0)) [] 0)
answer_here u asked s l e = ap (λ z. unasked (start_answer u (step_all u (start_on asked z l)) z l)) e

place_here : (t n : ℕ) (u : Timer) (asked : Asked) (s : List ℕ) (l : ℕ) → s ≡ [] → places t n (entries_along u (start_on asked s l)) ≡ (t, n + 1) ∷ []
place_here t n u asked s l e = ap (λ z. places t n (entries_along u (start_on asked z l))) e

pub running_start_once : (o : Opening) (v w w' : KnownOfTimers) (t : ℕ) (asked : Asked) (a a' : StartAnswer) (c : StartsTimer o v w t asked a)
    (d : StartsTimer o v w' t asked a') → KnowsTimers o w → KnowsTimers o w' → IsSome (timer_then o c.at t).running → c.at ≡ d.at
    → (unasked a ≡ unasked a') × SameOwn w w'
running_start_once o v w w' t asked (starts.Spent n) (starts.Spent m) c d p q runs e = (
  ap starts.Spent (c.fits.2 ∙ (ap (λ x. (timer_then o x t).stamp) e ∙ sym d.fits.2)),
  (made_once v v w w' t t c.at d.at [] [] (own_same v) c.made d.made refl e refl (c.claims ∙ sym d.claims)).own,
)
running_start_once o v w w' t asked (starts.Spent n) (starts.Started x g b s k) c d p q runs e =
    absurd (omega (arith, c.fits.1, d.fits.1, ap (λ x. (timer_then o x t).stamp) e, ap (λ x. (timer_then o x t).terms.limit) e))
running_start_once o v w w' t asked (starts.Started x g b s k) (starts.Spent n) c d p q runs e =
    absurd (omega (arith, c.fits.1, d.fits.1, ap (λ x. (timer_then o x t).stamp) e, ap (λ x. (timer_then o x t).terms.limit) e))
running_start_once o v w w' t asked (starts.Started x g b s k) (starts.Started x' g' b' s' k') c d p q runs e =
    let here = unsent (timer_then o c.at t) asked c.sent c.last (own_steps o v w t c.at _ p c.made) runs in
    let there = unsent (timer_then o d.at t) asked d.sent d.last (own_steps o v w' t d.at _ q d.made)
    (subst (λ y. IsSome (timer_then o y t).running) e runs) in (
      ap unasked c.fits.2 ∙ (answer_here (timer_then o c.at t) asked c.sent c.last here
          ∙ (ap (λ y. unasked (start_answer (timer_then o y t) (step_all (timer_then o y t) (start_on asked [] 0)) [] 0)) e
          ∙ sym (ap unasked d.fits.2 ∙ answer_here (timer_then o d.at t) asked d.sent d.last there))),
      record {
        mine = c.made.mine ∙ (ap (λ z. v.mine ++ z) (place_here t _ (timer_then o c.at t) asked c.sent c.last here)
            ∙ (ap (λ y. v.mine ++ (t, length (entries_of t y) + 1) ∷ []) e
            ∙ sym (d.made.mine ∙ ap (λ z. v.mine ++ z) (place_here t _ (timer_then o d.at t) asked d.sent d.last there))));
        id = c.made.id ∙ sym d.made.id;
        claims = c.claims ∙ sym d.claims;
      },
    )
