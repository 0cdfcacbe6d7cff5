-- The counters of rings stay in their bounds.
use Rattle.std.proofs.Common.{◌≡◌, ℕ, zero, suc, ◌+◌, ◌-◌, ◌<◌, ◌≤◌, ◌≢◌, List, [], ◌∷◌, ◌++◌, length, refl, ap, sym, ◌∙◌, subst, ⊎_elim, arith, if◌then◌else◌, Bool}
use Rattle.std.specs.Prelude.{replicate}
use Rattle.std.proofs.lemmas.Bool.{cases_eq, eq-eqb, ne_eqb}
use Rattle.std.proofs.lemmas.List.{append-nil, append_assoc}
use Rattle.pass_names.specs.Passes.{Begins}
use Rattle.pass_names.proofs.Passes.{begins_more, begins_push, begins_refl, begins_trans, begins_whole}
use Rattle.seq_timer.specs.declared.system.SystemEntry.{SystemEntry}
use Rattle.seq_timer.specs.declared.system.SystemEntry.TheVariants as entries
use Rattle.seq_timer.specs.Systems.{rises_of}
use Rattle.seq_timer.proofs.Systems.{rises_of-append}
use Rattle.base_row.specs.declared.view.Opening.{Opening}
use Rattle.base_row.specs.Plays.{rises}
use Rattle.base_row.specs.Rings.{IsRingInBounds, KeepsRings, MayRiseTo, put_counter, ring_room, taken_counter}

pub rises_many : (k n : ℕ) → rises_of k (rises k n) ≡ n
rises_many k zero = refl
rises_many k (suc n) = ap (λ (b : Bool). if b then rises_of k (rises k n) + 1 else rises_of k (rises k n)) (eq-eqb k k refl) ∙ omega (arith, rises_many k n)

pub rises_none : (j k n : ℕ) → j ≢ k → rises_of j (rises k n) ≡ 0
rises_none j k zero apart = refl
rises_none j k (suc n) apart =
    ap (λ (b : Bool). if b then rises_of j (rises k n) + 1 else rises_of j (rises k n)) (ne_eqb k j (λ e. apart (sym e))) ∙ rises_none j k n apart

-- a counter never falls
pub rises_grow : (k : ℕ) {seen log : List SystemEntry} → Begins seen log → rises_of k seen ≤ rises_of k log
rises_grow k {seen} more = omega (arith, ap (rises_of k) more.whole, rises_of-append k seen more.rest)

-- nothing has happened
pub rings_nil : (o : Opening) → KeepsRings o []
rings_nil o before begins r less = subst (λ l. IsRingInBounds o l r) (sym (begins_whole begins (omega arith))) (record { put_first = omega arith; room = omega arith })

-- what was seen of a history kept them too
pub rings_seen : (o : Opening) {seen log : List SystemEntry} → Begins seen log → KeepsRings o log → KeepsRings o seen
rings_seen o more keeps before begins = keeps before (begins_trans begins more)

-- one entry more
pub rings_push : (o : Opening) (log : List SystemEntry) (e : SystemEntry) → KeepsRings o log
    → ((r : ℕ) → r < length o.rings → IsRingInBounds o (log ++ e ∷ []) r) → KeepsRings o (log ++ e ∷ [])
rings_push o log e keeps last before begins = ⊎_elim
    (λ more. keeps before more)
    (λ q r less. subst (λ l. IsRingInBounds o l r) (sym q) (last r less))
    (begins_push before log e begins)

-- one entry more that is no rise
pub rings_same : (o : Opening) (log : List SystemEntry) (e : SystemEntry) → ((j : ℕ) → rises_of j (log ++ e ∷ []) ≡ rises_of j log)
    → KeepsRings o log → KeepsRings o (log ++ e ∷ [])
rings_same o log e same keeps = rings_push o log e keeps (λ r less.
    let was = keeps log (begins_refl log) r less in record {
      put_first = omega (arith, was.put_first, same (put_counter o r), same (taken_counter o r));
      room = omega (arith, was.room, same (put_counter o r), same (taken_counter o r));
    })

-- a counter that rises freely is no ring's
pub rises_freely : (o : Opening) (k to : ℕ) (seen : List SystemEntry) → k < o.counters → MayRiseTo o k to seen
rises_freely o k to seen free = record {
  put = λ r less e. absurd (omega (arith, free, e));
  taken = λ r less e. absurd (omega (arith, free, e));
}

module _ (o : Opening) (k : ℕ) where
  -- what may be by what was seen may be later
  pub may_later : (to : ℕ) {seen log : List SystemEntry} → Begins seen log → MayRiseTo o k to seen → MayRiseTo o k to log
  may_later to more may = record {
    put = λ r less e. omega (arith, may.put r less e, rises_grow (taken_counter o r) more);
    taken = λ r less e. omega (arith, may.taken r less e, rises_grow (put_counter o r) more);
  }

  -- a counter that is as far already may rise to what is missing, which is nothing
  pub may_missing : (to : ℕ) (log : List SystemEntry) → KeepsRings o log → MayRiseTo o k to log → MayRiseTo o k (rises_of k log + (to - rises_of k log)) log
  may_missing to log keeps may = record {
    put = λ r less e. omega (arith, may.put r less e, (keeps log (begins_refl log) r less).room, ap (λ j. rises_of j log) e);
    taken = λ r less e. omega (arith, may.taken r less e, (keeps log (begins_refl log) r less).put_first, ap (λ j. rises_of j log) e);
  }

  one_rise : (log : List SystemEntry) → KeepsRings o log → MayRiseTo o k (rises_of k log + 1) log → KeepsRings o (log ++ entries.Rise k ∷ [])
  one_rise log keeps may = rings_push o log (entries.Rise k) keeps (λ r less. record { put_first = put_first r less; room = room r less })
    where
      after : (j : ℕ) → rises_of j (log ++ entries.Rise k ∷ []) ≡ rises_of j log + rises_of j (rises k 1)
      after j = rises_of-append j log (entries.Rise k ∷ [])

      was : (r : ℕ) → r < length o.rings → IsRingInBounds o log r
      was r less = keeps log (begins_refl log) r less

      put_first : (r : ℕ) → r < length o.rings → rises_of (taken_counter o r) (log ++ entries.Rise k ∷ []) ≤ rises_of (put_counter o r) (log ++ entries.Rise k ∷ [])
      put_first r less = ⊎_elim
          (λ (e : k ≡ taken_counter o r). omega (
            arith,
            may.taken r less e,
            ap (λ j. rises_of j log) e,
            after (taken_counter o r),
            after (put_counter o r),
            ap (λ j. rises_of j (rises k 1)) (sym e),
            rises_many k 1,
          ))
          (λ apart. omega (arith, (was r less).put_first, after (taken_counter o r), after (put_counter o r), rises_none (taken_counter o r) k 1 (λ e. apart (sym e))))
          (cases_eq k (taken_counter o r))

      room : (r : ℕ) → r < length o.rings → rises_of (put_counter o r) (log ++ entries.Rise k ∷ []) ≤ rises_of (taken_counter o r) (log ++ entries.Rise k ∷ []) + ring_room o r
      room r less = ⊎_elim
          (λ (e : k ≡ put_counter o r). omega (
            arith,
            may.put r less e,
            ap (λ j. rises_of j log) e,
            after (taken_counter o r),
            after (put_counter o r),
            ap (λ j. rises_of j (rises k 1)) (sym e),
            rises_many k 1,
          ))
          (λ apart. omega (arith, (was r less).room, after (taken_counter o r), after (put_counter o r), rises_none (put_counter o r) k 1 (λ e. apart (sym e))))
          (cases_eq k (put_counter o r))

  -- so many rises, one right behind the other, to what may be
  pub rings_rises : (n : ℕ) (log : List SystemEntry) → KeepsRings o log → MayRiseTo o k (rises_of k log + n) log → KeepsRings o (log ++ rises k n)
  rings_rises zero log keeps may = subst (λ l. KeepsRings o l) (sym (append-nil log)) keeps
  rings_rises (suc n) log keeps may =
      let more = begins_more log (entries.Rise k ∷ []) in
      let next : rises_of k (log ++ entries.Rise k ∷ []) ≡ rises_of k log + 1 = omega (arith, rises_of-append k log (entries.Rise k ∷ []), rises_many k 1) in
      subst (λ l. KeepsRings o l) (append_assoc log (entries.Rise k ∷ []) (rises k n))
      (rings_rises n (log ++ entries.Rise k ∷ []) (one_rise log keeps (record {
        put = λ r less e. omega (arith, may.put r less e);
        taken = λ r less e. omega (arith, may.taken r less e);
      })) (record {
        put = λ r less e. omega (arith, may.put r less e, rises_grow (taken_counter o r) more, next);
        taken = λ r less e. omega (arith, may.taken r less e, rises_grow (put_counter o r) more, next);
      }))
