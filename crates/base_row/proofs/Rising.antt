-- A counter rises: nothing else is other than before, and the rule stays.
use Rattle.base_row.specs.Places.{counter_at, lock_at, word_at}
use Rattle.base_row.specs.Rings.{counters_in, MayRiseTo}
use Rattle.std.proofs.Common.{◌≡◌, ℕ, zero, suc, eqb, ◌+◌, ◌-◌, ◌<◌, ◌≤◌, ◌≢◌, ◌%◌, ◌/◌, Bool, true, false, List, [], ◌∷◌, ◌++◌, length, set, refl, ap, sym, ◌∙◌, subst, inr, ⊎_elim, arith, if◌then◌else◌}
use Rattle.std.specs.Prelude.{slice_index, slice_set, max, Option, MatchBool}
use Rattle.std.proofs.lemmas.Bool.{cases_eq, eq-eqb, ne_eqb, eqb-true, true≢false}
use Rattle.std.proofs.lemmas.List.{append-nil, length-set, get_or-set_same, get_or-set_other}
use mathlib.Core.Option.{some}
use lib.ListN.{get_elem?}
use prog.Atomic.{either}
use Rattle.atomic_table.specs.Table.{State, Act, stepped, carried_after, keeps, Valid, Allows}
use Rattle.pass_names.specs.Counts.{one_if}
use Rattle.pass_names.specs.Passes.{within}
use Rattle.pass_names.proofs.Counts.{set_there}
use Rattle.pass_names.proofs.Passes.{begins_more, begins_refl, begins_trans}
use Rattle.seq_timer.specs.declared.system.SystemEntry.{SystemEntry}
use Rattle.seq_timer.specs.Systems.{AreSystemSteps, BaseContent, System, after_entries, after_one, entries_of, first_system, rises_of, shifts_of, system_after}
use Rattle.seq_timer.proofs.Systems.{after_entries-append, entries_of-append, rises_of-append, shifts_of-append}
use Rattle.base_row.specs.declared.view.Opening.{Opening}
use Rattle.base_row.specs.declared.view.BaseView.{BaseView}
use Rattle.base_row.specs.Rules.{base_place, has, Hold, Take, HasOneHistory, IsIn, number_of, owed, PassHolds, RowHolds, slot_of, standing_number, Token}
use Rattle.base_row.specs.Plays.{having_met, RaisedCounter, RaisesTo, rises, RisesFrom, RoseCounter, SawMore}
use Rattle.base_row.proofs.Frames.{counted, fits_on, fits_whole, has_kept, kept_tree}
use Rattle.base_row.proofs.Knowing.{knows_of}
use Rattle.base_row.proofs.Ringing.{may_later, may_missing, rings_rises, rises_many, rises_none}
use Rattle.base_row.proofs.Looking.{looks_with}
use Rattle.base_row.proofs.Stable.{steady_along}

-- ---- rises of a counter

after_rises : (w : System) (k n : ℕ) → after_entries w (rises k n) ≡ w
after_rises w k zero = refl
after_rises w k (suc n) = after_rises w k n

steps_rises : (bases count : ℕ) (w : System) (log : List SystemEntry) (k n : ℕ) → AreSystemSteps bases count w log
    → AreSystemSteps bases count w (log ++ rises k n)
steps_rises bases count w [] k zero all = tt
steps_rises bases count w [] k (suc n) all = (tt, steps_rises bases count w [] k n tt)
steps_rises bases count w (x ∷ xs) k n all = (all.0, steps_rises bases count (after_one w x) xs k n all.1)

no_entries : (t k n : ℕ) → entries_of t (rises k n) ≡ []
no_entries t k zero = refl
no_entries t k (suc n) = no_entries t k n

no_shifts : (b k n : ℕ) → shifts_of b (rises k n) ≡ []
no_shifts b k zero = refl
no_shifts b k (suc n) = no_shifts b k n

-- the count after a counter was raised
pub count_raised : (k to : ℕ) (old new : List SystemEntry) → RaisesTo k to old new → to ≤ rises_of k new
count_raised k to old new r = omega (
  arith,
  ap (rises_of k) r.whole,
  rises_of-append k r.before (rises k (to - rises_of k r.before)),
  rises_many k (to - rises_of k r.before),
)

-- nothing is missing where a counter is as far
pub raised_already : (k to : ℕ) (seen : List SystemEntry) → to ≤ rises_of k seen → RaisesTo k to seen seen
raised_already k to seen far = let none : to - rises_of k seen ≡ 0 = omega (arith, far) in record {
  before = seen;
  seen = begins_refl seen;
  whole = sym (ap (λ n. seen ++ rises k n) none ∙ append-nil seen);
}

module _ (o : Opening) (slots id : ℕ) (v : BaseView BaseContent) (carried : List (ℕ × Option BaseContent)) (live : v.id.live ≡ true) (k : ℕ)
    (inside : k < counters_in o) where
  module _ (log : List SystemEntry) (s : State (Option BaseContent) (BaseView BaseContent)) (home : RowHolds o log s)
      (at : get_elem? s.views id ≡ some v) (n : ℕ) (may : MayRiseTo o k (rises_of k log + n) log) where
    abbrev log' : List SystemEntry
    log' = log ++ rises k n

    abbrev word : ℕ
    word = slice_index s.words (counter_at k) + n

    abbrev words : List ℕ
    words = set s.words (counter_at k) word

    abbrev v' : BaseView BaseContent
    v' = having_met log' v.met v

    abbrev w : System
    w = system_after o.timers log

    abbrev w' : System
    w' = system_after o.timers log'

    same : w' ≡ w
    same = after_entries-append (first_system o.timers) log (rises k n) ∙ after_rises w k n

    fits : PassHolds o log s.words v
    fits = home.each_view id v at

    word_same : (j : ℕ) → j ≢ counter_at k → slice_index words j ≡ slice_index s.words j
    word_same j apart = get_or-set_other s.words (counter_at k) j word 0 apart

    lock_same : (b : ℕ) → slice_index words (lock_at b) ≡ slice_index s.words (lock_at b)
    lock_same b = word_same (lock_at b) (λ e. omega (arith, e))

    place_same : (t : ℕ) → slice_index words (word_at o.bases t) ≡ slice_index s.words (word_at o.bases t)
    place_same t = word_same (word_at o.bases t) (λ e. omega (arith, e))

    in_words : counter_at k < length s.words
    in_words = omega (arith, home.words_len, home.counters_len, inside)

    no_shift : (b : ℕ) → shifts_of b log' ≡ shifts_of b log
    no_shift b = shifts_of-append b log (rises k n) ∙ (ap (λ l. shifts_of b log ++ l) (no_shifts b k n) ∙ append-nil (shifts_of b log))

    each_counter : (j : ℕ) → j < counters_in o → slice_index words (counter_at j) ≡ rises_of j log'
    each_counter j h = ⊎_elim
        (λ (e : j ≡ k). subst (λ i. slice_index words (counter_at i) ≡ rises_of i log') (sym e) (omega (
          arith,
          get_or-set_same s.words (counter_at k) word 0 in_words,
          home.each_counter k inside,
          rises_of-append k log (rises k n),
          rises_many k n,
        )))
        (λ (apart : j ≢ k). omega (
          arith,
          word_same (counter_at j) (λ e. apart (omega (arith, e))),
          home.each_counter j h,
          rises_of-append j log (rises k n),
          rises_none j k n apart,
        ))
        (cases_eq j k)

    fits' : PassHolds o log' words v'
    fits' = fits_whole o words v' refl live (fits.full live)
        (λ h e. let t = fits.held h e in let now = t.whole ∙ ap (λ (x : System). x.bases h.base) (sym same) in record {
          within = t.within;
          seen = now;
          whole = now;
          word = lock_same h.base ∙ t.word;
          number = t.number;
        })
        (λ b h. omega (arith, lock_same b, fits.met b h)) fits.takes

    change : (x : Token) → IsIn o x → has o x v' + owed w s.words x ≡ has o x v + owed w' words x
    change x i = subst (λ y. has o x v' + owed w s.words x ≡ has o x v + owed y words x) (sym same)
        (ap (λ m. m + owed w s.words x) (has_kept o x v v.id log' [] v.met) ∙ ap (λ m. has o x v + m) (owed_same x))
      where
        owed_same : (x : Token) → owed w s.words x ≡ owed w words x
        owed_same (Hold b) = ap (λ m. m % 2) (sym (lock_same b))
        owed_same (Take b m) = ap (λ y. one_if (within m ((y + 1) / 2))) (sym (lock_same b))
        owed_same x = refl

    pub risen : RowHolds o log' record { words = words; homes = s.homes; views = slice_set s.views id v' }
    risen = record {
      allowed = steps_rises o.bases (length o.timers) (first_system o.timers) log k n home.allowed;
      words_len = length-set s.words (counter_at k) word ∙ home.words_len;
      homes_len = home.homes_len;
      each_slot = λ b h. subst (λ (x : System). get_elem? s.homes b ≡ some (slot_of (slice_index words (lock_at b) % 2) (x.bases b))) (sym same)
          (home.each_slot b h ∙ ap (λ m. some (slot_of (m % 2) (w.bases b))) (sym (lock_same b)));
      each_timer = λ t h. place_same t ∙ (home.each_timer t h ∙ ap (λ (x : System). number_of (x.timers t)) (sym same));
      each_standing = λ b h. place_same (base_place (length o.timers) b)
          ∙ (home.each_standing b h ∙ ap (λ (x : System). standing_number (x.bases b).standing) (sym same));
      each_counter = each_counter;
      no_counter = λ j past. omega (arith, rises_of-append j log (rises k n), rises_none j k n (λ e. omega (arith, e, inside, past)), home.no_counter j past);
      rings = rings_rises o k n log home.rings may;
      counters_len = home.counters_len;
      each_view = fits_on o log s home id v v' at refl log' words (begins_more log (rises k n)) (λ b h. omega (arith, lock_same b))
          (λ b h. inr (ap (λ (x : System). x.bases b) same, lock_same b)) (λ t. inr (ap (λ (x : System). x.timers t) same)) (inr no_shift) fits';
      tree = kept_tree o log s home id v v' at refl;
      tokens = counted o log s home id v v' at refl log' words (begins_more log (rises k n)) change;
    }

    saw : SawMore o (v, carried) (v', carried)
    saw = record {
      rest = refl;
      seen = begins_trans fits.seen (begins_more log (rises k n));
      steady = steady_along o log s home v fits live (λ t. entries_of-append t log (rises k n)
          ∙ (ap (λ l. entries_of t log ++ l) (no_entries t k n) ∙ append-nil (entries_of t log))) no_shift;
      knows = knows_of o _ id v' risen (set_there s.views id v v' at) live;
    }

  pub raises : (to : ℕ) → MayRiseTo o k to v.seen → Allows (HasOneHistory o) slots id (v, carried) (counter_at k) (λ n. max n to)
      (λ found new. (j : ℕ) → counter_at k ≡ counter_at j → j < counters_in o → RaisedCounter o j to (v, carried) new)
  raises to may s (log, home) many at small =
      let n = to - rises_of k log in
      let so_far = may_missing o k to log home.rings (may_later o k to (home.each_view id v at).seen may) in
      let stored : slice_index s.words (counter_at k) + n ≡ max (slice_index s.words (counter_at k)) to = omega (arith, home.each_counter k inside) in (
        having_met (log ++ rises k n) v.met v,
        keeps,
        tt,
        (
          log ++ rises k n,
          subst (λ x. RowHolds o (log ++ rises k n) record {
            words = slice_set s.words (counter_at k) x;
            homes = s.homes;
            views = slice_set s.views id (having_met (log ++ rises k n) v.met v);
          }) stored (risen log s home at n so_far),
        ),
        λ j e h. subst (λ i. RaisedCounter o i to (v, carried) (having_met (log ++ rises k n) v.met v, carried)) (omega (arith, e)) (record {
          saw = saw log s home at n so_far;
          raised = record { before = log; seen = (home.each_view id v at).seen; whole = refl };
        }),
      )

  -- an exchange that hits or misses
  abbrev Told : ℕ → Bool → State (Option BaseContent) (BaseView BaseContent) → Type 0
  Told from hit s =
      (x : BaseView BaseContent) × (a : Act (Option BaseContent)) × Valid s.homes carried a
      × HasOneHistory o (stepped s (counter_at k) (either hit (from + 1) (slice_index s.words (counter_at k))) id carried x a)
      × SawMore o (v, carried) (x, carried_after carried a)
      × MatchBool hit (RisesFrom k from v.seen x.seen) (rises_of k x.seen ≢ from)

  told : (from : ℕ) → MayRiseTo o k (from + 1) v.seen → (log : List SystemEntry) (s : State (Option BaseContent) (BaseView BaseContent)) → RowHolds o log s
      → get_elem? s.views id ≡ some v → (hit : Bool) → eqb (slice_index s.words (counter_at k)) from ≡ hit → Told from hit s
  told from may log s home at true is =
      let found : slice_index s.words (counter_at k) ≡ from = eqb-true (slice_index s.words (counter_at k)) from is in
      let so_far = subst (λ m. MayRiseTo o k (m + 1) log) (sym found ∙ home.each_counter k inside) (may_later o k (from + 1) (home.each_view id v at).seen may) in (
        having_met (log ++ rises k 1) v.met v,
        keeps,
        tt,
        (
          log ++ rises k 1,
          subst (λ x. RowHolds o (log ++ rises k 1) record {
            words = slice_set s.words (counter_at k) (x + 1);
            homes = s.homes;
            views = slice_set s.views id (having_met (log ++ rises k 1) v.met v);
          }) found (risen log s home at 1 so_far),
        ),
        saw log s home at 1 so_far,
        record { before = log; seen = (home.each_view id v at).seen; count = sym (home.each_counter k inside) ∙ found; last = refl },
      )
  told from may log s home at false is =
      let fits = home.each_view id v at in
      let l = looks_with o slots id v carried live log s home at (counter_at k) v.met (record { size = refl; newer = λ b. omega arith; below = fits.met })
      (λ h e. refl) in (
        having_met log v.met v,
        keeps,
        tt,
        (log, l.0),
        record { rest = refl; seen = fits.seen; steady = steady_along o log s home v fits live (λ t. refl) (λ b. refl); knows = l.1 },
        λ e. true≢false (sym (eq-eqb (slice_index s.words (counter_at k)) from (home.each_counter k inside ∙ e)) ∙ is),
      )

  pub rises_by : (from : ℕ) → MayRiseTo o k (from + 1) v.seen → Allows (HasOneHistory o) slots id (v, carried) (counter_at k) (λ n. either (eqb n from) (from + 1) n)
      (λ found new. (j : ℕ) → counter_at k ≡ counter_at j → j < counters_in o → RoseCounter o j from (v, carried) found new)
  rises_by from may s home many at small =
      let found = slice_index s.words (counter_at k) in
      let r = told from may home.0 s home.1 at (eqb found from) refl in (
        r.0,
        r.1,
        r.2,
        r.3,
        λ j e h. subst (λ i. RoseCounter o i from (v, carried) found (r.0, carried_after carried r.1)) (omega (arith, e))
            (record { saw = r.4; rose = r.5 }),
      )
