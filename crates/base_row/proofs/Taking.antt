-- An exchange from a free lock word, as it was met last, keeps the rule.
use Rattle.base_row.specs.Places.{lock_at}
use Rattle.std.proofs.Common.{◌≡◌, ℕ, eqb, ◌&&◌, ◌+◌, ◌<◌, ◌≤◌, ◌≢◌, Bool, true, false, List, ◌%◌, ◌/◌}
use Rattle.std.proofs.Common.{[], length, set, refl, ap, sym, ◌∙◌, subst, ⊎_elim, arith}
use Rattle.std.specs.Prelude.{slice_index, Option, Some, None, MatchBool}
use Rattle.std.proofs.lemmas.Bool.{and_parts, cases_lt, eqb-true, eq-eqb, ne_eqb, true≢false}
use Rattle.std.proofs.lemmas.List.{get_or-set_same}
use mathlib.Core.Option.{some, none}
use lib.ListN.{get_elem?}
use prog.Atomic.{either}
use Rattle.atomic_table.specs.Table.{State, Act, takes, Valid, carried_after, Allows, stepped, step}
use Rattle.pass_names.specs.Counts.{one_if}
use Rattle.pass_names.specs.Passes.{within}
use Rattle.pass_names.proofs.Counts.{met, set_there}
use Rattle.pass_names.proofs.Passes.{count_place, within_more}
use Rattle.seq_timer.specs.declared.system.SystemEntry.{SystemEntry}
use Rattle.base_row.specs.declared.view.BaseView.{BaseView}
use Rattle.seq_timer.specs.Systems.{BaseContent, system_after}
use Rattle.base_row.specs.Rules.{held_in, takes_at, HeldHolds, PassHolds, RowHolds, HasOneHistory, Token, has, owed, slot_of, IsIn, Hold, Take}
use Rattle.base_row.specs.Plays.{having_taken, TookBase, FoundTaken, TakesAt}
use Rattle.base_row.proofs.Frames.{locked, at_lock, at_met, fits_whole}
use Rattle.base_row.proofs.Stable.{steady_own}
use Rattle.base_row.proofs.Knowing.{knows_of}
use Rattle.base_row.specs.declared.view.Opening.{Opening}
use Rattle.base_row.proofs.Looking.{Newer, meets_at, newer_lock}

module _ (o : Opening) (slots id : ℕ) (v : BaseView BaseContent) (live : v.id.live ≡ true) (idle : v.held ≡ None) (b first : ℕ) (inside : b < o.bases)
    (known : slice_index v.met b ≡ first) (free : first % 2 ≡ 0) where
  abbrev number : ℕ
  number = first / 2 + 1

  abbrev Told : Bool → State (Option BaseContent) (BaseView BaseContent) → Type 0
  Told hit s =
      (w : BaseView BaseContent) × (a : Act (Option BaseContent)) × Valid s.homes [] a
      × HasOneHistory o (stepped s (lock_at b) (either hit (first + 1) (slice_index s.words (lock_at b))) id [] w a)
      × MatchBool hit ((k : ℕ) × (first + 2 ≡ k + k) × TookBase o b k (first + 1) (v, []) (w, carried_after [] a))
      (FoundTaken o b first (v, []) (slice_index s.words (lock_at b)) (w, carried_after [] a))

  not_held : (c : ℕ) → held_in c v.held ≡ 0
  not_held c = ap (held_in c) idle

  module _ (log : List SystemEntry) (s : State (Option BaseContent) (BaseView BaseContent)) (home : RowHolds o log s) (at : get_elem? s.views id ≡ some v)
      (found : slice_index s.words (lock_at b) ≡ first) where
    abbrev v' : BaseView BaseContent
    v' = having_taken log b ((system_after o.timers log).bases b) number (first + 1) v

    abbrev words : List ℕ
    words = set s.words (lock_at b) (first + 1)

    fits : PassHolds o log s.words v
    fits = home.each_view id v at

    in_own : b < length v.met
    in_own = omega (arith, fits.full live)

    more : Newer o.bases words v.met (set v.met b (first + 1))
    more = newer_lock o log s home v fits live b (first + 1) inside (omega arith)

    one_more : (c k : ℕ) → takes_at c k v' ≡ takes_at c k v + one_if (eqb b c && eqb number k)
    one_more c k = count_place b c k number v.takes

    none_more : (c k : ℕ) → c ≢ b → takes_at c k v' ≡ takes_at c k v
    none_more c k n = omega (arith, one_more c k, ap (λ q. one_if (q && eqb number k)) (ne_eqb b c (λ e. n (sym e))))

    takes_known : (k : ℕ) → 0 < takes_at b k v' → k + k ≤ first + 2
    takes_known k some_one = ⊎_elim
        (λ was. omega (arith, fits.takes b k was, not_held b))
        (λ none. let t = and_parts (eqb b b) (eqb number k) (met (eqb b b && eqb number k) (omega (arith, one_more b k))) in
        omega (arith, free, eqb-true number k t.1))
        (cases_lt 0 (takes_at b k v))

    fits' : PassHolds o log words v'
    fits' = fits_whole o words v' refl live (more.size ∙ fits.full live)
        (λ h e. let t : record { base = b; word = first + 1; content = (system_after o.timers log).bases b } ≡ h = cc in
        subst (λ q. HeldHolds o log words v' q) t (record {
          within = inside;
          seen = refl;
          whole = refl;
          word = get_or-set_same s.words (lock_at b) (first + 1) 0 (omega (arith, home.words_len))
              ∙ sym (get_or-set_same v.met b (first + 1) 0 in_own);
          number = sym (get_or-set_same v.met b (first + 1) 0 in_own);
        }))
        more.below
        (λ c k. at_met v.met b (first + 1) (λ q x. 0 < takes_at q k v' → k + k ≤ x + one_if (eqb b q)) in_own
        (λ some_one. omega (arith, takes_known k some_one, ap one_if (eq-eqb b b refl)))
        (λ q n some_one. omega (arith, none_more q k n, not_held q, fits.takes q k (omega (arith, none_more q k n)))) c)

    change : (x : Token) → IsIn o x → has o x v' + owed (system_after o.timers log) s.words x ≡ has o x v + owed (system_after o.timers log) words x
    change (Hold c) h = at_lock s.words b (first + 1)
        (λ q x. one_if (eqb b q) + slice_index s.words (lock_at q) % 2 ≡ held_in q v.held + x % 2) (omega (arith, home.words_len))
        (omega (arith, free, not_held b, ap one_if (eq-eqb b b refl)))
        (λ q n. omega (arith, not_held q, ap one_if (ne_eqb b q (λ e. n (sym e))))) c
    change (Take c k) h = at_lock s.words b (first + 1) (λ q x. takes_at q k v' + one_if (within k ((slice_index s.words (lock_at q) + 1) / 2))
        ≡ takes_at q k v + one_if (within k ((x + 1) / 2))) (omega (arith, home.words_len))
        (omega (
          arith,
          one_more b k,
          ap (λ q. one_if (q && eqb number k)) (eq-eqb b b refl),
          within_more k (first / 2),
          taken ((slice_index s.words (lock_at b) + 1) / 2) (first / 2) (omega (arith, free)),
          taken ((first + 1 + 1) / 2) number (omega (arith, free)),
        ))
        (λ q n. omega (arith, none_more q k n)) c
      where
        taken : (x y : ℕ) → x ≡ y → one_if (within k x) ≡ one_if (within k y)
        taken x y e = ap (λ n. one_if (within k n)) e
    change x h = refl

    took : Told true s
    took =
        let content : BaseContent = (system_after o.timers log).bases b in
        let odd : (first + 1) % 2 ≡ 1 = omega (arith, free) in
        let even : slice_index s.words (lock_at b) % 2 ≡ 0 = omega (arith, free) in
        let next = locked o log s home id v v' at refl b (first + 1) none inside (omega arith) (omega (arith, home.tokens (Hold b) inside, not_held b, free))
        (sym (ap (λ n. slot_of n content) odd)) fits' change in (
          v',
          takes b (Some content),
          home.each_slot b inside ∙ ap (λ n. some (slot_of n content)) even,
          (log, next),
          (
            number,
            omega (arith, free),
            record {
              content = content;
              rest = refl;
              is = get_or-set_same v.met b (first + 1) 0 in_own;
              seen = fits.seen;
              heard = fits.heard;
              steady = steady_own o log s home v fits live refl;
              knows = knows_of o _ id v' next (set_there s.views id v v' at) live;
            },
          ),
        )

  told : (log : List SystemEntry) (s : State (Option BaseContent) (BaseView BaseContent))
      → RowHolds o log s → get_elem? s.views id ≡ some v → (hit : Bool) → eqb (slice_index s.words (lock_at b)) first ≡ hit → Told hit s
  told log s home at true hit = took log s home at (eqb-true (slice_index s.words (lock_at b)) first hit)
  told log s home at false miss =
      let fits = home.each_view id v at in
      let l = meets_at o slots id v [] live log s home at b inside idle in
      let other : slice_index s.words (lock_at b) ≢ first = λ e. true≢false (sym (eq-eqb (slice_index s.words (lock_at b)) first e) ∙ miss) in (
        l.0,
        l.1,
        l.2,
        l.3,
        record {
          met = l.4;
          missed = (
            number,
            l.4.others number (omega (arith, free)),
            omega (arith, free),
            ⊎_elim (λ up. omega (arith, free)) (λ down. absurd (other (omega (arith, fits.met b inside)))) (cases_lt first (slice_index s.words (lock_at b))),
          );
        },
      )

  pub takes_lock : Allows (HasOneHistory o) slots id (v, []) (lock_at b) (λ n. either (eqb n first) (first + 1) n)
      (λ found new. (c : ℕ) → lock_at b ≡ lock_at c → TakesAt o c (step slots (lock_at b) first (first + 1) none) (v, []) found new)
  takes_lock s home many at small =
      let found = slice_index s.words (lock_at b) in
      let r = told home.0 s home.1 at (eqb found first) refl in (
        r.0,
        r.1,
        r.2,
        r.3,
        λ c e.
            subst (λ x. TakesAt o x (step slots (lock_at b) first (first + 1) none) (v, []) found (r.0, carried_after [] r.1)) (omega (arith, e)) r.4,
      )
