-- One entry more, of a timer or a base, by a pass that holds the base which it changes: the rule stays.
use Rattle.base_row.specs.Places.{counter_at, lock_at, word_at}
use Rattle.std.proofs.Common.{◌≡◌, ℕ, eqb, ◌&&◌, ◌+◌, ◌<◌, ◌≢◌, ◌⊎◌, ◌%◌, ◌/◌, true, List, [], ◌∷◌, ◌++◌, length, set, refl, ap, sym, ◌∙◌, subst, inl, inr, ⊎_elim, arith}
use Rattle.std.specs.Prelude.{slice_index, slice_set, Option, Some}
use Rattle.std.proofs.lemmas.Bool.{cases_eq, eq-eqb, ne_eqb}
use Rattle.std.proofs.lemmas.List.{length-set, get_or-set_same, get_or-set_other}
use mathlib.Core.Option.{some}
use lib.ListN.{get_elem?}
use Rattle.atomic_table.specs.Table.{State}
use Rattle.pass_names.specs.Counts.{one_if, count, total}
use Rattle.pass_names.specs.Passes.{within, is_place}
use Rattle.pass_names.proofs.Counts.{total_at}
use Rattle.pass_names.proofs.Passes.{begins_more, count_place, within_more}
use Rattle.seq_timer.specs.declared.system.SystemEntry.{SystemEntry}
use Rattle.seq_timer.specs.Systems.{BaseContent, System, first_system, rises_of, system_after, shifts_of, AreSystemSteps}
use Rattle.seq_timer.proofs.Systems.{rises_of-append}
use Rattle.base_row.specs.Plays.{having_added}
use Rattle.base_row.specs.declared.view.Claimed.{Claimed}
use Rattle.base_row.proofs.Frames.{kept_tree, fits_on, holds_one, fits_whole, counted}
use Rattle.base_row.proofs.Ringing.{rings_same}
use Rattle.base_row.specs.declared.view.Opening.{Opening}
use Rattle.base_row.specs.Rules.{PassHolds, RowHolds, base_place, standing_number, number_of, held_in, takes_at, HeldHolds, carried_in, is_base_claim, Token, has, owed, slot_of, IsIn, Place, Shift, Claim, Carry, Hold, Take, runs}
use Rattle.base_row.specs.declared.view.BaseView.{BaseView}
use Rattle.base_row.specs.declared.view.HeldContent.{HeldContent}

module _ (o : Opening) (log : List SystemEntry) (s : State (Option BaseContent) (BaseView BaseContent)) (home : RowHolds o log s)
    (id : ℕ) (v : BaseView BaseContent) (h : HeldContent BaseContent) (at : get_elem? s.views id ≡ some v) (live : v.id.live ≡ true) (held : v.held ≡ Some h)
    (x : SystemEntry) (i k number : ℕ) (content : BaseContent) (claims : List Claimed) (carry : Option ℕ) (inside : i < length o.timers + o.bases) where
  abbrev log' : List SystemEntry
  log' = log ++ x ∷ []

  abbrev words : List ℕ
  words = set s.words (word_at o.bases i) number

  abbrev v' : BaseView BaseContent
  v' = having_added log x (i, k) content claims carry h v

  abbrev w : System
  w = system_after o.timers log

  abbrev w' : System
  w' = system_after o.timers log'

  fits : PassHolds o log s.words v
  fits = home.each_view id v at

  holds : HeldHolds o log s.words v h
  holds = fits.held h held

  word_same : (j : ℕ) → j ≢ word_at o.bases i → slice_index words j ≡ slice_index s.words j
  word_same j n = get_or-set_other s.words (word_at o.bases i) j number 0 n

  lock_same : (b : ℕ) → b < o.bases → slice_index words (lock_at b) ≡ slice_index s.words (lock_at b)
  lock_same b inside = word_same (lock_at b) (λ q. omega arith)

  fits' : content ≡ w'.bases h.base → PassHolds o log' words v'
  fits' is = fits_whole o words v' refl live (fits.full live)
      (λ g q. let r : record { base = h.base; word = h.word; content = content } ≡ g = cc in
      subst (λ y. HeldHolds o log' words v' y) r
      (record { within = holds.within; seen = is; whole = is; word = lock_same h.base holds.within ∙ holds.word; number = holds.number }))
      (λ b inside. omega (arith, fits.met b inside, lock_same b inside))
      (λ b m some_one. omega (arith, fits.takes b m some_one, ap (held_in b) held))

  -- the entry is the next one of the timer or base at this place, and its word is stored; or that of another, which has neither entry nor word other
  abbrev pub Goes : (j stamp stamp' word word' : ℕ) → Type 0
  Goes j stamp stamp' word word' =
      ((j ≡ i) × (k ≡ stamp + 1) × (stamp' ≡ stamp + 1) × (number ≡ word')) ⊎ ((j ≢ i) × (stamp' ≡ stamp) × (word' ≡ word))

  stored : (j stamp stamp' word word' : ℕ) → Goes j stamp stamp' word word' → slice_index s.words (word_at o.bases j) ≡ word
      → slice_index words (word_at o.bases j) ≡ word'
  stored j stamp stamp' word word' (inl here) was = ap (λ q. slice_index words (word_at o.bases q)) here.0
      ∙ (get_or-set_same s.words (word_at o.bases i) number 0 (omega (arith, home.words_len)) ∙ here.3)
  stored j stamp stamp' word word' (inr else) was = word_same (word_at o.bases j) (λ q. else.0 (omega arith)) ∙ (was ∙ sym else.2)

  placed : (j m stamp stamp' word word' : ℕ) → Goes j stamp stamp' word word'
      → count (is_place j m) v'.mine + one_if (within m stamp) ≡ count (is_place j m) v.mine + one_if (within m stamp')
  placed j m stamp stamp' word word' (inl here) = omega (
    arith,
    count_place i j m k v.mine,
    ap (λ y. one_if (y && eqb k m)) (eq-eqb i j (sym here.0)),
    ap (λ y. one_if (eqb y m)) here.1,
    ap (λ y. one_if (within m y)) here.2,
    within_more m stamp,
  )
  placed j m stamp stamp' word word' (inr else) = omega (
    arith,
    count_place i j m k v.mine,
    ap (λ y. one_if (y && eqb k m)) (ne_eqb i j (λ e. else.0 (sym e))),
    ap (λ y. one_if (within m y)) else.1,
  )

  module _ (allowed : AreSystemSteps o.bases (length o.timers) (first_system o.timers) log') (is : content ≡ w'.bases h.base)
      (bases_else : (b : ℕ) → b ≢ h.base → w'.bases b ≡ w.bases b)
      (timers : (t : ℕ) → t < length o.timers
      → Goes t (w.timers t).stamp (w'.timers t).stamp (number_of (w.timers t)) (number_of (w'.timers t)))
      (bases : (b : ℕ) → b < o.bases → Goes (base_place (length o.timers) b) (w.bases b).standing.stamp (w'.bases b).standing.stamp
      (standing_number (w.bases b).standing) (standing_number (w'.bases b).standing))
      (claimed : (t g b : ℕ) → count (is_base_claim t g b) claims + one_if (runs g b (w.timers t)) ≡ has o (Claim t g b) v + one_if (runs g b (w'.timers t)))
      (carried : (t : ℕ) → carried_in t carry + one_if (w.timers t).moving ≡ has o (Carry t) v + one_if (w'.timers t).moving)
      (alone : (t : ℕ) → (total (has o (Carry t)) s.views ≡ has o (Carry t) v) ⊎ (w'.timers t ≡ w.timers t))
      (shifts : ((v.id.live ≡ true) × (v.id.name ≡ [])) ⊎ ((b : ℕ) → shifts_of b log' ≡ shifts_of b log))
      (no_rise : (j : ℕ) → rises_of j (x ∷ []) ≡ 0) where
    no_more : (j : ℕ) → rises_of j log' ≡ rises_of j log
    no_more j = omega (arith, rises_of-append j log (x ∷ []), no_rise j)

    one : total (has o (Hold h.base)) s.views ≡ has o (Hold h.base) v
    one = omega (arith, holds_one v h held, home.tokens (Hold h.base) holds.within, total_at (has o (Hold h.base)) s.views id v at)

    each_slot : (b : ℕ) → b < o.bases → get_elem? s.homes b ≡ some (slot_of (slice_index words (lock_at b) % 2) (w'.bases b))
    each_slot b r = home.each_slot b r ∙ ap some (⊎_elim
        (λ (e : b ≡ h.base).
        let odd : slice_index s.words (lock_at b) % 2 ≡ 1 = omega (arith, holds_one v h held, home.tokens (Hold b) r, one, ap (λ q. total (has o (Hold q)) s.views) e) in
        ap (λ n. slot_of n (w.bases b)) odd
        ∙ sym (ap (λ n. slot_of (n % 2) (w'.bases b)) (lock_same b r) ∙ ap (λ n. slot_of n (w'.bases b)) odd))
        (λ n. ap (λ y. slot_of (y % 2) (w.bases b)) (sym (lock_same b r)) ∙ ap (slot_of (slice_index words (lock_at b) % 2)) (sym (bases_else b n)))
        (cases_eq b h.base))

    change : (y : Token) → IsIn o y → has o y v' + owed w s.words y ≡ has o y v + owed w' words y
    change (Place t m) r = placed t m _ _ _ _ (timers t r)
    change (Shift b m) r = placed (base_place (length o.timers) b) m _ _ _ _ (bases b r)
    change (Claim t g b) r = claimed t g b
    change (Carry t) r = carried t
    change (Hold b) r = omega (arith, ap (held_in b) held, lock_same b r)
    change (Take b m) r = ap (λ n. takes_at b m v + one_if (within m ((n + 1) / 2))) (sym (lock_same b r))

    pub added : RowHolds o log' record {
      words = slice_set s.words (word_at o.bases i) number;
      homes = s.homes;
      views = slice_set s.views id v';
    }
    added = record {
      allowed = allowed;
      words_len = length-set s.words (word_at o.bases i) number ∙ home.words_len;
      homes_len = home.homes_len;
      each_slot = each_slot;
      each_timer = λ t r. stored t _ _ _ _ (timers t r) (home.each_timer t r);
      each_standing = λ b r. stored (base_place (length o.timers) b) _ _ _ _ (bases b r) (home.each_standing b r);
      each_counter = λ j r. word_same (counter_at j) (λ q. omega arith) ∙ (home.each_counter j r ∙ sym (no_more j));
      no_counter = λ j past. no_more j ∙ home.no_counter j past;
      rings = rings_same o log x no_more home.rings;
      counters_len = home.counters_len;
      each_view = fits_on o log s home id v v' at refl log' words (begins_more log (x ∷ [])) (λ b r. omega (arith, lock_same b r))
          (λ b r. ⊎_elim (λ (e : b ≡ h.base). inl (subst (λ q. total (has o (Hold q)) s.views ≡ has o (Hold q) v) (sym e) one))
          (λ n. inr (bases_else b n, lock_same b r)) (cases_eq b h.base)) alone shifts (fits' is);
      tree = kept_tree o log s home id v v' at refl;
      tokens = counted o log s home id v v' at refl log' words (begins_more log (x ∷ [])) change;
    }
