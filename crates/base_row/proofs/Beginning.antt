-- The rule holds of a new row: every base is free, and nothing has happened.
use Rattle.base_row.specs.Places.{counter_at, lock_at, most_counters, word_at}
use Rattle.base_row.specs.Rings.{counters_in}
use Rattle.std.proofs.Common.{◌≡◌, ℕ, zero, suc, ◌+◌, ◌<◌, ◌≤◌, List, [], ◌∷◌, length, map, replicate, refl, ap, sym, ◌∙◌, subst, arith, ◌%◌}
use Rattle.std.specs.Prelude.{slice_index, Option, Some}
use Rattle.std.proofs.lemmas.Bool.Decides.{nat_tests}
use Rattle.std.proofs.lemmas.List.{length-replicate, length-map}
use mathlib.Core.Option.{some, some-injective, some-ne-none}
use lib.ListN.{get_elem?}
use Rattle.atomic_table.specs.Table.{State, opening}
use Rattle.pass_names.specs.Counts.{one_if, total}
use Rattle.pass_names.specs.Passes.{within}
use Rattle.pass_names.proofs.Names.{first_tree}
use Rattle.seq_timer.specs.Steps.{Timer}
use Rattle.seq_timer.specs.Tables.{timer_at}
use Rattle.base_row.specs.declared.view.Opening.{Opening}
use Rattle.base_row.specs.declared.view.BaseView.{BaseView}
use Rattle.seq_timer.specs.Systems.{BaseContent, no_base, system_after}
use Rattle.seq_timer.specs.Standings.{first_standing}
use Rattle.base_row.specs.Rules.{runs, number_of, standing_number, PassHolds, RowHolds, HasOneHistory, Token, has, owed, slot_of, Place, Shift, Claim, Carry, Hold, Take}
use Rattle.seq_timer.specs.Systems.{IsFresh}
use Rattle.base_row.specs.Plays.{first_base_view, KnowsBases}
use Rattle.base_row.specs.Calls.{AreFresh}
use Rattle.base_row.proofs.Knowing.{knows_of}
use Rattle.base_row.proofs.Ringing.{rings_nil}
use Rattle.base_row.proofs.Frames.{fits_whole, no_lock}

slot_at : (n i : ℕ) (x : Option BaseContent) → i < n → get_elem? (map some (replicate n x)) i ≡ some (some x)
slot_at zero i x h = absurd (omega arith)
slot_at (suc n) zero x h = refl
slot_at (suc n) (suc i) x h = slot_at n i x (omega arith)

met_zero : (n i : ℕ) → slice_index (replicate n 0) i ≡ 0
met_zero zero i = refl
met_zero (suc n) zero = refl
met_zero (suc n) (suc i) = met_zero n i

none_within : (k : ℕ) → one_if (within k 0) ≡ 0
none_within k = grind (arith, nat_tests)

fresh_word : (t : Timer) → IsFresh t → number_of t ≡ 0
unfolding number_of
fresh_word t f = rw (f.stamp, f.first, f.armed, f.running, f.still) refl

fresh_standing : standing_number first_standing ≡ 0
unfolding standing_number
fresh_standing = refl

module _ (o : Opening) (fresh : AreFresh o.timers) (few : counters_in o ≤ most_counters o.bases (length o.timers)) where
  abbrev first : BaseView BaseContent
  first = first_base_view o

  abbrev start : State (Option BaseContent) (BaseView BaseContent)
  start = opening (replicate (word_at o.bases (length o.timers + o.bases)) 0) (replicate o.bases (Some (no_base o.timers))) first

  fits_first : PassHolds o [] start.words first
  fits_first = fits_whole o start.words first refl refl (length-replicate {A = ℕ} o.bases 0) (λ h e. absurd (no_lock h e))
      (λ b h. omega (arith, met_zero o.bases b)) (λ b k some_one. absurd (omega arith))

  zero_word : (i : ℕ) → slice_index start.words i ≡ 0
  zero_word = met_zero (word_at o.bases (length o.timers + o.bases))

  even_word : (i : ℕ) → slice_index start.words i % 2 ≡ 0
  even_word i = omega (arith, zero_word i)

  none_owed : (x : Token) → total (has o x) start.views ≡ owed (system_after o.timers []) start.words x
  none_owed (Place t k) = sym (ap (λ n. one_if (within k n)) (fresh.each t).stamp ∙ none_within k)
  none_owed (Shift b k) = sym (none_within k)
  none_owed (Claim t g b) = sym (idle t)
    where
      idle : (t : ℕ) → one_if (runs g b (timer_at o.timers t)) ≡ 0
      idle t = grind (arith, (fresh.each t).running)
  none_owed (Carry t) = sym (ap one_if (fresh.each t).still)
  none_owed (Hold b) = sym (even_word (lock_at b))
  none_owed (Take b k) = sym (ap (λ n. one_if (within k n)) (omega (arith, zero_word (lock_at b))) ∙ none_within k)

  begins_home : RowHolds o [] start
  begins_home = record {
    allowed = tt;
    words_len = length-replicate {A = ℕ} (word_at o.bases (length o.timers + o.bases)) 0;
    homes_len = length-map (replicate o.bases (Some (no_base o.timers))) some ∙ length-replicate o.bases (Some (no_base o.timers));
    each_slot = λ b h. slot_at o.bases b (Some (no_base o.timers)) h
        ∙ ap (λ n. some (slot_of n (no_base o.timers))) (sym (even_word (lock_at b)));
    each_timer = λ t h. zero_word (word_at o.bases t) ∙ sym (fresh_word (timer_at o.timers t) (fresh.each t));
    each_standing = λ b h. zero_word (word_at o.bases (length o.timers + b)) ∙ sym fresh_standing;
    each_counter = λ k h. zero_word (counter_at k);
    no_counter = λ k past. refl;
    rings = rings_nil o;
    counters_len = few;
    each_view = λ j v e. here j v e;
    tree = first_tree;
    tokens = λ x h. none_owed x;
  }
    where
      here : (j : ℕ) (v : BaseView BaseContent) → get_elem? (first ∷ []) j ≡ some v → PassHolds o [] start.words v
      here zero v e = subst (λ w. PassHolds o [] start.words w) (some-injective first v e) fits_first
      here (suc j) v e = absurd (some-ne-none v (sym e))

  pub begins : (words : List ℕ) (slots : List (Option BaseContent)) → words ≡ replicate (word_at o.bases (length o.timers + o.bases)) 0
      → slots ≡ replicate o.bases (Some (no_base o.timers)) → HasOneHistory o (opening words slots first)
  begins words slots is_words is_slots =
      subst (λ ws. HasOneHistory o (opening ws slots first)) (sym is_words)
      (subst (λ ss. HasOneHistory o (opening (replicate (word_at o.bases (length o.timers + o.bases)) 0) ss first)) (sym is_slots) ([], begins_home))

  pub knows_first : KnowsBases o first
  knows_first = knows_of o start 0 first begins_home refl refl
