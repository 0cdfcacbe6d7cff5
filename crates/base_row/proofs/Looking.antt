-- Loads keep the rule.
use Rattle.base_row.specs.Places.{lock_at}
use Rattle.std.proofs.Common.{◌≡◌, ℕ, ◌<◌, ◌≤◌, true, List}
use Rattle.std.proofs.Common.{[], length, set, refl, ap, sym, ◌∙◌, subst, ⊎_elim, arith}
use Rattle.std.specs.Prelude.{slice_index, slice_set, Option, Some, None}
use Rattle.std.proofs.lemmas.Bool.{cases_lt}
use Rattle.std.proofs.lemmas.List.{set-get_or, get_or-set_same, length-set}
use mathlib.Core.Option.{some, none}
use lib.ListN.{get_elem?}
use Rattle.atomic_table.specs.Table.{State, step, Act, keeps, Valid, carried_after, Allows, stepped}
use Rattle.pass_names.proofs.Counts.{met, set_there}
use Rattle.seq_timer.specs.declared.system.SystemEntry.{SystemEntry}
use Rattle.base_row.specs.declared.view.HeldContent.{HeldContent}
use Rattle.base_row.specs.declared.view.BaseView.{BaseView}
use Rattle.seq_timer.specs.Systems.{BaseContent}
use Rattle.base_row.specs.Rules.{held_in, takes_at, PassHolds, RowHolds, HasOneHistory}
use Rattle.base_row.specs.Plays.{having_met, KnowsBases, LoadedWord, Met}
use Rattle.base_row.proofs.Frames.{turned, at_lock, at_met, has_kept, fits_whole, no_lock}
use Rattle.base_row.proofs.Stable.{steady_own}
use Rattle.base_row.proofs.Knowing.{knows_of}
use Rattle.base_row.specs.declared.view.Opening.{Opening}

-- lock words that are as new as before, and no newer than they are
pub record Newer (bases : ℕ) (words met met' : List ℕ) : Type 0 where
  pub size : length met' ≡ length met
  pub newer : (b : ℕ) → slice_index met b ≤ slice_index met' b
  pub below : (b : ℕ) → b < bases → slice_index met' b ≤ slice_index words (lock_at b)

-- one of them becomes the word as it is
newer_one : (bases : ℕ) (words met : List ℕ) (b word : ℕ) → b < length met → slice_index met b ≤ word
    → ((c : ℕ) → c < bases → slice_index met c ≤ slice_index words (lock_at c)) → word ≤ slice_index words (lock_at b)
    → Newer bases words met (set met b word)
newer_one bases words met b word inside le below top = record {
  size = length-set met b word;
  newer = at_met met b word (λ c x. slice_index met c ≤ x) inside le (λ c n. omega arith);
  below = at_met met b word (λ c x. c < bases → x ≤ slice_index words (lock_at c)) inside (λ h. top) (λ c n h. below c h);
}

module _ (o : Opening) where
  module _ (slots id : ℕ) (v : BaseView BaseContent) (carried : List (ℕ × Option BaseContent)) (live : v.id.live ≡ true) where
    pub looks_with : (log : List SystemEntry) (s : State (Option BaseContent) (BaseView BaseContent)) (home : RowHolds o log s)
        → get_elem? s.views id ≡ some v → (i : ℕ) (met : List ℕ) → Newer o.bases s.words v.met met
        → ((h : HeldContent BaseContent) → v.held ≡ Some h → slice_index met h.base ≡ slice_index v.met h.base)
        → RowHolds o log (stepped s i (slice_index s.words i) id carried (having_met log met v) keeps)
        × KnowsBases o (having_met log met v)
    looks_with log s home at i met more same =
        let v' : BaseView BaseContent = having_met log met v in
        let fits = home.each_view id v at in
        let next = turned o log s home id v v' at refl (fits_whole o s.words v' refl live (more.size ∙ fits.full live)
        (λ h e. let t = fits.held h e in record {
          within = t.within;
          seen = t.whole;
          whole = t.whole;
          word = t.word ∙ sym (same h e);
          number = t.number ∙ sym (same h e);
        })
        more.below (λ b k some_one. omega (arith, fits.takes b k some_one, more.newer b)))
        (λ x. has_kept o x v v.id log [] met) in (
          subst (λ ws. RowHolds o log record { words = ws; homes = s.homes; views = slice_set s.views id v' }) (sym (set-get_or s.words i 0)) next,
          knows_of o _ id v' next (set_there s.views id v v' at) live,
        )

    pub looks : (word : ℕ) → Allows (HasOneHistory o) slots id (v, carried) word (λ n. n) (LoadedWord o (step slots word 0 0 none) (v, carried))
    looks word s (log, home) many at small =
        let fits = home.each_view id v at in
        let l = looks_with log s home at word v.met (record { size = refl; newer = λ b. omega arith; below = fits.met }) (λ h e. refl) in (
          having_met log v.met v,
          keeps,
          tt,
          (log, l.0),
          record {
            rest = refl;
            seen = fits.seen;
            heard = fits.heard;
            steady = steady_own o log s home v fits live refl;
            knows = l.1;
            timer = λ t e h. ap (λ i. slice_index s.words i) e ∙ home.each_timer t h;
            standing = λ b e h. ap (λ i. slice_index s.words i) e ∙ home.each_standing b h;
            counter = λ k e h. ap (λ i. slice_index s.words i) e ∙ home.each_counter k h;
          },
        )

    pub meets_at : (log : List SystemEntry) (s : State (Option BaseContent) (BaseView BaseContent)) (home : RowHolds o log s)
        → get_elem? s.views id ≡ some v → (b : ℕ) → b < o.bases → v.held ≡ None
        → (w : BaseView BaseContent) × (a : Act (Option BaseContent)) × Valid s.homes carried a
        × HasOneHistory o (stepped s (lock_at b) (slice_index s.words (lock_at b)) id carried w a)
        × Met o b (v, carried) (slice_index s.words (lock_at b)) (w, carried_after carried a)
    meets_at log s home at b inside idle =
        let fits = home.each_view id v at in
        let found : ℕ = slice_index s.words (lock_at b) in
        let l = looks_with log s home at (lock_at b) (set v.met b found)
        (newer_one o.bases s.words v.met b found (omega (arith, fits.full live)) (fits.met b inside) fits.met (omega arith))
        (λ h e. absurd (no_lock h (sym idle ∙ e))) in (
          having_met log (set v.met b found) v,
          keeps,
          tt,
          (log, l.0),
          record {
            rest = refl;
            seen = fits.seen;
            heard = fits.heard;
            newer = fits.met b inside;
            is = get_or-set_same v.met b found 0 (omega (arith, fits.full live));
            others = λ k later. let none : held_in b v.held ≡ 0 = ap (held_in b) idle in ⊎_elim
                (λ own. absurd (omega (arith, fits.takes b k own))) (λ no_one. omega arith) (cases_lt 0 (takes_at b k v));
            steady = steady_own o log s home v fits live refl;
            knows = l.1;
          },
        )

    pub meets : (b : ℕ) → b < o.bases → v.held ≡ None → Allows (HasOneHistory o) slots id (v, carried) (lock_at b) (λ n. n)
        (λ found new. (c : ℕ) → lock_at b ≡ lock_at c → Met o c (v, carried) found new)
    meets b inside idle s home many at small =
        let r = meets_at home.0 s home.1 at b inside idle in
        (r.0, r.1, r.2, r.3, λ c e. subst (λ x. Met o x (v, carried) (slice_index s.words (lock_at b)) (r.0, carried_after carried r.1)) (omega (arith, e)) r.4)

  -- the words that a pass knows, after it has raised a lock word
  module _ (log : List SystemEntry) (s : State (Option BaseContent) (BaseView BaseContent)) (home : RowHolds o log s) (v : BaseView BaseContent)
      (fits : PassHolds o log s.words v) (live : v.id.live ≡ true) (b word : ℕ) (inside : b < o.bases) (le : slice_index v.met b ≤ word) where
    in_met : b < length v.met
    in_met = omega (arith, fits.full live)

    in_words : lock_at b < length s.words
    in_words = omega (arith, home.words_len)

    pub newer_lock : Newer o.bases (set s.words (lock_at b) word) v.met (set v.met b word)
    newer_lock = newer_one o.bases (set s.words (lock_at b) word) v.met b word in_met le
        (at_lock s.words b word (λ c x. c < o.bases → slice_index v.met c ≤ x) in_words (λ h. le) (λ c n h. fits.met c h))
        (omega (arith, get_or-set_same s.words (lock_at b) word 0 in_words))
