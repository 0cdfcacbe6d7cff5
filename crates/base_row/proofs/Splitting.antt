-- Passes are split off and taken in, and told of each other, and the rule stays.
use Rattle.std.proofs.Common.{◌≡◌, ℕ, ◌+◌, zero, suc, true, length-append, List, [], ◌∷◌, ◌++◌, length, map, set, refl, ap, sym, ◌∙◌, subst, ⊎_elim, arith, ◌≤◌, ◌<◌}
use Rattle.std.specs.Prelude.{slice_index, max, Some, None}
use Rattle.std.proofs.lemmas.Bool.{cases_lt, true≢false}
use Rattle.std.proofs.lemmas.List.{map-set}
use mathlib.Core.Option.{some}
use lib.ListN.{get_elem?}
use Rattle.atomic_table.specs.Table.{Splits, Joins}
use Rattle.atomic_table.proofs.Lists.{at_map, set_again, set_else}
use Rattle.pass_names.specs.declared.PassId.{PassId}
use Rattle.pass_names.specs.Counts.{one_if}
use Rattle.pass_names.specs.Names.{IsPassTree, gone_pass_id, AnswersFor, after_split, child_of}
use Rattle.pass_names.specs.Passes.{is_place, Begins}
use Rattle.pass_names.proofs.Counts.{total-append}
use Rattle.pass_names.proofs.Names.{splits_tree, gone_tree, joins_tree}
use Rattle.pass_names.proofs.Passes.{begins_nil}
use Rattle.base_row.specs.declared.view.Claimed.{Claimed}
use Rattle.seq_timer.specs.declared.system.SystemEntry.{SystemEntry}
use Rattle.base_row.specs.declared.view.Opening.{Opening}
use Rattle.base_row.specs.declared.view.BaseView.{BaseView}
use Rattle.seq_timer.specs.Systems.{BaseContent}
use Rattle.base_row.specs.Rules.{base_pass_id, held_in, carried_in, is_base_claim, takes_at, PassHolds, HasOneHistory, base_place, Token, has, Place, Shift, Claim, Carry, Hold, Take}
use Rattle.base_row.specs.Plays.{no_opening, greater, split_base_view, new_base_view, base_note_of, gone_base_view, joined_base_view, told_base_view, bare_view}
use Rattle.base_row.proofs.Frames.{grown, merged, has_kept, no_lock}
use Rattle.base_row.specs.Places.{lock_at}

no_timer : (t : ℕ) → None ≡ Some t → ⊥
no_timer t e = cc

greater_at : (xs ys : List ℕ) (i : ℕ) → slice_index (greater xs ys) i ≡ max (slice_index xs i) (slice_index ys i)
greater_at [] ys i = omega arith
greater_at (x ∷ xs) [] zero = omega arith
greater_at (x ∷ xs) [] (suc i) = omega arith
greater_at (x ∷ xs) (y ∷ ys) zero = refl
greater_at (x ∷ xs) (y ∷ ys) (suc i) = greater_at xs ys i

greater_len : (xs ys : List ℕ) → length (greater xs ys) ≡ max (length xs) (length ys)
greater_len [] ys = omega arith
greater_len (x ∷ xs) [] = omega arith
greater_len (x ∷ xs) (y ∷ ys) = omega (arith, greater_len xs ys)

module _ (o : Opening) where
  has_none : (x : Token) (id : PassId) (opening : Opening) (seen : List SystemEntry) (met : List ℕ) → has o x (bare_view id opening seen met) ≡ 0
  has_none (Place t k) id opening seen met = refl
  has_none x id opening seen met = refl

  -- a view that has nothing of its own fits
  fits_bare : (log : List SystemEntry) (words : List ℕ) (id : PassId) (opening : Opening) (seen : List SystemEntry) (met : List ℕ)
      → Begins seen log → length met ≤ o.bases → ((b : ℕ) → b < o.bases → slice_index met b ≤ slice_index words (lock_at b))
      → (id.live ≡ true → length met ≡ o.bases) → (id.live ≡ true → id.name ≡ [] → ⊥) → PassHolds o log words (bare_view id opening seen met)
  fits_bare log words id opening seen met begins wide below full named = record {
    seen = begins;
    heard = begins_nil log;
    held = λ h e. absurd (no_lock h e);
    carry = λ t e. absurd (no_timer t e);
    wide = wide;
    full = full;
    met = below;
    takes = λ b k some_one. absurd (omega arith);
    first = λ live name b. absurd (named live name);
    gone = λ off x. has_none x id opening seen met;
  }

  fits_gone : (log : List SystemEntry) (words : List ℕ) → PassHolds o log words gone_base_view
  fits_gone log words = fits_bare log words gone_pass_id no_opening [] [] (begins_nil log) (omega arith) (λ b h. omega arith)
      (λ live. absurd (true≢false (sym live))) (λ live name. absurd (true≢false (sym live)))

  fits_split : (log : List SystemEntry) (words : List ℕ) (v : BaseView BaseContent) → PassHolds o log words v
      → PassHolds o log words (split_base_view v)
  fits_split log words v fits = record {
    seen = fits.seen;
    heard = fits.heard;
    held = λ h e. let t = fits.held h e in record { within = t.within; seen = t.seen; whole = t.whole; word = t.word; number = t.number };
    carry = fits.carry;
    wide = fits.wide;
    full = fits.full;
    met = fits.met;
    takes = fits.takes;
    first = fits.first;
    gone = λ off x. has_kept o x v (after_split v.id) v.seen v.heard v.met ∙ fits.gone off x;
  }

  child_named : (l : List ℕ) (k : ℕ) → l ++ k ∷ [] ≡ [] → ⊥
  child_named l k e = omega (arith, ap length e, length-append l (k ∷ []))

  pub splits : (id : ℕ) (v : BaseView BaseContent) → v.id.live ≡ true → Splits (HasOneHistory o) id v (split_base_view v) (new_base_view v)
  splits id v live s (log, home) at =
      let fits = home.each_view id v at in (
        log,
        grown o log s home id v (split_base_view v) (new_base_view v) at (fits_split log s.words v fits)
            (fits_bare log s.words (child_of v.id) v.opening v.seen v.met fits.seen fits.wide fits.met (λ t. fits.full live)
            (λ t name. child_named v.id.name (v.id.made + 1) name))
            (splits_tree (map base_pass_id s.views) home.tree id (base_pass_id v) (at_map base_pass_id s.views id v at) live)
            (λ x. omega (arith, has_kept o x v (after_split v.id) v.seen v.heard v.met, has_none x (child_of v.id) v.opening v.seen v.met)),
      )

  pub notes : (id : ℕ) (v : BaseView BaseContent) → Splits (HasOneHistory o) id v v (base_note_of v)
  notes id v s (log, home) at =
      let fits = home.each_view id v at in (
        log,
        grown o log s home id v v (base_note_of v) at fits
            (fits_bare log s.words gone_pass_id no_opening v.seen v.met fits.seen fits.wide fits.met
            (λ t. absurd (true≢false (sym t))) (λ t name. absurd (true≢false (sym t))))
            (subst (λ ls. IsPassTree (ls ++ gone_pass_id ∷ []))
            (sym (set_again (map base_pass_id s.views) id (base_pass_id v) (at_map base_pass_id s.views id v at)))
            (gone_tree (map base_pass_id s.views) home.tree))
            (λ x. omega (arith, has_none x gone_pass_id no_opening v.seen v.met)),
      )

  fits_joined : (log : List SystemEntry) (words : List ℕ) (v u : BaseView BaseContent) → v.id.live ≡ true → v.held ≡ None → u.held ≡ None
      → PassHolds o log words v → PassHolds o log words u
      → PassHolds o log words (joined_base_view v u)
  fits_joined log words v u live idle idle_u fits fits_u = record {
    seen = fits.seen;
    heard = fits_u.seen;
    held = λ h e. absurd (no_lock h (sym idle ∙ e));
    carry = fits.carry;
    wide = omega (arith, greater_len v.met u.met, fits.wide, fits_u.wide);
    full = λ alive. omega (arith, greater_len v.met u.met, fits.full live, fits_u.wide);
    met = λ b h. omega (arith, greater_at v.met u.met b, fits.met b h, fits_u.met b h);
    takes = λ b k some_one.
        let none : held_in b v.held ≡ 0 = ap (held_in b) idle in
        let none_u : held_in b u.held ≡ 0 = ap (held_in b) idle_u in
        ⊎_elim
        (λ t. omega (arith, fits.takes b k t, greater_at v.met u.met b))
        (λ z. omega (
          arith,
          fits_u.takes b k (omega (
            arith,
            total-append (λ (p : ℕ
                × ℕ). one_if (is_place b k p)) v.takes u.takes,
          )),
          greater_at v.met u.met b,
        ))
        (cases_lt 0 (takes_at b k v));
    first = fits.first;
    gone = λ off. absurd (true≢false (sym live ∙ off));
  }

  has_joined : (v u : BaseView BaseContent) → u.held ≡ None → u.carry ≡ None → (x : Token)
      → has o x (joined_base_view v u) + has o x gone_base_view ≡ has o x v + has o x u
  has_joined v u idle empty (Place t k) = omega (arith, total-append (λ (p : ℕ × ℕ). one_if (is_place t k p)) v.mine u.mine)
  has_joined v u idle empty (Shift b k) = omega (arith, total-append (λ (p : ℕ × ℕ). one_if (is_place (base_place (length o.timers) b) k p)) v.mine u.mine)
  has_joined v u idle empty (Claim t g b) = omega (arith, total-append (λ (p : Claimed). one_if (is_base_claim t g b p)) v.claims u.claims)
  has_joined v u idle empty (Carry t) = omega (arith, ap (carried_in t) empty)
  has_joined v u idle empty (Hold b) = omega (arith, ap (held_in b) idle)
  has_joined v u idle empty (Take b k) = omega (arith, total-append (λ (p : ℕ × ℕ). one_if (is_place b k p)) v.takes u.takes)

  pub joins : (id other : ℕ) (v u : BaseView BaseContent) → v.id.live ≡ true → u.id.live ≡ true → v.held ≡ None → u.held ≡ None
      → u.carry ≡ None → AnswersFor v.id u.id
      → Joins (HasOneHistory o) id v other u (joined_base_view v u) gone_base_view
  joins id other v u live live_u idle idle_u empty answers s (log, home) at apart at_other =
      let at_u : get_elem? s.views other ≡ some u = sym (set_else s.views id other (joined_base_view v u) apart) ∙ at_other in
      let lines_at : get_elem? (set (map base_pass_id s.views) id (base_pass_id (joined_base_view v u))) other ≡ some (base_pass_id u) =
      ap (λ ls. get_elem? ls other) (sym (map-set base_pass_id s.views id (joined_base_view v u)))
      ∙ at_map base_pass_id (set s.views id (joined_base_view v u)) other u at_other in (
        log,
        merged o log s home id other v (joined_base_view v u) u gone_base_view at at_other
            (fits_joined log s.words v u live idle idle_u (home.each_view id v at) (home.each_view other u at_u))
            (fits_gone log s.words)
            (joins_tree (map base_pass_id s.views) home.tree id other (base_pass_id v) (base_pass_id u)
            (at_map base_pass_id s.views id v at) live apart lines_at live_u answers)
            (has_joined v u idle_u empty),
      )

  -- a note is taken in
  pub tells : (id other : ℕ) (v x : BaseView BaseContent)
      → Joins (HasOneHistory o) id v other (base_note_of x) (told_base_view v (base_note_of x)) gone_base_view
  tells id other v x s (log, home) at apart at_other =
      let u = base_note_of x in
      let fits = home.each_view id v at in
      let at_u : get_elem? s.views other ≡ some u = sym (set_else s.views id other (told_base_view v u) apart) ∙ at_other in
      let fits_u = home.each_view other u at_u in
      let line_at : get_elem? (map base_pass_id s.views) other ≡ some gone_pass_id = at_map base_pass_id s.views other u at_u in
      let lines : set (set (map base_pass_id s.views) id (base_pass_id v)) other gone_pass_id ≡ map base_pass_id s.views =
      ap (λ ls. set ls other gone_pass_id) (set_again (map base_pass_id s.views) id (base_pass_id v) (at_map base_pass_id s.views id v at))
      ∙ set_again (map base_pass_id s.views) other gone_pass_id line_at in (
        log,
        merged o log s home id other v (told_base_view v u) u gone_base_view at at_other
            (record {
              seen = fits.seen;
              heard = fits_u.seen;
              held = λ h e. let t = fits.held h e in record {
                within = t.within;
                seen = t.seen;
                whole = t.whole;
                word = omega
                    (arith, t.word, greater_at v.met u.met h.base, fits_u.met h.base t.within);
                number = omega
                    (arith, t.number, t.word, greater_at v.met u.met h.base, fits_u.met h.base t.within);
              };
              carry = fits.carry;
              wide = omega (arith, greater_len v.met u.met, fits.wide, fits_u.wide);
              full = λ alive. omega (arith, greater_len v.met u.met, fits.full alive, fits_u.wide);
              met = λ b h. omega (arith, greater_at v.met u.met b, fits.met b h, fits_u.met b h);
              takes = λ b k some_one. omega (arith, fits.takes b k some_one, greater_at v.met u.met b);
              first = fits.first;
              gone = λ off y. has_kept o y v v.id v.seen u.seen (greater v.met u.met) ∙ fits.gone off y;
            })
            (fits_gone log s.words)
            (subst (λ ls. IsPassTree ls) (sym lines) home.tree)
            (λ y. omega (
              arith,
              has_kept o y v v.id v.seen u.seen (greater v.met u.met),
              has_none y gone_pass_id no_opening [] [],
              has_none y gone_pass_id no_opening x.seen x.met,
            )),
      )
