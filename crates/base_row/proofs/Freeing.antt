-- A store that lets a base go keeps the rule.
use Rattle.base_row.specs.Places.{lock_at}
use Rattle.std.proofs.Common.{◌≡◌, ℕ, ◌+◌, ◌<◌, ◌≤◌, ◌≢◌, true, List, ◌%◌, ◌/◌, subst}
use Rattle.std.proofs.Common.{[], ◌∷◌, set, refl, ap, sym, ◌∙◌, inl, arith}
use Rattle.std.specs.Prelude.{slice_index, slice_set, Option, Some}
use Rattle.std.proofs.lemmas.Bool.{ne_eqb}
use mathlib.Core.Option.{some}
use lib.ListN.{get_elem?}
use Rattle.atomic_table.specs.Table.{State, gives, Allows}
use Rattle.pass_names.specs.Counts.{one_if}
use Rattle.pass_names.specs.Passes.{within}
use Rattle.pass_names.proofs.Counts.{set_there, total_at}
use Rattle.seq_timer.specs.declared.system.SystemEntry.{SystemEntry}
use Rattle.base_row.specs.declared.view.HeldContent.{HeldContent}
use Rattle.base_row.specs.declared.view.BaseView.{BaseView}
use Rattle.seq_timer.specs.Systems.{BaseContent, system_after}
use Rattle.base_row.specs.Rules.{held_in, takes_at, HeldHolds, PassHolds, RowHolds, HasOneHistory, Token, has, owed, slot_of, IsIn, Hold, Take}
use Rattle.base_row.specs.Plays.{having_freed, FreedBase}
use Rattle.base_row.proofs.Frames.{holds_one, locked, at_lock, at_met, fits_whole, no_lock, some_same}
use Rattle.base_row.proofs.Stable.{stable_own, steady_own}
use Rattle.base_row.proofs.Knowing.{knows_of}
use Rattle.base_row.specs.declared.view.Opening.{Opening}
use Rattle.base_row.proofs.Looking.{Newer, newer_lock}

module _ (o : Opening) (slots id : ℕ) (v : BaseView BaseContent) (h : HeldContent BaseContent) (live : v.id.live ≡ true) (held : v.held ≡ Some h) where
  abbrev freed_word : ℕ
  freed_word = slice_index v.met h.base + 1

  module _ (log : List SystemEntry) (s : State (Option BaseContent) (BaseView BaseContent)) (home : RowHolds o log s)
      (at : get_elem? s.views id ≡ some v) where
    abbrev b : ℕ
    b = h.base

    abbrev v' : BaseView BaseContent
    v' = having_freed log b freed_word v

    abbrev words : List ℕ
    words = set s.words (lock_at b) freed_word

    fits : PassHolds o log s.words v
    fits = home.each_view id v at

    t : HeldHolds o log s.words v h
    t = fits.held h held

    one : held_in b v.held ≡ 1
    one = holds_one v h held

    odd : slice_index s.words (lock_at b) % 2 ≡ 1
    odd = omega (arith, one, home.tokens (Hold b) t.within, total_at (has o (Hold b)) s.views id v at)

    even : freed_word % 2 ≡ 0
    even = omega (arith, odd, t.word)

    else_held : (c : ℕ) → c ≢ b → held_in c v.held ≡ 0
    else_held c n = ap (held_in c) held ∙ ap one_if (ne_eqb b c (λ e. n (sym e)))

    more : Newer o.bases words v.met (set v.met b freed_word)
    more = newer_lock o log s home v fits live b freed_word t.within (omega arith)

    change : (x : Token) → IsIn o x → has o x v' + owed (system_after o.timers log) s.words x ≡ has o x v + owed (system_after o.timers log) words x
    change (Hold c) i = at_lock s.words b freed_word (λ q x. 0 + slice_index s.words (lock_at q) % 2 ≡ held_in q v.held + x % 2)
        (omega (arith, home.words_len, t.within)) (omega (arith, one, odd, t.word)) (λ q n. omega (arith, else_held q n)) c
    change (Take c k) i = at_lock s.words b freed_word (λ q x. takes_at q k v + one_if (within k ((slice_index s.words (lock_at q) + 1) / 2))
        ≡ takes_at q k v + one_if (within k ((x + 1) / 2))) (omega (arith, home.words_len, t.within))
        (ap (λ n. takes_at b k v + one_if (within k n)) (omega (arith, odd, t.word))) (λ q n. refl) c
    change x i = refl

    fits' : PassHolds o log words v'
    fits' = fits_whole o words v' refl live (more.size ∙ fits.full live) (λ g e. absurd (no_lock g e)) more.below
        (λ c k. at_met v.met b freed_word (λ q x. 0 < takes_at q k v → k + k ≤ x + 0) (omega (arith, fits.full live, t.within))
        (λ some_one. omega (arith, fits.takes b k some_one, one)) (λ q n some_one. omega (arith, fits.takes q k some_one, else_held q n)) c)

    frees_at : RowHolds o log record {
      words = slice_set s.words (lock_at b) freed_word;
      homes = slice_set s.homes b (some (Some h.content));
      views = slice_set s.views id v';
    }
    frees_at = locked o log s home id v v' at refl b freed_word (some (Some h.content)) t.within (omega (arith, t.word))
        (omega (arith, one, odd, home.tokens (Hold b) t.within))
        (ap (λ x. some (Some x)) t.whole ∙ sym (ap (λ n. slot_of n ((system_after o.timers log).bases b)) even))
        fits' change

  pub frees : Allows (HasOneHistory o) slots id (v, (h.base, Some h.content) ∷ []) (lock_at h.base) (λ _. freed_word)
      (λ _ new. (g : HeldContent BaseContent) → v.held ≡ Some g → FreedBase o g (v, (h.base, Some h.content) ∷ []) new)
  frees s (log, home) many at small =
      let v' : BaseView BaseContent = having_freed log h.base freed_word v in
      let next = frees_at log s home at in (
        v',
        gives,
        tt,
        (log, next),
        λ g e. subst (λ x. FreedBase o x (v, (h.base, Some h.content) ∷ []) (v', [])) (some_same h g (sym held ∙ e)) (record {
          rest = refl;
          seen = (home.each_view id v at).seen;
          steady = steady_own o log s home v (home.each_view id v at) live refl;
          own = λ t inside on. stable_own o log s home v (home.each_view id v at) h held t inside (inl on);
          content = sym ((home.each_view id v at).held h held).whole;
          knows = knows_of o _ id v' next (set_there s.views id v v' at) live;
        }),
      )
