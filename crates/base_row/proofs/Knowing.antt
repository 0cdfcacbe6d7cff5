-- What the rule tells of what a pass knows that has seen the whole history.
use Rattle.std.proofs.Common.{◌≡◌, ℕ, ◌<◌, ◌≤◌, true, ap, sym, ◌∙◌, arith, slice_index, ◌+◌, ◌/◌}
use Rattle.std.specs.Prelude.{Option, Some, None, ◌==◌}
use Rattle.std.proofs.lemmas.Bool.{eqb-true}
use Rattle.std.proofs.lemmas.Bool.Decides.{nat_tests}
use mathlib.Core.Option.{some}
use lib.ListN.{get_elem?}
use Rattle.atomic_table.specs.Table.{State}
use Rattle.pass_names.specs.Counts.{one_if}
use Rattle.pass_names.specs.Passes.{within}
use Rattle.pass_names.proofs.Counts.{met, total_at}
use Rattle.pass_names.proofs.Last.{total_last}
use Rattle.base_row.specs.declared.view.BaseView.{BaseView}
use Rattle.seq_timer.specs.Systems.{BaseContent, system_after}
use Rattle.base_row.specs.Rules.{base_pass_id, carried_in, runs, PassHolds, RowHolds, timer_seen, Token, has, owed, IsIn, Place, Shift, Claim, Carry, Take}
use Rattle.base_row.specs.Plays.{KnowsBases}
use Rattle.base_row.proofs.Frames.{carries_one}
use Rattle.base_row.specs.declared.view.Opening.{Opening}
use Rattle.pass_names.specs.Names.{IsLast}
use Rattle.base_row.specs.Places.{lock_at}

in_range : (k n : ℕ) → 0 < k → k ≤ n → one_if (within k n) ≡ 1
in_range k n h le = grind (arith, nat_tests)

carried_one : (t : ℕ) (carry : Option ℕ) → carried_in t carry ≡ 1 → carry ≡ Some t
carried_one t None e = absurd (omega (arith, e))
carried_one t (Some c) e = ap (λ n. Some n) (eqb-true c t (met (c == t) (omega (arith, e))))

module _ (o : Opening) (s : State (Option BaseContent) (BaseView BaseContent)) (id : ℕ) (v : BaseView BaseContent) (home : RowHolds o v.seen s)
    (at : get_elem? s.views id ≡ some v) (live : v.id.live ≡ true) where
  fits : PassHolds o v.seen s.words v
  fits = home.each_view id v at

  at_most : (x : Token) → IsIn o x → has o x v ≤ owed (system_after o.timers v.seen) s.words x
  at_most x h = omega (arith, home.tokens x h, total_at (has o x) s.views id v at)

  -- the last pass has all
  all : IsLast v.id → (x : Token) → IsIn o x → has o x v ≡ owed (system_after o.timers v.seen) s.words x
  all last x h = sym (total_last base_pass_id s.views home.tree id v at live last (has o x) (λ j u at_u off. (home.each_view j u at_u).gone off x))
      ∙ home.tokens x h

  pub knows_of : KnowsBases o v
  knows_of = record {
    allowed = home.allowed;
    held = λ h e. let t = fits.held h e in (t.within, (t.seen, t.number));
    carry = λ t h e. met (timer_seen o v t).moving (omega (arith, carries_one v t e, at_most (Carry t) h));
    claims = λ t g b h some_one. met (runs g b (timer_seen o v t)) (omega (arith, some_one, at_most (Claim t g b) h));
    all_entries = λ last t k h. all last (Place t k) h;
    all_shifts = λ last b k h. all last (Shift b k) h;
    all_carried = λ last t h moving. carried_one t v.carry (all last (Carry t) h ∙ ap one_if moving);
    all_takes = λ last b k h some_one below. all last (Take b k) h
        ∙ in_range k ((slice_index s.words (lock_at b) + 1) / 2) some_one (omega (arith, fits.met b h));
    counters = home.no_counter;
    rings = home.rings;
  }
