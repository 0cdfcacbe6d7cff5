-- Passes are split off, told of each other and taken in, and the rule stays.
use Rattle.std.proofs.Common.{◌≡◌, ℕ, true, ◌&&◌, List, [], ◌∷◌, ◌++◌, map, set, refl, ap, sym, ◌∙◌, subst, ◌⊎◌, inl, inr, ⊎_elim, arith}
use Rattle.std.proofs.lemmas.Bool.{true≢false}
use Rattle.std.proofs.lemmas.List.{map-set}
use Rattle.std.proofs.lemmas.List.Elements.{All-nil, All-cons, All-append}
use mathlib.Core.Option.{some}
use lib.ListN.{get_elem?}
use Rattle.crossbeam_utils.specs.Register.{Forks, Merges}
use Rattle.atomic_table.proofs.Lists.{at_map, at_set, at_snoc, set_again, set_else}
use Rattle.ktime.specs.declared.write.Write.{Write}
use Rattle.pass_names.specs.declared.PassId.{PassId}
use Rattle.pass_names.specs.Counts.{one_if, total}
use Rattle.pass_names.specs.Names.{IsPassTree, gone_pass_id, AnswersFor, same, occurrences}
use Rattle.pass_names.specs.Passes.{Begins, is_place}
use Rattle.pass_names.proofs.Counts.{total-append, total_set}
use Rattle.pass_names.proofs.Names.{splits_tree, gone_tree, joins_tree}
use Rattle.pass_names.proofs.Passes.{goes_nil}
use Rattle.clock_cell.specs.declared.view.ClockView.{ClockView}
use Rattle.clock_cell.specs.Views.{writes, split_clock_view, new_clock_view, told_clock_view, joined_clock_view}
use Rattle.clock_cell.specs.Rules.{clock_pass_id, ClockAgrees, ClockInvariant}
use Rattle.clock_cell.specs.Plays.{clock_note_of, gone_clock_view}
use Rattle.clock_cell.proofs.Frames.{goes_one, grown, merged}
use Rattle.clock_cell.proofs.Longer.{longer_begins}

-- a pass's id may move to the end of the list
module _ (ids : List PassId) (tree : IsPassTree ids) (i : ℕ) (l : PassId) (at : get_elem? ids i ≡ some l) where
  abbrev Was : PassId → Type 0
  Was m = (gone_pass_id ≡ m) ⊎ ((k : ℕ) × (get_elem? ids k ≡ some m))

  was : (j : ℕ) (m : PassId) → get_elem? (set ids i gone_pass_id ++ l ∷ []) j ≡ some m → Was m
  was j m e =
      ⊎_elim
      (λ t. ⊎_elim (λ u. inl u.1) (λ u. inr (j, u.1)) (at_set ids i j gone_pass_id m t))
      (λ t. inr (i, at ∙ ap some t))
      (at_snoc (set ids i gone_pass_id) l m j e)

  as_many : (f : PassId → ℕ) → f gone_pass_id ≡ 0 → total f (set ids i gone_pass_id ++ l ∷ []) ≡ total f ids
  as_many f none = omega (arith, none, total-append f (set ids i gone_pass_id) (l ∷ []), total_set f ids i l gone_pass_id at)

  pub moved_tree : IsPassTree (set ids i gone_pass_id ++ l ∷ [])
  moved_tree = record {
    each = λ n. omega
        (arith, tree.each n, as_many (λ (m : PassId). occurrences n m.split) refl, as_many (λ (m : PassId). one_if (m.live && same n m.name)) refl);
    once = λ n. omega (arith, tree.once n, as_many (λ (m : PassId). one_if (m.live && same n m.name)) refl);
    longer = λ j m n e has. ⊎_elim (λ t. absurd (omega (arith, ap (λ (x : PassId). occurrences n x.split) t))) (λ t. tree.longer t.0 m n t.1 has) (was j m e);
    fresh = λ j m k n e live borne ext.
        ⊎_elim
        (λ t. absurd (true≢false (sym live ∙ ap (λ (x : PassId). x.live) (sym t))))
        (λ t. tree.fresh t.0 m k n t.1 live (omega (arith, as_many (λ (x : PassId). one_if (x.live && same n x.name)) refl)) ext)
        (was j m e);
    dead = λ j m e off. ⊎_elim (λ t. ap (λ (x : PassId). x.split) (sym t)) (λ t. tree.dead t.0 m t.1 off) (was j m e);
  }

-- nothing is left of a pass that is gone
agrees_gone : (log : List Write) → ClockAgrees log gone_clock_view
agrees_gone log = record { seen = goes_nil (log ∷ []); heard = All-nil (λ ws. Begins ws log); gone = λ off. refl }

agrees_told : (log : List Write) (v w : ClockView) → ClockAgrees log v → ClockAgrees log w → ClockAgrees log (told_clock_view v w)
agrees_told log v w agrees other =
    let P : List Write → Type 0 = λ ws. Begins ws log in
    let mine = agrees.seen.each 0 in
    let heard = other.seen.each 0 in
    record {
      seen = goes_one _ log (longer_begins (writes v) (writes w) log mine heard);
      heard = All-cons P (writes v) (writes w ∷ v.heard ++ w.heard) mine
          (All-cons P (writes w) (v.heard ++ w.heard) heard (All-append P v.heard w.heard agrees.heard other.heard));
      gone = agrees.gone;
    }

pub splits : (id : ℕ) (v : ClockView) → v.pass.id.live ≡ true → Forks ClockInvariant id v (split_clock_view v) (new_clock_view v)
splits id v live words views inv at =
    let agrees = inv.each_view id v at in
    grown words views inv id v (split_clock_view v) (new_clock_view v) at
    (record { seen = agrees.seen; heard = agrees.heard; gone = agrees.gone })
    (record { seen = agrees.seen; heard = agrees.heard; gone = λ off. refl })
    (splits_tree (map clock_pass_id views) inv.tree id (clock_pass_id v) (at_map clock_pass_id views id v at) live)
    (λ i k. omega arith)

pub notes : (id : ℕ) (v : ClockView) → Forks ClockInvariant id v v (clock_note_of v)
notes id v words views inv at =
    let agrees = inv.each_view id v at in
    grown words views inv id v v (clock_note_of v) at agrees
    (record { seen = agrees.seen; heard = agrees.heard; gone = λ off. refl })
    (subst (λ ls. IsPassTree (ls ++ gone_pass_id ∷ []))
    (sym (set_again (map clock_pass_id views) id (clock_pass_id v) (at_map clock_pass_id views id v at)))
    (gone_tree (map clock_pass_id views) inv.tree))
    (λ i k. omega arith)

pub moves : (id : ℕ) (v : ClockView) → Forks ClockInvariant id v gone_clock_view v
moves id v words views inv at =
    grown words views inv id v gone_clock_view v at
    (agrees_gone inv.log)
    (inv.each_view id v at)
    (moved_tree (map clock_pass_id views) inv.tree id (clock_pass_id v) (at_map clock_pass_id views id v at))
    (λ i k. omega arith)

pub joins : (id other : ℕ) (v w : ClockView) → v.pass.id.live ≡ true → w.pass.id.live ≡ true → AnswersFor v.pass.id w.pass.id
    → Merges ClockInvariant id v other w (joined_clock_view v w) gone_clock_view
joins id other v w live live_w answers words views inv at apart at_other =
    let at_w : get_elem? views other ≡ some w = sym (set_else views id other (joined_clock_view v w) apart) ∙ at_other in
    let heard = agrees_told inv.log v w (inv.each_view id v at) (inv.each_view other w at_w) in
    let id_at : get_elem? (set (map clock_pass_id views) id (clock_pass_id (joined_clock_view v w))) other ≡ some (clock_pass_id w) =
    ap (λ ls. get_elem? ls other) (sym (map-set clock_pass_id views id (joined_clock_view v w))) ∙ at_map clock_pass_id
    (set views id (joined_clock_view v w)) other w at_other in
    merged words views inv id other v (joined_clock_view v w) w gone_clock_view at at_other
    (record { seen = heard.seen; heard = heard.heard; gone = λ off. absurd (true≢false (sym live ∙ off)) })
    (agrees_gone inv.log)
    (joins_tree (map clock_pass_id views) inv.tree id other (clock_pass_id v) (clock_pass_id w)
    (at_map clock_pass_id views id v at) live apart id_at live_w answers)
    (λ i k. omega (arith, total-append (λ (p : ℕ × ℕ). one_if (is_place i k p)) v.pass.mine w.pass.mine))

-- a note is taken in
pub tells : (id other : ℕ) (v u : ClockView)
    → Merges ClockInvariant id v other (clock_note_of u) (told_clock_view v (clock_note_of u)) gone_clock_view
tells id other v u words views inv at apart at_other =
    let w = clock_note_of u in
    let at_w : get_elem? views other ≡ some w = sym (set_else views id other (told_clock_view v w) apart) ∙ at_other in
    let ids : set (set (map clock_pass_id views) id (clock_pass_id v)) other gone_pass_id ≡ map clock_pass_id views =
    ap (λ ls. set ls other gone_pass_id) (set_again (map clock_pass_id views) id (clock_pass_id v) (at_map clock_pass_id views id v at))
    ∙ set_again (map clock_pass_id views) other gone_pass_id (at_map clock_pass_id views other w at_w) in
    merged words views inv id other v (told_clock_view v w) w gone_clock_view at at_other
    (agrees_told inv.log v w (inv.each_view id v at) (inv.each_view other w at_w))
    (agrees_gone inv.log)
    (subst (λ ls. IsPassTree ls) (sym ids) inv.tree)
    (λ i k. refl)
