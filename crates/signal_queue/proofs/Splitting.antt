-- Passes are split off and taken in, ends are lent and given back, and the rule stays.
use Rattle.std.proofs.Common.{◌≡◌, ◌≤◌, ℕ, ◌+◌, Bool, true, false, List, [], ◌∷◌, ◌++◌, length, map, set, refl, ap, sym, ◌∙◌, subst, arith}
use Rattle.std.specs.Prelude.{◌||◌}
use Rattle.std.proofs.lemmas.Bool.{true≢false}
use Rattle.std.proofs.lemmas.List.{map-append, map-set}
use Rattle.std.proofs.lemmas.List.Elements.{All-nil, All-cons, All-append}
use mathlib.Core.Option.{some}
use lib.ListN.{get_elem?}
use Rattle.crossbeam_queue.specs.Fifo.{Forks, Merges}
use Rattle.atomic_table.proofs.Lists.{at_map, set_else}
use Rattle.pass_names.specs.Counts.{one_if, count}
use Rattle.pass_names.specs.Names.{AnswersFor, IsLast, IsPassTree, gone_pass_id}
use Rattle.pass_names.specs.Passes.{Begins, is_place}
use Rattle.pass_names.proofs.Counts.{map_kept, total-append}
use Rattle.pass_names.proofs.Names.{gone_tree, joins_tree, splits_tree}
use Rattle.pass_names.proofs.Passes.{goes_nil}
use Rattle.signal_queue.specs.declared.signal.Turn.{Turn}
use Rattle.signal_queue.specs.declared.view.QueueView.{QueueView}
use Rattle.signal_queue.specs.Turns.{AreTurns, pushed, waiting_after}
use Rattle.signal_queue.specs.Views.{end_queue_view, first_queue_view, gone_queue_view, joined_queue_view, lent_queue_view, new_queue_view, opened_end, opened_view, rid_queue_view, split_queue_view}
use Rattle.signal_queue.specs.Rules.{queue_pass_id, turns, QueueAgrees, QueueInvariant}
use Rattle.signal_queue.proofs.Turns.{fewer_wait, legal_begin, popped_between, pushed_between}
use Rattle.signal_queue.proofs.Frames.{goes_one, grown, merged}
use Rattle.signal_queue.proofs.Lasting.{all_of_last, alone_last}
use Rattle.signal_queue.proofs.Longer.{all_first, all_second, goes_on, longer_begins}

-- nothing is left of a pass that is gone
agrees_gone : (log : List Turn) → QueueAgrees log gone_queue_view
agrees_gone log = record {
  seen = goes_nil (log ∷ []);
  heard = All-nil (λ ts. Begins ts log);
  gone = λ off. refl;
  pushes = λ on. absurd (true≢false (sym on));
  pops = λ on. absurd (true≢false (sym on));
  pushes_made = λ on. absurd (true≢false (sym on));
  pops_made = λ on. absurd (true≢false (sym on));
}

pub splits : (id : ℕ) (v : QueueView) → v.pass.id.live ≡ true → Forks QueueInvariant id v (split_queue_view v) (new_queue_view v)
splits id v live items views inv at =
    let agrees = inv.each_view id v at in
    let w = new_queue_view v in
    let v' = split_queue_view v in
    grown items views inv id v v' w at
    (record {
      seen = agrees.seen;
      heard = agrees.heard;
      gone = agrees.gone;
      pushes = agrees.pushes;
      pops = agrees.pops;
      pushes_made = agrees.pushes_made;
      pops_made = agrees.pops_made;
    })
    (record {
      seen = agrees.seen;
      heard = agrees.heard;
      gone = λ off. refl;
      pushes = λ on. absurd (true≢false (sym on));
      pops = λ on. absurd (true≢false (sym on));
      pushes_made = λ on. absurd (true≢false (sym on));
      pops_made = λ on. absurd (true≢false (sym on));
    })
    inv.room inv.legal (inv.rooms id v at) (λ on. inv.rooms id v at live) (λ j u apart at_u. inv.rooms j u at_u)
    (subst IsPassTree
    (sym (map-append queue_pass_id (set views id v') (w ∷ []) ∙ ap (λ ls. ls ++ queue_pass_id w ∷ []) (map-set queue_pass_id views id v')))
    (splits_tree (map queue_pass_id views) inv.tree id (queue_pass_id v) (at_map queue_pass_id views id v at) live))
    (λ i k. omega arith) (omega arith) (omega arith) (λ h. record { live = h.live; all = h.all })

pub joins : (id other : ℕ) (v w : QueueView) → v.pass.id.live ≡ true → w.pass.id.live ≡ true → AnswersFor v.pass.id w.pass.id
    → v.pushes ≡ false → w.pushes ≡ false → v.pops ≡ false → w.pops ≡ false
    → Merges QueueInvariant id v other w (joined_queue_view v w) gone_queue_view
joins id other v w live live_w answers v_push w_push v_pop w_pop items views inv at apart at_other =
    let j = joined_queue_view v w in
    let at_w : get_elem? views other ≡ some w = sym (set_else views id other j apart) ∙ at_other in
    let P : List Turn → Type 0 = λ ts. Begins ts inv.log in
    let agrees = inv.each_view id v at in
    let heard = inv.each_view other w at_w in
    let mine = agrees.seen.each 0 in
    let theirs = heard.seen.each 0 in
    let id_at : get_elem? (set (map queue_pass_id views) id (queue_pass_id j)) other ≡ some (queue_pass_id w) =
    ap (λ ls. get_elem? ls other) (sym (map-set queue_pass_id views id j)) ∙ at_map queue_pass_id (set views id j) other w at_other in
    merged items views inv id other v j w gone_queue_view at at_other
    (record {
      seen = goes_one _ inv.log (longer_begins (turns v) (turns w) inv.log mine theirs);
      heard = All-cons P (turns v) (turns w ∷ v.heard ++ w.heard) mine
          (All-cons P (turns w) (v.heard ++ w.heard) theirs (All-append P v.heard w.heard agrees.heard heard.heard));
      gone = λ off. absurd (true≢false (sym live ∙ off));
      pushes = λ on. absurd (true≢false (sym on));
      pops = λ on. absurd (true≢false (sym on));
      pushes_made = λ on. absurd (true≢false (sym on));
      pops_made = λ on. absurd (true≢false (sym on));
    })
    (agrees_gone inv.log) (λ on. inv.rooms id v at live) (λ on. absurd (true≢false (sym on)))
    (subst IsPassTree
    (sym (map-set queue_pass_id (set views id j) other gone_queue_view ∙ ap (λ ls. set ls other gone_pass_id) (map-set queue_pass_id views id j)))
    (joins_tree (map queue_pass_id views) inv.tree id other (queue_pass_id v) (queue_pass_id w)
    (at_map queue_pass_id views id v at) live apart id_at live_w answers))
    (λ i k. omega (arith, total-append (λ (p : ℕ × ℕ). one_if (is_place i k p)) v.pass.mine w.pass.mine))
    (omega (arith, ap one_if v_push, ap one_if w_push)) (omega (arith, ap one_if v_pop, ap one_if w_pop))
    apart (λ h. record { live = live; all = all_first (turns v) (turns w) inv.log mine theirs h.all })
    (λ h. record { live = live; all = all_second (turns v) (turns w) inv.log mine theirs h.all })

-- ---- ends

-- what who may push knows goes over to a longer beginning
pushes_on : {xs ys log : List Turn} (room most : ℕ) → Begins xs ys → Begins ys log → AreTurns room [] log
    → (pushed log ≡ pushed xs) × (length (waiting_after [] xs) ≤ most) → (pushed log ≡ pushed ys) × (length (waiting_after [] ys) ≤ most)
pushes_on room most a b legal told =
    let all = pushed_between a b told.0 in
    (all, omega (arith, fewer_wait room a (legal_begin room b legal) (sym all ∙ told.0), told.1))

or_second : (a b : Bool) → a ≡ false → (a || b) ≡ true → b ≡ true
or_second true b off e = absurd (true≢false off)
or_second false b off e = e

or_sum : (a b : Bool) → a ≡ false → one_if (a || b) + 0 ≡ one_if a + one_if b
or_sum true b off = absurd (true≢false off)
or_sum false true off = refl
or_sum false false off = refl

pub lends : (id other : ℕ) (v w : QueueView) → v.pass.id.live ≡ true → w.pass.id ≡ gone_pass_id → w.pass.mine ≡ [] → w.room ≡ v.room
    → v.pushes ≡ false → v.pops ≡ false
    → Merges QueueInvariant id v other w (lent_queue_view v w) gone_queue_view
lends id other v w live off none room no_push no_pop items views inv at apart at_other =
    let l = lent_queue_view v w in
    let at_w : get_elem? views other ≡ some w = sym (set_else views id other l apart) ∙ at_other in
    let P : List Turn → Type 0 = λ ts. Begins ts inv.log in
    let agrees = inv.each_view id v at in
    let heard = inv.each_view other w at_w in
    let mine = agrees.seen.each 0 in
    let theirs = heard.seen.each 0 in
    let theirs_first = (goes_on (turns v) (turns w) inv.log mine theirs).1 in
    let on = longer_begins (turns v) (turns w) inv.log mine theirs in
    merged items views inv id other v l w gone_queue_view at at_other
    (record {
      seen = goes_one _ inv.log on;
      heard = All-cons P (turns v) (turns w ∷ v.heard ++ w.heard) mine
          (All-cons P (turns w) (v.heard ++ w.heard) theirs (All-append P v.heard w.heard agrees.heard heard.heard));
      gone = λ e. absurd (true≢false (sym live ∙ e));
      pushes = λ may. pushes_on inv.room v.room theirs_first on inv.legal
          (let told = heard.pushes (or_second v.pushes w.pushes no_push may) in (told.0, subst (λ n. length (waiting_after [] (turns w)) ≤ n) room told.1));
      pops = λ may. popped_between theirs_first on (heard.pops (or_second v.pops w.pops no_pop may));
      pushes_made = λ may. heard.pushes_made (or_second v.pushes w.pushes no_push may);
      pops_made = λ may. heard.pops_made (or_second v.pops w.pops no_pop may);
    })
    (agrees_gone inv.log) (λ on. inv.rooms id v at live) (λ on. absurd (true≢false (sym on)))
    (subst IsPassTree
    (sym (map_kept queue_pass_id (set views id l) other w gone_queue_view at_other (sym off) ∙ map_kept queue_pass_id views id v l at refl)) inv.tree)
    (λ i k. omega (arith, ap (count (is_place i k)) none))
    (or_sum v.pushes w.pushes no_push) (or_sum v.pops w.pops no_pop)
    apart (λ h. record { live = live; all = all_first (turns v) (turns w) inv.log mine theirs h.all })
    (λ h. record { live = live; all = all_second (turns v) (turns w) inv.log mine theirs h.all })

pub gives : (id : ℕ) (v : QueueView) → Forks QueueInvariant id v (rid_queue_view v) (end_queue_view v)
gives id v items views inv at =
    let agrees = inv.each_view id v at in
    let v' = rid_queue_view v in
    let w = end_queue_view v in
    grown items views inv id v v' w at
    (record {
      seen = agrees.seen;
      heard = agrees.heard;
      gone = agrees.gone;
      pushes = λ on. absurd (true≢false (sym on));
      pops = λ on. absurd (true≢false (sym on));
      pushes_made = λ on. absurd (true≢false (sym on));
      pops_made = λ on. absurd (true≢false (sym on));
    })
    (record {
      seen = goes_one (turns v) inv.log (agrees.seen.each 0);
      heard = All-nil (λ ts. Begins ts inv.log);
      gone = λ e. refl;
      pushes = agrees.pushes;
      pops = agrees.pops;
      pushes_made = agrees.pushes_made;
      pops_made = agrees.pops_made;
    })
    inv.room inv.legal (inv.rooms id v at) (λ on. absurd (true≢false (sym on))) (λ j u apart at_u. inv.rooms j u at_u)
    (subst IsPassTree (sym (map-append queue_pass_id (set views id v') (w ∷ []) ∙ ap (λ ls. ls ++ gone_pass_id ∷ []) (map_kept queue_pass_id views id v v' at refl)))
    (gone_tree (map queue_pass_id views) inv.tree))
    (λ i k. omega arith) (omega arith) (omega arith) (λ h. record { live = h.live; all = h.all })

-- the first pass learns how many signals may wait, and gives the end of pops away
pub opens_ends : (id most : ℕ) (v : QueueView) → v ≡ first_queue_view → Forks QueueInvariant id v (opened_view most v) (opened_end most v)
opens_ends id most v first items views inv at =
    let agrees = inv.each_view id v at in
    let live : v.pass.id.live ≡ true = ap (λ u. u.pass.id.live) first in
    let last : IsLast v.pass.id = subst (λ u. IsLast u.pass.id) (sym first) (record { first = refl; alone = refl }) in
    let none : inv.log ≡ [] = sym (all_of_last inv id v at live last) ∙ ap turns first in
    let small : v.room ≡ 0 = ap (λ u. u.room) first in
    let v' = opened_view most v in
    let w = opened_end most v in
    grown items views inv id v v' w at
    (record {
      seen = agrees.seen;
      heard = agrees.heard;
      gone = agrees.gone;
      pushes = λ on. let told = agrees.pushes on in (told.0, omega (arith, told.1, small));
      pops = λ on. absurd (true≢false (sym on));
      pushes_made = agrees.pushes_made;
      pops_made = λ on. absurd (true≢false (sym on));
    })
    (record {
      seen = goes_one (turns v) inv.log (agrees.seen.each 0);
      heard = All-nil (λ ts. Begins ts inv.log);
      gone = λ e. refl;
      pushes = λ on. absurd (true≢false (sym on));
      pops = agrees.pops;
      pushes_made = λ on. absurd (true≢false (sym on));
      pops_made = agrees.pops_made;
    })
    most (subst (AreTurns most []) (sym none) tt) (λ on. refl) (λ on. absurd (true≢false (sym on)))
    (λ j u apart at_u on. absurd (apart (alone_last inv id v at live last j u at_u on)))
    (subst IsPassTree (sym (map-append queue_pass_id (set views id v') (w ∷ []) ∙ ap (λ ls. ls ++ gone_pass_id ∷ []) (map_kept queue_pass_id views id v v' at refl)))
    (gone_tree (map queue_pass_id views) inv.tree))
    (λ i k. omega arith) (omega arith) (omega arith) (λ h. record { live = h.live; all = h.all })
