-- What a pass knows after a call that was lent an end: what the ring told it, and what it had seen before.
use Rattle.std.proofs.Common.{◌≡◌, ℕ, ◌+◌, Bool, true, false, List, [], ◌∷◌, ◌++◌, length, refl, ap, sym, ◌∙◌, subst, arith}
use Rattle.std.specs.Prelude.{All, ◌||◌, Option, Some, None}
use Rattle.std.proofs.lemmas.List.Elements.{All-nil, All-cons, All-append, All-head, All-tail, All-weaker}
use Rattle.crossbeam_queue.specs.Fifo.{Held}
use Rattle.pass_names.specs.Passes.{Adds, Begins, GoesOn, Looks, Retires}
use Rattle.pass_names.proofs.Passes.{begins_more, begins_trans}
use Rattle.signal_queue.specs.declared.signal.Signal.{Signal}
use Rattle.signal_queue.specs.declared.signal.Turn.{Turn}
use Rattle.signal_queue.specs.declared.signals.Push.{Push}
use Rattle.signal_queue.specs.declared.signals.Push.TheVariants.{Full, Queued}
use Rattle.signal_queue.specs.Calls.{FindsEmpty, FindsFull, MakesTurn, PopsLent, PopsSignal, PushesLent, PushesSignal, RuleHeld, count_put, count_taken}
use Rattle.signal_queue.specs.declared.view.QueueView.{QueueView}
use Rattle.signal_queue.specs.Rules.{turns, QueueAgrees}
use Rattle.signal_queue.specs.Turns.{AreTurns, popped, pushed}
use Rattle.signal_queue.specs.Views.{IsEndView, IsRestingQueueView, joined_queue_view, lent_queue_view, longer_turns, rid_queue_view}
use Rattle.signal_queue.proofs.Turns.{full_is_seen, legal_begin, none_is_seen}
use Rattle.signal_queue.proofs.Frames.{goes_one}
use Rattle.signal_queue.proofs.Lasting.{each_of_last}
use Rattle.signal_queue.proofs.Longer.{goes_on}

goes_seen : (xs ys : List (List Turn)) (a b : List Turn) → xs ≡ a ∷ [] → ys ≡ b ∷ [] → Begins a b → GoesOn xs ys
goes_seen xs ys a b e f begins = subst (λ l. GoesOn l ys) (sym e) (subst (λ l. GoesOn (a ∷ []) l) (sym f) (goes_one a b begins))

none_is_nil : (waiting : List Signal) → length waiting ≡ 0 → waiting ≡ []
none_is_nil [] e = refl
none_is_nil (w ∷ waiting) e = absurd (omega (arith, e))

-- a call leaves its pass's name and the names that it answers for
pub pushes_id : (room : ℕ) (v w : QueueView) (s : Signal) (answer : Push) → PushesSignal room v w s answer → w.pass.id ≡ v.pass.id
pushes_id room v w s Queued told = told.0.id
pushes_id room v w s (Full most) told = told.1.looks.id

pub pops_id : (v w : QueueView) (answer : Option Signal) → PopsSignal v w answer → w.pass.id ≡ v.pass.id
pops_id v w (Some s) told = told.id
pops_id v w None told = told.looks.id

module _ {v e : QueueView} {most : ℕ} {pushing popping : Bool} {n : ℕ} (rests : IsRestingQueueView v) (end : IsEndView most pushing popping n e) where
  abbrev lent : QueueView
  lent = lent_queue_view v e

  -- a turn was made
  pub made_adds : {t : Turn} {w : QueueView} → MakesTurn t lent w → Adds v.pass (rid_queue_view w).pass 0 (t ∷ [])
  made_adds {t} {w} made =
      let before = All-head (λ ts. Begins ts made.adds.before) (turns v) (turns e ∷ v.heard ++ e.heard) made.heard in
      let after : Begins made.adds.before (turns w) = subst (λ l. Begins made.adds.before l) (sym made.adds.last) (begins_more made.adds.before (t ∷ [])) in
      record {
        seen = goes_seen v.pass.seen w.pass.seen (turns v) (turns w) rests.known.one made.known.one (begins_trans before after);
        before = made.adds.before;
        begins = before;
        last = made.adds.last;
        mine = made.adds.mine;
        id = made.adds.id;
      }

  pub made_rests : {t : Turn} {w : QueueView} → MakesTurn t lent w → IsRestingQueueView (rid_queue_view w)
  made_rests {t} {w} made = record {
    live = made.live;
    known = record { one = made.known.one; legal = made.known.legal; all_entries = made.known.all_entries };
    heard = subst (All (λ ts. Begins ts (turns w))) (sym made.none) (All-nil (λ ts. Begins ts (turns w)));
    no_push = refl;
    no_pop = refl;
  }

  -- none was made: what both had seen begins what the pass has now seen
  pub both_seen : {items : List Signal} → RuleHeld lent items → Begins (turns v) (longer_turns (turns v) (turns e)) × Begins (turns e) (longer_turns (turns v) (turns e))
  both_seen shown =
      let inv = shown.2 in
      let agrees = inv.each_view shown.1 lent shown.3 in
      let P : List Turn → Type 0 = λ ts. Begins ts inv.log in
      goes_on (turns v) (turns e) inv.log (All-head P (turns v) (turns e ∷ v.heard ++ e.heard) agrees.heard)
      (All-head P (turns e) (v.heard ++ e.heard) (All-tail P (turns v) (turns e ∷ v.heard ++ e.heard) agrees.heard))

  pub looks : {items : List Signal} → RuleHeld lent items → Looks v.pass (rid_queue_view lent).pass
  looks shown = record {
    seen = goes_seen v.pass.seen (longer_turns (turns v) (turns e) ∷ []) (turns v) (longer_turns (turns v) (turns e)) rests.known.one refl (both_seen shown).0;
    mine = refl;
    id = refl;
  }

  pub looked_rests : {items : List Signal} → RuleHeld lent items → IsRestingQueueView (rid_queue_view lent)
  looked_rests shown =
      let inv = shown.2 in
      let agrees = inv.each_view shown.1 lent shown.3 in
      let all = longer_turns (turns v) (turns e) in
      let both = both_seen shown in
      let P : List Turn → Type 0 = λ ts. Begins ts all in
      let theirs : All P e.heard = subst (All P) (sym end.told) (All-nil P) in
      record {
        live = rests.live;
        known = record {
          one = refl;
          legal = subst (λ n. AreTurns n [] all) (sym (inv.rooms shown.1 lent shown.3 rests.live))
              (legal_begin inv.room (agrees.seen.each 0) inv.legal);
          all_entries = each_of_last inv shown.1 lent shown.3 rests.live refl;
        };
        heard = All-cons P (turns v) (turns e ∷ v.heard ++ e.heard) both.0 (All-cons P (turns e) (v.heard ++ e.heard) both.1
            (All-append P v.heard e.heard (All-weaker (λ ts. Begins ts (turns v)) P (λ ts b. begins_trans b both.0) v.heard rests.heard) theirs));
        no_push = refl;
        no_pop = refl;
      }

  pub finds_full : (room : ℕ) → lent.pushes ≡ true → v.room ≡ room → Held room (RuleHeld lent) → FindsFull room v (rid_queue_view lent)
  finds_full room may same held =
      let shown = held.2 in
      let inv = shown.2 in
      let agrees = inv.each_view shown.1 lent shown.3 in
      let told = agrees.pushes may in
      record {
        looks = looks shown;
        full = full_is_seen inv.room room (agrees.seen.each 0) inv.legal told.0 (omega (arith, told.1, same)) (ap length (sym inv.shows) ∙ held.1);
      }

  pub finds_empty : lent.pops ≡ true → Held 0 (RuleHeld lent) → FindsEmpty v (rid_queue_view lent)
  finds_empty may held =
      let shown = held.2 in
      let inv = shown.2 in
      let agrees = inv.each_view shown.1 lent shown.3 in
      record {
        looks = looks shown;
        none = none_is_nil _ (none_is_seen inv.room (agrees.seen.each 0) inv.legal (agrees.pops may) (ap length (sym inv.shows) ∙ held.1));
      }

  or_right : (a b : Bool) → b ≡ true → (a || b) ≡ true
  or_right true b on = refl
  or_right false b on = on

  -- who has the end sees all that was made by it
  pub looked_pushes : {items : List Signal} → RuleHeld lent items → e.pushes ≡ true → length (pushed (turns lent)) ≡ n
  looked_pushes shown on =
      let agrees = shown.2.each_view shown.1 lent shown.3 in
      let may = or_right v.pushes e.pushes on in
      omega (arith, end.made, agrees.pushes_made may, ap length (agrees.pushes may).0)

  pub looked_pops : {items : List Signal} → RuleHeld lent items → e.pops ≡ true → length (popped (turns lent)) ≡ n
  looked_pops shown on =
      let agrees = shown.2.each_view shown.1 lent shown.3 in
      let may = or_right v.pops e.pops on in
      omega (arith, end.made, agrees.pops_made may, ap length (agrees.pops may))

  -- what a push told a pass that was lent the end for it
  push_told : (room : ℕ) (s : Signal) (answer : Push) (w : QueueView) → e.pushes ≡ true → v.room ≡ room → PushesLent room lent w s answer
      → PushesSignal room v (rid_queue_view w) s answer × IsRestingQueueView (rid_queue_view w)
  push_told room s Queued w on same told = ((made_adds told, told.within (told.same_push ∙ or_right v.pushes e.pushes on)), made_rests told)
  push_told room s (Full most) w on same told =
      let full = finds_full room (or_right v.pushes e.pushes on) same told.2 in (
        (told.0, subst (λ u. FindsFull most v (rid_queue_view u)) (sym told.1) (subst (λ m. FindsFull m v (rid_queue_view lent)) (sym told.0) full)),
        subst (λ u. IsRestingQueueView (rid_queue_view u)) (sym told.1) (looked_rests told.2.2),
      )

  -- what a pop told one
  pop_told : (answer : Option Signal) (w : QueueView) → e.pops ≡ true → PopsLent lent w answer
      → PopsSignal v (rid_queue_view w) answer × IsRestingQueueView (rid_queue_view w)
  pop_told None w on told = (
    subst (λ u. FindsEmpty v (rid_queue_view u)) (sym told.0) (finds_empty (or_right v.pops e.pops on) told.1),
    subst (λ u. IsRestingQueueView (rid_queue_view u)) (sym told.0) (looked_rests told.1.2),
  )
  pop_told (Some s) w on told = (made_adds told, made_rests told)

  -- how many pushes the pass has then seen, and the end has made
  abbrev Counted : ℕ → ℕ → QueueView → Type 0
  Counted seen more w = (w.made ≡ n + more) × (seen ≡ n + more)

  push_counted : (room : ℕ) (s : Signal) (answer : Push) (w : QueueView) → e.pushes ≡ true → PushesLent room lent w s answer
      → Counted (length (pushed (turns w))) (count_put answer) w
  push_counted room s Queued w on told =
      let more : w.made ≡ n + 1 = omega (arith, told.one_more, end.made) in
      (more, sym (told.pushes_made (told.same_push ∙ or_right v.pushes e.pushes on)) ∙ more)
  push_counted room s (Full most) w on told =
      subst (λ u. Counted (length (pushed (turns u))) 0 u) (sym told.1) (omega (arith, end.made), omega (arith, looked_pushes told.2.2 on))

  pop_counted : (answer : Option Signal) (w : QueueView) → e.pops ≡ true → PopsLent lent w answer → Counted (length (popped (turns w))) (count_taken answer) w
  pop_counted (Some s) w on told =
      let more : w.made ≡ n + 1 = omega (arith, told.one_more, end.made) in
      (more, sym (told.pops_made (told.same_pop ∙ or_right v.pops e.pops on)) ∙ more)
  pop_counted None w on told =
      subst (λ u. Counted (length (popped (turns u))) 0 u) (sym told.0) (omega (arith, end.made), omega (arith, looked_pops told.1.2 on))

  -- the same where the views are named otherwise
  pub pushed_by : (room : ℕ) (s : Signal) (answer : Push) (l w new : QueueView) → l ≡ lent → new ≡ rid_queue_view w → e.pushes ≡ true → v.room ≡ room
      → PushesLent room l w s answer → PushesSignal room v new s answer × IsRestingQueueView new
  pushed_by room s answer l w new is_lent is_rid on same told =
      subst (λ u. PushesSignal room v u s answer × IsRestingQueueView u) (sym is_rid)
      (push_told room s answer w on same (subst (λ x. PushesLent room x w s answer) is_lent told))

  pub pushes_counted : (room : ℕ) (s : Signal) (answer : Push) (l w new : QueueView) → l ≡ lent → new ≡ rid_queue_view w → e.pushes ≡ true
      → PushesLent room l w s answer → Counted (length (pushed (turns new))) (count_put answer) w
  pushes_counted room s answer l w new is_lent is_rid on told =
      subst (λ u. Counted (length (pushed (turns u))) (count_put answer) w) (sym is_rid)
      (push_counted room s answer w on (subst (λ x. PushesLent room x w s answer) is_lent told))

  pub pops_counted : (answer : Option Signal) (l w new : QueueView) → l ≡ lent → new ≡ rid_queue_view w → e.pops ≡ true → PopsLent l w answer
      → Counted (length (popped (turns new))) (count_taken answer) w
  pops_counted answer l w new is_lent is_rid on told =
      subst (λ u. Counted (length (popped (turns u))) (count_taken answer) w) (sym is_rid)
      (pop_counted answer w on (subst (λ x. PopsLent x w answer) is_lent told))

  pub popped_by : (answer : Option Signal) (l w new : QueueView) → l ≡ lent → new ≡ rid_queue_view w → e.pops ≡ true → PopsLent l w answer
      → PopsSignal v new answer × IsRestingQueueView new
  popped_by answer l w new is_lent is_rid on told =
      subst (λ u. PopsSignal v u answer × IsRestingQueueView u) (sym is_rid) (pop_told answer w on (subst (λ x. PopsLent x w answer) is_lent told))

  -- a look by the end
  pub looked_by : {items : List Signal} (l w new : QueueView) → l ≡ lent → w ≡ l → new ≡ rid_queue_view w → RuleHeld l items
      → IsRestingQueueView new × Looks v.pass new.pass × (e.pushes ≡ true → length (pushed (turns new)) ≡ n) × (e.pops ≡ true → length (popped (turns new)) ≡ n)
  looked_by {items} l w new is_lent same is_rid told =
      let shown = subst (λ x. RuleHeld x items) is_lent told in
      subst
      (λ u. IsRestingQueueView u × Looks v.pass u.pass × (e.pushes ≡ true → length (pushed (turns u)) ≡ n) × (e.pops ≡ true → length (popped (turns u)) ≡ n))
      (sym (is_rid ∙ ap rid_queue_view (same ∙ is_lent))) (looked_rests shown, looks shown, looked_pushes shown, looked_pops shown)

-- what is known of two passes that were joined
module _ {v w : QueueView} (rests : IsRestingQueueView v) (others : IsRestingQueueView w) {items : List Signal} (shown : RuleHeld (joined_queue_view v w) items) where
  abbrev joined : QueueView
  joined = joined_queue_view v w

  agrees : QueueAgrees shown.2.log joined
  agrees = shown.2.each_view shown.1 joined shown.3

  both_joined : Begins (turns v) (longer_turns (turns v) (turns w)) × Begins (turns w) (longer_turns (turns v) (turns w))
  both_joined =
      let P : List Turn → Type 0 = λ ts. Begins ts shown.2.log in
      goes_on (turns v) (turns w) shown.2.log (All-head P (turns v) (turns w ∷ v.heard ++ w.heard) agrees.heard)
      (All-head P (turns w) (v.heard ++ w.heard) (All-tail P (turns v) (turns w ∷ v.heard ++ w.heard) agrees.heard))

  pub joined_retires : Retires v.pass w.pass joined.pass
  joined_retires = record {
    seen = goes_seen v.pass.seen joined.pass.seen (turns v) (turns joined) rests.known.one refl both_joined.0;
    heard = goes_seen w.pass.seen joined.pass.seen (turns w) (turns joined) others.known.one refl both_joined.1;
    mine = refl;
    id = refl;
  }

  pub joined_rests : IsRestingQueueView joined
  joined_rests =
      let all = longer_turns (turns v) (turns w) in
      let P : List Turn → Type 0 = λ ts. Begins ts all in record {
        live = rests.live;
        known = record {
          one = refl;
          legal = subst (λ n. AreTurns n [] all) (sym (shown.2.rooms shown.1 joined shown.3 rests.live))
              (legal_begin shown.2.room (agrees.seen.each 0) shown.2.legal);
          all_entries = each_of_last shown.2 shown.1 joined shown.3 rests.live refl;
        };
        heard = All-cons P (turns v) (turns w ∷ v.heard ++ w.heard) both_joined.0 (All-cons P (turns w) (v.heard ++ w.heard) both_joined.1
            (All-append P v.heard w.heard (All-weaker (λ ts. Begins ts (turns v)) P (λ ts b. begins_trans b both_joined.0) v.heard rests.heard)
            (All-weaker (λ ts. Begins ts (turns w)) P (λ ts b. begins_trans b both_joined.1) w.heard others.heard)));
        no_push = refl;
        no_pop = refl;
      }
