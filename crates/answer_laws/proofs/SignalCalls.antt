-- A push and a pop come to what the turns before them say.
use Rattle.std.proofs.Common.{◌≡◌, ◌≤◌, ℕ, List, [], ◌∷◌, length, ap, sym, ◌∙◌, subst, refl, length-append, arith}
use Rattle.std.specs.Prelude.{◌++◌, Option, Some, None, slice_get}
use Rattle.pass_names.specs.declared.Pass.{Pass}
use Rattle.pass_names.specs.Passes.{Adds, entries}
use Rattle.signal_queue.specs.Calls.{PopsSignal, PushesSignal}
use Rattle.signal_queue.specs.Rules.{turns}
use Rattle.signal_queue.specs.Turns.{AreTurns, waiting_after}
use Rattle.signal_queue.specs.Views.{KnowsQueue}
use Rattle.signal_queue.specs.declared.signal.Signal.{Signal}
use Rattle.signal_queue.specs.declared.signal.Turn.{Turn}
use Rattle.signal_queue.specs.declared.signal.Turn.TheVariants.{Popped, Pushed}
use Rattle.signal_queue.specs.declared.signals.Push.{Push}
use Rattle.signal_queue.specs.declared.signals.Push.TheVariants.{Queued, Full}
use Rattle.signal_queue.specs.declared.view.QueueView.{QueueView}
use Rattle.signal_queue.proofs.Turns.{oldest, waits_push}
use Rattle.answer_laws.specs.Rows.{SamePlaces}
use Rattle.answer_laws.specs.Signals.{pop_moment, push_moment}
use Rattle.answer_laws.proofs.RowCalls.{looks_once}

-- the same entries after the same history
pub adds_once : {E : Type 0} (p q p' r : Pass E) (i : ℕ) (es fs : List E) → SamePlaces p p' → (a : Adds p q i es) (b : Adds p' r i fs) → a.before ≡ b.before
    → es ≡ fs → (entries i q.seen ≡ entries i r.seen) × SamePlaces q r
adds_once p q p' r i es fs alike a b e f =
    let last = a.last in
    let last' = b.last in
    let mine = a.mine in
    let mine' = b.mine in
    let own = alike.mine in (cc, record { id = a.id ∙ (alike.id ∙ sym b.id); mine = cc })

pub places_same : {E : Type 0} (p : Pass E) → SamePlaces p p
places_same p = record { id = refl; mine = refl }

pub no_room : (before seen : List Turn) (s : Signal) (room : ℕ) → seen ≡ before ++ Pushed s ∷ [] → length (waiting_after [] seen) ≤ room
    → length (waiting_after [] before) ≡ room → ⊥
no_room before seen s room last few full = omega (
  arith,
  few,
  full,
  ap (λ l. length (waiting_after [] l)) last,
  ap length (waits_push [] before s),
  length-append (waiting_after [] before) (s ∷ []),
)

module _ (room : ℕ) (v w w' : QueueView) (s : Signal) where
  pub push_once : (a a' : Push) (p : PushesSignal room v w s a) (q : PushesSignal room v w' s a') → w.room ≡ room → w'.room ≡ room
      → push_moment room v w s a p ≡ push_moment room v w' s a' q → (a ≡ a') × (turns w ≡ turns w') × SamePlaces w.pass w'.pass
  push_once Queued Queued p q m n e =
      let same = adds_once v.pass w.pass v.pass w'.pass 0 _ _ (places_same v.pass) p.0 q.0 e refl in (refl, same.0, same.1)
  push_once Queued (Full most) p q m n e =
      absurd (no_room p.0.before (turns w) s room p.0.last (subst (λ k. length (waiting_after [] (turns w)) ≤ k) m p.1)
      (ap (λ l. length (waiting_after [] l)) e ∙ (q.1.full ∙ q.0)))
  push_once (Full most) Queued p q m n e =
      absurd (no_room q.0.before (turns w') s room q.0.last (subst (λ k. length (waiting_after [] (turns w')) ≤ k) n q.1)
      (ap (λ l. length (waiting_after [] l)) (sym e) ∙ (p.1.full ∙ p.0)))
  push_once (Full most) (Full other) p q m n e = (ap Full (p.0 ∙ sym q.0), e, looks_once _ _ _ p.1.looks q.1.looks)

waited : (w : QueueView) (before : List Turn) (s : Signal) → KnowsQueue w → turns w ≡ before ++ Popped s ∷ [] → slice_get (waiting_after [] before) 0 ≡ Some s
waited w before s known last = oldest w.room [] before [] s (subst (AreTurns w.room []) last known.legal)

pub some_waited : (before : List Turn) (s : Signal) → slice_get (waiting_after [] before) 0 ≡ Some s → waiting_after [] before ≡ [] → ⊥
some_waited before s some none = let empty = ap (λ l. slice_get l 0) none in let e : None ≡ Some s = sym empty ∙ some in cc

module _ (v w w' : QueueView) where
  pub pop_once : (a a' : Option Signal) (p : PopsSignal v w a) (q : PopsSignal v w' a') → KnowsQueue w → KnowsQueue w'
      → pop_moment v w a p ≡ pop_moment v w' a' q → (a ≡ a') × (turns w ≡ turns w') × SamePlaces w.pass w'.pass
  pop_once (Some s) (Some u) p q m n e =
      let same : Some s ≡ Some u = sym (waited w p.before s m p.last) ∙ (ap (λ l. slice_get (waiting_after [] l) 0) e ∙ waited w' q.before u n q.last) in
      let signal : s ≡ u = cc in
      let more = adds_once v.pass w.pass v.pass w'.pass 0 _ _ (places_same v.pass) p q e (ap (λ x. Popped x ∷ []) signal) in (same, more.0, more.1)
  pop_once (Some s) None p q m n e = absurd (some_waited p.before s (waited w p.before s m p.last) (ap (waiting_after []) e ∙ q.none))
  pop_once None (Some s) p q m n e = absurd (some_waited q.before s (waited w' q.before s n q.last) (ap (waiting_after []) (sym e) ∙ p.none))
  pop_once None None p q m n e = (refl, e, looks_once _ _ _ p.looks q.looks)
