-- A base's six queues as one list, and its content with one half changed.
use Rattle.std.proofs.Common.{◌≡◌, ℕ, ◌<◌, false, List, [], ◌∷◌, length, slice_index_or, slice_set, Option, zero, suc, arith, refl, ap, ◌∙◌, subst}
use Rattle.ktime.specs.declared.clock_id.ClockId.{ClockId}
use Rattle.ktime.specs.declared.clock_id.ClockId.TheVariants as clocks
use Rattle.timer_queue.specs.Pairs.{has_any, has_id, put, put_among, without, without_among}
use Rattle.timer_queue.proofs.Several.{has_any-six}
use Rattle.seq_timer.specs.declared.context.Context.{Context}
use Rattle.seq_timer.specs.declared.context.Context.TheVariants as contexts
use Rattle.seq_timer.specs.Bases.{BaseState, IsAbsent, IsInNone, IsQueuedIn, content_from, in_half, other_context, queue_index}
use Rattle.seq_timer.specs.Contents.{Content, half_of, with_half}
use Rattle.seq_timer.specs.Halves.{Half, dequeued, enqueued, queue_of}
use Rattle.seq_timer.proofs.Queues.{dequeued-armed, dequeued-in_none, with_queue, with_queue-put}

-- ---- a half changed

pub in_half-same : (x : Context) (b : BaseState) → in_half x (λ h. h) b ≡ b
in_half-same contexts.Hard b = refl
in_half-same contexts.Soft b = refl

pub in_half-twice : (x : Context) (f g : Half → Half) (b : BaseState) → in_half x g (in_half x f b) ≡ in_half x (λ h. g (f h)) b
in_half-twice contexts.Hard f g b = refl
in_half-twice contexts.Soft f g b = refl

absent_with : (id : ℕ) (x y : Context) (h : Half) (c : Content) → IsInNone id h → IsInNone id (half_of (other_context x) c)
    → IsInNone id (half_of y (with_half x h c))
absent_with id contexts.Hard contexts.Hard h c here other = here
absent_with id contexts.Hard contexts.Soft h c here other = other
absent_with id contexts.Soft contexts.Hard h c here other = other
absent_with id contexts.Soft contexts.Soft h c here other = here

-- a timer that is taken off the queues of its context is in none of the base's
pub dequeued-absent : (id : ℕ) (x : Context) (b : BaseState) → IsInNone id (half_of (other_context x) b.content)
    → IsAbsent id (in_half x (dequeued id) b).content
dequeued-absent id x b other = record {
  each = λ y. absent_with id x y (dequeued id (half_of x b.content)) b.content (dequeued-in_none id (half_of x b.content)) other;
}

-- ---- the queues by their numbers

pub queue_at_index : (x : Context) (clock : ClockId) (queues : List (List (ℕ × ℕ))) (hard soft : Option (ℕ × ℕ))
    → slice_index_or queues (queue_index x clock) [] ≡ queue_of (half_of x (content_from queues hard soft)) clock
queue_at_index contexts.Hard clocks.Monotonic queues hard soft = refl
queue_at_index contexts.Hard clocks.Realtime queues hard soft = refl
queue_at_index contexts.Hard clocks.Boottime queues hard soft = refl
queue_at_index contexts.Soft clocks.Monotonic queues hard soft = refl
queue_at_index contexts.Soft clocks.Realtime queues hard soft = refl
queue_at_index contexts.Soft clocks.Boottime queues hard soft = refl

six : (qs : List (List (ℕ × ℕ))) → length qs ≡ 6 → slice_index_or qs 0 [] ∷ slice_index_or qs 1 [] ∷ slice_index_or qs 2 [] ∷ slice_index_or qs 3 []
    ∷ slice_index_or qs 4 [] ∷ slice_index_or qs 5 [] ∷ [] ≡ qs
six [] is = let never : ⊥ = omega (arith, is) in absurd never
six (a ∷ []) is = let never : ⊥ = omega (arith, is) in absurd never
six (a ∷ b ∷ []) is = let never : ⊥ = omega (arith, is) in absurd never
six (a ∷ b ∷ c ∷ []) is = let never : ⊥ = omega (arith, is) in absurd never
six (a ∷ b ∷ c ∷ d ∷ []) is = let never : ⊥ = omega (arith, is) in absurd never
six (a ∷ b ∷ c ∷ d ∷ e ∷ []) is = let never : ⊥ = omega (arith, is) in absurd never
six (a ∷ b ∷ c ∷ d ∷ e ∷ f ∷ []) is = refl
six (a ∷ b ∷ c ∷ d ∷ e ∷ f ∷ g ∷ qs) is = let never : ⊥ = omega (arith, is) in absurd never

set_six : (x : Context) (clock : ClockId) (a b c d e f q : List (ℕ × ℕ)) (hard soft : Option (ℕ × ℕ)) → let qs = a ∷ b ∷ c ∷ d ∷ e ∷ f ∷ [] in
    content_from (slice_set qs (queue_index x clock) q) hard soft
    ≡ with_half x (with_queue clock q (half_of x (content_from qs hard soft))) (content_from qs hard soft)
set_six contexts.Hard clocks.Monotonic a b c d e f q hard soft = refl
set_six contexts.Hard clocks.Realtime a b c d e f q hard soft = refl
set_six contexts.Hard clocks.Boottime a b c d e f q hard soft = refl
set_six contexts.Soft clocks.Monotonic a b c d e f q hard soft = refl
set_six contexts.Soft clocks.Realtime a b c d e f q hard soft = refl
set_six contexts.Soft clocks.Boottime a b c d e f q hard soft = refl

-- the content where one of the six queues is another
pub content_from-set : (x : Context) (clock : ClockId) (qs : List (List (ℕ × ℕ))) (q : List (ℕ × ℕ)) (hard soft : Option (ℕ × ℕ)) → length qs ≡ 6
    → content_from (slice_set qs (queue_index x clock) q) hard soft
    ≡ with_half x (with_queue clock q (half_of x (content_from qs hard soft))) (content_from qs hard soft)
content_from-set x clock qs q hard soft is =
    subst (λ ys. content_from (slice_set ys (queue_index x clock) q) hard soft
    ≡ with_half x (with_queue clock q (half_of x (content_from ys hard soft))) (content_from ys hard soft)) (six qs is)
    (set_six x clock _ _ _ _ _ _ q hard soft)

-- a timer that is in none of a base's queues is in none of the six
pub absent_six : (id : ℕ) (qs : List (List (ℕ × ℕ))) (hard soft : Option (ℕ × ℕ)) → length qs ≡ 6 → IsAbsent id (content_from qs hard soft)
    → has_any id qs ≡ false
absent_six id qs hard soft is absent = has_any-six id qs is each
  where
    each : (n : ℕ) → n < 6 → has_id id (slice_index_or qs n []) ≡ false
    each zero inside = (absent.each contexts.Hard).monotonic
    each (suc zero) inside = (absent.each contexts.Hard).realtime
    each (suc (suc zero)) inside = (absent.each contexts.Hard).boottime
    each (suc (suc (suc zero))) inside = (absent.each contexts.Soft).monotonic
    each (suc (suc (suc (suc zero)))) inside = (absent.each contexts.Soft).realtime
    each (suc (suc (suc (suc (suc zero))))) inside = (absent.each contexts.Soft).boottime
    each (suc (suc (suc (suc (suc (suc n)))))) inside = let never : ⊥ = omega (arith, inside) in absurd never

-- a timer that is armed is taken off its queue
pub dequeued_six : (id : ℕ) (x : Context) (armed : Option ℕ) (clock : ClockId) (n : ℕ) (qs new : List (List (ℕ × ℕ))) (hard soft : Option (ℕ × ℕ))
    → length qs ≡ 6 → n ≡ queue_index x clock → new ≡ without_among n id qs → IsQueuedIn id armed clock (half_of x (content_from qs hard soft))
    → content_from new hard soft ≡ with_half x (dequeued id (half_of x (content_from qs hard soft))) (content_from qs hard soft)
dequeued_six id x armed clock n qs new hard soft is number gone queued =
    let c = content_from qs hard soft in
    ap (λ ys. content_from ys hard soft) (gone ∙ ap (λ k. without_among k id qs) number)
    ∙ content_from-set x clock qs (without id (slice_index_or qs (queue_index x clock) [])) hard soft is
    ∙ ap (λ q. with_half x (with_queue clock (without id q) (half_of x c)) c) (queue_at_index x clock qs hard soft)
    ∙ ap (λ h. with_half x h c) (dequeued-armed id armed clock (half_of x c) queued)

-- a timer is put on a queue
pub enqueued_six : (expires id : ℕ) (x : Context) (clock : ClockId) (n : ℕ) (qs new : List (List (ℕ × ℕ))) (hard soft : Option (ℕ × ℕ))
    → length qs ≡ 6 → n ≡ queue_index x clock → new ≡ put_among n expires id qs
    → content_from new hard soft ≡ with_half x (enqueued clock expires id (half_of x (content_from qs hard soft))) (content_from qs hard soft)
enqueued_six expires id x clock n qs new hard soft is number added =
    let c = content_from qs hard soft in
    ap (λ ys. content_from ys hard soft) (added ∙ ap (λ k. put_among k expires id qs) number)
    ∙ content_from-set x clock qs (put expires id (slice_index_or qs (queue_index x clock) [])) hard soft is
    ∙ ap (λ q. with_half x (with_queue clock (put expires id q) (half_of x c)) c) (queue_at_index x clock qs hard soft)
    ∙ ap (λ h. with_half x h c) (with_queue-put clock expires id (half_of x c))
