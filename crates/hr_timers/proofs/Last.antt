-- What the last pass sees: all entries are its own, so looks show it nothing new.
use Rattle.std.proofs.Common.{◌≡◌, ℕ, ◌≤◌, ◌<◌, List, length, ap, sym, ◌∙◌, subst, arith}
use Rattle.std.proofs.lemmas.Bool.{true≢false}
use Rattle.std.proofs.lemmas.Bool.Decides.{nat_tests}
use Rattle.pass_names.specs.Counts.{one_if, count}
use Rattle.pass_names.specs.Names.{IsLast}
use Rattle.pass_names.specs.Passes.{is_place, within}
use Rattle.pass_names.proofs.Passes.{begins_length, begins_trans, begins_whole}
use Rattle.seq_timer.specs.declared.system.SystemEntry.{SystemEntry}
use Rattle.seq_timer.specs.Histories as seq
use Rattle.seq_timer.specs.Systems.{entries_of, first_system}
use Rattle.seq_timer.specs.Steps.{Timer}
use Rattle.seq_timer.specs.Tables.{timer_at}
use Rattle.seq_timer.proofs.Systems.{after_entries-entries_of}
use Rattle.base_row.specs.declared.view.Opening.{Opening}
use Rattle.base_row.proofs.Begun.{entries_of-begins}
use Rattle.hr_timers.specs.declared.answer.NowAnswer.TheVariants as nows
use Rattle.hr_timers.specs.Known.{KnownOfTimers, KnowsTimers, PassOf, timer_then}
use Rattle.hr_timers.specs.Calls.{LooksAt, NowFits}

no_more : (m n : ℕ) → one_if (within n m) ≡ one_if (within n n) → n ≤ m
no_more m n e = grind (arith, nat_tests)

module _ (o : Opening) (v w : KnownOfTimers) (before : KnowsTimers o v) (after : KnowsTimers o w) (last : IsLast v.id) (t : ℕ) (inside : t < length o.timers)
    (x : List SystemEntry) (at : LooksAt v w x) where
  same_entries : entries_of t v.seen ≡ entries_of t x
  same_entries = begins_whole (entries_of-begins t v.seen x at.from) (omega (
    arith,
    begins_length (entries_of-begins t x w.seen at.seen),
    no_more (length (entries_of t v.seen)) (length (entries_of t w.seen))
        (sym ((before.whole last).once t (length (entries_of t w.seen)) inside)
        ∙ (ap (count (is_place t (length (entries_of t w.seen)))) (sym at.looks.mine)
        ∙ (after.whole (subst IsLast (sym at.looks.id) last)).once t (length (entries_of t w.seen)) inside)),
  ))

  -- a timer is at each moment of such a call as it was before
  pub same_timer : timer_then o x t ≡ timer_then o v.seen t
  same_timer = after_entries-entries_of (first_system o.timers) t x
      ∙ (ap (seq.after_all (timer_at o.timers t)) (sym same_entries) ∙ sym (after_entries-entries_of (first_system o.timers) t v.seen))

-- so a cancel that waits for nobody is never answered that the timer was on the move or has moved
pub not_moving : (o : Opening) (p q : PassOf) (t b : ℕ) → KnowsTimers o p.known → KnowsTimers o q.known → IsLast p.known.id → t < length o.timers
    → NowFits o p q t (nows.Moving b) → ⊥
not_moving o p q t b before after last inside was = true≢false (sym was.moving
    ∙ (ap (λ (s : Timer). s.moving) (same_timer o p.known q.known before after last t inside was.at was.looks) ∙ before.still last t inside))

pub not_moved : (o : Opening) (p q : PassOf) (t a b : ℕ) → KnowsTimers o p.known → KnowsTimers o q.known → IsLast p.known.id → t < length o.timers
    → NowFits o p q t (nows.Moved a b) → ⊥
not_moved o p q t a b before after last inside was = was.apart (sym was.base
    ∙ (ap (λ (s : Timer). s.base) (same_timer o p.known q.known before after last t inside was.at was.looks
    ∙ sym (same_timer o p.known q.known before after last t inside was.later
    (record { looks = was.looks.looks; from = begins_trans was.looks.from was.goes_on; seen = was.seen }))) ∙ was.base_later))
