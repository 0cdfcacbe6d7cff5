-- Calls whose receipts went to a log that was empty before.
use Rattle.std.proofs.Common.{◌≡◌, ℕ, List, [], ◌++◌, sym, ap, ◌∙◌, subst}
use Rattle.std.proofs.lemmas.List.{append-nil}
use Rattle.seq_timer.specs.Events.{Asked}
use Rattle.seq_timer.specs.declared.answer.CancelAnswer.{CancelAnswer}
use Rattle.base_row.specs.Logs.{LogOf, all_pushed, kept, receipts_of}
use Rattle.base_row.specs.declared.log.Receipt.{Receipt}
use Rattle.base_row.specs.declared.view.Opening.{Opening}
use Rattle.base_row.proofs.Logging.{all_kept}
use Rattle.hr_timers.specs.Calls.{Cancels, StartsTimer, cancel_entries, start_entries}
use Rattle.hr_timers.specs.Known.{KnownOfTimers, timer_then}
use Rattle.hr_timers.specs.Logged.{CancelsLogged, StartsLogged}
use Rattle.hr_timers.specs.declared.answer.StartAnswer.{StartAnswer}
use Rattle.record_text.specs.declared.record.Label.{Label}
use Rattle.lane_notes.specs.Entries.{with_receipts}
use Rattle.lane_notes.specs.Notes.{NotesOf}
use Rattle.lane_notes.specs.Called.{with_done}

-- an empty log then has these receipts
has_all : (log log' : LogOf Receipt) (rs : List Receipt) → log.receipts ≡ [] → log' ≡ all_pushed kept log rs → log'.receipts ≡ rs
has_all log log' rs empty is = ap (λ (l : LogOf Receipt). l.receipts) is ∙ all_kept log rs ∙ ap (λ xs. xs ++ rs) empty

module _ {o at : Opening} (is : at ≡ o) (v w : KnownOfTimers) (t : ℕ) (log log' : LogOf Receipt) (empty : log.receipts ≡ []) where
  -- law: those of a start, which was asked for so
  pub start_logged : {asked was : Asked} (a : StartAnswer) → asked ≡ was → StartsLogged kept at v w t asked a log log'
      → (c : StartsTimer o v w t was a)
      × (log'.receipts ≡ receipts_of t (timer_then o c.at t).stamp (start_entries (timer_then o c.at t) was c.sent c.last a))
  start_logged {was = was} a same logged =
      let its = subst (λ x. StartsLogged kept x v w t was a log log') is (subst (λ x. StartsLogged kept at v w t x a log log') same logged) in
      (its.starts, has_all log log' _ empty its.logged)

  -- law: that of a cancel
  pub cancel_logged : (a : CancelAnswer) → CancelsLogged kept at v w t a log log'
      → (c : Cancels o v w t a) × (log'.receipts ≡ receipts_of t (timer_then o c.at t).stamp (cancel_entries a))
  cancel_logged a logged =
      let its = subst (λ x. CancelsLogged kept x v w t a log log') is logged in (its.cancels, has_all log log' _ empty its.logged)

-- law: a call that made no entry of an object adds the notes of its receipts of timers
pub only_timers : (notes : NotesOf) (label : Label) (m : NotesOf) {log rs : List Receipt} → m ≡ with_receipts notes label log → log ≡ rs
    → m ≡ with_done notes label rs []
only_timers notes label m {log = log} {rs = rs} is same =
    is ∙ (ap (with_receipts notes label) same
    ∙ (λ i. record (with_receipts notes label rs) { objects = sym (append-nil notes.objects) i; skips = sym (append-nil notes.skips) i }))
