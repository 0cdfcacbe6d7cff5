-- Entries that were made at one moment are the same, and so is what is then the pass's own; and receipts of them.
use Rattle.std.proofs.Common.{◌≡◌, ℕ, List, ap, sym, ◌∙◌, refl}
use Rattle.std.specs.Prelude.{◌++◌}
use Rattle.seq_timer.specs.Systems.{entries_of}
use Rattle.pass_names.specs.SharedHistory.{LooksOn}
use Rattle.seq_timer.specs.Histories as seq
use Rattle.seq_timer.specs.declared.system.SystemEntry.{SystemEntry}
use Rattle.base_row.specs.Logs.{all_pushed, receipts_of}
use Rattle.base_row.specs.declared.log.Receipt.{Receipt}
use Rattle.base_row.specs.declared.view.Opening.{Opening}
use Rattle.hr_timers.specs.Known.{KnownOfTimers, MadeAt, timer_then}
use Rattle.hr_timers.specs.Logged.{IsLogged}
use Rattle.answer_laws.specs.Outcomes.{SameOutcome, SameOwn}

pub own_same : (v : KnownOfTimers) → SameOwn v v
own_same v = record { mine = refl; id = refl; claims = refl }

pub looked_once : (v v' w w' : KnownOfTimers) → SameOwn v v' → LooksOn v w → LooksOn v' w' → SameOwn w w'
looked_once v v' w w' e a b = record {
  mine = a.mine ∙ (e.mine ∙ sym b.mine);
  id = a.id ∙ (e.id ∙ sym b.id);
  claims = a.claims ∙ (e.claims ∙ sym b.claims);
}

pub made_once : (v v' w w' : KnownOfTimers) (t u : ℕ) (x y : List SystemEntry) (es fs : List seq.Entry) → SameOwn v v' → MadeAt v w t x es
    → MadeAt v' w' u y fs
    → t ≡ u → x ≡ y → es ≡ fs → w.claims ≡ w'.claims → SameOutcome w w' t
made_once v v' w w' t u x y es fs e a b timer at same claims =
    let own = a.own in
    let own' = b.own in
    let mine = a.mine in
    let mine' = b.mine in
    let before = e.mine in record {
      own = record { mine = cc; id = a.id ∙ (e.id ∙ sym b.id); claims = claims };
      entries = own ∙ (ap (λ l. entries_of t l ++ es) at ∙ (ap (λ l. entries_of t y ++ l) same ∙ (ap (λ i. entries_of i y ++ fs) timer
          ∙ (sym own' ∙ ap (λ i. entries_of i w'.seen) (sym timer)))));
    }

module _ {A : Type 0} (put : A → Receipt → A) (o : Opening) where
  pub logged_once : (t u : ℕ) (x y : List SystemEntry) (es fs : List seq.Entry) (s r r' : A) → IsLogged put o t x es s r → IsLogged put o u y fs s r'
      → t ≡ u → x ≡ y → es ≡ fs → r ≡ r'
  logged_once t u x y es fs s r r' a b timer at same =
      a ∙ (ap (λ z. all_pushed put s (receipts_of t (timer_then o z t).stamp es)) at
      ∙ (ap (λ l. all_pushed put s (receipts_of t (timer_then o y t).stamp l)) same
      ∙ (ap (λ i. all_pushed put s (receipts_of i (timer_then o y i).stamp fs)) timer ∙ sym b)))
