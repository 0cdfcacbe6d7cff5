-- What a look tells of an object is a function of the object that it finds.
use Rattle.std.proofs.Common.{◌≡◌, ℕ, ap, sym, ◌∙◌, length, Bool}
use Rattle.ktime.specs.Readings.{ClockReading}
use Rattle.sleeper.specs.declared.answers.SleptAnswer.{SleptAnswer}
use Rattle.posix_timer.specs.States.{PosixTimer}
use Rattle.sleeper.specs.States.{Sleeper}
use Rattle.sleeper.specs.Steps.{slept_answer}
use Rattle.timer_fd.specs.States.{Descriptor, is_readable}
use Rattle.timer_objects.specs.declared.answers.Overrun.{Overrun}
use Rattle.timer_objects.specs.declared.answers.Readable.{Readable}
use Rattle.timer_objects.specs.declared.answers.Slept.{Slept}
use Rattle.timer_objects.specs.declared.object.Object.{Object}
use Rattle.timer_objects.specs.declared.object.Object.TheVariants as objects
use Rattle.timer_objects.specs.Calls.{Caller, LooksOverrun, LooksReadable, LooksSlept, posix_in}
use Rattle.timer_objects.specs.Known.{ObjectsPass, seen_of}
use Rattle.timer_objects.specs.Meaning.{object_meaning}
use Rattle.timer_objects.specs.Rearming.{FindsObject}
use Rattle.answer_laws.specs.Objects.{SameWork}
use Rattle.answer_laws.specs.Rows.{SameOfRow}
use Rattle.answer_laws.proofs.BaseCalls.{some_is}
use Rattle.answer_laws.proofs.ObjectCalls.{look_once}
use Rattle.answer_laws.proofs.RowCalls.{reads_once}

pub finds_once : (p q q' : ObjectsPass) (id : ℕ) (a a' : Object) (n n' : ℕ) → FindsObject p q id a n → FindsObject p q' id a' n'
    → seen_of q id ≡ seen_of q' id
    → (a ≡ a') × (n ≡ n') × SameOfRow q q'
finds_once p q q' id a a' n n' c d e =
    let same = reads_once object_meaning p q q' id c.reads d.reads e in (c.state ∙ (same.0 ∙ sym d.state), c.stamp ∙ (ap length e ∙ sym d.stamp), same.1)

module _ (old new new' : Caller) (id : ℕ) where
  same_fd : (t u : Descriptor) → objects.Fd t ≡ objects.Fd u → t ≡ u
  same_fd t u e = cc

  same_sleeper : (t u : Sleeper) → objects.Sleeper t ≡ objects.Sleeper u → t ≡ u
  same_sleeper t u e = cc

  abbrev readable : Bool → ℕ → Readable
  readable r n = record { ready = r; stamp = n }

  readable_same : (r s : Bool) (n m : ℕ) → r ≡ s → n ≡ m → readable r n ≡ readable s m
  readable_same r s n m e f = cc

  abbrev overrun : ℕ → ℕ → Overrun
  overrun r n = record { overrun = r; stamp = n }

  overrun_same : (r s n m : ℕ) → r ≡ s → n ≡ m → overrun r n ≡ overrun s m
  overrun_same r s n m e f = cc

  abbrev slept : SleptAnswer → ℕ → Slept
  slept r n = record { answer = r; stamp = n }

  slept_same : (r s : SleptAnswer) (n m : ℕ) → r ≡ s → n ≡ m → slept r n ≡ slept s m
  slept_same r s n m e f = cc

  pub readable_once : (reading : ClockReading) (a a' : Readable) → LooksReadable old new id reading a → LooksReadable old new' id reading a'
      → seen_of new.objects id ≡ seen_of new'.objects id → (a ≡ a') × SameWork new new' id
  readable_once reading a a' c d e =
      let same = look_once old new new' id _ _ _ _ c.1 d.1 e in
      (readable_same a.ready a'.ready a.stamp a'.stamp (c.2 ∙ (ap (λ t. is_readable t reading) (same_fd _ _ same.0) ∙ sym d.2)) same.1, same.2)

  pub overrun_once : (a a' : Overrun) → LooksOverrun old new id a → LooksOverrun old new' id a' → seen_of new.objects id ≡ seen_of new'.objects id
      → (a ≡ a') × SameWork new new' id
  overrun_once a a' c d e =
      let same = look_once old new new' id _ _ _ _ c.2 d.2 e in
      let timer = some_is _ _ (sym c.3 ∙ (ap posix_in same.0 ∙ d.3)) in
      (overrun_same a.overrun a'.overrun a.stamp a'.stamp (c.4 ∙ (ap (λ (t : PosixTimer). t.overrun) timer ∙ sym d.4)) same.1, same.2)

  pub slept_once : (a a' : Slept) → LooksSlept old new id a → LooksSlept old new' id a' → seen_of new.objects id ≡ seen_of new'.objects id
      → (a ≡ a') × SameWork new new' id
  slept_once a a' c d e =
      let same = look_once old new new' id _ _ _ _ c.1 d.1 e in
      (slept_same a.answer a'.answer a.stamp a'.stamp (c.2 ∙ (ap (λ (s : Sleeper). slept_answer s.sleep) (same_sleeper _ _ same.0) ∙ sym d.2)) same.1, same.2)
