-- A read that waits: what a turn that ended it found and answers, and turns that only looked before it.
use Rattle.std.proofs.Common.{◌≡◌, ◌≤◌, ◌<◌, ◌+◌, length, ℕ, Bool, true, false, not, ◌||◌, nat_eq, if◌then◌else◌, refl, sym, ap, subst, ◌∙◌, arith}
use Rattle.std.proofs.lemmas.Bool.{eqb-true}
use Rattle.std.proofs.lemmas.Bool.Decides.{nat_tests}
use Rattle.ktime.specs.Readings.{ClockReading}
use Rattle.base_row.specs.declared.view.Opening.{Opening}
use Rattle.hr_timers.specs.Known.{KnownOfTimers}
use Rattle.ordered_clock.specs.Moments.{ReadsAt}
use Rattle.pass_names.specs.SharedHistory.{LooksOn}
use Rattle.pass_names.proofs.Passes.{begins_trans}
use Rattle.pass_names.proofs.SharedHistory.{looks_trans}
use Rattle.timer_setting.specs.declared.answers.ReadAnswer.{ReadAnswer}
use Rattle.timer_setting.specs.declared.answers.ReadAnswer.TheVariants as reads
use Rattle.timer_setting.specs.declared.object_call.ObjectCall.TheVariants as calls
use Rattle.timer_setting.specs.declared.object_call.ObjectReply.TheVariants as replies
use Rattle.timer_fd.specs.States.{Descriptor, is_canceled}
use Rattle.timer_fd.specs.Steps.{count_length, fd_read_answer, total_in}
use Rattle.timer_objects.specs.declared.answers.BlockingRead.{BlockingRead}
use Rattle.timer_objects.specs.declared.object.Object.{Object}
use Rattle.timer_objects.specs.declared.object.Object.TheVariants as objects
use Rattle.timer_objects.specs.declared.wanting.Ended.{Ended}
use Rattle.timer_objects.specs.declared.wanting.Ended.TheVariants as ends
use Rattle.timer_objects.specs.declared.wanting.Rearming.TheVariants as rearmings
use Rattle.timer_objects.specs.Calls.{Caller, HasWaited, RearmingMade}
use Rattle.timer_objects.specs.Known.{ObjectsOf}
use Rattle.timer_objects.specs.Rearming.{Ends, EndsAt, IsEntryNumber, KeepsNames}
use Rattle.timer_objects.specs.Steps.{object_answer}
use Rattle.timer_objects.specs.BlockingReads.{AnswersBy, EndsRead, HasSome, ReadsBlocking, ReadsSome, ReadsBehindLock}
use Rattle.timer_objects.specs.Turns.{turns_told}
use Rattle.timer_objects.proofs.Asking.{ends_names, rearming_after}
use Rattle.timer_objects.proofs.Entering.{one_behind}
use Rattle.timer_objects.proofs.Retrying.{full_after}

-- ---- what a read of a descriptor answers that has something to read

-- a read's answer, by whether the setting was canceled, whether no expiry was counted, and whether the total is 0
abbrev answer : Bool → Bool → Bool → ℕ → ReadAnswer
answer canceled none nil total = if canceled then reads.Canceled else (if none then reads.Again else (if nil then reads.Again else reads.Count total))

counts : (canceled none nil : Bool) (n total : ℕ) → nat_eq n 0 ≡ nil → reads.Count total ≡ answer canceled none nil n → (0 < total) × (total ≡ n)
counts true none nil n total zero is = absurd (cc)
counts false true nil n total zero is = absurd (cc)
counts false false true n total zero is = absurd (cc)
counts false false false n total zero is =
    let same : total ≡ n = cc in
    let some : 0 < n = grind (arith, nat_tests, zero) in
    (omega (arith, same, some), same)

none_left : (canceled none nil : Bool) (n : ℕ) → nat_eq n 0 ≡ nil → not none || canceled ≡ true → reads.Again ≡ answer canceled none nil n → n ≡ 0
none_left true none nil n zero some is = absurd (cc)
none_left false true nil n zero some is = absurd (cc)
none_left false false true n zero some is = eqb-true n 0 zero
none_left false false false n zero some is = absurd (cc)

cancels : (canceled none nil : Bool) (n : ℕ) → reads.Canceled ≡ answer canceled none nil n → canceled ≡ true
cancels true none nil n is = refl
cancels false true nil n is = absurd (cc)
cancels false false true n is = absurd (cc)
cancels false false false n is = absurd (cc)

module _ (x : ObjectsOf) (o : Opening) (old new : Caller) (id : ℕ) (reading : ClockReading) where
  -- the reply is that of a read of the descriptor that was found
  told : (a : ReadAnswer) (m : RearmingMade x o old new id rearmings.Reading reading (replies.Read a)) (t : Descriptor)
      → m.enters.commits.state ≡ objects.Fd t → a ≡ fd_read_answer t reading
  told a m t found =
      let is : replies.Read a ≡ replies.Read (fd_read_answer t reading) =
      m.enters.reply ∙ ap (λ (k : Object). object_answer k (calls.Read reading m.arm)) found in
      cc

  abbrev some_of : (a : ReadAnswer) (m : RearmingMade x o old new id rearmings.Reading reading (replies.Read a))
      → (s : HasSome reading m.enters.commits.state)
      → ReadsBehindLock id (length m.enters.commits.adds.before) reading.stamp old.timers m.begun → ReadsSome x o old new id reading a
  some_of a m s taken = record { made = m; descriptor = s.0; found = s.1; some = s.2; taken = taken }

  -- law: a turn that ended the read gives the answer of a read that waits
  pub reads_blocking : (len : ℕ) → count_length ≤ len → (e : Ended) (a : BlockingRead) → EndsRead x o old new id reading e → AnswersBy e a
      → ReadsBlocking x o old new id len reading a
  reads_blocking len long (ends.Full n) a full is = subst (ReadsBlocking x o old new id len reading) (sym is) (long, full)
  reads_blocking len long (ends.Made n (replies.Read (reads.Count total))) a ended is =
      let m = ended.0.0 in
      let t = ended.1.0 in
      let so = counts (is_canceled t reading) (nat_eq t.count 0) (nat_eq (total_in t reading) 0) (total_in t reading) total refl (told (reads.Count total) m t ended.1.1) in
      subst (ReadsBlocking x o old new id len reading) (sym is) (long, so.0, some_of (reads.Count total) m ended.1 ended.2, so.1)
  reads_blocking len long (ends.Made n (replies.Read reads.Again)) a ended is =
      let m = ended.0.0 in
      let t = ended.1.0 in
      subst (ReadsBlocking x o old new id len reading) (sym is) (
        long,
        some_of reads.Again m ended.1 ended.2,
        none_left (is_canceled t reading) (nat_eq t.count 0) (nat_eq (total_in t reading) 0) (total_in t reading) refl ended.1.2 (told reads.Again m t ended.1.1),
      )
  reads_blocking len long (ends.Made n (replies.Read reads.Canceled)) a ended is =
      let m = ended.0.0 in
      let t = ended.1.0 in
      subst (ReadsBlocking x o old new id len reading) (sym is) (
        long,
        some_of reads.Canceled m ended.1 ended.2,
        cancels (is_canceled t reading) (nat_eq t.count 0) (nat_eq (total_in t reading) 0) (total_in t reading) (told reads.Canceled m t ended.1.1),
      )
  reads_blocking len long (ends.Made n reply) a ended is = absurd is

  -- law: it ended as a call
  pub ends_as_call : (e : Ended) → EndsRead x o old new id reading e → Ends x o old new id rearmings.Reading reading e
  ends_as_call (ends.Full n) full = full
  ends_as_call (ends.Made n reply) ended = (ended.0, ended.3)

  -- law: and left the passes their names
  pub read_names : (e : Ended) → EndsRead x o old new id reading e → KeepsNames old new
  read_names e ended = ends_names x o old new id rearmings.Reading reading e (ends_as_call e ended)

-- law: turns that only looked come before it
pub read_after : (x : ObjectsOf) (o : Opening) (a b c : Caller) (id : ℕ) (reading : ClockReading) (e : Ended) → HasWaited a b
    → EndsRead x o b c id reading e → EndsRead x o a c id reading e
read_after x o a b c id reading (ends.Full n) waits full = full_after waits full
read_after x o a b c id reading (ends.Made n reply) waits ended =
    let taken = ended.2 in (
      (rearming_after x o a b c id rearmings.Reading reading reply waits ended.0.0, ended.0.1),
      ended.1,
      record {
        locked = taken.locked;
        looks = looks_trans a.timers b.timers taken.locked waits.timers taken.looks;
        told = taken.told;
        reads = taken.reads;
      },
      ended.3,
    )

-- law: A call that found a descriptor with something to read, at a reading that was taken once its lock was had, ended the read.
module _ (x : ObjectsOf) (o : Opening) (a b c : Caller) (id : ℕ) (reading : ClockReading) (object : Object) (stamp : ℕ) (waits : HasWaited a b)
    (locked : KnownOfTimers) (looks : LooksOn a.timers locked) (told : turns_told id locked ≡ stamp + stamp)
    (read : ReadsAt locked.seen b.timers.seen reading.stamp) where
  pub ends_read : (e : Ended) → HasSome reading object → EndsAt x o b c id rearmings.Reading reading e object → IsEntryNumber (stamp + 1) e
      → EndsRead x o a c id reading e
  ends_read (ends.Full n) some full number = full_after waits full
  ends_read (ends.Made n reply) some made number =
      let m = made.0.0 in
      let before : stamp ≡ length m.enters.commits.adds.before = omega (arith, number, made.2, one_behind _ _ _ _ m.enters.commits.adds) in (
        (rearming_after x o a b c id rearmings.Reading reading reply waits m, made.0.1),
        subst (λ (k : Object). HasSome reading k) (sym made.1) some,
        record {
          locked = locked;
          looks = looks;
          told = subst (λ n. turns_told id locked ≡ n + n) before told;
          reads = record { at = read.at; from = read.from; seen = begins_trans read.seen m.turn.begins.looks.seen; count = read.count };
        },
        made.2,
      )
