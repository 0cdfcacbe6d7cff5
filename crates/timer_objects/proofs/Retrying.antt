-- A call on an object after turns that only looked, and the names of its passes.
use Rattle.std.proofs.Common.{ap, refl, sym, subst, ◌≡◌, ◌∙◌, ◌+◌, ℕ, List, [], ◌∷◌, ◌++◌, length, ◌<◌}
use Rattle.std.specs.Prelude.{Option, Some, None}
use Rattle.ktime.specs.Readings.{ClockReading}
use Rattle.pass_names.specs.Passes.{Begins}
use Rattle.pass_names.specs.SharedHistory.{LooksOn}
use Rattle.pass_names.proofs.Passes.{begins_trans, goes_refl}
use Rattle.pass_names.proofs.SharedHistory.{looks_trans}
use Rattle.seq_timer.specs.declared.system.SystemEntry.{SystemEntry}
use Rattle.base_row.specs.declared.view.Opening.{Opening}
use Rattle.base_row.specs.Plays.{RisesFrom}
use Rattle.hr_timers.specs.Known.{KnownOfTimers}
use Rattle.base_row.specs.declared.log.Receipt.{Receipt}
use Rattle.counted_row.specs.declared.view.Locked.{Locked}
use Rattle.counted_row.specs.Views.{IsPassOfRow, Locks, released}
use Rattle.counted_row.proofs.Calls.{commits_after, reads_after, reads_of}
use Rattle.timer_setting.specs.declared.arming.Arm.{Arm}
use Rattle.timer_setting.specs.declared.arming.Wanted.{Wanted}
use Rattle.timer_objects.specs.declared.log.ObjectReceipt.{ObjectReceipt}
use Rattle.timer_setting.specs.declared.object_call.ObjectReply.{ObjectReply}
use Rattle.timer_objects.specs.Meaning.{object_meaning}
use Rattle.timer_objects.specs.Known.{IsObjectsPass, ObjectsOf, ObjectsPass, row_of, seen_of}
use Rattle.timer_objects.specs.declared.object.Object.{Object}
use Rattle.timer_setting.specs.declared.object_call.ObjectCall.{ObjectCall}
use Rattle.timer_objects.specs.Arming.{ArmsFor, DisarmsInTurn}
use Rattle.timer_objects.specs.Calls.{Caller, EntersCall, FindsHistoryFull, HasWaited, LooksAtObject}
use Rattle.timer_objects.specs.Turns.{BeginsTurn, HasTurn, turns_told}
use Rattle.timer_objects.specs.Waiting.{HasToWait, IsHindered}

-- a rise behind what was seen later
abbrev pub rises_since : {k from : ℕ} {u v w : List SystemEntry} → Begins u v → RisesFrom k from v w → RisesFrom k from u w
rises_since first r = record { before = r.before; seen = begins_trans first r.seen; count = r.count; last = r.last }

-- the beginning of a turn of an object behind looks
abbrev pub begins_after : {id n : ℕ} {u v w : KnownOfTimers} → LooksOn u v → BeginsTurn id n v w → BeginsTurn id n u w
begins_after {id} {n} {u} {v} {w} looks b = record { looks = looks_trans u v w looks b.looks; rises = rises_since looks.seen b.rises }

-- a turn of an object in which timers were only looked at is one without work
pub turn_alone : {id n : ℕ} {v begun worked w : KnownOfTimers} → HasTurn id n v begun worked w → LooksOn begun worked → HasTurn id n v begun begun w
turn_alone {begun = begun} {worked = worked} {w = w} t looks = record {
  begins = t.begins;
  ends = record { looks = looks_trans begun worked w looks t.ends.looks; rises = rises_since looks.seen t.ends.rises };
}

-- a disarming behind looks
pub disarms_after : {o : Opening} {t n : ℕ} {u v w : KnownOfTimers} {log log' : List Receipt} → LooksOn u v → DisarmsInTurn o v w t n log log'
    → DisarmsInTurn o u w t n log log'
disarms_after looks d = record { begun = d.begun; begins = begins_after looks d.begins; disarms = d.disarms }

-- a turn of an object behind looks
abbrev pub turn_after : {id n : ℕ} {u v begun worked w : KnownOfTimers} → LooksOn u v → HasTurn id n v begun worked w → HasTurn id n u begun worked w
turn_after looks t = record { begins = begins_after looks t.begins; ends = t.ends }

module _ {a b c : Caller} where
  -- an entry of an object behind looks
  abbrev pub enters_after : {x : ObjectsOf} {id : ℕ} {call : ObjectCall} {answer : ObjectReply} → HasWaited a b → EntersCall x b c id call answer
      → EntersCall x a c id call answer
  enters_after {x} {id} {call} {answer} waits e = record {
    commits = commits_after waits.objects e.commits;
    declared = e.declared;
    may = e.may;
    reply = e.reply;
    room = e.room;
    object_log = e.object_log ∙ ap (λ l. l ++ record { object = id; number = length e.commits.adds.before + 1; call = call; reply = answer } ∷ []) waits.object_log;
  }

  -- a history that was found full behind looks
  pub full_after : {x : ObjectsOf} {id n : ℕ} → HasWaited a b → FindsHistoryFull x b c id n → FindsHistoryFull x a c id n
  full_after waits found = record {
    looks = looks_trans a.timers b.timers c.timers waits.timers found.looks;
    reads = reads_after waits.objects found.reads;
    full = found.full;
    stamp = found.stamp;
    told = found.told;
    log = found.log ∙ waits.log;
    object_log = found.object_log ∙ waits.object_log;
  }

  -- an object that was looked at behind looks
  pub looked_after : {id n : ℕ} {object : Object} → HasWaited a b → LooksAtObject b c id object n → LooksAtObject a c id object n
  looked_after waits l = record {
    reads = reads_after waits.objects l.reads;
    state = l.state;
    stamp = l.stamp;
    timers = looks_trans a.timers b.timers c.timers waits.timers l.timers;
    told = l.told;
    log = l.log ∙ waits.log;
    object_log = l.object_log ∙ waits.object_log;
  }

-- a caller that only looked at timers has waited
pub timers_waited : (old new : Caller) → LooksOn old.timers new.timers → new ≡ record old { timers = new.timers } → HasWaited old new
timers_waited old new looks same = subst (λ y. HasWaited old y) (sym same) (record {
  timers = looks;
  objects = record {
    row = refl;
    pass = record { id = refl; seen = goes_refl old.objects.knows.pass.seen; mine = refl };
    opening = refl;
    claims = refl;
    held = refl;
  };
  log = refl;
  object_log = refl;
})

-- a settime that was given up while the object was held
pub held_up : (x : ObjectsOf) (o : Opening) (p m q : ObjectsPass) (id : ℕ) (h : Locked Object) → Locks object_meaning p m id h → IsPassOfRow (row_of x) m
    → IsObjectsPass x q → p.knows.held ≡ None → q.knows ≡ released m.knows → h.stamp ≡ length (seen_of q h.index) → h.stamp < x.limit
    → (k : KnownOfTimers) → IsHindered o k id → HasToWait x o p q k id
held_up x o p m q id h locks here after idle is count room k hindered = record {
  reads = reads_of {r = row_of x} locks here after.row idle is after.knows;
  room = subst (λ n. n < x.limit) (count ∙ ap (λ i. length (seen_of q i)) locks.index) room;
  hindered = hindered;
}

-- a caller whose turn was given up has waited
pub waits_held : (x : ObjectsOf) (p m q : ObjectsPass) (id : ℕ) (h : Locked Object) → Locks object_meaning p m id h → IsPassOfRow (row_of x) m
    → IsObjectsPass x q → p.knows.held ≡ None → q.knows ≡ released m.knows → {v w : KnownOfTimers} {log log' : List Receipt}
    {object_log object_log' : List ObjectReceipt} → LooksOn v w → log' ≡ log → object_log' ≡ object_log
    → HasWaited (record { timers = v; objects = p; log = log; object_log = object_log }) (record { timers = w; objects = q; log = log'; object_log = object_log' })
waits_held x p m q id h locks here after idle is looks same same_objects =
    let reads = reads_of {r = row_of x} locks here after.row idle is after.knows in record {
      timers = looks;
      objects = record { row = reads.row; pass = reads.pass; opening = reads.opening; claims = reads.claims; held = reads.held };
      log = same;
      object_log = same_objects;
    }

-- an object that was held was only looked at
pub looked_held : (x : ObjectsOf) (p m q : ObjectsPass) (id : ℕ) (h : Locked Object) → Locks object_meaning p m id h → IsPassOfRow (row_of x) m
    → IsObjectsPass x q → p.knows.held ≡ None → q.knows ≡ released m.knows → h.stamp ≡ length (seen_of q h.index) → (v w : KnownOfTimers)
    (log : List Receipt) (object_log : List ObjectReceipt) → LooksOn v w → turns_told id w ≡ h.stamp + h.stamp
    → LooksAtObject (record { timers = v; objects = p; log = log; object_log = object_log })
    (record { timers = w; objects = q; log = log; object_log = object_log }) id h.state h.stamp
looked_held x p m q id h locks here after idle is count v w log object_log looks told = record {
  reads = reads_of {r = row_of x} locks here after.row idle is after.knows;
  state = refl;
  stamp = count ∙ ap (λ i. length (seen_of q i)) locks.index;
  timers = looks;
  told = told;
  log = refl;
  object_log = refl;
}

-- ---- names

-- a turn that left them in between leaves the pass's name and claims
pub turn_names : {id n : ℕ} {old begun worked new : KnownOfTimers} → HasTurn id n old begun worked new → worked.id ≡ begun.id
    → worked.claims ≡ begun.claims → (new.id ≡ old.id) × (new.claims ≡ old.claims)
turn_names t same claims = (t.ends.looks.id ∙ (same ∙ t.begins.looks.id), t.ends.looks.claims ∙ (claims ∙ t.begins.looks.claims))

pub arms_names : (o : Opening) (v w : KnownOfTimers) (t base : ℕ) (reading : ClockReading) (arm : Arm) (log log' : List Receipt) (wanted : Option Wanted)
    → ArmsFor o v w t wanted base reading arm log log' → (w.id ≡ v.id) × (w.claims ≡ v.claims)
arms_names o v w t base reading arm log log' None a = (ap (λ (k : KnownOfTimers). k.id) a.1, ap (λ (k : KnownOfTimers). k.claims) a.1)
arms_names o v w t base reading arm log log' (Some wanted) a = (a.starts.made.id, a.starts.claims)
