-- What the expiry of its timer does to an object.
use Rattle.std.specs.Prelude.{ℕ, ◌≡◌, ◌+◌, ◌<◌, ◌≤◌, ◌⊎◌, List, [], ◌∷◌, ◌++◌, length, Option, Some, None}
use Rattle.ktime.specs.Readings.{ClockReading}
use Rattle.pass_names.specs.SharedHistory.{LooksOn}
use Rattle.hr_timers.specs.declared.numbers.ClaimNumbers.{ClaimNumbers}
use Rattle.hr_timers.specs.Known.{KnownOfTimers}
use Rattle.timer_setting.specs.declared.trigger_answer.TriggerAnswer.TheVariants as triggers
use Rattle.counted_row.specs.Calls.{Commits, ReadsValue}
use Rattle.timer_setting.specs.declared.object_call.ObjectCall.TheVariants as calls
use Rattle.timer_setting.specs.declared.object_call.ObjectReply.TheVariants as replies
use Rattle.timer_objects.specs.declared.log.ObjectReceipt.{ObjectReceipt}
use Rattle.timer_objects.specs.declared.object.Kind.{Kind}
use Rattle.timer_objects.specs.declared.object.Kind.TheVariants as kinds
use Rattle.timer_setting.specs.declared.object_call.ObjectCall.{ObjectCall}
use Rattle.timer_setting.specs.declared.object_call.ObjectReply.{ObjectReply}
use Rattle.timer_objects.specs.Steps.{IsObjectOf, ObjectAllows, object_answer}
use Rattle.timer_objects.specs.Meaning.{object_meaning}
use Rattle.timer_objects.specs.Known.{ObjectsOf, ObjectsPass, seen_of, decl_at}
use Rattle.timer_objects.specs.Turns.{HasTurn, turns_told}

-- the trigger of an object of this kind by a claim of its timer, at this reading; a timer by itself has none
abbrev pub trigger_of : Kind → ClaimNumbers → ClockReading → Option ObjectCall
trigger_of kinds.Raw c reading = None
trigger_of kind c reading = Some (calls.Trigger c.generation reading)

-- what a trigger answers where the object's history is full, with so many entries
abbrev pub trigger_refused : ℕ → ObjectReply
trigger_refused n = replies.Trigger (triggers.Spent n)

-- the bell of this object was rung where its trigger counted, and no bell where it didn't
abbrev pub IsRungFor : ℕ → ObjectReply → Option ℕ → Type 0
IsRungFor id reply None = reply ≡ replies.Trigger triggers.Counted → ⊥
IsRungFor id reply (Some rung) = (rung ≡ id) × (reply ≡ replies.Trigger triggers.Counted)

-- the same by the receipt that the trigger noted
pub record TellsReader (id : ℕ) (rung : Option ℕ) (log log' : List ObjectReceipt) : Type 0 where
  pub receipt : ObjectReceipt
  pub noted : log' ≡ log ++ receipt ∷ []
  pub told : IsRungFor id receipt.reply rung

module _ (x : ObjectsOf) (p q : ObjectsPass) (log log' : List ObjectReceipt) (v w : KnownOfTimers) where
  -- The trigger stands last in the object's history, which had room for it, and a receipt of it was noted. It had a turn of the object, in which it only
  -- looked at timers.
  pub record EntersTrigger (id : ℕ) (call : ObjectCall) : Type 0 where
    pub commits : Commits object_meaning p q id call
    pub declared : IsObjectOf (decl_at x id) x.limit (length commits.adds.before) commits.state
    pub may : ObjectAllows commits.state call
    pub room : length commits.adds.before < x.limit
    pub begun : KnownOfTimers
    pub worked : KnownOfTimers
    pub turn : HasTurn id (length commits.adds.before) v begun worked w
    pub looks : LooksOn begun worked
    pub receipt : log'
        ≡ log ++ record { object = id; number = length commits.adds.before + 1; call = call; reply = object_answer commits.state call } ∷ []

  -- The history of the object is full. Nothing was done but to look at it at a moment at which no call had its turn, and a receipt says that the trigger was
  -- refused, at so many entries.
  pub record SkipsTrigger (id : ℕ) (call : ObjectCall) : Type 0 where
    pub reads : ReadsValue object_meaning p q id
    pub full : x.limit ≤ length (seen_of q id)
    pub looks : LooksOn v w
    pub told : turns_told id w ≡ length (seen_of q id) + length (seen_of q id)
    pub receipt : log'
        ≡ log ++ record { object = id; number = length (seen_of q id); call = call; reply = trigger_refused (length (seen_of q id)) } ∷ []

  -- a claim of its timer triggers the object, unless that one's history is full
  abbrev pub Triggers : ClaimNumbers → ObjectCall → Type 0
  Triggers c call = EntersTrigger c.timer call ⊎ SkipsTrigger c.timer call
