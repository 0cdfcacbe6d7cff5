-- The histories of a record's objects, which are POSIX timers, with or without queued signals, timer descriptors and sleepers: each one's entries, and its
-- state after each number of them.
use Rattle.std.specs.Prelude.{ℕ, ◌≡◌, Option, Some, None, List, [], ◌∷◌, map, take, get_or}
use Rattle.ktime.specs.declared.clock_id.ClockId.{ClockId}
use Rattle.record_text.specs.declared.record.Label.{Label}
use Rattle.record_text.specs.declared.record.ObjectEntry.{ObjectEntry}
use Rattle.record_text.specs.declared.record.ObjectLine.{ObjectLine}
use Rattle.record_text.specs.declared.record.RunRecord.{RunRecord}
use Rattle.timer_setting.specs.declared.phase.Phase.{Phase}
use Rattle.timer_setting.specs.declared.phase.Phase.TheVariants as phases
use Rattle.timer_setting.specs.StepTables.{AnsweredCall}
use Rattle.timer_setting.specs.declared.object_call.ObjectCall.{ObjectCall}
use Rattle.timer_setting.specs.declared.object_call.ObjectReply.{ObjectReply}
use Rattle.posix_timer.specs.States.{PosixTimer}
use Rattle.posix_timer.specs.Histories as posix
use Rattle.posix_timer.specs.Queued as queued
use Rattle.posix_timer.specs.declared.queued_state.QueuedState.{QueuedState}
use Rattle.timer_fd.specs.States.{Descriptor}
use Rattle.timer_fd.specs.Histories as fd
use Rattle.sleeper.specs.States.{Sleeper}
use Rattle.sleeper.specs.Histories as sleepers
use Rattle.script_text.specs.declared.script.Kind.{Kind}
use Rattle.script_text.specs.declared.script.Kind.TheVariants as kinds
use Rattle.script_text.specs.declared.script.Script.{Script}
use Rattle.script_text.specs.Declarations.{base_of, clock_of}
use Rattle.run_history.specs.ObjectEntries.{object_entry_shown}

-- an object's lines; none for a timer by itself, and for one that isn't there
abbrev pub lines_of_object : RunRecord → ℕ → List ObjectLine
lines_of_object r i = get_or r.objects i []

-- the labels along an object's entries
abbrev pub object_labels : RunRecord → ℕ → List Label
object_labels r i = map (λ line. line.label) (lines_of_object r i)

-- an object's entries
abbrev pub object_entries : RunRecord → ℕ → List ObjectEntry
object_entries r i = map (λ line. line.entry) (lines_of_object r i)

-- the items that are there
abbrev pub present : {A : Type 0} → List (Option A) → List A
present [] = []
present (None ∷ xs) = present xs
present (Some x ∷ xs) = x ∷ present xs

-- an object's history
abbrev pub object_history : RunRecord → ℕ → List (AnsweredCall ObjectCall ObjectReply)
object_history r i = map (object_entry_shown r.clock) (object_entries r i)

-- a timer by itself has no object's entries; those of an object make a history that one object of its kind gives
abbrev pub IsLegalObject : Script → RunRecord → ℕ → Kind → Type 0
IsLegalObject s r i (kinds.Raw context callback) = lines_of_object r i ≡ []
IsLegalObject s r i (kinds.Posix base) = posix.IsPosixHistory (clock_of s i) base s.limit (object_history r i)
IsLegalObject s r i (kinds.Fd base) = fd.IsFdHistory (clock_of s i) base s.limit (object_history r i)
IsLegalObject s r i (kinds.Queued base) = queued.IsQueuedHistory (clock_of s i) base s.limit (object_history r i)
IsLegalObject s r i (kinds.Sleeper base) = sleepers.IsSleeperHistory (clock_of s i) base s.limit (object_history r i)

-- a POSIX timer after its first so many entries
abbrev pub posix_after : Script → RunRecord → ℕ → ℕ → ℕ → PosixTimer
posix_after s r i base stamp = posix.posix_state_after (clock_of s i) base s.limit (take stamp (object_history r i))

-- a POSIX timer whose signals go to the queue
abbrev pub queued_after : Script → RunRecord → ℕ → ℕ → ℕ → QueuedState
queued_after s r i base stamp = queued.queued_state_after (clock_of s i) base s.limit (take stamp (object_history r i))

-- the setting of either, by its kind
abbrev pub posix_at : Script → RunRecord → ℕ → Kind → ℕ → PosixTimer
posix_at s r i (kinds.Queued base) stamp = (queued_after s r i base stamp).timer
posix_at s r i kind stamp = posix_after s r i (base_of kind) stamp

-- a descriptor after its first so many entries
abbrev pub fd_after : Script → RunRecord → ℕ → ℕ → ℕ → Descriptor
fd_after s r i base stamp = fd.fd_state_after (clock_of s i) base s.limit (take stamp (object_history r i))

-- a sleeper after its first so many entries
abbrev pub sleeper_after : Script → RunRecord → ℕ → ℕ → ℕ → Sleeper
sleeper_after s r i base stamp = sleepers.sleeper_state_after (clock_of s i) base s.limit (take stamp (object_history r i))

-- how an object has armed its timer: the generation, the clock and the expiry
pub record ArmedAs : Type 0 where
  pub generation : ℕ
  pub clock : ClockId
  pub expires : ℕ

-- the same, where the phase of an object's timer is that it is armed
abbrev pub armed_in_phase : Phase → Option ArmedAs
armed_in_phase phases.Idle = None
armed_in_phase (phases.Armed generation clock expires) = Some (record { generation = generation; clock = clock; expires = expires })
armed_in_phase (phases.Expired clock expires) = None

-- how an object of this kind has armed its timer after its first so many entries
abbrev pub object_armed_after : Script → RunRecord → ℕ → ℕ → Kind → Option ArmedAs
object_armed_after s r i stamp (kinds.Raw context callback) = None
object_armed_after s r i stamp (kinds.Posix base) = armed_in_phase (posix_after s r i base stamp).phase
object_armed_after s r i stamp (kinds.Fd base) = armed_in_phase (fd_after s r i base stamp).phase
object_armed_after s r i stamp (kinds.Queued base) = armed_in_phase (queued_after s r i base stamp).timer.phase
object_armed_after s r i stamp (kinds.Sleeper base) = armed_in_phase (sleeper_after s r i base stamp).phase
