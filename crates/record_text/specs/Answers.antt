-- The words of an answer, and the numbers among them, side by side.
use Rattle.std.specs.Prelude.{ℕ, List, [], ◌∷◌, map, length, codes}
use Rattle.std.specs.Fmt.{decimal}
use Rattle.record_text.specs.declared.record.Answer.{Answer}
use Rattle.record_text.specs.declared.record.Answer.TheVariants as answers
use Rattle.record_text.specs.Words.{flag}

-- the words of what a call that takes a signal of the queue is answered, and none for another answer
abbrev pub signal_answer_words : Answer → List (List ℕ)
signal_answer_words (answers.Signal timer number overrun) = codes "signal" ∷ decimal timer ∷ decimal number ∷ decimal overrun ∷ []
signal_answer_words (answers.StaleSignal timer number) = codes "stale" ∷ decimal timer ∷ decimal number ∷ []
signal_answer_words (answers.SpentSignal timer number) = codes "spent" ∷ decimal timer ∷ decimal number ∷ []
signal_answer_words answers.NoneQueued = codes "empty" ∷ []
signal_answer_words other = []

-- the numbers of what a call that takes a signal of the queue is answered, and none for another answer
abbrev pub signal_answer_numbers : Answer → List ℕ
signal_answer_numbers (answers.Signal timer number overrun) = timer ∷ number ∷ overrun ∷ []
signal_answer_numbers (answers.StaleSignal timer number) = timer ∷ number ∷ []
signal_answer_numbers (answers.SpentSignal timer number) = timer ∷ number ∷ []
signal_answer_numbers answers.NoneQueued = []
signal_answer_numbers other = []

-- the words of what a sleeper's call alone is answered, and of another answer those of a call that takes a signal
abbrev pub sleeper_answer_words : Answer → List (List ℕ)
sleeper_answer_words answers.Asleep = codes "asleep" ∷ []
sleeper_answer_words answers.Slept = codes "done" ∷ []
sleeper_answer_words (answers.Occupied stamp) = codes "occupied" ∷ decimal stamp ∷ []
sleeper_answer_words (answers.SleepLeft ns) = codes "left" ∷ decimal ns ∷ []
sleeper_answer_words answers.Interrupted = codes "interrupted" ∷ []
sleeper_answer_words (answers.Sleeping stamp) = codes "sleeping" ∷ decimal stamp ∷ []
sleeper_answer_words (answers.SleptAt stamp) = codes "done" ∷ decimal stamp ∷ []
sleeper_answer_words (answers.Awake stamp) = codes "awake" ∷ decimal stamp ∷ []
sleeper_answer_words other = signal_answer_words other

-- the numbers of what a sleeper's call alone is answered, and of another answer those of a call that takes a signal
abbrev pub sleeper_answer_numbers : Answer → List ℕ
sleeper_answer_numbers answers.Asleep = []
sleeper_answer_numbers answers.Slept = []
sleeper_answer_numbers (answers.Occupied stamp) = stamp ∷ []
sleeper_answer_numbers (answers.SleepLeft ns) = ns ∷ []
sleeper_answer_numbers answers.Interrupted = []
sleeper_answer_numbers (answers.Sleeping stamp) = stamp ∷ []
sleeper_answer_numbers (answers.SleptAt stamp) = stamp ∷ []
sleeper_answer_numbers (answers.Awake stamp) = stamp ∷ []
sleeper_answer_numbers other = signal_answer_numbers other

-- the words of what a call of a POSIX timer or a descriptor alone is answered, and of another answer those of a sleeper's call
abbrev pub object_answer_words : Answer → List (List ℕ)
object_answer_words (answers.Old left interval) = codes "old" ∷ decimal left ∷ decimal interval ∷ []
object_answer_words answers.Canceled = codes "canceled" ∷ []
object_answer_words (answers.Unarmed stamp) = codes "unarmed" ∷ decimal stamp ∷ []
object_answer_words answers.Invalid = codes "einval" ∷ []
object_answer_words (answers.LeftAt left interval reading stamp) =
    codes "left" ∷ decimal left ∷ decimal interval ∷ decimal reading ∷ decimal stamp ∷ []
object_answer_words (answers.Left left interval) = codes "left" ∷ decimal left ∷ decimal interval ∷ []
object_answer_words (answers.Accepted overrun) = codes "accepted" ∷ decimal overrun ∷ []
object_answer_words answers.NoSignal = codes "nosignal" ∷ []
object_answer_words (answers.Overrun overrun stamp) = codes "overrun" ∷ decimal overrun ∷ decimal stamp ∷ []
object_answer_words (answers.Count total) = codes "count" ∷ decimal total ∷ []
object_answer_words answers.Again = codes "again" ∷ []
object_answer_words (answers.Readable ready reading stamp) = codes "readable" ∷ flag ready ∷ decimal reading ∷ decimal stamp ∷ []
object_answer_words other = sleeper_answer_words other

-- the numbers of what a call of a POSIX timer or a descriptor alone is answered, and of another answer those of a sleeper's call
abbrev pub object_answer_numbers : Answer → List ℕ
object_answer_numbers (answers.Old left interval) = left ∷ interval ∷ []
object_answer_numbers answers.Canceled = []
object_answer_numbers (answers.Unarmed stamp) = stamp ∷ []
object_answer_numbers answers.Invalid = []
object_answer_numbers (answers.LeftAt left interval reading stamp) = left ∷ interval ∷ reading ∷ stamp ∷ []
object_answer_numbers (answers.Left left interval) = left ∷ interval ∷ []
object_answer_numbers (answers.Accepted overrun) = overrun ∷ []
object_answer_numbers answers.NoSignal = []
object_answer_numbers (answers.Overrun overrun stamp) = overrun ∷ stamp ∷ []
object_answer_numbers (answers.Count total) = total ∷ []
object_answer_numbers answers.Again = []
object_answer_numbers (answers.Readable ready reading stamp) = reading ∷ stamp ∷ []
object_answer_numbers other = sleeper_answer_numbers other

-- the words of an answer to a call that takes a base off line or on line again, and of another those of an object's call
abbrev pub shift_answer_words : Answer → List (List ℕ)
shift_answer_words (answers.Offline moved stamp) = codes "off" ∷ decimal moved ∷ decimal stamp ∷ []
shift_answer_words (answers.OfflineBusy moved timer generation) = codes "busy" ∷ decimal moved ∷ decimal timer ∷ decimal generation ∷ []
shift_answer_words (answers.OfflineMore moved) = codes "more" ∷ decimal moved ∷ []
shift_answer_words (answers.OfflineSpent moved timer stamp) = codes "spent" ∷ decimal moved ∷ decimal timer ∷ decimal stamp ∷ []
shift_answer_words (answers.Already stamp) = codes "already" ∷ decimal stamp ∷ []
shift_answer_words (answers.HeirOffline stamp) = codes "heiroff" ∷ decimal stamp ∷ []
shift_answer_words (answers.BaseSpent stamp) = codes "basespent" ∷ decimal stamp ∷ []
shift_answer_words (answers.Online stamp) = codes "on" ∷ decimal stamp ∷ []
shift_answer_words other = object_answer_words other

-- the numbers of an answer to a call that takes a base off line or on line again, and of another those of an object's call
abbrev pub shift_answer_numbers : Answer → List ℕ
shift_answer_numbers (answers.Offline moved stamp) = moved ∷ stamp ∷ []
shift_answer_numbers (answers.OfflineBusy moved timer generation) = moved ∷ timer ∷ generation ∷ []
shift_answer_numbers (answers.OfflineMore moved) = moved ∷ []
shift_answer_numbers (answers.OfflineSpent moved timer stamp) = moved ∷ timer ∷ stamp ∷ []
shift_answer_numbers (answers.Already stamp) = stamp ∷ []
shift_answer_numbers (answers.HeirOffline stamp) = stamp ∷ []
shift_answer_numbers (answers.BaseSpent stamp) = stamp ∷ []
shift_answer_numbers (answers.Online stamp) = stamp ∷ []
shift_answer_numbers other = object_answer_numbers other

-- the words of an answer
abbrev pub answer_words : Answer → List (List ℕ)
answer_words (answers.Started generation base was_armed) = codes "started" ∷ decimal generation ∷ decimal base ∷ flag was_armed ∷ []
answer_words (answers.Spent stamp) = codes "spent" ∷ decimal stamp ∷ []
answer_words (answers.Cancelled generation) = codes "cancelled" ∷ decimal generation ∷ []
answer_words (answers.Running generation stamp) = codes "running" ∷ decimal generation ∷ decimal stamp ∷ []
answer_words (answers.Idle stamp) = codes "idle" ∷ decimal stamp ∷ []
answer_words (answers.Peek stamp base enqueued running moving) =
    codes "peek" ∷ decimal stamp ∷ decimal base ∷ flag enqueued ∷ flag running ∷ flag moving ∷ []
answer_words (answers.Done reading fired) = codes "done" ∷ decimal (length fired) ∷ decimal reading ∷ map decimal fired
answer_words (answers.More reading fired) = codes "more" ∷ decimal (length fired) ∷ decimal reading ∷ map decimal fired
answer_words (answers.Busy reading fired timer generation) =
    codes "busy" ∷ decimal (length fired) ∷ decimal reading ∷ decimal timer ∷ decimal generation ∷ map decimal fired
answer_words (answers.Clock stamp) = codes "clock" ∷ decimal stamp ∷ []
answer_words (answers.Range would_be) = codes "range" ∷ decimal would_be ∷ []
answer_words answers.ClockSpent = codes "clockspent" ∷ []
answer_words other = shift_answer_words other

-- the numbers of an answer
abbrev pub answer_numbers : Answer → List ℕ
answer_numbers (answers.Started generation base was_armed) = generation ∷ base ∷ []
answer_numbers (answers.Spent stamp) = stamp ∷ []
answer_numbers (answers.Cancelled generation) = generation ∷ []
answer_numbers (answers.Running generation stamp) = generation ∷ stamp ∷ []
answer_numbers (answers.Idle stamp) = stamp ∷ []
answer_numbers (answers.Peek stamp base enqueued running moving) = stamp ∷ base ∷ []
answer_numbers (answers.Done reading fired) = length fired ∷ reading ∷ fired
answer_numbers (answers.More reading fired) = length fired ∷ reading ∷ fired
answer_numbers (answers.Busy reading fired timer generation) = length fired ∷ reading ∷ timer ∷ generation ∷ fired
answer_numbers (answers.Clock stamp) = stamp ∷ []
answer_numbers (answers.Range would_be) = would_be ∷ []
answer_numbers answers.ClockSpent = []
answer_numbers other = shift_answer_numbers other
