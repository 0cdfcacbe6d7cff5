-- The words of entries and of answers are read back: each form from its own words.
use Rattle.std.proofs.Common.{◌≡◌, ◌∷◌, [], ℕ, List, Bool, true, false, if◌then◌else◌, map, length, codes, refl, sym, ◌∙◌}
use Rattle.record_text.specs.declared.version.Version.{Version}
use Rattle.record_text.specs.declared.version.Version.TheVariants as versions
use Rattle.seq_timer.specs.declared.standing.BaseEvent.{BaseEvent}
use Rattle.seq_timer.specs.declared.standing.BaseEvent.TheVariants as shifts
use Rattle.seq_timer.specs.declared.event.AskedBy.{AskedBy}
use Rattle.seq_timer.specs.declared.event.EventBy.{EventBy}
use Rattle.seq_timer.specs.declared.event.EventBy.TheVariants as events
use Rattle.seq_timer.specs.declared.event.Moved.{Moved}
use Rattle.seq_timer.specs.declared.event.Placement.{Placement}
use Rattle.seq_timer.specs.declared.event.Reply.{Reply}
use Rattle.seq_timer.specs.declared.event.Reply.TheVariants as replies
use Rattle.record_text.specs.declared.record.Entry.{Entry}
use Rattle.record_text.specs.declared.record.CallbackReply.{CallbackReply}
use Rattle.record_text.specs.declared.record.CallbackReply.TheVariants as told
use Rattle.record_text.specs.declared.record.SettimeReply.{SettimeReply}
use Rattle.record_text.specs.declared.record.SettimeReply.TheVariants as settimes
use Rattle.record_text.specs.declared.record.AcceptReply.{AcceptReply}
use Rattle.record_text.specs.declared.record.AcceptReply.TheVariants as accepts
use Rattle.record_text.specs.declared.record.ReadReply.{ReadReply}
use Rattle.record_text.specs.declared.record.ReadReply.TheVariants as reads
use Rattle.record_text.specs.declared.record.SleepReply.{SleepReply}
use Rattle.record_text.specs.declared.record.SleepReply.TheVariants as sleeps
use Rattle.record_text.specs.declared.record.InterruptReply.{InterruptReply}
use Rattle.record_text.specs.declared.record.InterruptReply.TheVariants as interrupts
use Rattle.record_text.specs.declared.record.ObjectEntry.{ObjectEntry}
use Rattle.record_text.specs.declared.record.ObjectEntry.TheVariants as object_entries
use Rattle.record_text.specs.declared.record.Answer.{Answer}
use Rattle.record_text.specs.declared.record.Answer.TheVariants as answers
use Rattle.record_text.specs.Replies.{answer_of_settime, answer_of_accept, answer_of_read, answer_of_sleep, answer_of_interrupt}
use Rattle.record_text.specs.Text.{counted_word, entry_numbers, entry_words, shift_words, told_words, object_entry_words}
use Rattle.record_text.specs.Answers.{answer_words, answer_numbers}
use Rattle.record_text.specs.Numbers.{AreMachineNumbers, EntryHasNoSlack, IsReplyTo, shift_numbers, told_numbers, object_entry_numbers}
use Rattle.record_text.proofs.Words.{are_words}
use Rattle.record_text.proofs.Spelling.{value, value_again, word_decimal, words_decimals, values_again, nth, number, after, is_key, flag_of, flag_read, clock_of, clock_read, mode_of, mode_read, restart_of, restart_read, restarted_of, restarted_read, armed_of, armed_read, counted_of, counted_read}

-- a value is read back from these words, each of which is one
abbrev pub IsReadBack : {X : Type 0} → (List (List ℕ) → X) → X → List (List ℕ) → Type 0
IsReadBack of x words = (of words ≡ x) × (are_words words ≡ true)

-- each value is read back from its words, where its numbers are ones that a program can hold
abbrev pub AreReadBack : {X : Type 0} → (List (List ℕ) → X) → (X → List (List ℕ)) → (X → List ℕ) → Type 0
AreReadBack {X} of words numbers = (x : X) → AreMachineNumbers (numbers x) → IsReadBack of x (words x)

-- the entry of an event and a reply
abbrev entry : EventBy ℕ → Reply → Entry
entry event reply = record { event = event; reply = reply }

-- a start and a forward; one of version 1 has no slack
start_of : Version → List (List ℕ) → Entry
start_of versions.One ws =
    entry (events.Start (record { mode = mode_of (nth 1 ws); ns = number 2 ws; slack = 0; reading = number 3 ws; base = number 4 ws }))
    (replies.Start (record { base = number 5 ws; clock = clock_of (nth 6 ws); soft = number 7 ws; expires = number 7 ws }) (flag_of (nth 8 ws)))
start_of versions.Two ws =
    entry (events.Start (record { mode = mode_of (nth 1 ws); ns = number 2 ws; slack = number 3 ws; reading = number 4 ws; base = number 5 ws }))
    (replies.Start (record { base = number 6 ws; clock = clock_of (nth 7 ws); soft = number 8 ws; expires = number 9 ws }) (flag_of (nth 10 ws)))

forward_of : Version → List (List ℕ) → Entry
forward_of versions.One ws =
    entry (events.Forward (number 1 ws) (number 2 ws)) (replies.Forward (record { count = number 3 ws; soft = number 4 ws; expires = number 4 ws }))
forward_of versions.Two ws =
    entry (events.Forward (number 1 ws) (number 2 ws)) (replies.Forward (record { count = number 3 ws; soft = number 4 ws; expires = number 5 ws }))

-- an entry is one that is read back from its words in a text of this version: its reply is its event's, and what version 1 does not show is told
abbrev pub IsReadable : Version → Entry → Type 0
IsReadable v e = IsReplyTo e.event e.reply × (v ≡ versions.One → EntryHasNoSlack e)

start_read : (v : Version) (a : AskedBy ℕ) (p : Placement) (was : Bool) → AreMachineNumbers (entry_numbers (entry (events.Start a) (replies.Start p was)))
    → (v ≡ versions.One → EntryHasNoSlack (entry (events.Start a) (replies.Start p was)))
    → IsReadBack (start_of v) (entry (events.Start a) (replies.Start p was)) (entry_words v (entry (events.Start a) (replies.Start p was)))
unfolding start_of
start_read versions.One a p was h plain =
    rw ((mode_read a.mode).0, value_again a.ns h.0, value_again a.reading h.1.1.0, value_again a.base h.1.1.1.0, value_again p.base h.1.1.1.1.0)
    (rw ((clock_read p.clock).0, value_again p.expires h.1.1.1.1.1.1.0, (flag_read was).0, (mode_read a.mode).1, word_decimal a.ns h.0)
    (rw (word_decimal a.reading h.1.1.0, word_decimal a.base h.1.1.1.0, word_decimal p.base h.1.1.1.1.0, (clock_read p.clock).1)
    (rw (word_decimal p.expires h.1.1.1.1.1.1.0, (flag_read was).1)
    ((λ i. entry (events.Start (record a { slack = sym (plain refl).0 i })) (replies.Start (record p { soft = sym (plain refl).1 i }) was)), refl))))
start_read versions.Two a p was h plain =
    rw ((mode_read a.mode).0, value_again a.ns h.0, value_again a.slack h.1.0, value_again a.reading h.1.1.0, value_again a.base h.1.1.1.0)
    (rw (value_again p.base h.1.1.1.1.0, (clock_read p.clock).0, value_again p.soft h.1.1.1.1.1.0, value_again p.expires h.1.1.1.1.1.1.0)
    (rw ((flag_read was).0, (mode_read a.mode).1, word_decimal a.ns h.0, word_decimal a.slack h.1.0, word_decimal a.reading h.1.1.0)
    (rw (word_decimal a.base h.1.1.1.0, word_decimal p.base h.1.1.1.1.0, (clock_read p.clock).1, word_decimal p.soft h.1.1.1.1.1.0)
    (rw (word_decimal p.expires h.1.1.1.1.1.1.0, (flag_read was).1) (refl, refl)))))

forward_read : (v : Version) (reading interval : ℕ) (m : Moved)
    → AreMachineNumbers (entry_numbers (entry (events.Forward reading interval) (replies.Forward m)))
    → (v ≡ versions.One → EntryHasNoSlack (entry (events.Forward reading interval) (replies.Forward m)))
    → IsReadBack (forward_of v) (entry (events.Forward reading interval) (replies.Forward m))
    (entry_words v (entry (events.Forward reading interval) (replies.Forward m)))
unfolding forward_of
forward_read versions.One reading interval m h plain =
    rw (value_again reading h.0, value_again interval h.1.0, value_again m.count h.1.1.0, value_again m.expires h.1.1.1.1.0)
    (rw (word_decimal reading h.0, word_decimal interval h.1.0, word_decimal m.count h.1.1.0, word_decimal m.expires h.1.1.1.1.0)
    ((λ i. entry (events.Forward reading interval) (replies.Forward (record m { soft = sym (plain refl).1 i }))), refl))
forward_read versions.Two reading interval m h plain =
    rw (value_again reading h.0, value_again interval h.1.0, value_again m.count h.1.1.0, value_again m.soft h.1.1.1.0)
    (rw (value_again m.expires h.1.1.1.1.0, word_decimal reading h.0, word_decimal interval h.1.0, word_decimal m.count h.1.1.0)
    (rw (word_decimal m.soft h.1.1.1.0, word_decimal m.expires h.1.1.1.1.0) (refl, refl)))

pub entry_of : Version → List (List ℕ) → Entry
entry_of v ws =
    if is_key ws (codes "out") then entry (events.Out (number 1 ws)) (replies.Out (flag_of (nth 2 ws)))
    else if is_key ws (codes "start") then start_of v ws
    else if is_key ws (codes "cancel") then entry events.Cancel (replies.Cancel (number 1 ws))
    else if is_key ws (codes "claim") then entry (events.Claim (number 1 ws) (number 2 ws)) (replies.Claim (number 3 ws))
    else if is_key ws (codes "forward") then forward_of v ws
    else entry (events.Finish (restart_of (nth 1 ws))) (replies.Finish (number 2 ws) (restarted_of (nth 3 ws)))

-- which entry the words of a start and of a forward are of
start_is : (v : Version) (a : AskedBy ℕ) (p : Placement) (was : Bool) → let ws = entry_words v (entry (events.Start a) (replies.Start p was)) in
    entry_of v ws ≡ start_of v ws
unfolding entry_of
start_is versions.One a p was = refl
start_is versions.Two a p was = refl

forward_is : (v : Version) (reading interval : ℕ) (m : Moved) → let ws = entry_words v (entry (events.Forward reading interval) (replies.Forward m)) in
    entry_of v ws ≡ forward_of v ws
unfolding entry_of
forward_is versions.One reading interval m = refl
forward_is versions.Two reading interval m = refl

each_read : (v : Version) (e : EventBy ℕ) (r : Reply) → AreMachineNumbers (entry_numbers (entry e r)) → IsReadable v (entry e r)
    → IsReadBack (entry_of v) (entry e r) (entry_words v (entry e r))
unfolding entry_of
each_read v (events.Out base) (replies.Out was) h plain =
    rw (value_again base h.0, (flag_read was).0, word_decimal base h.0, (flag_read was).1) (refl, refl)
each_read v (events.Start a) (replies.Start p was) h plain =
    let read = start_read v a p was h plain.1 in
    (start_is v a p was ∙ read.0, read.1)
each_read v events.Cancel (replies.Cancel generation) h plain = rw (value_again generation h.0, word_decimal generation h.0) (refl, refl)
each_read v (events.Claim base reading) (replies.Claim generation) h plain =
    rw (value_again base h.0, value_again reading h.1.0, value_again generation h.1.1.0, word_decimal base h.0)
    (rw (word_decimal reading h.1.0, word_decimal generation h.1.1.0) (refl, refl))
each_read v (events.Forward reading interval) (replies.Forward m) h plain =
    let read = forward_read v reading interval m h plain.1 in
    (forward_is v reading interval m ∙ read.0, read.1)
each_read v (events.Finish restart) (replies.Finish generation restarted) h plain =
    rw ((restart_read restart).0, value_again generation h.0, (restarted_read restarted h.1).0, (restart_read restart).1)
    (rw (word_decimal generation h.0, (restarted_read restarted h.1).1) (refl, refl))
each_read v e r h plain = absurd plain.0

pub entry_read : (v : Version) (x : Entry) → AreMachineNumbers (entry_numbers x) → IsReadable v x → IsReadBack (entry_of v) x (entry_words v x)
entry_read v x h plain = each_read v x.event x.reply h plain

pub shift_of : List (List ℕ) → BaseEvent
shift_of ws = if is_key ws (codes "offline") then shifts.Offline (number 1 ws) else shifts.Online

pub shift_read : AreReadBack shift_of shift_words shift_numbers
unfolding shift_of
shift_read (shifts.Offline heir) h = rw (value_again heir h.0, word_decimal heir h.0) (refl, refl)
shift_read shifts.Online h = (refl, refl)

pub told_of : List (List ℕ) → CallbackReply
told_of ws =
    if is_key ws (codes "running") then told.Running (number 1 ws)
    else if is_key ws (codes "armed") then told.Armed (number 1 ws)
    else told.Spent

pub told_read : AreReadBack told_of told_words told_numbers
unfolding told_of
told_read (told.Running generation) h = rw (value_again generation h.0, word_decimal generation h.0) (refl, refl)
told_read (told.Armed generation) h = rw (value_again generation h.0, word_decimal generation h.0) (refl, refl)
told_read told.Spent h = (refl, refl)

-- a time left: a sleep's stands alone, a timer's has its interval behind it, and a POSIX timer's the reading and the stamp too
pub left_of : ℕ → List (List ℕ) → Answer
left_of left [] = answers.SleepLeft left
left_of left (i ∷ []) = answers.Left left (value i)
left_of left (i ∷ w ∷ ws) = answers.LeftAt left (value i) (value w) (number 0 ws)

-- the word that all is over: of a sleep, of a look at one with the stamp, and of an expiry run with the timers that fired
pub done_of : List (List ℕ) → Answer
done_of [] = answers.Slept
done_of (n ∷ []) = answers.SleptAt (value n)
done_of (n ∷ w ∷ ws) = answers.Done (value w) (map value ws)

-- the word that a timer is spent: of a call on it with the stamp, of a signal with its timer and number, and of a call that takes a base off line
pub spent_of : ℕ → List (List ℕ) → Answer
spent_of stamp [] = answers.Spent stamp
spent_of timer (n ∷ []) = answers.SpentSignal timer (value n)
spent_of moved (t ∷ w ∷ ws) = answers.OfflineSpent moved (value t) (value w)

-- a word that two answers begin with: what a call tells that takes a base off line ends sooner

pub more_of : ℕ → List (List ℕ) → Answer
more_of moved [] = answers.OfflineMore moved
more_of count (w ∷ ws) = answers.More (value w) (map value ws)

pub busy_of : ℕ → ℕ → ℕ → List (List ℕ) → Answer
busy_of moved timer generation [] = answers.OfflineBusy moved timer generation
busy_of count reading timer (w ∷ ws) = answers.Busy reading (map value ws) timer (value w)

pub answer_of : List (List ℕ) → Answer
answer_of ws =
    if is_key ws (codes "started") then answers.Started (number 1 ws) (number 2 ws) (flag_of (nth 3 ws))
    else if is_key ws (codes "spent") then spent_of (number 1 ws) (after 2 ws)
    else if is_key ws (codes "cancelled") then answers.Cancelled (number 1 ws)
    else if is_key ws (codes "running") then answers.Running (number 1 ws) (number 2 ws)
    else if is_key ws (codes "idle") then answers.Idle (number 1 ws)
    else if is_key ws (codes "peek") then answers.Peek (number 1 ws) (number 2 ws) (flag_of (nth 3 ws)) (flag_of (nth 4 ws)) (flag_of (nth 5 ws))
    else if is_key ws (codes "done") then done_of (after 1 ws)
    else if is_key ws (codes "more") then more_of (number 1 ws) (after 2 ws)
    else if is_key ws (codes "busy") then busy_of (number 1 ws) (number 2 ws) (number 3 ws) (after 4 ws)
    else if is_key ws (codes "clock") then answers.Clock (number 1 ws)
    else if is_key ws (codes "range") then answers.Range (number 1 ws)
    else if is_key ws (codes "clockspent") then answers.ClockSpent
    else if is_key ws (codes "old") then answers.Old (number 1 ws) (number 2 ws)
    else if is_key ws (codes "canceled") then answers.Canceled
    else if is_key ws (codes "unarmed") then answers.Unarmed (number 1 ws)
    else if is_key ws (codes "einval") then answers.Invalid
    else if is_key ws (codes "left") then left_of (number 1 ws) (after 2 ws)
    else if is_key ws (codes "accepted") then answers.Accepted (number 1 ws)
    else if is_key ws (codes "nosignal") then answers.NoSignal
    else if is_key ws (codes "overrun") then answers.Overrun (number 1 ws) (number 2 ws)
    else if is_key ws (codes "count") then answers.Count (number 1 ws)
    else if is_key ws (codes "again") then answers.Again
    else if is_key ws (codes "off") then answers.Offline (number 1 ws) (number 2 ws)
    else if is_key ws (codes "already") then answers.Already (number 1 ws)
    else if is_key ws (codes "heiroff") then answers.HeirOffline (number 1 ws)
    else if is_key ws (codes "basespent") then answers.BaseSpent (number 1 ws)
    else if is_key ws (codes "on") then answers.Online (number 1 ws)
    else if is_key ws (codes "asleep") then answers.Asleep
    else if is_key ws (codes "occupied") then answers.Occupied (number 1 ws)
    else if is_key ws (codes "interrupted") then answers.Interrupted
    else if is_key ws (codes "sleeping") then answers.Sleeping (number 1 ws)
    else if is_key ws (codes "awake") then answers.Awake (number 1 ws)
    else if is_key ws (codes "signal") then answers.Signal (number 1 ws) (number 2 ws) (number 3 ws)
    else if is_key ws (codes "stale") then answers.StaleSignal (number 1 ws) (number 2 ws)
    else if is_key ws (codes "empty") then answers.NoneQueued
    else answers.Readable (flag_of (nth 1 ws)) (number 2 ws) (number 3 ws)

pub answer_read : AreReadBack answer_of answer_words answer_numbers
unfolding answer_of left_of done_of spent_of more_of busy_of
answer_read (answers.Started generation base was_armed) h =
    rw (value_again generation h.0, value_again base h.1.0, (flag_read was_armed).0, word_decimal generation h.0)
    (rw (word_decimal base h.1.0, (flag_read was_armed).1) (refl, refl))
answer_read (answers.Spent stamp) h = rw (value_again stamp h.0, word_decimal stamp h.0) (refl, refl)
answer_read (answers.Cancelled generation) h = rw (value_again generation h.0, word_decimal generation h.0) (refl, refl)
answer_read (answers.Running generation stamp) h =
    rw (value_again generation h.0, value_again stamp h.1.0, word_decimal generation h.0, word_decimal stamp h.1.0) (refl, refl)
answer_read (answers.Idle stamp) h = rw (value_again stamp h.0, word_decimal stamp h.0) (refl, refl)
answer_read (answers.Peek stamp base enqueued running moving) h =
    rw (value_again stamp h.0, value_again base h.1.0, (flag_read enqueued).0, (flag_read running).0, (flag_read moving).0)
    (rw (word_decimal stamp h.0, word_decimal base h.1.0, (flag_read enqueued).1, (flag_read running).1, (flag_read moving).1) (refl, refl))
answer_read (answers.Done reading fired) h =
    rw (value_again reading h.1.0, values_again fired h.1.1, word_decimal (length fired) h.0, word_decimal reading h.1.0)
    (refl, (words_decimals fired h.1.1))
answer_read (answers.More reading fired) h =
    rw (value_again reading h.1.0, values_again fired h.1.1, word_decimal (length fired) h.0, word_decimal reading h.1.0)
    (refl, (words_decimals fired h.1.1))
answer_read (answers.Busy reading fired timer generation) h =
    rw (value_again reading h.1.0, value_again timer h.1.1.0, value_again generation h.1.1.1.0, values_again fired h.1.1.1.1)
    (rw (word_decimal (length fired) h.0, word_decimal reading h.1.0, word_decimal timer h.1.1.0, word_decimal generation h.1.1.1.0)
    (refl, (words_decimals fired h.1.1.1.1)))
answer_read (answers.Clock stamp) h = rw (value_again stamp h.0, word_decimal stamp h.0) (refl, refl)
answer_read (answers.Range would_be) h = rw (value_again would_be h.0, word_decimal would_be h.0) (refl, refl)
answer_read answers.ClockSpent h = (refl, refl)
answer_read (answers.Old left interval) h =
    rw (value_again left h.0, value_again interval h.1.0, word_decimal left h.0, word_decimal interval h.1.0) (refl, refl)
answer_read answers.Canceled h = (refl, refl)
answer_read (answers.Unarmed stamp) h = rw (value_again stamp h.0, word_decimal stamp h.0) (refl, refl)
answer_read answers.Invalid h = (refl, refl)
answer_read (answers.LeftAt left interval reading stamp) h =
    rw (value_again left h.0, value_again interval h.1.0, value_again reading h.1.1.0, value_again stamp h.1.1.1.0)
    (rw (word_decimal left h.0, word_decimal interval h.1.0, word_decimal reading h.1.1.0, word_decimal stamp h.1.1.1.0) (refl, refl))
answer_read (answers.Left left interval) h =
    rw (value_again left h.0, value_again interval h.1.0, word_decimal left h.0, word_decimal interval h.1.0) (refl, refl)
answer_read (answers.Accepted overrun) h = rw (value_again overrun h.0, word_decimal overrun h.0) (refl, refl)
answer_read answers.NoSignal h = (refl, refl)
answer_read (answers.Overrun overrun stamp) h =
    rw (value_again overrun h.0, value_again stamp h.1.0, word_decimal overrun h.0, word_decimal stamp h.1.0) (refl, refl)
answer_read (answers.Count total) h = rw (value_again total h.0, word_decimal total h.0) (refl, refl)
answer_read answers.Again h = (refl, refl)
answer_read (answers.Readable ready reading stamp) h =
    rw ((flag_read ready).0, value_again reading h.0, value_again stamp h.1.0, (flag_read ready).1, word_decimal reading h.0)
    (rw (word_decimal stamp h.1.0) (refl, refl))
answer_read (answers.Offline moved stamp) h =
    rw (value_again moved h.0, value_again stamp h.1.0, word_decimal moved h.0, word_decimal stamp h.1.0) (refl, refl)
answer_read (answers.OfflineBusy moved timer generation) h =
    rw (value_again moved h.0, value_again timer h.1.0, value_again generation h.1.1.0, word_decimal moved h.0)
    (rw (word_decimal timer h.1.0, word_decimal generation h.1.1.0) (refl, refl))
answer_read (answers.OfflineMore moved) h = rw (value_again moved h.0, word_decimal moved h.0) (refl, refl)
answer_read (answers.OfflineSpent moved timer stamp) h =
    rw (value_again moved h.0, value_again timer h.1.0, value_again stamp h.1.1.0, word_decimal moved h.0)
    (rw (word_decimal timer h.1.0, word_decimal stamp h.1.1.0) (refl, refl))
answer_read (answers.Already stamp) h = rw (value_again stamp h.0, word_decimal stamp h.0) (refl, refl)
answer_read (answers.HeirOffline stamp) h = rw (value_again stamp h.0, word_decimal stamp h.0) (refl, refl)
answer_read (answers.BaseSpent stamp) h = rw (value_again stamp h.0, word_decimal stamp h.0) (refl, refl)
answer_read (answers.Online stamp) h = rw (value_again stamp h.0, word_decimal stamp h.0) (refl, refl)
answer_read answers.Asleep h = (refl, refl)
answer_read answers.Slept h = (refl, refl)
answer_read (answers.Occupied stamp) h = rw (value_again stamp h.0, word_decimal stamp h.0) (refl, refl)
answer_read (answers.SleepLeft ns) h = rw (value_again ns h.0, word_decimal ns h.0) (refl, refl)
answer_read answers.Interrupted h = (refl, refl)
answer_read (answers.Sleeping stamp) h = rw (value_again stamp h.0, word_decimal stamp h.0) (refl, refl)
answer_read (answers.SleptAt stamp) h = rw (value_again stamp h.0, word_decimal stamp h.0) (refl, refl)
answer_read (answers.Awake stamp) h = rw (value_again stamp h.0, word_decimal stamp h.0) (refl, refl)
answer_read (answers.Signal timer n overrun) h =
    rw (value_again timer h.0, value_again n h.1.0, value_again overrun h.1.1.0, word_decimal timer h.0)
    (rw (word_decimal n h.1.0, word_decimal overrun h.1.1.0) (refl, refl))
answer_read (answers.StaleSignal timer n) h =
    rw (value_again timer h.0, value_again n h.1.0, word_decimal timer h.0, word_decimal n h.1.0) (refl, refl)
answer_read (answers.SpentSignal timer n) h =
    rw (value_again timer h.0, value_again n h.1.0, word_decimal timer h.0, word_decimal n h.1.0) (refl, refl)
answer_read answers.NoneQueued h = (refl, refl)

-- a reply from the answer that it gives
pub settime_of : Answer → SettimeReply
settime_of (answers.Old left interval) = settimes.Old left interval
settime_of (answers.Unarmed stamp) = settimes.Unarmed stamp
settime_of other = settimes.Canceled

pub settime_is : (r : SettimeReply) → settime_of (answer_of_settime r) ≡ r
unfolding settime_of
settime_is (settimes.Old left interval) = refl
settime_is settimes.Canceled = refl
settime_is (settimes.Unarmed stamp) = refl

pub accept_of : Answer → AcceptReply
accept_of (answers.Accepted overrun) = accepts.Accepted overrun
accept_of other = accepts.NoSignal

pub accept_is : (r : AcceptReply) → accept_of (answer_of_accept r) ≡ r
unfolding accept_of
accept_is (accepts.Accepted overrun) = refl
accept_is accepts.NoSignal = refl

pub read_of : Answer → ReadReply
read_of (answers.Count total) = reads.Count total
read_of answers.Again = reads.Again
read_of other = reads.Canceled

pub read_is : (r : ReadReply) → read_of (answer_of_read r) ≡ r
unfolding read_of
read_is (reads.Count total) = refl
read_is reads.Again = refl
read_is reads.Canceled = refl

pub sleep_of : Answer → SleepReply
sleep_of answers.Asleep = sleeps.Asleep
sleep_of (answers.Unarmed stamp) = sleeps.Unarmed stamp
sleep_of other = sleeps.Slept

pub sleep_is : (r : SleepReply) → sleep_of (answer_of_sleep r) ≡ r
unfolding sleep_of
sleep_is sleeps.Slept = refl
sleep_is sleeps.Asleep = refl
sleep_is (sleeps.Unarmed stamp) = refl

pub interrupt_of : Answer → InterruptReply
interrupt_of (answers.SleepLeft ns) = interrupts.Left ns
interrupt_of answers.Interrupted = interrupts.Interrupted
interrupt_of other = interrupts.Slept

pub interrupt_is : (r : InterruptReply) → interrupt_of (answer_of_interrupt r) ≡ r
unfolding interrupt_of
interrupt_is interrupts.Slept = refl
interrupt_is (interrupts.Left ns) = refl
interrupt_is interrupts.Interrupted = refl

-- an expiry: its last word tells whether there was room for its signal, and whether it counted
pub trigger_of : ℕ → ℕ → List ℕ → ObjectEntry
trigger_of generation reading word =
    if is_key (word ∷ []) (codes "full") then object_entries.Overflow generation reading
    else object_entries.Trigger generation reading (counted_of word)

trigger_is : (generation reading : ℕ) (counted : Bool)
    → trigger_of generation reading (counted_word counted) ≡ object_entries.Trigger generation reading counted
unfolding trigger_of
trigger_is generation reading true = rw ((counted_read true).0) refl
trigger_is generation reading false = rw ((counted_read false).0) refl

overflow_is : (generation reading : ℕ) → trigger_of generation reading (codes "full") ≡ object_entries.Overflow generation reading
unfolding trigger_of
overflow_is generation reading = refl

pub object_entry_of : List (List ℕ) → ObjectEntry
object_entry_of ws =
    if is_key ws (codes "settime") then object_entries.Settime (number 1 ws) (number 2 ws) (number 3 ws) (number 4 ws) (armed_of (nth 5 ws))
    (settime_of (answer_of (after 6 ws)))
    else if is_key ws (codes "trigger") then trigger_of (number 1 ws) (number 2 ws) (nth 3 ws)
    else if is_key ws (codes "accept") then object_entries.Accept (number 1 ws) (armed_of (nth 2 ws)) (accept_of (answer_of (after 3 ws)))
    else if is_key ws (codes "read") then object_entries.Read (number 1 ws) (armed_of (nth 2 ws)) (read_of (answer_of (after 3 ws)))
    else if is_key ws (codes "sleep") then object_entries.Sleep (number 1 ws) (number 2 ws) (number 3 ws) (armed_of (nth 4 ws)) (sleep_of (answer_of (after 5 ws)))
    else if is_key ws (codes "interrupt") then object_entries.Interrupt (number 1 ws) (interrupt_of (answer_of (after 2 ws)))
    else object_entries.Gettime (number 1 ws) (armed_of (nth 2 ws)) (number 3 ws) (number 4 ws)

pub object_entry_read : AreReadBack object_entry_of object_entry_words object_entry_numbers
unfolding object_entry_of
object_entry_read (object_entries.Settime flags value interval reading arm reply) h =
    rw (value_again flags h.0, value_again value h.1.0, value_again interval h.1.1.0, value_again reading h.1.1.1.0)
    (rw ((armed_read arm h.1.1.1.1.0).0, (answer_read (answer_of_settime reply) h.1.1.1.1.1).0, settime_is reply)
    (rw (word_decimal flags h.0, word_decimal value h.1.0, word_decimal interval h.1.1.0, word_decimal reading h.1.1.1.0)
    (rw ((armed_read arm h.1.1.1.1.0).1) (refl, (answer_read (answer_of_settime reply) h.1.1.1.1.1).1))))
object_entry_read (object_entries.Trigger generation reading counted) h =
    rw (value_again generation h.0, value_again reading h.1.0, trigger_is generation reading counted, word_decimal generation h.0)
    (rw (word_decimal reading h.1.0, (counted_read counted).1) (refl, refl))
object_entry_read (object_entries.Overflow generation reading) h =
    rw (value_again generation h.0, value_again reading h.1.0, overflow_is generation reading, word_decimal generation h.0)
    (rw (word_decimal reading h.1.0) (refl, refl))
object_entry_read (object_entries.Accept reading arm reply) h =
    rw (value_again reading h.0, (armed_read arm h.1.0).0, (answer_read (answer_of_accept reply) h.1.1).0, accept_is reply)
    (rw (word_decimal reading h.0, (armed_read arm h.1.0).1) (refl, (answer_read (answer_of_accept reply) h.1.1).1))
object_entry_read (object_entries.Read reading arm reply) h =
    rw (value_again reading h.0, (armed_read arm h.1.0).0, (answer_read (answer_of_read reply) h.1.1).0, read_is reply)
    (rw (word_decimal reading h.0, (armed_read arm h.1.0).1) (refl, (answer_read (answer_of_read reply) h.1.1).1))
object_entry_read (object_entries.Sleep flags time reading arm reply) h =
    rw (value_again flags h.0, value_again time h.1.0, value_again reading h.1.1.0, (armed_read arm h.1.1.1.0).0)
    (rw ((answer_read (answer_of_sleep reply) h.1.1.1.1).0, sleep_is reply, word_decimal flags h.0, word_decimal time h.1.0, word_decimal reading h.1.1.0)
    (rw ((armed_read arm h.1.1.1.0).1) (refl, (answer_read (answer_of_sleep reply) h.1.1.1.1).1)))
object_entry_read (object_entries.Interrupt reading reply) h =
    rw (value_again reading h.0, (answer_read (answer_of_interrupt reply) h.1).0, interrupt_is reply, word_decimal reading h.0)
    (refl, (answer_read (answer_of_interrupt reply) h.1).1)
object_entry_read (object_entries.Gettime reading arm left interval) h =
    rw (value_again reading h.0, (armed_read arm h.1.0).0, value_again left h.1.1.0, value_again interval h.1.1.1.0)
    (rw (word_decimal reading h.0, (armed_read arm h.1.0).1, word_decimal left h.1.1.0, word_decimal interval h.1.1.1.0) (refl, refl))
