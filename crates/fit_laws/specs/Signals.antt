-- What a record says of signals, by its lines and answers alone: which were sent, which answers name them, and when.
use Rattle.std.specs.Prelude.{ℕ, ◌≡◌, ◌+◌, true, false, Some, List, [], ◌∷◌}
use Rattle.std.specs.List.{AllByRecursion, slice_get}
use Rattle.record_text.specs.declared.record.Answer.{Answer}
use Rattle.record_text.specs.declared.record.Answer.TheVariants as answers
use Rattle.record_text.specs.declared.record.Label.{Label}
use Rattle.record_text.specs.declared.record.ObjectEntry.{ObjectEntry}
use Rattle.record_text.specs.declared.record.ObjectEntry.TheVariants as entries
use Rattle.record_text.specs.declared.record.ObjectLine.{ObjectLine}
use Rattle.record_text.specs.declared.record.RunRecord.{RunRecord}
use Rattle.script_text.specs.Declarations.{kind_of}
use Rattle.script_text.specs.declared.script.Script.{Script}
use Rattle.signal_queue.specs.declared.signal.Signal.{Signal}
use Rattle.run_history.specs.Histories.{answers_of}
use Rattle.run_history.specs.Objects.{lines_of_object}
use Rattle.run_history.specs.Order.{is_before}
use Rattle.run_history.specs.Signals.{SendsSignals}

-- by this entry an expiry counted
abbrev pub IsCounted : ObjectEntry → Type 0
IsCounted (entries.Trigger generation reading true) = Unit
IsCounted entry = ⊥

-- by this entry an expiry found no room for its signal
abbrev pub IsOverflow : ObjectEntry → Type 0
IsOverflow (entries.Overflow generation reading) = Unit
IsOverflow entry = ⊥

-- the entry of this number of an object, the first being 1, is such a one, and the call made it
pub record MadeEntry (r : RunRecord) (c : Label) (i number : ℕ) (IsSuch : ObjectEntry → Type 0) : Type 0 where
  pub before : ℕ
  pub count : before + 1 ≡ number
  pub line : ObjectLine
  pub there : slice_get (lines_of_object r i) before ≡ Some line
  pub label : line.label ≡ c
  pub such : IsSuch line.entry

-- a call sent the signal: an expiry of its queued timer counted, by the call's entry of its number
pub record Sent (s : Script) (r : RunRecord) (c : Label) (x : Signal) : Type 0 where
  pub queued : SendsSignals (kind_of s x.timer)
  pub made : MadeEntry r c x.timer x.number IsCounted

-- an expiry of the call found no room for its signal
abbrev pub FoundFull : RunRecord → Label → Type 0
FoundFull r c = (i : ℕ) × (number : ℕ) × MadeEntry r c i number IsOverflow

-- the call was answered so
abbrev pub WasAnswered : RunRecord → Label → Answer → Type 0
WasAnswered r c answer = slice_get (answers_of r c.lane) c.call ≡ Some answer

-- the answer names the signal: as the next one, or as stale, or as one of a timer whose history is full
abbrev pub IsNamedBy : Answer → Signal → Type 0
IsNamedBy (answers.Signal timer number overrun) x = (timer ≡ x.timer) × (number ≡ x.number)
IsNamedBy (answers.StaleSignal timer number) x = (timer ≡ x.timer) × (number ≡ x.number)
IsNamedBy (answers.SpentSignal timer number) x = (timer ≡ x.timer) × (number ≡ x.number)
IsNamedBy answer x = ⊥

-- the call's answer names the signal
abbrev pub Names : RunRecord → Label → Signal → Type 0
Names r c x = (answer : Answer) × WasAnswered r c answer × IsNamedBy answer x

-- the signal was sent by a call that was over before this one
abbrev pub SentBefore : Script → RunRecord → Label → Signal → Type 0
SentBefore s r c x = (d : Label) × Sent s r d x × (is_before s d c ≡ true)

-- or by one that didn't begin only after this one was over
abbrev pub SentNoLater : Script → RunRecord → Label → Signal → Type 0
SentNoLater s r c x = (d : Label) × Sent s r d x × (is_before s c d ≡ false)

-- it was named by a call that was over before this one
abbrev pub NamedBefore : Script → RunRecord → Label → Signal → Type 0
NamedBefore s r c x = (d : Label) × Names r d x × (is_before s d c ≡ true)

-- or by one that didn't begin only after this one was over
abbrev pub NamedNoLater : Script → RunRecord → Label → Signal → Type 0
NamedNoLater s r c x = (d : Label) × Names r d x × (is_before s c d ≡ false)

-- no signal stands twice
abbrev pub AreDistinct : List Signal → Type 0
AreDistinct [] = Unit
AreDistinct (x ∷ xs) = AllByRecursion (λ y. y ≡ x → ⊥) xs × AreDistinct xs
