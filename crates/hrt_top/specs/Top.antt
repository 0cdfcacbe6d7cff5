-- What each outcome of the program says of what was read and written.
use Rattle.std.specs.Prelude.{◌≡◌, ◌⊎◌, ℕ, List, Some, None, IfSome, ⊤}
use Rattle.std.specs.declared.option.Option.{Option}
use Rattle.std.specs.Io.KnownBytes.{IsAtEnd}
use Rattle.byte_streams.specs.Streams.{GrowsBy, AddsPrefix}
use Rattle.hrt_top.specs.Transfer.{IsRead}
use Rattle.hrt_top.specs.Engine.{IsScript, IsRecordText, IsRefusalText, IsAnswerText, IsSummaryText}
use Rattle.hrt_top.specs.declared.command.Request.{Request}
use Rattle.hrt_top.specs.declared.command.Request.TheVariants.{Run}
use Rattle.hrt_top.specs.declared.status.Status.{Status}
use Rattle.hrt_top.specs.declared.status.Status.TheVariants as statuses

-- what the words asked for, by the outcome
abbrev pub IsAskedFor : Option Request → Status → Type 0
IsAskedFor asked statuses.Ok = asked ≡ None → ⊥
IsAskedFor asked statuses.Usage = asked ≡ None
IsAskedFor asked statuses.Refused = asked ≡ Some Run
IsAskedFor asked statuses.ReadFault = asked ≡ Some Run
IsAskedFor asked statuses.WriteFault = asked ≡ None → ⊥
IsAskedFor asked statuses.OutOfMemory = ⊤

-- a script was read to the source's end, and the text of a record that fits it was written
pub record HasRecorded (left left_now taken taken_now : Option (List ℕ)) : Type 0 where
  pub bytes : List ℕ
  pub text : List ℕ
  pub all : IfSome left (λ given. bytes ≡ given)
  pub end : IsAtEnd left_now
  pub fits : IsRecordText bytes text
  pub written : GrowsBy taken taken_now text

-- bytes that are refused were read, and the line that tells why was written
pub record HasRefused (left left_now taken taken_now : Option (List ℕ)) : Type 0 where
  pub bytes : List ℕ
  pub text : List ℕ
  pub read : IsRead left left_now bytes
  pub refusal : IsRefusalText bytes text
  pub written : GrowsBy taken taken_now text

-- bytes were read, and a prefix of the text that answers them was written
pub record HasStopped (left left_now taken taken_now : Option (List ℕ)) : Type 0 where
  pub bytes : List ℕ
  pub text : List ℕ
  pub read : IsRead left left_now bytes
  pub answer : IsAnswerText bytes text
  pub written : AddsPrefix taken taken_now text

-- the summary of a record that fits the script that this seed makes was written
pub record HasSummed (seed lanes calls : ℕ) (taken taken_now : Option (List ℕ)) : Type 0 where
  pub text : List ℕ
  pub summary : IsSummaryText seed lanes calls text
  pub written : GrowsBy taken taken_now text

-- a prefix of such a summary was written
pub record HasSummedInPart (seed lanes calls : ℕ) (taken taken_now : Option (List ℕ)) : Type 0 where
  pub text : List ℕ
  pub summary : IsSummaryText seed lanes calls text
  pub written : AddsPrefix taken taken_now text

-- the outcomes that stand to bytes where neither stream fails
pub record MustAnswer (bytes : List ℕ) (status : Status) : Type 0 where
  pub script : IsScript bytes → (status ≡ statuses.Ok) ⊎ (status ≡ statuses.OutOfMemory)
  pub other : (IsScript bytes → ⊥) → (status ≡ statuses.Refused) ⊎ (status ≡ statuses.OutOfMemory)
