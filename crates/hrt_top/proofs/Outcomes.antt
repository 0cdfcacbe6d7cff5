-- Lemmas on the outcomes of the program.
use Rattle.script_text.specs.declared.refusal.Cause.TheVariants.{TooLong}
use Rattle.script_text.specs.Scripts.{lines_of}
use Rattle.script_text.specs.Drafts.{empty}
use Rattle.std.specs.Prelude.{Err}
use Rattle.std.proofs.lemmas.Bool.{lt-ltb}
use Rattle.hrt_top.specs.Top.{HasRefused}
use Rattle.script_text.specs.Refusals.{IsRefused, refusal_text, script_from, script_in}
use Rattle.script_text.specs.declared.refusal.Refused.{Refused}
use Rattle.std.proofs.Common.{◌≡◌, ◌∙◌, ◌<◌, ◌⊎◌, ◌++◌, ℕ, List, Some, None, IfSome, ap, sym, subst, refl, append-nil, length, inl, inr, arith, if◌then◌else◌}
use Rattle.std.proofs.lemmas.List.{length-append}
use Rattle.std.specs.declared.option.Option.{Option}
use Rattle.std.specs.Io.KnownBytes.{IsAtEnd, Consumes}
use Rattle.hrt_top.specs.Transfer.{IsRead, most_bytes}
use Rattle.hrt_top.specs.Engine.{IsScript, IsRecordText, IsRefusalText}
use Rattle.byte_streams.specs.Streams.{GrowsBy}
use Rattle.hrt_top.specs.Top.{HasRecorded, MustAnswer}
use Rattle.hrt_top.specs.declared.status.Status.TheVariants as statuses
use Rattle.hrt_top.proofs.Form.{IsScript-short, is_script}

-- what was read of a script was read to the source's end
pub read_to_end : (left now : Option (List ℕ)) (bytes : List ℕ) → IsRead left now bytes → IsScript bytes → IsAtEnd now
read_to_end left now bytes read form = at_end read.whole where
  at_end : IsAtEnd now ⊎ (most_bytes < length bytes) → IsAtEnd now
  at_end (inl end) = end
  at_end (inr long) = absurd (let short = IsScript-short bytes form in omega arith)

-- the bytes that were taken up to the end are all that were left
pub all_read : (left now : Option (List ℕ)) (bytes : List ℕ) → Consumes left now bytes → IsAtEnd now → IfSome left (λ given. bytes ≡ given)
all_read None now bytes front end = tt
all_read (Some given) None bytes front end = absurd front
all_read (Some given) (Some rest) bytes front end = sym (front ∙ ap (λ l. bytes ++ l) end ∙ append-nil bytes)

-- a record for a script that was read
pub recorded : (left now taken taken_now : Option (List ℕ)) (bytes text : List ℕ) → IsRead left now bytes → IsRecordText bytes text
    → GrowsBy taken taken_now text → HasRecorded left now taken taken_now
recorded left now taken taken_now bytes text read answer written =
    let end = read_to_end left now bytes read (is_script bytes text answer) in record {
      bytes = bytes;
      text = text;
      all = all_read left now bytes read.front end;
      end = end;
      fits = answer;
      written = written;
    }

-- what is refused after all that a script may have were read, is refused by its length
same_refusal : (given : List ℕ) (now : Option (List ℕ)) (bytes : List ℕ) (r : Refused) → IsRead (Some given) now bytes → IsRefused bytes r → IsRefused given r
unfolding script_in
same_refusal given None bytes r read refused = absurd read.front
same_refusal given (Some rest) bytes r read refused = by_whole read.whole where
  by_whole : IsAtEnd (Some rest) ⊎ (most_bytes < length bytes) → IsRefused given r
  by_whole (inl end) = subst (λ bs. IsRefused bs r) (sym (read.front ∙ ap (λ l. bytes ++ l) end ∙ append-nil bytes)) refused
  by_whole (inr long) =
      let sizes = ap length read.front ∙ length-append bytes rest in
      subst (λ b. (if b then Err (record { line = 0; cause = TooLong }) else script_from 1 empty (lines_of given)) ≡ Err r)
      (sym (lt-ltb most_bytes (length given) (omega (arith, sizes))))
      (subst (λ b. (if b then Err (record { line = 0; cause = TooLong }) else script_from 1 empty (lines_of bytes)) ≡ Err r)
      (lt-ltb most_bytes (length bytes) long) refused)

-- where all that was left is a script, what was read is
pub refused_whole : (given : List ℕ) (now : Option (List ℕ)) (bytes : List ℕ) → IsRead (Some given) now bytes → IsScript given → IsScript bytes
refused_whole given None bytes read form = absurd read.front
refused_whole given (Some rest) bytes read form = by_whole read.whole where
  by_whole : IsAtEnd (Some rest) ⊎ (most_bytes < length bytes) → IsScript bytes
  by_whole (inl end) = subst IsScript (read.front ∙ ap (λ l. bytes ++ l) end ∙ append-nil bytes) form
  by_whole (inr long) =
      let short = IsScript-short given form in
      let sizes = ap length read.front ∙ length-append bytes rest in absurd (omega arith)

-- where a record of what was read is given, all that was left is a script
pub must_succeed : (left now : Option (List ℕ)) (bytes text : List ℕ) → IsRead left now bytes → IsRecordText bytes text
    → IfSome left (λ given. MustAnswer given statuses.Ok)
must_succeed None now bytes text read answer = tt
must_succeed (Some given) now bytes text read answer =
    let form = is_script bytes text answer in
    let same = all_read (Some given) now bytes read.front (read_to_end (Some given) now bytes read form) in record {
      script = λ _. inl refl;
      other = λ none. absurd (none (subst IsScript same form));
    }

-- where what was read is refused, all that was left is no script
pub must_refuse : (left now : Option (List ℕ)) (bytes text : List ℕ) → IsRead left now bytes → IsRefusalText bytes text
    → IfSome left (λ given. MustAnswer given statuses.Refused)
must_refuse None now bytes text read answer = tt
must_refuse (Some given) now bytes text read answer = record {
  script = λ form. absurd (answer.unread (refused_whole given now bytes read form));
  other = λ _. inl refl;
}

-- bytes that were refused, to their end or past what a script may have, are all refused so
pub refused_given : (given : List ℕ) (now taken taken_now : Option (List ℕ)) → HasRefused (Some given) now taken taken_now
    → (r : Refused) × IsRefused given r × GrowsBy taken taken_now (refusal_text r)
refused_given given now taken taken_now refused = (
  refused.refusal.refused,
  same_refusal given now refused.bytes refused.refusal.refused refused.read refused.refusal.cause,
  subst (GrowsBy taken taken_now) refused.refusal.spelled refused.written,
)

-- memory may run out whatever the bytes are
pub may_run_out : (left : Option (List ℕ)) → IfSome left (λ given. MustAnswer given statuses.OutOfMemory)
may_run_out None = tt
may_run_out (Some given) = record { script = λ _. inr refl; other = λ _. inr refl }
