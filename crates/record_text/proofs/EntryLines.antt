-- What holds of each entry of a record holds of each line of one; and which records are read back.
use Rattle.std.proofs.Common.{◌≡◌, ◌∷◌, [], List, ℕ, ◌+◌, map}
use Rattle.std.specs.List.{AllByRecursion}
use Rattle.record_text.specs.declared.record.ClockLine.{ClockLine}
use Rattle.record_text.specs.declared.record.BaseLine.{BaseLine}
use Rattle.record_text.specs.declared.record.Entry.{Entry}
use Rattle.record_text.specs.declared.record.Look.{Look}
use Rattle.record_text.specs.declared.record.TimerLine.{TimerLine}
use Rattle.record_text.specs.declared.record.Skip.{Skip}
use Rattle.record_text.specs.declared.record.ObjectLine.{ObjectLine}
use Rattle.record_text.specs.declared.record.Answer.{Answer}
use Rattle.record_text.specs.declared.record.RunRecord.{RunRecord}
use Rattle.record_text.specs.declared.version.Version.{Version}
use Rattle.record_text.specs.declared.version.Version.TheVariants as versions
use Rattle.record_text.specs.Numbers.{HaveNoSlack, HasNoSlack, HaveReplies, HasReplies}
use Rattle.record_text.specs.Text.{RecordLine, OfLook, OfSkip, OfCall, OfClock, OfBase, numbered, entry_and_looks, object_entry_and_skips, clock_lines, base_lines, timer_lines, object_lines, lane_lines, record_lines}
use Rattle.record_text.proofs.Lists.{All-append}
use Rattle.record_text.proofs.EntriesAndAnswers.{IsReadable}
use Rattle.record_text.proofs.Lines.{LineHas}

module _ (Is : Entry → Type 0) where
  -- it is so of each of these lines of a timer
  abbrev AreSo : List TimerLine → Type 0
  AreSo lines = AllByRecursion (λ line. Is line.entry) lines

  -- it is so of each line of items of which each is so
  numbered_plain : {X : Type 0} (IsPlain : X → Type 0) (lines : ℕ → X → List RecordLine)
      → ((n : ℕ) (x : X) → IsPlain x → AllByRecursion (LineHas Is) (lines n x))
      → (n : ℕ) (xs : List X) → AllByRecursion IsPlain xs → AllByRecursion (LineHas Is) (numbered lines n xs)
  numbered_plain IsPlain lines each n [] plain = tt
  numbered_plain IsPlain lines each n (x ∷ xs) plain =
      All-append (LineHas Is) (lines n x) (numbered lines (n + 1) xs) (each n x plain.0) (numbered_plain IsPlain lines each (n + 1) xs plain.1)

  -- items that are so whatever they are
  any_plain : {X : Type 0} (xs : List X) → AllByRecursion (λ x. Unit {0}) xs
  any_plain [] = tt
  any_plain (x ∷ xs) = (tt, any_plain xs)

  looks_plain : (timer n : ℕ) (looks : List Look) → AllByRecursion (LineHas Is) (map (OfLook timer n) looks)
  looks_plain timer n [] = tt
  looks_plain timer n (look ∷ looks) = (tt, looks_plain timer n looks)

  skips_plain : (object n : ℕ) (skips : List Skip) → AllByRecursion (LineHas Is) (map (OfSkip object n) skips)
  skips_plain object n [] = tt
  skips_plain object n (skip ∷ skips) = (tt, skips_plain object n skips)

  clock_plain : (n : ℕ) (ws : List ClockLine) → AllByRecursion (LineHas Is) (clock_lines n ws)
  clock_plain n ws = numbered_plain (λ w. Unit {0}) (λ n w. OfClock n w ∷ []) (λ n w plain. (tt, tt)) n ws (any_plain ws)

  bases_plain : (n : ℕ) (bss : List (List BaseLine)) → AllByRecursion (LineHas Is) (base_lines n bss)
  bases_plain n bss =
      numbered_plain (λ bs. Unit {0}) (λ b bs. numbered (λ m line. OfBase b m line ∷ []) 1 bs)
      (λ b bs h. numbered_plain (λ line. Unit {0}) (λ m line. OfBase b m line ∷ []) (λ m line h. (tt, tt)) 1 bs (any_plain bs))
      n bss (any_plain bss)

  timers_plain : (n : ℕ) (tss : List (List TimerLine)) → AllByRecursion AreSo tss → AllByRecursion (LineHas Is) (timer_lines n tss)
  timers_plain n tss plain =
      numbered_plain AreSo (λ i ts. numbered (entry_and_looks i) 1 ts)
      (λ i ts. numbered_plain (λ t. Is t.entry) (entry_and_looks i) (λ m t h. (h, looks_plain i m t.looks)) 1 ts) n tss plain

  objects_plain : (n : ℕ) (oss : List (List ObjectLine)) → AllByRecursion (LineHas Is) (object_lines n oss)
  objects_plain n oss =
      numbered_plain (λ os. Unit {0}) (λ i os. numbered (object_entry_and_skips i) 1 os)
      (λ i os h. numbered_plain (λ o. Unit {0}) (object_entry_and_skips i) (λ m o h. (tt, skips_plain i m o.skips)) 1 os (any_plain os))
      n oss (any_plain oss)

  lanes_plain : (n : ℕ) (lanes : List (List Answer)) → AllByRecursion (LineHas Is) (lane_lines n lanes)
  lanes_plain n lanes =
      numbered_plain (λ answers. Unit {0}) (λ l answers. numbered (λ call answer. OfCall l call answer ∷ []) 0 answers)
      (λ l answers h. numbered_plain (λ answer. Unit {0}) (λ call answer. OfCall l call answer ∷ []) (λ m answer h. (tt, tt)) 0
      answers (any_plain answers))
      n lanes (any_plain lanes)

  pub record_plain : (r : RunRecord) → AllByRecursion AreSo r.timers → AllByRecursion (LineHas Is) (record_lines r)
  record_plain r plain =
      let end = All-append (LineHas Is) (lane_lines 0 r.answers) _ (lanes_plain 0 r.answers) (tt, tt) in
      let objects = All-append (LineHas Is) (object_lines 0 r.objects) _ (objects_plain 0 r.objects) end in
      let timers = All-append (LineHas Is) (timer_lines 0 r.timers) _ (timers_plain 0 r.timers plain) objects in
      let bases = All-append (LineHas Is) (base_lines 0 r.bases) _ (bases_plain 0 r.bases) timers in
      (tt, All-append (LineHas Is) (clock_lines 1 r.clock) _ (clock_plain 1 r.clock) bases)

-- ---- a record whose entries have their replies, and no slack where its version is the first

lines_readable : (v : Version) (lines : List TimerLine) → HaveReplies lines → (v ≡ versions.One → HaveNoSlack lines)
    → AllByRecursion (λ line. IsReadable v line.entry) lines
lines_readable v [] replied plain = tt
lines_readable v (l ∷ ls) replied plain = ((replied.0, λ one. (plain one).0), lines_readable v ls replied.1 (λ one. (plain one).1))

lists_readable : (v : Version) (lists : List (List TimerLine)) → AllByRecursion HaveReplies lists → (v ≡ versions.One → AllByRecursion HaveNoSlack lists)
    → AllByRecursion (λ lines. AllByRecursion (λ line. IsReadable v line.entry) lines) lists
lists_readable v [] replied plain = tt
lists_readable v (l ∷ ls) replied plain = (lines_readable v l replied.0 (λ one. (plain one).0), lists_readable v ls replied.1 (λ one. (plain one).1))

pub record_readable : (v : Version) (r : RunRecord) → HasReplies r → (v ≡ versions.One → HasNoSlack r)
    → AllByRecursion (LineHas (IsReadable v)) (record_lines r)
record_readable v r replied plain = record_plain (IsReadable v) r (lists_readable v r.timers replied plain)
