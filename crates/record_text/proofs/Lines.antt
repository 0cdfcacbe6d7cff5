-- The lines of a record are read back from their text.
use Rattle.std.proofs.Common.{◌≡◌, ◌++◌, ◌∷◌, [], List, ℕ, true, map, ap, sym, refl, ◌∙◌, ◌+◌, if◌then◌else◌, codes}
use Rattle.std.specs.Fmt.{decimal}
use Rattle.std.specs.List.{AllByRecursion}
use Rattle.std.proofs.lemmas.List.{append_cancel_right}
use Rattle.record_text.specs.Text.{RecordLine, Heading, OfClock, OfBase, OfTimer, OfLook, OfObject, OfSkip, OfCall, End, join_words, lines_text, line_words, write_ns, shift_words, entry_words, told_words, object_entry_words}
use Rattle.record_text.specs.Numbers.{AreMachineNumbers, numbers_of}
use Rattle.record_text.proofs.Words.{are_words, parts, words_again, line_again}
use Rattle.std.proofs.lemmas.Bool.{and_parts}
use Rattle.record_text.specs.declared.record.Entry.{Entry}
use Rattle.record_text.specs.declared.record.Label.{Label}
use Rattle.record_text.specs.declared.version.Version.{Version}
use Rattle.record_text.specs.declared.version.Version.TheVariants as versions
use Rattle.record_text.proofs.Spelling.{value, value_again, word_decimal, nth, number, after, is_key, version_of, version_read, write_of, write_read}
use Rattle.record_text.proofs.EntriesAndAnswers.{IsReadBack, IsReadable, shift_of, shift_read, entry_of, entry_read, told_of, told_read, answer_of, answer_read, object_entry_of, object_entry_read}

abbrev label_at : ℕ → List (List ℕ) → Label
label_at n ws = record { lane = number n ws; call = number (n + 1) ws }

line_of : Version → List (List ℕ) → RecordLine
line_of v ws =
    if is_key ws (codes "record") then Heading
    else if is_key ws (codes "clock") then OfClock (number 1 ws)
    (record {
      label = label_at 2 ws;
      write = write_of (nth 4 ws) (number 5 ws);
      mono = number 6 ws;
      real = number 7 ws;
      boot =
          number 8 ws;
      changes = number 9 ws;
    })
    else if is_key ws (codes "base") then OfBase (number 1 ws) (number 2 ws)
    (record { label = label_at 3 ws; event = shift_of (after 5 ws) })
    else if is_key ws (codes "timer") then OfTimer (number 1 ws) (number 2 ws) (label_at 3 ws) (entry_of v (after 5 ws))
    else if is_key ws (codes "look") then OfLook (number 1 ws) (number 2 ws) (record { label = label_at 3 ws; reply = told_of (after 5 ws) })
    else if is_key ws (codes "object") then OfObject (number 1 ws) (number 2 ws) (label_at 3 ws) (object_entry_of (after 5 ws))
    else if is_key ws (codes "skip") then OfSkip (number 1 ws) (number 2 ws) (record { label = label_at 3 ws; generation = number 5 ws })
    else if is_key ws (codes "call") then OfCall (number 1 ws) (number 2 ws) (answer_of (after 3 ws))
    else End

-- a line is read back that begins with the numbers of its list and its item and with the call that made it, where it is from the rest
head_read : (make : ℕ → ℕ → Label → RecordLine) (list n : ℕ) (label : Label) (rest : List (List ℕ)) (more : List ℕ) {l : RecordLine}
    → AreMachineNumbers (list ∷ n ∷ label.lane ∷ label.call ∷ more) → make list n label ≡ l → are_words rest ≡ true
    → (make (value (decimal list)) (value (decimal n)) (record { lane = value (decimal label.lane); call = value (decimal label.call) }) ≡ l)
    × (are_words (decimal list ∷ decimal n ∷ decimal label.lane ∷ decimal label.call ∷ rest) ≡ true)
head_read make list n label rest more h made words =
    rw (value_again list h.0, value_again n h.1.0, value_again label.lane h.1.1.0, value_again label.call h.1.1.1.0)
    (rw (word_decimal list h.0, word_decimal n h.1.0, word_decimal label.lane h.1.1.0, word_decimal label.call h.1.1.1.0) (made, words))

-- this is so of a line's entry, where it is a line of one
abbrev pub LineHas : (Entry → Type 0) → RecordLine → Type 0
LineHas Is (OfTimer timer number label entry) = Is entry
LineHas Is other = Unit {0}

words_read : (v : Version) (l : RecordLine) → AreMachineNumbers (numbers_of l) → LineHas (IsReadable v) l
    → IsReadBack (line_of v) l (line_words v l)
unfolding line_of
words_read v Heading h p = rw ((version_read v).1) (refl, refl)
words_read v (OfClock n w) h p =
    rw (value_again n h.0, value_again w.label.lane h.1.0, value_again w.label.call h.1.1.0, value_again (write_ns w.write) h.1.1.1.0)
    (rw ((write_read w.write).0, value_again w.mono h.1.1.1.1.0, value_again w.real h.1.1.1.1.1.0, value_again w.boot h.1.1.1.1.1.1.0)
    (rw (value_again w.changes h.1.1.1.1.1.1.1.0, word_decimal n h.0, word_decimal w.label.lane h.1.0)
    (rw (word_decimal w.label.call h.1.1.0, word_decimal (write_ns w.write) h.1.1.1.0, (write_read w.write).1)
    (rw (word_decimal w.mono h.1.1.1.1.0, word_decimal w.real h.1.1.1.1.1.0, word_decimal w.boot h.1.1.1.1.1.1.0)
    (rw (word_decimal w.changes h.1.1.1.1.1.1.1.0) (refl, refl))))))
words_read v (OfBase base n line) h p =
    let read = shift_read line.event h.1.1.1.1 in
    head_read (λ i m by. OfBase i m (record { label = by; event = shift_of (shift_words line.event) })) base n line.label
    (shift_words line.event) _ h
    (ap (λ event. OfBase base n (record { label = line.label; event = event })) read.0) read.1
words_read v (OfTimer timer n label entry) h p =
    let read = entry_read v entry h.1.1.1.1 p in
    head_read (λ i m by. OfTimer i m by (entry_of v (entry_words v entry))) timer n label (entry_words v entry) _ h
    (ap (OfTimer timer n label) read.0) read.1
words_read v (OfLook timer n look) h p =
    let read = told_read look.reply h.1.1.1.1 in
    head_read (λ i m by. OfLook i m (record { label = by; reply = told_of (told_words look.reply) })) timer n look.label (told_words look.reply) _ h
    (ap (λ reply. OfLook timer n (record { label = look.label; reply = reply })) read.0) read.1
words_read v (OfObject object n label entry) h p =
    let read = object_entry_read entry h.1.1.1.1 in
    head_read (λ i m by. OfObject i m by (object_entry_of (object_entry_words entry))) object n label (object_entry_words entry) _ h
    (ap (OfObject object n label) read.0) read.1
words_read v (OfSkip object n skip) h p =
    head_read (λ i m by. OfSkip i m (record { label = by; generation = value (decimal skip.generation) })) object n skip.label
    (decimal skip.generation ∷ []) (skip.generation ∷ []) h
    (ap (λ g. OfSkip object n (record { label = skip.label; generation = g })) (value_again skip.generation h.1.1.1.1.0))
    (rw (word_decimal skip.generation h.1.1.1.1.0) refl)
words_read v (OfCall lane call answer) h p =
    rw (value_again lane h.0, value_again call h.1.0, (answer_read answer h.1.1).0, word_decimal lane h.0, word_decimal call h.1.0)
    (refl, (answer_read answer h.1.1).1)
words_read v End h p = (refl, refl)

abbrev HasWords : List (List ℕ) → Type 0
HasWords [] = ⊥
HasWords (w ∷ ws) = Unit {0}

each_has_words : (v : Version) (l : RecordLine) → HasWords (line_words v l)
each_has_words v Heading = tt
each_has_words v (OfClock n w) = tt
each_has_words v (OfBase base n line) = tt
each_has_words v (OfTimer timer n label entry) = tt
each_has_words v (OfLook timer n look) = tt
each_has_words v (OfObject object n label entry) = tt
each_has_words v (OfSkip object n skip) = tt
each_has_words v (OfCall lane call answer) = tt
each_has_words v End = tt

joined_again : (ws : List (List ℕ)) → HasWords ws → are_words ws ≡ true → parts 32 (join_words ws) ≡ ws
joined_again [] has h = absurd has
joined_again (w ∷ ws) has h = words_again w ws (and_parts _ _ h).0 (and_parts _ _ h).1

read_line : Version → List ℕ → RecordLine
read_line v bytes = line_of v (parts 32 bytes)

line_read : (v : Version) (l : RecordLine) → AreMachineNumbers (numbers_of l) → LineHas (IsReadable v) l
    → read_line v (join_words (line_words v l)) ≡ l
unfolding read_line
line_read v l h p = ap (line_of v) (joined_again (line_words v l) (each_has_words v l) (words_read v l h p).1) ∙ (words_read v l h p).0

-- an end of the text is read as one line more
lines_read : (v : Version) (ls : List RecordLine) → AllByRecursion (λ l. AreMachineNumbers (numbers_of l)) ls
    → AllByRecursion (LineHas (IsReadable v)) ls → map (read_line v) (parts 10 (lines_text v ls)) ≡ ls ++ read_line v [] ∷ []
lines_read v [] h p = refl
lines_read v (l ∷ ls) h p =
    ap (λ ps. map (read_line v) ps) (line_again (line_words v l) (lines_text v ls) (words_read v l h.0 p.0).1)
    ∙ ap (λ x. x ∷ map (read_line v) (parts 10 (lines_text v ls))) (line_read v l h.0 p.0)
    ∙ ap (λ r. l ∷ r) (lines_read v ls h.1 p.1)

pub lines_from_text : (v : Version) (ls ms : List RecordLine) → AllByRecursion (λ l. AreMachineNumbers (numbers_of l)) ls
    → AllByRecursion (λ l. AreMachineNumbers (numbers_of l)) ms → AllByRecursion (LineHas (IsReadable v)) ls
    → AllByRecursion (LineHas (IsReadable v)) ms → lines_text v ls ≡ lines_text v ms → ls ≡ ms
lines_from_text v ls ms h k p q e =
    append_cancel_right ls ms (read_line v [] ∷ [])
    (sym (lines_read v ls h p) ∙ ap (λ text. map (read_line v) (parts 10 text)) e ∙ lines_read v ms k q)

-- ---- the version of a text

-- the second word of the first of these lines
version_in : List (List ℕ) → Version
version_in [] = versions.One
version_in (line ∷ lines) = version_of (nth 1 (parts 32 line))

heading_read : (v : Version) (ls : List RecordLine) → version_in (parts 10 (lines_text v (Heading ∷ ls))) ≡ v
unfolding version_in
heading_read v ls =
    let words = (words_read v Heading tt tt).1 in
    ap version_in (line_again (line_words v Heading) (lines_text v ls) words)
    ∙ ap (λ ws. version_of (nth 1 ws)) (joined_again (line_words v Heading) tt words) ∙ (version_read v).0

pub version_from_text : (v w : Version) (ls ms : List RecordLine) → lines_text v (Heading ∷ ls) ≡ lines_text w (Heading ∷ ms) → v ≡ w
version_from_text v w ls ms e = sym (heading_read v ls) ∙ ap (λ text. version_in (parts 10 text)) e ∙ heading_read w ms
