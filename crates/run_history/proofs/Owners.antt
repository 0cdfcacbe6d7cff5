-- Whose list a line or an entry is in: a timer's, a base's or a counter's; and how many entries of a list there are.
use Rattle.std.proofs.Common.{◌≡◌, ℕ, ◌+◌, zero, suc, Bool, true, false, nat_eq, List, [], ◌∷◌, ◌++◌, length, map, get_or, arith, refl, sym, ap, ◌∙◌, if◌then◌else◌}
use Rattle.std.proofs.lemmas.Bool.{eq-eqb, eqb-true, true≢false}
use Rattle.std.proofs.lemmas.List.{length-append}
use Rattle.seq_timer.proofs.Systems.{entries_of-append, rises_of-append, shifts_of-append}
use Rattle.seq_timer.specs.Histories as histories
use Rattle.seq_timer.specs.Systems.{entries_of, rises_of, shifts_of}
use Rattle.seq_timer.specs.declared.standing.BaseEvent.{BaseEvent}
use Rattle.seq_timer.specs.declared.system.SystemEntry.{SystemEntry}
use Rattle.seq_timer.specs.declared.system.SystemEntry.TheVariants as entries
use Rattle.record_text.specs.declared.record.BaseLine.{BaseLine}
use Rattle.record_text.specs.declared.record.ClockLine.{ClockLine}
use Rattle.record_text.specs.declared.record.ObjectLine.{ObjectLine}
use Rattle.record_text.specs.declared.record.TimerLine.{TimerLine}
use Rattle.run_history.specs.Actions.{also}
use Rattle.run_history.specs.Histories.{lines_of_base, lines_of_timer}
use Rattle.run_history.specs.Objects.{lines_of_object}
use Rattle.run_history.specs.Receipts.{count_owned, no_line}
use Rattle.run_history.specs.Signals.{SignalLine}
use Rattle.run_history.specs.Witnesses.{RunLists, BasesList, CountersList, Owner, TimersList, is_owner, line_of_base, line_of_object, line_of_signal, line_of_timer, line_of_write, lines_at, owner_of, owner_of_entry, twice}

pub owner_itself : (o : Owner) → is_owner o o ≡ true
owner_itself (TimersList t) = eq-eqb t t refl
owner_itself (BasesList b) = eq-eqb b b refl
owner_itself (CountersList k) = eq-eqb k k refl

pub owner_is : (a o : Owner) → a ≡ o → is_owner a o ≡ true
owner_is a o same = ap (λ x. is_owner x o) same ∙ owner_itself o

pub same_owner : (a o : Owner) → is_owner a o ≡ true → a ≡ o
same_owner (TimersList t) (TimersList u) is = ap (λ n. TimersList n) (eqb-true t u is)
same_owner (TimersList t) (BasesList b) is = absurd (cc)
same_owner (TimersList t) (CountersList k) is = absurd (cc)
same_owner (BasesList b) (TimersList t) is = absurd (cc)
same_owner (BasesList b) (BasesList c) is = ap (λ n. BasesList n) (eqb-true b c is)
same_owner (BasesList b) (CountersList k) is = absurd (cc)
same_owner (CountersList k) (TimersList t) is = absurd (cc)
same_owner (CountersList k) (BasesList b) is = absurd (cc)
same_owner (CountersList j) (CountersList k) is = ap (λ n. CountersList n) (eqb-true j k is)

pub other_owner : (a o : Owner) → is_owner a o ≡ false → a ≡ o → ⊥
other_owner a o not same = true≢false (sym (owner_is a o same) ∙ not)

-- each line of a list is its own
pub owner_at : (r : RunLists) (o : Owner) (n : ℕ) → owner_of (get_or (lines_at r o) n (no_line o)).shown ≡ o
owner_at r (TimersList t) n = of_timers (lines_of_timer r.run t) n
  where
    of_timers : (lines : List TimerLine) (n : ℕ) → owner_of (get_or (map (line_of_timer t) lines) n (no_line (TimersList t))).shown ≡ TimersList t
    of_timers [] n = refl
    of_timers (line ∷ lines) zero = refl
    of_timers (line ∷ lines) (suc n) = of_timers lines n
owner_at r (BasesList b) n = of_bases (lines_of_base r.run b) n
  where
    of_bases : (lines : List BaseLine) (n : ℕ) → owner_of (get_or (map (line_of_base b) lines) n (no_line (BasesList b))).shown ≡ BasesList b
    of_bases [] n = refl
    of_bases (line ∷ lines) zero = refl
    of_bases (line ∷ lines) (suc n) = of_bases lines n
owner_at r (CountersList zero) n = of_writes r.run.clock n
  where
    of_writes : (lines : List ClockLine) (n : ℕ) → owner_of (get_or (map line_of_write lines) n (no_line (CountersList 0))).shown ≡ CountersList 0
    of_writes [] n = refl
    of_writes (line ∷ lines) zero = refl
    of_writes (line ∷ lines) (suc n) = of_writes lines n
owner_at r (CountersList (suc i)) n = of_objects (lines_of_object r.run i) n
  where
    of_signals : (lines : List SignalLine) (n : ℕ)
        → owner_of (get_or (map (line_of_signal (suc i)) lines) n (no_line (CountersList (suc i)))).shown ≡ CountersList (suc i)
    of_signals [] n = refl
    of_signals (line ∷ lines) zero = refl
    of_signals (line ∷ lines) (suc n) = of_signals lines n

    of_objects : (lines : List ObjectLine) (n : ℕ)
        → owner_of (get_or (twice (map (line_of_object i) lines) ++ map (line_of_signal (suc i)) (r.signals (suc i))) n (no_line (CountersList (suc i)))).shown
        ≡ CountersList (suc i)
    of_objects [] n = of_signals (r.signals (suc i)) n
    of_objects (line ∷ lines) zero = refl
    of_objects (line ∷ lines) (suc zero) = refl
    of_objects (line ∷ lines) (suc (suc n)) = of_objects lines n

-- ---- the entries of a list

-- one more where it is one of the list
abbrev pub and_one : Bool → ℕ → ℕ
and_one true n = n + 1
and_one false n = n

pub count_none : (o : Owner) → count_owned o [] ≡ 0
count_none (TimersList t) = refl
count_none (BasesList b) = refl
count_none (CountersList k) = refl

pub count_cons : (o : Owner) (x : SystemEntry) (xs : List SystemEntry) → count_owned o (x ∷ xs) ≡ and_one (is_owner (owner_of_entry x) o) (count_owned o xs)
count_cons (TimersList t) (entries.Timer e) xs =
    elim (nat_eq e.timer t) as (λ b. length (if b then record { event = e.event; reply = e.reply } ∷ entries_of t xs else entries_of t xs)
    ≡ and_one b (length (entries_of t xs))) [
      | true ↦ omega arith
      | false ↦ refl
    ]
count_cons (TimersList t) (entries.Base c) xs = refl
count_cons (TimersList t) (entries.Rise k) xs = refl
count_cons (BasesList b) (entries.Timer e) xs = refl
count_cons (BasesList b) (entries.Base c) xs =
    elim (nat_eq c.base b) as (λ x. length (if x then c.event ∷ shifts_of b xs else shifts_of b xs) ≡ and_one x (length (shifts_of b xs))) [
      | true ↦ omega arith
      | false ↦ refl
    ]
count_cons (BasesList b) (entries.Rise k) xs = refl
count_cons (CountersList k) (entries.Timer e) xs = refl
count_cons (CountersList k) (entries.Base c) xs = refl
count_cons (CountersList k) (entries.Rise j) xs =
    elim (nat_eq j k) as (λ b. (if b then rises_of k xs + 1 else rises_of k xs) ≡ and_one b (rises_of k xs)) [
      | true ↦ refl
      | false ↦ refl
    ]

pub count-append : (o : Owner) (xs ys : List SystemEntry) → count_owned o (xs ++ ys) ≡ count_owned o xs + count_owned o ys
count-append (TimersList t) xs ys = ap length (entries_of-append t xs ys) ∙ length-append (entries_of t xs) (entries_of t ys)
count-append (BasesList b) xs ys = ap length (shifts_of-append b xs ys) ∙ length-append (shifts_of b xs) (shifts_of b ys)
count-append (CountersList k) xs ys = rises_of-append k xs ys

pub count_push : (o : Owner) (xs : List SystemEntry) (x : SystemEntry) → count_owned o (xs ++ x ∷ []) ≡ and_one (is_owner (owner_of_entry x) o) (count_owned o xs)
count_push o xs x =
    count-append o xs (x ∷ []) ∙ ap (λ n. count_owned o xs + n) (count_cons o x [] ∙ ap (and_one (is_owner (owner_of_entry x) o)) (count_none o))
    ∙ last (is_owner (owner_of_entry x) o)
  where
    last : (b : Bool) → count_owned o xs + and_one b 0 ≡ and_one b (count_owned o xs)
    last true = omega arith
    last false = omega arith

-- those of a list among these
abbrev pub entries_at : Owner → List SystemEntry → List SystemEntry
entries_at o [] = []
entries_at o (x ∷ xs) = also (is_owner (owner_of_entry x) o) x (entries_at o xs)

pub entries_at-append : (o : Owner) (xs ys : List SystemEntry) → entries_at o (xs ++ ys) ≡ entries_at o xs ++ entries_at o ys
entries_at-append o [] ys = refl
entries_at-append o (x ∷ xs) ys =
    elim (is_owner (owner_of_entry x) o) as (λ b. also b x (entries_at o (xs ++ ys)) ≡ also b x (entries_at o xs) ++ entries_at o ys) [
      | true ↦ ap (λ zs. x ∷ zs) (entries_at-append o xs ys)
      | false ↦ entries_at-append o xs ys
    ]

-- law: they are as many as are counted
pub count_is : (o : Owner) (xs : List SystemEntry) → count_owned o xs ≡ length (entries_at o xs)
count_is o [] = count_none o
count_is o (x ∷ xs) = count_cons o x xs ∙ here (is_owner (owner_of_entry x) o) (count_is o xs)
  where
    here : (b : Bool) → count_owned o xs ≡ length (entries_at o xs) → and_one b (count_owned o xs) ≡ length (also b x (entries_at o xs))
    here true rest = omega (arith, rest)
    here false rest = rest

-- an entry of a timer, and one of a base, by what its own history has
abbrev pub timers_entry : ℕ → histories.Entry → SystemEntry
timers_entry t e = entries.Timer (record { timer = t; event = e.event; reply = e.reply })

abbrev pub bases_entry : ℕ → BaseEvent → SystemEntry
bases_entry b event = entries.Base (record { base = b; event = event })

pub entries_at-timer : (t : ℕ) (xs : List SystemEntry) → entries_at (TimersList t) xs ≡ map (timers_entry t) (entries_of t xs)
entries_at-timer t [] = refl
entries_at-timer t (entries.Timer e ∷ xs) =
    elim (nat_eq e.timer t) as (λ b. nat_eq e.timer t ≡ b → also b (entries.Timer e) (entries_at (TimersList t) xs)
    ≡ map (timers_entry t) (if b then record { event = e.event; reply = e.reply } ∷ entries_of t xs else entries_of t xs)) [
      | true ↦ λ is. ap (λ n. entries.Timer (record { timer = n; event = e.event; reply = e.reply }) ∷ entries_at (TimersList t) xs) (eqb-true e.timer t is)
          ∙ ap (λ zs. entries.Timer (record { timer = t; event = e.event; reply = e.reply }) ∷ zs) (entries_at-timer t xs)
      | false ↦ λ is. entries_at-timer t xs
    ] refl
entries_at-timer t (entries.Base c ∷ xs) = entries_at-timer t xs
entries_at-timer t (entries.Rise k ∷ xs) = entries_at-timer t xs

pub entries_at-base : (b : ℕ) (xs : List SystemEntry) → entries_at (BasesList b) xs ≡ map (bases_entry b) (shifts_of b xs)
entries_at-base b [] = refl
entries_at-base b (entries.Timer e ∷ xs) = entries_at-base b xs
entries_at-base b (entries.Rise k ∷ xs) = entries_at-base b xs
entries_at-base b (entries.Base c ∷ xs) =
    elim (nat_eq c.base b) as (λ x. nat_eq c.base b ≡ x → also x (entries.Base c) (entries_at (BasesList b) xs)
    ≡ map (bases_entry b) (if x then c.event ∷ shifts_of b xs else shifts_of b xs)) [
      | true ↦ λ is. ap (λ n. entries.Base (record { base = n; event = c.event }) ∷ entries_at (BasesList b) xs) (eqb-true c.base b is)
          ∙ ap (λ zs. entries.Base (record { base = b; event = c.event }) ∷ zs) (entries_at-base b xs)
      | false ↦ λ is. entries_at-base b xs
    ] refl
