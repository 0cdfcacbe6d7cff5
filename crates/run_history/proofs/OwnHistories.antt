-- Each timer's lines show its part of the order of all entries.
use Rattle.std.proofs.Common.{◌≡◌, ℕ, ◌+◌, true, false, nat_eq, if◌then◌else◌, List, [], ◌∷◌, map, refl, ap, ◌∙◌}
use Rattle.record_text.specs.declared.record.ClockLine.{ClockLine}
use Rattle.record_text.specs.declared.record.TimerLine.{TimerLine}
use Rattle.run_history.specs.Actions.{also}
use Rattle.run_history.specs.Histories.{entry_shown, history_from, history_of, lines_of_timer}
use Rattle.seq_timer.specs.Histories as histories
use Rattle.seq_timer.specs.Systems.{entries_of}
use Rattle.seq_timer.specs.declared.event.EventBy.TheVariants as events
use Rattle.seq_timer.specs.declared.event.Reply.TheVariants as replies
use Rattle.seq_timer.specs.declared.system.SystemEntry.{SystemEntry}
use Rattle.run_history.specs.Witnesses.{IsOneHistory, Move, OfBase, OfRise, OfTimer, Shown, TimersList, Witness, entries_in, entry_of_move, entry_of_shown, is_owner, line_of_timer, moves_from, moves_on, owner_of}

-- the entry of a timer that is shown, as one of its own history; of a base and of a counter there is none
abbrev pub entry_in : List ClockLine → Shown → histories.Entry
entry_in clock (OfTimer t entry) = entry_shown clock entry
entry_in clock (OfBase b event) = record { event = events.Cancel; reply = replies.Cancel 0 }
entry_in clock (OfRise k) = record { event = events.Cancel; reply = replies.Cancel 0 }

abbrev pub own_entry : List ClockLine → Move → histories.Entry
own_entry clock m = entry_in clock m.shown

one_entry : (clock : List ClockLine) (t : ℕ) (shown : Shown) (es : List SystemEntry)
    → entries_of t (entry_of_shown clock shown ∷ es) ≡ also (is_owner (owner_of shown) (TimersList t)) (entry_in clock shown) (entries_of t es)
one_entry clock t (OfTimer u entry) es =
    elim (nat_eq u t) as (λ b. (if b then entry_shown clock entry ∷ entries_of t es else entries_of t es) ≡ also b (entry_shown clock entry)
    (entries_of t es)) [
      | true ↦ refl
      | false ↦ refl
    ]
one_entry clock t (OfBase b event) es = refl
one_entry clock t (OfRise k) es = refl

-- a timer's entries are what its moves show
pub entries_on : (clock : List ClockLine) (t : ℕ) (ms : List Move)
    → entries_of t (map (entry_of_move clock) ms) ≡ map (own_entry clock) (moves_on (TimersList t) ms)
entries_on clock t [] = refl
entries_on clock t (m ∷ ms) =
    let rest = entries_of t (map (entry_of_move clock) ms) in
    one_entry clock t m.shown (map (entry_of_move clock) ms)
    ∙ elim (is_owner (owner_of m.shown) (TimersList t)) as (λ b. also b (own_entry clock m) rest ≡ map (own_entry clock) (also b m (moves_on
    (TimersList t) ms))) [
      | true ↦ ap (λ xs. own_entry clock m ∷ xs) (entries_on clock t ms)
      | false ↦ entries_on clock t ms
    ]

-- and a timer's lines show its history
pub history_shown : (clock : List ClockLine) (t b : ℕ) (lines : List TimerLine)
    → map (own_entry clock) (moves_from b (map (line_of_timer t) lines)) ≡ history_from clock lines
history_shown clock t b [] = refl
history_shown clock t b (l ∷ lines) = ap (λ xs. entry_shown clock l.entry ∷ xs) (history_shown clock t (b + 1) lines)

module _ (w : Witness) (one : IsOneHistory w) where
  -- law: each timer's lines show its part of the order
  pub own_history : (t : ℕ) → entries_of t (entries_in w) ≡ history_of w.run t
  own_history t = entries_on w.run.clock t w.moves ∙ ap (map (own_entry w.run.clock)) (one.all (TimersList t))
      ∙ history_shown w.run.clock t 0 (lines_of_timer w.run t)
