-- Whether a base is on line, in any order of a record's entries: it is as after so many of its own lines.
use Rattle.std.proofs.Common.{◌≡◌, ℕ, true, false, nat_eq, if◌then◌else◌, List, [], ◌∷◌, length, map, take, refl, sym, ap, ◌∙◌}
use Rattle.std.proofs.lemmas.List.{take-map}
use Rattle.seq_timer.proofs.Systems.{after_entries-shifts_of}
use Rattle.seq_timer.specs.Standings.{first_standing, standing_after_all}
use Rattle.seq_timer.specs.Systems.{first_system, openings, shifts_of}
use Rattle.seq_timer.specs.declared.standing.BaseEvent.{BaseEvent}
use Rattle.seq_timer.specs.declared.standing.BaseEvent.TheVariants as shifts
use Rattle.seq_timer.specs.declared.system.SystemEntry.{SystemEntry}
use Rattle.record_text.specs.declared.record.ClockLine.{ClockLine}
use Rattle.script_text.specs.Declarations.{declareds_of, terms_of}
use Rattle.run_history.specs.Actions.{also}
use Rattle.run_history.specs.Witnesses.{BasesList, IsOneHistory, Move, OfBase, OfRise, OfTimer, Shown, Witness, entries_in, entry_of_move, entry_of_shown, is_owner, lines_at, moves_from, moves_on, owner_of, standing_along}
use Rattle.fit_laws.proofs.OwnPoints.{lists_in}
use Rattle.fit_laws.proofs.OwnParts.{on_take}

-- the event of a base that is shown; of a timer and of a counter there is none
abbrev pub event_in : Shown → BaseEvent
event_in (OfBase b event) = event
event_in (OfTimer t entry) = shifts.Online
event_in (OfRise k) = shifts.Online

one_event : (clock : List ClockLine) (b : ℕ) (shown : Shown) (es : List SystemEntry)
    → shifts_of b (entry_of_shown clock shown ∷ es) ≡ also (is_owner (owner_of shown) (BasesList b)) (event_in shown) (shifts_of b es)
one_event clock b (OfBase c event) es =
    elim (nat_eq c b) as (λ q. (if q then event ∷ shifts_of b es else shifts_of b es) ≡ also q event (shifts_of b es)) [
      | true ↦ refl
      | false ↦ refl
    ]
one_event clock b (OfTimer t entry) es = refl
one_event clock b (OfRise k) es = refl

-- a base's events are what its moves show
events_on : (clock : List ClockLine) (b : ℕ) (ms : List Move)
    → shifts_of b (map (entry_of_move clock) ms) ≡ map (λ m. event_in m.shown) (moves_on (BasesList b) ms)
events_on clock b [] = refl
events_on clock b (m ∷ ms) =
    let rest = shifts_of b (map (entry_of_move clock) ms) in
    one_event clock b m.shown (map (entry_of_move clock) ms)
    ∙ elim (is_owner (owner_of m.shown) (BasesList b)) as (λ q. also q (event_in m.shown) rest ≡ map (λ m. event_in m.shown) (also q m (moves_on
    (BasesList b) ms))) [
      | true ↦ ap (λ xs. event_in m.shown ∷ xs) (events_on clock b ms)
      | false ↦ events_on clock b ms
    ]

-- how many entries a base has among the first so many of all
abbrev pub shifted_by : Witness → ℕ → ℕ → ℕ
shifted_by w n b = length (moves_on (BasesList b) (take n w.moves))

-- law: it is on line, or off line, as after so many of its lines
pub standing_then : (w : Witness) → IsOneHistory w → (n b : ℕ)
    → standing_along w n b
    ≡ standing_after_all first_standing (map (λ m. event_in m.shown) (take (shifted_by w n b) (moves_from 0 (lines_at (lists_in w) (BasesList b)))))
standing_then w one n b =
    after_entries-shifts_of (first_system (openings (declareds_of w.script) (terms_of w.script))) b (take n (entries_in w))
    ∙ ap (λ es. standing_after_all first_standing (shifts_of b es)) (take-map (entry_of_move w.run.clock) n w.moves)
    ∙ ap (standing_after_all first_standing) (events_on w.run.clock b (take n w.moves)
    ∙ ap (map (λ m. event_in m.shown)) (sym (on_take (BasesList b) n w.moves) ∙ ap (take (shifted_by w n b)) (one.all (BasesList b))))
