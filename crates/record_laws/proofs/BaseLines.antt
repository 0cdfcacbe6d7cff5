-- A base's lines show its part of the order of all entries.
use Rattle.std.proofs.Common.{◌≡◌, ℕ, ◌+◌, true, false, nat_eq, if◌then◌else◌, List, [], ◌∷◌, map, refl, sym, ap, ◌∙◌}
use Rattle.seq_timer.specs.Systems.{shifts_of}
use Rattle.seq_timer.specs.declared.standing.BaseEvent.{BaseEvent}
use Rattle.seq_timer.specs.declared.standing.BaseEvent.TheVariants as shifts
use Rattle.record_text.specs.declared.record.BaseLine.{BaseLine}
use Rattle.record_text.specs.declared.record.ClockLine.{ClockLine}
use Rattle.script_text.specs.declared.script.Script.{Script}
use Rattle.run_history.specs.Actions.{also}
use Rattle.run_history.specs.Histories.{lines_of_base}
use Rattle.run_history.specs.Runs.{Ending, IsEnding, witness_of}
use Rattle.run_history.specs.Witnesses.{BasesList, Move, OfBase, OfRise, OfTimer, Shown, entry_of_move, line_of_base, moves_from, moves_on}
use Rattle.run_history.proofs.Run.{joined_from}

-- the event that a base's line shows
abbrev event_in : Shown → BaseEvent
event_in (OfTimer t entry) = shifts.Online
event_in (OfBase b event) = event
event_in (OfRise k) = shifts.Online

shifts_in : (clock : List ClockLine) (b : ℕ) (ms : List Move)
    → shifts_of b (map (entry_of_move clock) ms) ≡ map (λ m. event_in m.shown) (moves_on (BasesList b) ms)
shifts_in clock b [] = refl
shifts_in clock b (m ∷ ms) = here (shifts_in clock b ms) m.shown
  where
    here : shifts_of b (map (entry_of_move clock) ms) ≡ map (λ n. event_in n.shown) (moves_on (BasesList b) ms) → (shown : Shown)
        → shifts_of b (map (entry_of_move clock) (record m { shown = shown } ∷ ms))
        ≡ map (λ n. event_in n.shown) (moves_on (BasesList b) (record m { shown = shown } ∷ ms))
    here rest (OfTimer t entry) = rest
    here rest (OfRise k) = rest
    here rest (OfBase c event) =
        elim (nat_eq c b) as (λ x. (if x then event ∷ shifts_of b (map (entry_of_move clock) ms) else shifts_of b (map (entry_of_move clock) ms))
        ≡ map (λ (n : Move). event_in n.shown) (also x (record m { shown = OfBase c event }) (moves_on (BasesList b) ms))) [
          | true ↦ ap (λ zs. event ∷ zs) rest
          | false ↦ rest
        ]

events_from : (b k : ℕ) (lines : List BaseLine) → map (λ m. event_in m.shown) (moves_from k (map (line_of_base b) lines)) ≡ map (λ l. l.event) lines
events_from b k [] = refl
events_from b k (line ∷ lines) = ap (λ zs. line.event ∷ zs) (events_from b (k + 1) lines)

-- law: so they do in a run
pub shows_shifts : (s : Script) (e : Ending) → IsEnding s e → (b : ℕ) → map (λ line. line.event) (lines_of_base e.run b) ≡ shifts_of b e.order
shows_shifts s e ends b =
    let joined = joined_from s e ends in
    sym (events_from b 0 (lines_of_base e.run b)) ∙ ap (map (λ (m : Move). event_in m.shown)) (sym (joined.one.all (BasesList b)))
    ∙ sym (shifts_in e.run.clock b (witness_of s e).moves) ∙ ap (shifts_of b) joined.entries
