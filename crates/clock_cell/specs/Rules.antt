-- The rule of a clock's cell: what its words and its passes have to do with one list of writes.
use Rattle.std.specs.Prelude.{◌≡◌, ℕ, false, List, [], ◌∷◌, length, map, All}
use mathlib.Core.Option.{some}
use lib.ListN.{get_elem?}
use Rattle.ktime.specs.Clocks.{at_stamp, AreAccepted}
use Rattle.ktime.specs.declared.write.Write.{Write}
use Rattle.pass_names.specs.declared.PassId.{PassId}
use Rattle.pass_names.specs.Counts.{one_if, total, count}
use Rattle.pass_names.specs.Names.{IsPassTree}
use Rattle.pass_names.specs.Passes.{Begins, entries, GoesOn, within, is_place}
use Rattle.clock_cell.specs.declared.view.ClockView.{ClockView}
use Rattle.clock_cell.specs.Views.{reading_after}
use Rattle.clock_cell.specs.Words.{cell_words}

-- a pass's name and the names that it answers for
abbrev pub clock_pass_id : ClockView → PassId
clock_pass_id v = v.pass.id

-- how many places of this kind a pass has of its own
abbrev pub clock_places : ℕ → ℕ → ClockView → ℕ
clock_places i k v = count (is_place i k) v.pass.mine

-- what a pass knows is true of the clock's writes
pub record ClockAgrees (log : List Write) (v : ClockView) : Type 0 where
  pub seen : GoesOn v.pass.seen (log ∷ [])
  pub heard : All (λ ws. Begins ws log) v.heard
  -- of a pass that is gone nothing is left
  pub gone : v.pass.id.live ≡ false → v.pass.mine ≡ []

-- There is one list of writes, which all passes have seen beginnings of, and the cell shows the clock after it.
pub record ClockInvariant (words : List ℕ) (views : List ClockView) : Type 0 where
  pub log : List Write
  pub shows : words ≡ cell_words (reading_after log)
  pub legal : AreAccepted (at_stamp 0) log
  pub each_view : (j : ℕ) (v : ClockView) → get_elem? views j ≡ some v → ClockAgrees log v
  pub tree : IsPassTree (map clock_pass_id views)
  -- each write is one pass's own, once
  pub tally : (i k : ℕ) → total (clock_places i k) views ≡ one_if (within k (length (entries i (log ∷ []))))
