-- A reading as the words of the clock's cell.
use Rattle.std.specs.Prelude.{ℕ, List, [], ◌∷◌, slice_index}
use Rattle.ktime.specs.Readings.{ClockReading}

-- the words of a reading
abbrev pub cell_words : ClockReading → List ℕ
cell_words r = r.stamp ∷ r.mono ∷ r.real ∷ r.boot ∷ r.changes ∷ []

-- the reading that words show
abbrev pub reading_in : List ℕ → ClockReading
reading_in ws = record { stamp = slice_index ws 0; mono = slice_index ws 1; real = slice_index ws 2; boot = slice_index ws 3; changes = slice_index ws 4 }
