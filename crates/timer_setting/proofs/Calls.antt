-- Histories of an object: how long they get, and how they go on.
use Rattle.std.proofs.Common.{arith, refl, ◌≡◌, ◌≤◌, ℕ, ◌+◌, List, [], ◌∷◌, ◌++◌, length}
use Rattle.timer_setting.specs.StepTables.{StepTable, AnsweredCall, AreCalls, CountsCalls, after_calls}

module _ {S C R : Type 0} where
  -- there are no more entries than the limit
  pub AreCalls-length : (table : StepTable S C R) (entries most : S → ℕ) → CountsCalls table entries most
      → (s : S) (es : List (AnsweredCall C R)) → entries s ≤ most s → AreCalls table s es → entries s + length es ≤ most s
  AreCalls-length table entries most counts s [] within calls = omega (arith, within)
  AreCalls-length table entries most counts s (e ∷ es) within calls =
      let room = counts.room s e.call calls.0 in
      let counted = counts.counted s e.call calls.0 in
      let kept = counts.kept s e.call in
      let rest = AreCalls-length table entries most counts (table.next s e.call) es (omega (arith, room, counted, kept)) calls.2 in
      omega (arith, rest, counted, kept)

  -- calls go on by those that the state after them allows
  pub AreCalls-append : (table : StepTable S C R) (s : S) (es more : List (AnsweredCall C R))
      → AreCalls table s es → AreCalls table (after_calls table s es) more → AreCalls table s (es ++ more)
  AreCalls-append table s [] more calls rest = rest
  AreCalls-append table s (e ∷ es) more calls rest = (calls.0, calls.1, AreCalls-append table (table.next s e.call) es more calls.2 rest)

  -- and so does the state
  pub after_calls-append : (table : StepTable S C R) (s : S) (es more : List (AnsweredCall C R))
      → after_calls table s (es ++ more) ≡ after_calls table (after_calls table s es) more
  after_calls-append table s [] more = refl
  after_calls-append table s (e ∷ es) more = after_calls-append table (table.next s e.call) es more
