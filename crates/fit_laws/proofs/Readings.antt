-- Readings of the clock among all moves: each has the writes before what its call's lane had seen, and none behind an entry of its call; none reads a write
-- of a call that began no earlier, and none reads less than a call whose first moment its lane had seen.
use Rattle.std.proofs.Common.{◌≡◌, ◌<◌, ◌≤◌, ℕ, ◌+◌, zero, suc, true, Some, List, [], ◌∷◌, length, take, arith, ap, ◌∙◌, subst}
use Rattle.std.specs.List.{slice_get}
use Rattle.std.specs.Prelude.{MatchBool}
use Rattle.std.proofs.Math.Logic.{⊎_elim}
use Rattle.std.proofs.lemmas.Bool.{cases_lt}
use Rattle.std.proofs.lemmas.List.{take-map}
use Rattle.std.proofs.lemmas.Option.{same_Some}
use Rattle.record_text.specs.declared.record.Answer.{Answer}
use Rattle.record_text.specs.declared.record.Label.{Label}
use Rattle.script_text.specs.declared.script.Call.{Call}
use Rattle.run_history.specs.Calls.{reads_clock}
use Rattle.run_history.specs.Fits.{FitsIn, FitsInTurn, FitsLane, HasRead, ReadsInTurn, Seen, unseen}
use Rattle.run_history.specs.Histories.{answers_of}
use Rattle.run_history.specs.Order.{CallInRound, calls_of, made_by}
use Rattle.run_history.specs.Truths.{IsMoment}
use Rattle.run_history.specs.Witnesses.{CountersList, IsOneHistory, Move, TimersList, Witness, owner_of, timer_along, writes_along}
use Rattle.fit_laws.specs.Readings.{HadSeen, HasEntryAt, HasWriteAt, TakesReading}
use Rattle.fit_laws.proofs.OwnParts.{count_moves, on_here, on_rises, own_rises}
use Rattle.fit_laws.proofs.OwnPoints.{before_there, stamp_then}
use Rattle.fit_laws.proofs.Moments.{IsLineOf, none_yet, own_here, rises_counted, seen_more, writes_rise}

-- ---- a call in its lane's turn

-- a call of a lane fits in its turn, and its lane had seen so many moves before it
record ComesInTurn (w : Witness) (lane index from : ℕ) (call : Call) : Type 0 where
  answer : Answer
  before : Seen
  after : Seen
  seen : from ≤ before.moves
  fits : FitsInTurn w (record { lane = lane; call = index }) call answer before after

module _ (w : Witness) (lane : ℕ) where
  -- what a lane has seen it has seen before each call to come
  comes_later : (start k index from : ℕ) (before : Seen) (ps : List CallInRound) (given : List Answer) (p : CallInRound)
      → FitsLane w lane start before ps given → from ≤ before.moves → start + k ≡ index → slice_get ps k ≡ Some p → ComesInTurn w lane index from p.call
  comes_later start k index from before [] given p fits seen is there = absurd (cc)
  comes_later start k index from before (q ∷ ps) [] p fits seen is there = absurd fits
  comes_later start zero index from before (q ∷ ps) (a ∷ more) p fits seen is there =
      subst (λ n. ComesInTurn w lane n from p.call) (none start ∙ is)
      (subst (λ (x : CallInRound). ComesInTurn w lane start from x.call) (same_Some q p there)
      (record { answer = a; before = before; after = fits.0; seen = seen; fits = fits.1 }))
    where
      none : (n : ℕ) → n ≡ n + 0
      none n = omega arith
  comes_later start (suc k) index from before (q ∷ ps) (a ∷ more) p fits seen is there =
      let rise = seen_more fits.1.0 in
      comes_later (start + 1) k index from fits.0 ps more p fits.2 (omega (arith, seen, rise)) (omega (arith, is)) there

  -- and so what an earlier call had seen at its last moment
  comes_behind : (start j k earlier index : ℕ) (before : Seen) (ps : List CallInRound) (given : List Answer) (p : CallInRound)
      → FitsLane w lane start before ps given → start + j ≡ earlier → start + k ≡ index → j < k → slice_get ps k ≡ Some p
      → ComesInTurn w lane index (w.traces (record { lane = lane; call = earlier })).last p.call
  comes_behind start j k earlier index before [] given p fits first is less there = absurd (cc)
  comes_behind start j k earlier index before (q ∷ ps) [] p fits first is less there = absurd fits
  comes_behind start j zero earlier index before (q ∷ ps) (a ∷ more) p fits first is less there = absurd (omega (arith, less))
  comes_behind start zero (suc k) earlier index before (q ∷ ps) (a ∷ more) p fits first is less there =
      subst (λ n. ComesInTurn w lane index (w.traces (record { lane = lane; call = n })).last p.call) (none start ∙ first)
      (comes_later (start + 1) k index (w.traces (record { lane = lane; call = start })).last fits.0 ps more p fits.2 fits.1.0.move_steps.1
      (omega (arith, is)) there)
    where
      none : (n : ℕ) → n ≡ n + 0
      none n = omega arith
  comes_behind start (suc j) (suc k) earlier index before (q ∷ ps) (a ∷ more) p fits first is less there =
      comes_behind (start + 1) j k earlier index fits.0 ps more p fits.2 (omega (arith, first)) (omega (arith, is)) (omega (arith, less)) there

-- a call that reads the clock has read it
has_read : (w : Witness) (c : Label) (call : Call) (from : ℕ) → reads_clock call ≡ true → ReadsInTurn w c call from → HasRead w c from
has_read w c call from reads read = subst (λ b. MatchBool b (HasRead w c from) Unit) reads read

-- ---- where a write stands

module _ (w : Witness) (history : IsOneHistory w) where
  -- before a write's place stand all writes of lower numbers, and no others
  before_write : (place number : ℕ) → HasWriteAt w place number → writes_along w place + 1 ≡ number
  before_write place number write =
      omega (arith, rises_counted w 0 place, before_there w history place write.move (CountersList 0) write.there (ap owner_of write.is), write.count)

  -- behind it stands that write too
  behind_write : (place number n : ℕ) → HasWriteAt w place number → place < n → number ≤ writes_along w n
  behind_write place number n write less =
      let o = CountersList 0 in
      let one = on_here o place w.moves write.move write.there (ap owner_of write.is) in
      let rise = writes_rise w (suc place) n (omega (arith, less)) in
      omega (arith, before_write place number write, rises_counted w 0 place, rises_counted w 0 (suc place), one, rise)

-- an entry of a call stands behind each moment at which the call had made none
entry_behind : (w : Witness) (c : Label) (place n : ℕ) → HasEntryAt w c place → IsMoment w c [] n → n ≤ place
entry_behind w c place n entry begins = ⊎_elim
    (λ (less : place < n).
    let rise = own_rises c w.moves (suc place) n (omega (arith, less)) in
    let here = own_here c place w.moves entry.move entry.there entry.label in
    absurd (omega (
      arith,
      rise,
      here,
      begins.so_many,
      ap (made_by c) (take-map (λ (m : Move). m.label) n w.moves) ∙ count_moves c (take n w.moves),
    )))
    (λ (more : n ≤ place). more)
    (cases_lt place n)

-- ---- what each reading has

-- law: a reading has each write that stands before what its call's lane had seen
pub reads_what_was_seen : (w : Witness) → FitsIn w → (c : Label) → TakesReading w.script c → (seen write number : ℕ) → HadSeen w c seen
    → HasWriteAt w write number → write ≤ seen → number ≤ (w.traces c).at
reads_what_was_seen w f c takes seen write number had written order =
    let turn = comes_behind w c.lane 0 had.earlier c.call had.earlier c.call unseen (calls_of w.script c.lane) (answers_of w.run c.lane) takes.made
    (f.calls c.lane) (omega arith) (omega arith) had.before takes.there in
    let read = has_read w c takes.made.call turn.before.moves takes.reads turn.fits.1 in
    let has = behind_write w f.history write number read.moment written (omega (arith, order, had.seen, turn.seen, read.behind)) in
    omega (arith, has, read.writes)

-- law: it has no write that stands at or behind an entry of its call
pub reads_before_entries : (w : Witness) → FitsIn w → (c : Label) → TakesReading w.script c → (entry write number : ℕ) → HasEntryAt w c entry
    → HasWriteAt w write number → entry ≤ write → (w.traces c).at < number
reads_before_entries w f c takes entry write number made written order =
    let turn = comes_later w c.lane 0 c.call c.call 0 unseen (calls_of w.script c.lane) (answers_of w.run c.lane) takes.made
    (f.calls c.lane) (omega arith) (omega arith) takes.there in
    let read = has_read w c takes.made.call turn.before.moves takes.reads turn.fits.1 in
    let behind = entry_behind w c entry (w.traces c).first made turn.fits.0.begins in
    let rise = writes_rise w read.moment write (omega (arith, read.no_later, behind, order)) in
    omega (arith, rise, read.writes, before_write w f.history write number written)

-- ---- the readings of two calls

module _ (w : Witness) (history : IsOneHistory w) where
  -- law: a call began before each moment at which a timer had an entry of it
  pub began_before : length w.run.timers ≡ length w.script.timers → (c : Label) (t k n stamp : ℕ) → IsLineOf w (TimersList t) k c
      → IsMoment w c [] (w.traces c).first → (timer_along w n t).stamp ≡ stamp → k < stamp → (w.traces c).first < n
  began_before timers c t k n stamp line begins seen reached = ⊎_elim
      (λ (less : (w.traces c).first < n). less)
      (λ (more : n ≤ (w.traces c).first). absurd (omega (
        arith,
        reached,
        seen,
        stamp_then w history timers n t,
        on_rises (TimersList t) w.moves n (w.traces c).first more,
        none_yet w history (TimersList t) c k (w.traces c).first line begins,
      )))
      (cases_lt (w.traces c).first n)

  -- law: no call reads a write of a call that began no earlier
  pub reads_no_later : (c d : Label) (from k : ℕ) → HasRead w c from → IsLineOf w (CountersList 0) k d → IsMoment w d [] (w.traces d).first
      → (w.traces c).first ≤ (w.traces d).first → (w.traces c).at ≤ k
  reads_no_later c d from k read line begins order =
      let rise = writes_rise w read.moment (w.traces d).first (omega (arith, read.no_later, order)) in
      omega (arith, read.writes, rise, rises_counted w 0 (w.traces d).first, none_yet w history (CountersList 0) d k (w.traces d).first line begins)

-- law: no call reads less than a call whose first moment its lane had seen
pub reads_no_less : (w : Witness) (c d : Label) (from seen : ℕ) → HasRead w c from → HasRead w d seen → (w.traces c).first ≤ seen
    → (w.traces c).at ≤ (w.traces d).at
reads_no_less w c d from seen early late order =
    let rise = writes_rise w early.moment late.moment (omega (arith, early.no_later, late.behind, order)) in
    omega (arith, early.writes, late.writes, rise)
