-- What a pass of a clock knows.
use Rattle.std.specs.Prelude.{◌≡◌, nat_lt, if◌then◌else◌, List, [], ◌∷◌, ◌++◌, length, All, Result, IfOk, OnErr}
use Rattle.atomic_table.specs.Seated.{TableId}
use Rattle.ktime.specs.Readings.{ClockReading}
use Rattle.ktime.specs.Clocks.{at_stamp, clock_after, AreAccepted, IsAccepted, IsRefusedAs}
use Rattle.ktime.specs.declared.write.Write.{Write}
use Rattle.ktime.specs.declared.write.ClockFault.{ClockFault}
use Rattle.pass_names.specs.Names.{IsLast, after_retire}
use Rattle.pass_names.specs.Passes.{Begins, entries, HasEach, Looks, Adds, first_pass, splitter, split_off}
use Rattle.clock_cell.specs.declared.view.ClockView.{ClockView}

-- a pass of a clock, and what it knows
pub record PassOfClock : Type 0 where
  pub clock : TableId
  pub knows : ClockView

-- the pass is one of this clock
abbrev pub IsPassOfClock : TableId → PassOfClock → Type 0
IsPassOfClock clock p = p.clock ≡ clock

-- the clock after these writes, the first of which was made at its start
abbrev pub reading_after : List Write → ClockReading
reading_after ws = clock_after (at_stamp 0) ws

-- the writes that a pass has seen
abbrev pub writes : ClockView → List Write
writes v = entries 0 v.pass.seen

-- the clock as a pass has seen it last
abbrev pub seen_reading : ClockView → ClockReading
seen_reading v = reading_after (writes v)

-- What is known of what a pass knows.
pub record KnowsClock (v : ClockView) : Type 0 where
  -- it knows of the clock's writes and of no other history
  pub one : v.pass.seen ≡ writes v ∷ []
  -- the clock took each of the writes
  pub legal : AreAccepted (at_stamp 0) (writes v)
  -- the last pass has made each write, each once, and has seen them all
  pub all_entries : IsLast v.pass.id → HasEach v.pass.seen v.pass.mine

-- what the pass has seen goes on from all that it had been told of
pub record Hears (old new : ClockView) : Type 0 where
  pub begins : All (λ ws. Begins ws (writes new)) old.heard
  pub none : new.heard ≡ []

-- The write stands last in what the pass has then seen, and the reading is the clock after it. Its place is the reading's stamp.
pub record AcceptsWrite (w : Write) (old new : ClockView) (r : ClockReading) : Type 0 where
  pub adds : Adds old.pass new.pass 0 (w ∷ [])
  pub accepted : IsAccepted (reading_after adds.before) w
  pub shows : r ≡ seen_reading new
  pub count : r.stamp ≡ length (writes new)
  pub place : new.pass.mine ≡ old.pass.mine ++ (0, r.stamp) ∷ []

-- no write was added, and the clock as the pass has seen it last doesn't take this one
pub record RefusesWrite (w : Write) (old new : ClockView) (result : Result ClockReading ClockFault) : Type 0 where
  pub looks : Looks old.pass new.pass
  pub cause : IsRefusedAs (seen_reading new) w result

-- what a write answers: it was accepted or refused at the end of what the pass has then seen
pub record AnswersWrite (w : Write) (old new : ClockView) (result : Result ClockReading ClockFault) : Type 0 where
  pub ok : IfOk result (λ r. AcceptsWrite w old new r)
  pub err : OnErr result (RefusesWrite w old new result)
  pub hears : Hears old new
  pub known : KnowsClock new

-- both lists begin one list of writes
pub record AreOfOne (xs ys : List Write) : Type 0 where
  pub all : List Write
  pub first : Begins xs all
  pub second : Begins ys all

-- the longer one of two lists
abbrev pub longer : List Write → List Write → List Write
longer xs ys = if nat_lt (length xs) (length ys) then ys else xs

-- what a pass knows that has seen these writes
abbrev pub having_read : List Write → ClockView → ClockView
having_read ws v = record { pass = record v.pass { seen = ws ∷ [] }; heard = [] }

-- the first pass of a clock
abbrev pub first_clock_view : ClockView
first_clock_view = record { pass = first_pass 1; heard = [] }

-- after a pass was split off
abbrev pub split_clock_view : ClockView → ClockView
split_clock_view v = record v { pass = splitter v.pass }

-- the pass that was split off
abbrev pub new_clock_view : ClockView → ClockView
new_clock_view v = record { pass = split_off v.pass; heard = v.heard }

-- what two passes have seen and were told of
abbrev pub all_heard : ClockView → ClockView → List (List Write)
all_heard v w = writes v ∷ writes w ∷ v.heard ++ w.heard

-- a pass that was told of another
abbrev pub told_clock_view : ClockView → ClockView → ClockView
told_clock_view v w = record { pass = record v.pass { seen = longer (writes v) (writes w) ∷ [] }; heard = all_heard v w }

-- a pass that has taken in another
abbrev pub joined_clock_view : ClockView → ClockView → ClockView
joined_clock_view v w = record {
  pass = record { id = after_retire v.pass.id w.pass.id; seen = longer (writes v) (writes w) ∷ []; mine = v.pass.mine ++ w.pass.mine };
  heard = all_heard v w;
}
