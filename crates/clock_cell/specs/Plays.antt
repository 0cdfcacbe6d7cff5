-- What each step on a clock's cell tells the caller, and how views are cut and put together.
use Rattle.std.specs.Prelude.{◌≡◌, ℕ, ◌+◌, true, List, [], ◌∷◌, slice_index}
use Rattle.ktime.specs.Clocks.{at_stamp, AreAccepted, IsAccepted}
use Rattle.ktime.specs.declared.write.Write.{Write}
use Rattle.pass_names.specs.Names.{gone_pass_id}
use Rattle.pass_names.specs.Passes.{Looks, Adds}
use Rattle.clock_cell.specs.declared.view.ClockView.{ClockView}
use Rattle.clock_cell.specs.Views.{reading_after, writes, seen_reading, KnowsClock, Hears}
use Rattle.clock_cell.specs.Words.{cell_words}

-- what a pass is like between calls
pub record IsRestingView (v : ClockView) : Type 0 where
  pub live : v.pass.id.live ≡ true
  pub one : v.pass.seen ≡ writes v ∷ []
  pub legal : AreAccepted (at_stamp 0) (writes v)
  -- once it has looked
  pub known : v.heard ≡ [] → KnowsClock v

-- the words show the clock as the pass has seen it
pub record ShowsSeen (old : ClockView) (words : List ℕ) (new : ClockView) : Type 0 where
  pub shows : words ≡ cell_words (seen_reading new)
  pub hears : Hears old new
  pub rests : IsRestingView new

-- what a load tells
pub record Loaded (old : ClockView) (words : List ℕ) (new : ClockView) : Type 0 where
  pub looks : Looks old.pass new.pass
  pub sees : ShowsSeen old words new

-- what an exchange tells that made this write
pub record MadeWrite (w : Write) (old : ClockView) (words : List ℕ) (new : ClockView) : Type 0 where
  pub adds : Adds old.pass new.pass 0 (w ∷ [])
  pub accepted : IsAccepted (reading_after adds.before) w
  pub sees : ShowsSeen old words new

-- what an exchange tells: it left the words, or counted one write more
pub record Exchanged (w : Write) (old : ClockView) (before after : List ℕ) (new : ClockView) : Type 0 where
  pub missed : after ≡ before → Loaded old after new
  pub made : slice_index after 0 ≡ slice_index before 0 + 1 → MadeWrite w old after new

-- a note of what a pass has seen, which is no pass
abbrev pub clock_note_of : ClockView → ClockView
clock_note_of v = record { pass = record { id = gone_pass_id; seen = v.pass.seen; mine = [] }; heard = v.heard }

-- what is left of a pass that was taken in
abbrev pub gone_clock_view : ClockView
gone_clock_view = record { pass = record { id = gone_pass_id; seen = []; mine = [] }; heard = [] }
