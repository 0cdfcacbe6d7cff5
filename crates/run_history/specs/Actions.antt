-- What one call did, in its order: its writes of the clock, its entries of timers, bases and objects, its pushes and pops of signals, what its callbacks were
-- told in place of entries, and the expiries that an object refused.
use Rattle.std.specs.Prelude.{ℕ, ◌+◌, Bool, true, false, nat_eq, List, [], ◌∷◌, ◌++◌}
use Rattle.ktime.specs.declared.write.Write.{Write}
use Rattle.record_text.specs.declared.record.Label.{Label}
use Rattle.record_text.specs.declared.record.Entry.{Entry}
use Rattle.record_text.specs.declared.record.CallbackReply.{CallbackReply}
use Rattle.record_text.specs.declared.record.Look.{Look}
use Rattle.record_text.specs.declared.record.TimerLine.{TimerLine}
use Rattle.record_text.specs.declared.record.ObjectEntry.{ObjectEntry}
use Rattle.record_text.specs.declared.record.ObjectLine.{ObjectLine}
use Rattle.record_text.specs.declared.record.Skip.{Skip}
use Rattle.seq_timer.specs.declared.standing.BaseEvent.{BaseEvent}
use Rattle.run_history.specs.Order.{is_label}
use Rattle.signal_queue.specs.declared.signal.Signal.{Signal}

-- one thing that a call did, with its number in its list: a write of the clock; an entry of a timer, or a look that holds after that
-- entry; the beginning of its turn of an object, behind so many entries of it; an entry of an object, or an expiry of a generation that the object refused
-- after that entry, its history being full; an entry of a base; or a signal that was pushed or popped, by the counter that rose
pub data Action : Type 0 where
  Wrote : ℕ → Write → Action
  Entered : ℕ → ℕ → Entry → Action
  Looked : ℕ → ℕ → CallbackReply → Action
  Began : ℕ → ℕ → Action
  Made : ℕ → ℕ → ObjectEntry → Action
  Skipped : ℕ → ℕ → ℕ → Action
  Shifted : ℕ → ℕ → BaseEvent → Action
  Signalled : ℕ → ℕ → Signal → Action

-- one more item where a test holds
abbrev pub also : {A : Type 0} → Bool → A → List A → List A
also true x xs = x ∷ xs
also false x xs = xs

-- the writes among these, each with its number
abbrev pub wrote : List Action → List (ℕ × Write)
wrote [] = []
wrote (Wrote number write ∷ ds) = (number, write) ∷ wrote ds
wrote (Entered timer number entry ∷ ds) = wrote ds
wrote (Looked timer number reply ∷ ds) = wrote ds
wrote (Began i stamp ∷ ds) = wrote ds
wrote (Made i number entry ∷ ds) = wrote ds
wrote (Skipped i number generation ∷ ds) = wrote ds
wrote (Shifted base number event ∷ ds) = wrote ds
wrote (Signalled counter number signal ∷ ds) = wrote ds

-- the entries of a timer among these, each with its number
abbrev pub entered : ℕ → List Action → List (ℕ × Entry)
entered t [] = []
entered t (Wrote number write ∷ ds) = entered t ds
entered t (Entered timer number entry ∷ ds) = also (nat_eq timer t) (number, entry) (entered t ds)
entered t (Looked timer number reply ∷ ds) = entered t ds
entered t (Began i stamp ∷ ds) = entered t ds
entered t (Made i number entry ∷ ds) = entered t ds
entered t (Skipped i number generation ∷ ds) = entered t ds
entered t (Shifted base number event ∷ ds) = entered t ds
entered t (Signalled counter number signal ∷ ds) = entered t ds

-- the entries of an object among these, each with its number
abbrev pub made : ℕ → List Action → List (ℕ × ObjectEntry)
made t [] = []
made t (Wrote number write ∷ ds) = made t ds
made t (Entered timer number entry ∷ ds) = made t ds
made t (Looked timer number reply ∷ ds) = made t ds
made t (Began i stamp ∷ ds) = made t ds
made t (Made i number entry ∷ ds) = also (nat_eq i t) (number, entry) (made t ds)
made t (Skipped i number generation ∷ ds) = made t ds
made t (Shifted base number event ∷ ds) = made t ds
made t (Signalled counter number signal ∷ ds) = made t ds

-- the looks at a timer among these, each with the number of the entry after which it holds
abbrev pub looked : ℕ → List Action → List (ℕ × CallbackReply)
looked t [] = []
looked t (Wrote number write ∷ ds) = looked t ds
looked t (Entered timer number entry ∷ ds) = looked t ds
looked t (Looked timer number reply ∷ ds) = also (nat_eq timer t) (number, reply) (looked t ds)
looked t (Began i stamp ∷ ds) = looked t ds
looked t (Made i number entry ∷ ds) = looked t ds
looked t (Skipped i number generation ∷ ds) = looked t ds
looked t (Shifted base number event ∷ ds) = looked t ds
looked t (Signalled counter number signal ∷ ds) = looked t ds

-- the refused expiries of an object among these, each with the number of the entry after which it came
abbrev pub skipped : ℕ → List Action → List (ℕ × ℕ)
skipped t [] = []
skipped t (Wrote number write ∷ ds) = skipped t ds
skipped t (Entered timer number entry ∷ ds) = skipped t ds
skipped t (Looked timer number reply ∷ ds) = skipped t ds
skipped t (Began i stamp ∷ ds) = skipped t ds
skipped t (Made i number entry ∷ ds) = skipped t ds
skipped t (Skipped i number generation ∷ ds) = also (nat_eq i t) (number, generation) (skipped t ds)
skipped t (Shifted base number event ∷ ds) = skipped t ds
skipped t (Signalled counter number signal ∷ ds) = skipped t ds

-- the signals of a counter's rises among these, each with its number
abbrev pub signalled : ℕ → List Action → List (ℕ × Signal)
signalled k [] = []
signalled k (Wrote number write ∷ ds) = signalled k ds
signalled k (Entered timer number entry ∷ ds) = signalled k ds
signalled k (Looked timer number reply ∷ ds) = signalled k ds
signalled k (Began i stamp ∷ ds) = signalled k ds
signalled k (Made i number entry ∷ ds) = signalled k ds
signalled k (Skipped i number generation ∷ ds) = signalled k ds
signalled k (Shifted base number event ∷ ds) = signalled k ds
signalled k (Signalled counter number signal ∷ ds) = also (nat_eq counter k) (number, signal) (signalled k ds)

-- the lines of a list that bear a label, each with its number, where the first is numbered so
abbrev pub own : {X A : Type 0} → (X → Label) → (X → A) → Label → ℕ → List X → List (ℕ × A)
own label thing c number [] = []
own label thing c number (x ∷ xs) = also (is_label c (label x)) (number, thing x) (own label thing c (number + 1) xs)

-- the looks of a label under one entry
abbrev pub looks_under : Label → ℕ → List Look → List (ℕ × CallbackReply)
looks_under c number [] = []
looks_under c number (look ∷ looks) = also (is_label c look.label) (number, look.reply) (looks_under c number looks)

-- the looks of a label under entries that are numbered from here
abbrev pub own_looks : Label → ℕ → List TimerLine → List (ℕ × CallbackReply)
own_looks c number [] = []
own_looks c number (line ∷ lines) = looks_under c number line.looks ++ own_looks c (number + 1) lines

-- the refused expiries of a label under one entry
abbrev pub skips_under : Label → ℕ → List Skip → List (ℕ × ℕ)
skips_under c number [] = []
skips_under c number (skip ∷ skips) = also (is_label c skip.label) (number, skip.generation) (skips_under c number skips)

-- the refused expiries of a label under entries that are numbered from here
abbrev pub own_skips : Label → ℕ → List ObjectLine → List (ℕ × ℕ)
own_skips c number [] = []
own_skips c number (line ∷ lines) = skips_under c number line.skips ++ own_skips c (number + 1) lines
