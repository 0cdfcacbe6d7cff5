-- Receipts of timers' entries, and what a log of them has.
use Rattle.std.specs.Prelude.{ℕ, ◌+◌, ◌-◌, List, [], ◌∷◌, ◌++◌}
use Rattle.seq_timer.specs.Histories as seq
use Rattle.base_row.specs.declared.log.Noted.TheVariants as noteds
use Rattle.base_row.specs.declared.log.Receipt.{Receipt}

-- what a log has: its receipts in order, and for how many more there is room
pub record LogOf (A : Type 0) : Type 0 where
  pub receipts : List A
  pub spare : ℕ

-- the receipts of entries that stand behind so many of a timer
abbrev pub receipts_of : ℕ → ℕ → List seq.Entry → List Receipt
receipts_of t n [] = []
receipts_of t n (e ∷ es) = record { timer = t; number = n + 1; event = e.event; reply = noteds.Entry e.reply } ∷ receipts_of t (n + 1) es

-- a log with one receipt more, in the room that was made
abbrev pub kept : LogOf Receipt → Receipt → LogOf Receipt
kept l r = record { receipts = l.receipts ++ r ∷ []; spare = l.spare - 1 }

-- where receipts go, with these more in turn
abbrev pub all_pushed : {A : Type 0} → (A → Receipt → A) → A → List Receipt → A
all_pushed put s [] = s
all_pushed put s (r ∷ rs) = all_pushed put (put s r) rs
