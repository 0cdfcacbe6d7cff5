-- Where calls stand along one list: each call's part lies in its round, and along a lane the parts follow one another.
use Rattle.std.specs.List.{slice_get}
use Rattle.std.specs.Prelude.{ℕ, ◌≡◌, ◌≤◌, ◌<◌, ◌+◌, Some, List, length}
use Rattle.record_text.specs.declared.record.Label.{Label}
use Rattle.run_history.specs.Order.{IsLabel, round_of}
use Rattle.script_text.specs.declared.script.Script.{Script}

-- a call of a lane by its number
abbrev pub label_at : ℕ → ℕ → Label
label_at lane call = record { lane = lane; call = call }

-- of one list: how long it was, for each call, when the call began and when it ended; and for each round when the round began
pub record Spans : Type 0 where
  pub first : Label → ℕ
  pub last : Label → ℕ
  pub starts : ℕ → ℕ

-- each call's span lies in its round, and along a lane spans follow one another
pub record IsLedger (s : Script) (p : Spans) : Type 0 where
  pub rise : (round : ℕ) → p.starts round ≤ p.starts (round + 1)
  pub from : (c : Label) → IsLabel s c → p.starts (round_of s c) ≤ p.first c
  pub to : (c : Label) → IsLabel s c → p.last c ≤ p.starts (round_of s c + 1)
  pub order : (c : Label) → IsLabel s c → p.first c ≤ p.last c
  pub next : (lane call : ℕ) → IsLabel s (label_at lane (call + 1)) → p.last (label_at lane call) ≤ p.first (label_at lane (call + 1))

-- the list has these labels, each in its call's span
pub record IsLaid (s : Script) (labels : List Label) (p : Spans) : Type 0 where
  pub inside : (n : ℕ) (x : Label) → slice_get labels n ≡ Some x → IsLabel s x × (p.first x ≤ n) × (n < p.last x)
  pub ledger : IsLedger s p
  pub most : (c : Label) → IsLabel s c → p.last c ≤ length labels
