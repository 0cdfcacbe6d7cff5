-- A timer that is so at the moment of a call gives it one answer.
use Rattle.std.proofs.Common.{◌≡◌, ℕ, List, ap, sym, ◌∙◌, arith}
use Rattle.ktime.specs.Readings.{ClockReading}
use Rattle.seq_timer.specs.Events.{Asked}
use Rattle.seq_timer.specs.Steps.{Timer}
use Rattle.seq_timer.specs.declared.answer.CancelAnswer.{CancelAnswer}
use Rattle.seq_timer.specs.declared.answer.CancelAnswer.TheVariants as cancels
use Rattle.seq_timer.specs.declared.answer.ForwardAnswer.{ForwardAnswer}
use Rattle.seq_timer.specs.declared.answer.ForwardAnswer.TheVariants as forwards
use Rattle.hr_timers.specs.declared.answer.StartAnswer.{StartAnswer}
use Rattle.hr_timers.specs.declared.answer.StartAnswer.TheVariants as starts
use Rattle.hr_timers.specs.Calls.{CancelFits, ForwardFits, StartFits}

pub one_cancel : (t : Timer) (a b : CancelAnswer) → CancelFits t a → CancelFits t b → a ≡ b
one_cancel t (cancels.Idle n) (cancels.Idle m) p q = ap cancels.Idle (p.1 ∙ sym q.1)
one_cancel t (cancels.Idle n) (cancels.Cancelled g m) p q = let e = p.0.armed in let f = q.0 in absurd cc
one_cancel t (cancels.Idle n) (cancels.Running g m) p q = let e = p.0.running in let f = q.0 in absurd cc
one_cancel t (cancels.Cancelled g n) (cancels.Idle m) p q = let e = q.0.armed in let f = p.0 in absurd cc
one_cancel t (cancels.Cancelled g n) (cancels.Cancelled h m) p q = let e = p.0 in let f = q.0 in let k = p.3 in let l = q.3 in cc
one_cancel t (cancels.Cancelled g n) (cancels.Running h m) p q = let e = p.1 in let f = q.0 in absurd cc
one_cancel t (cancels.Running g n) (cancels.Idle m) p q = let e = q.0.running in let f = p.0 in absurd cc
one_cancel t (cancels.Running g n) (cancels.Cancelled h m) p q = let e = q.1 in let f = p.0 in absurd cc
one_cancel t (cancels.Running g n) (cancels.Running h m) p q = let e = p.0 in let f = q.0 in let k = p.1 in let l = q.1 in cc

pub one_forward : (t : Timer) (reading : ClockReading) (interval : ℕ) (a b : ForwardAnswer) → ForwardFits t reading interval a
    → ForwardFits t reading interval b
    → a ≡ b
one_forward t r i (forwards.Forwarded n moved) (forwards.Forwarded m by) p q = p.2 ∙ sym q.2
one_forward t r i (forwards.Forwarded n moved) (forwards.Spent m) p q = absurd (omega (arith, p.0, q.0))
one_forward t r i (forwards.Forwarded n moved) (forwards.Armed g m) p q = let e = p.1 in let f = q.1 in absurd cc
one_forward t r i (forwards.Spent n) (forwards.Forwarded m by) p q = absurd (omega (arith, p.0, q.0))
one_forward t r i (forwards.Spent n) (forwards.Spent m) p q = ap forwards.Spent (p.1 ∙ sym q.1)
one_forward t r i (forwards.Spent n) (forwards.Armed g m) p q = absurd (omega (arith, p.0, q.0))
one_forward t r i (forwards.Armed g n) (forwards.Forwarded m by) p q = let e = q.1 in let f = p.1 in absurd cc
one_forward t r i (forwards.Armed g n) (forwards.Spent m) p q = absurd (omega (arith, p.0, q.0))
one_forward t r i (forwards.Armed g n) (forwards.Armed h m) p q = let e = p.1 in let f = q.1 in let k = p.2 in let l = q.2 in cc

pub one_start : (t : Timer) (asked : Asked) (sent : List ℕ) (last : ℕ) (a b : StartAnswer) → StartFits t asked sent last a → StartFits t asked sent last b
    → a ≡ b
one_start t asked sent last (starts.Started w g base outs placement) (starts.Started w' g' base' outs' placement') p q = p.2 ∙ sym q.2
one_start t asked sent last (starts.Started w g base outs placement) (starts.Spent m) p q = absurd (omega (arith, p.1, q.1))
one_start t asked sent last (starts.Spent n) (starts.Started w g base outs placement) p q = absurd (omega (arith, p.1, q.1))
one_start t asked sent last (starts.Spent n) (starts.Spent m) p q = ap starts.Spent (p.2 ∙ sym q.2)
