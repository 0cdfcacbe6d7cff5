-- Entries that tell nothing that must be looked up: those of bases, the beginnings of turns, pushes and pops, and those of timers that aren't claims.
use Rattle.std.proofs.Common.{◌≤◌, ℕ, List, [], ◌∷◌, ◌++◌, arith, sym, subst}
use Rattle.std.specs.List.{AllByRecursion}
use Rattle.std.proofs.lemmas.List.{append-nil, append_assoc}
use Rattle.seq_timer.specs.declared.event.EventBy.{EventBy}
use Rattle.seq_timer.specs.declared.event.EventBy.TheVariants as events
use Rattle.record_text.specs.declared.record.Label.{Label}
use Rattle.run_history.specs.Actions.{Action, Began, Entered, Looked, Made, Shifted, Signalled, Skipped, Wrote}
use Rattle.run_history.specs.Starts.{Arming, SentTo, arming_actions, moves}
use Rattle.run_history.specs.Truths.{AreTrue, IsMoment, IsTrue, OfClaim}
use Rattle.run_history.specs.Witnesses.{Witness}
use Rattle.script_text.specs.declared.script.StartRequest.{StartRequest}

abbrev pub IsPlain : Action → Type 0
IsPlain (Entered timer number entry) = OfClaim entry.event ⊥
IsPlain (Began i stamp) = Unit
IsPlain (Shifted base number event) = Unit
IsPlain (Signalled counter number signal) = Unit
IsPlain action = ⊥

no_claim : (event : EventBy ℕ) (P : Type 0) → OfClaim event ⊥ → OfClaim event P
no_claim (events.Claim base reading) P plain = absurd plain
no_claim event P plain = tt

-- law: so they are true
pub plain_true : (w : Witness) (c : Label) (from to : ℕ) (before ds : List Action) → AllByRecursion IsPlain ds → from ≤ to
    → AreTrue w c from before ds to
plain_true w c from to before [] plain le = le
plain_true w c from to before (Entered timer number entry ∷ ds) plain le = (
  from,
  omega arith,
  no_claim entry.event (IsMoment w c before from) plain.0,
  plain_true w c from to (before ++ Entered timer number entry ∷ []) ds plain.1 le,
)
plain_true w c from to before (Began i stamp ∷ ds) plain le =
    (from, omega arith, tt, plain_true w c from to (before ++ Began i stamp ∷ []) ds plain.1 le)
plain_true w c from to before (Shifted base number event ∷ ds) plain le =
    (from, omega arith, tt, plain_true w c from to (before ++ Shifted base number event ∷ []) ds plain.1 le)
plain_true w c from to before (Signalled counter number signal ∷ ds) plain le =
    (from, omega arith, tt, plain_true w c from to (before ++ Signalled counter number signal ∷ []) ds plain.1 le)
plain_true w c from to before (Wrote number write ∷ ds) plain le = absurd plain.0
plain_true w c from to before (Looked timer number reply ∷ ds) plain le = absurd plain.0
plain_true w c from to before (Made i number entry ∷ ds) plain le = absurd plain.0
plain_true w c from to before (Skipped i number generation ∷ ds) plain le = absurd plain.0

-- law: and with what comes behind them, where that is true
pub plain_then : (w : Witness) (c : Label) (from n last : ℕ) (before ds : List Action) (d : Action) → AllByRecursion IsPlain ds → from ≤ n → n ≤ last
    → IsTrue w c (before ++ ds) d n → AreTrue w c from before (ds ++ d ∷ []) last
plain_then w c from n last before [] d plain le high is = (n, le, subst (λ b. IsTrue w c b d n) (append-nil before) is, high)
plain_then w c from n last before (Entered timer number entry ∷ ds) d plain le high is = (
  from,
  omega arith,
  no_claim entry.event (IsMoment w c before from) plain.0,
  plain_then w c from n last (before ++ Entered timer number entry ∷ []) ds d plain.1 le high
      (subst (λ b. IsTrue w c b d n) (sym (append_assoc before (Entered timer number entry ∷ []) ds)) is),
)
plain_then w c from n last before (Began i stamp ∷ ds) d plain le high is = (
  from,
  omega arith,
  tt,
  plain_then w c from n last (before ++ Began i stamp ∷ []) ds d plain.1 le high
      (subst (λ b. IsTrue w c b d n) (sym (append_assoc before (Began i stamp ∷ []) ds)) is),
)
plain_then w c from n last before (Shifted base number event ∷ ds) d plain le high is = (
  from,
  omega arith,
  tt,
  plain_then w c from n last (before ++ Shifted base number event ∷ []) ds d plain.1 le high
      (subst (λ b. IsTrue w c b d n) (sym (append_assoc before (Shifted base number event ∷ []) ds)) is),
)
plain_then w c from n last before (Signalled counter number signal ∷ ds) d plain le high is = (
  from,
  omega arith,
  tt,
  plain_then w c from n last (before ++ Signalled counter number signal ∷ []) ds d plain.1 le high
      (subst (λ b. IsTrue w c b d n) (sym (append_assoc before (Signalled counter number signal ∷ []) ds)) is),
)
plain_then w c from n last before (Wrote number write ∷ ds) d plain le high is = absurd plain.0
plain_then w c from n last before (Looked timer number reply ∷ ds) d plain le high is = absurd plain.0
plain_then w c from n last before (Made i number entry ∷ ds) d plain le high is = absurd plain.0
plain_then w c from n last before (Skipped i number generation ∷ ds) d plain le high is = absurd plain.0

-- a start's entries are such
pub plain_moves : (timer : ℕ) (outs : List SentTo) (ds : List Action) → AllByRecursion IsPlain ds → AllByRecursion IsPlain (moves timer outs ++ ds)
plain_moves timer [] ds plain = plain
plain_moves timer (out ∷ outs) ds plain = (tt, plain_moves timer outs ds plain)

pub plain_arms : (timer reading : ℕ) (request : StartRequest) (a : Arming) → AllByRecursion IsPlain (arming_actions timer request reading a)
plain_arms timer reading request a = plain_moves timer a.outs _ (tt, tt)
