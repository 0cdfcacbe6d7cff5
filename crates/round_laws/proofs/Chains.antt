-- Where calls stand along one list: each call's span lies in its round.
use Rattle.std.proofs.Common.{◌≡◌, ◌≤◌, ◌<◌, ℕ, ◌+◌, zero, suc, get_or, List, [], ◌∷◌, ◌++◌, length, length-append, arith, refl, ap}
use Rattle.std.proofs.lemmas.List.{get_or_default, get_or_past, get_or_push}
use Rattle.run_history.specs.Witnesses.{Trace}
use Rattle.run_history.specs.Fits.{Seen}
use Rattle.run_history.specs.Receipts.{PlacedEntry}
use Rattle.run_history.specs.Runs.{CallLog}
use Rattle.signal_queue.specs.declared.signal.Turn.{Turn}
use Rattle.lane_notes.proofs.Kept.{log_of, seen_by}
use Rattle.lane_notes.proofs.SeenMore.{IsNoLess}
use Rattle.lane_notes.specs.declared.lane.WorldPass.{WorldPass}

-- one of the lists: how much of it was seen, and where a call's span stands on it
pub record ListOf : Type 0 where
  pub seen : Seen → ℕ
  pub span : CallLog → ℕ × ℕ
  pub rises : {a b : Seen} → IsNoLess a b → seen a ≤ seen b
  pub of_log : (p q : WorldPass) (notes : List PlacedEntry) (trace : Trace) (turns : List (ℕ × Turn))
      → span (log_of p q notes trace turns) ≡ (seen (seen_by p), seen (seen_by q))

-- all entries
abbrev pub moves_list : ListOf
moves_list = record { seen = λ n. n.moves; span = λ g. g.moves; rises = λ less. less.moves; of_log = λ p q notes trace turns. refl }

-- the clock's writes
abbrev pub clock_list : ListOf
clock_list = record { seen = λ n. n.clock; span = λ g. g.clock; rises = λ less. less.clock; of_log = λ p q notes trace turns. refl }

-- ---- no less was seen

-- the same
pub no_less_same : {a : Seen} → IsNoLess a a
no_less_same = record { clock = omega arith; moves = omega arith }

-- twice no less
pub no_less_trans : {a b c : Seen} → IsNoLess a b → IsNoLess b c → IsNoLess a c
no_less_trans one two = record {
  clock = omega (arith, one.clock, two.clock);
  moves = omega (arith, one.moves, two.moves);
}

-- ---- where rounds began

-- what had been seen when a round began; of the rounds that are not over it is what has been seen now
abbrev pub start_of : ListOf → List Seen → Seen → ℕ → ℕ
start_of x past now round = x.seen (get_or past round now)

-- no less was seen when each round began than when the one before it did
abbrev pub AreUpTo : List Seen → Seen → Type 0
AreUpTo past now = (round : ℕ) → IsNoLess (get_or past round now) (get_or past (suc round) now)

-- law: when more is seen now
pub up_to_later : (past : List Seen) {now later : Seen} → IsNoLess now later → AreUpTo past now → AreUpTo past later
up_to_later [] more rise round = no_less_same
up_to_later (y ∷ []) more rise zero = no_less_trans (rise 0) more
up_to_later (y ∷ []) more rise (suc round) = no_less_same
up_to_later (y ∷ z ∷ ys) more rise zero = rise 0
up_to_later (y ∷ z ∷ ys) more rise (suc round) = up_to_later (z ∷ ys) more (λ n. rise (suc n)) round

-- one more round begins
get_pushed : (past : List Seen) (now : Seen) (round : ℕ) → get_or (past ++ now ∷ []) round now ≡ get_or past round now
get_pushed [] now zero = refl
get_pushed [] now (suc round) = refl
get_pushed (y ∷ ys) now zero = refl
get_pushed (y ∷ ys) now (suc round) = get_pushed ys now round

-- law: and when the next round begins
pub up_to_push : (past : List Seen) (now : Seen) → AreUpTo past now → AreUpTo (past ++ now ∷ []) now
up_to_push past now rise round = rw (get_pushed past now round, get_pushed past now (suc round)) (rise round)

-- a start is no less when more was seen
start_later : (x : ListOf) (past : List Seen) {now later : Seen} (round : ℕ) → IsNoLess now later → start_of x past now round ≤ start_of x past later round
start_later x [] round more = x.rises more
start_later x (y ∷ ys) zero more = omega arith
start_later x (y ∷ ys) (suc round) more = start_later x ys round more

-- ---- the spans of calls

-- a span that lies in its round, and no further than was seen
pub record LiesIn (x : ListOf) (past : List Seen) (now : Seen) (round : ℕ) (g : CallLog) : Type 0 where
  pub begun : round < length past
  pub from : start_of x past now round ≤ (x.span g).0
  pub order : (x.span g).0 ≤ (x.span g).1
  pub to : (x.span g).1 ≤ start_of x past now (round + 1)
  pub most : (x.span g).1 ≤ x.seen now

-- law: it lies there when more was seen
pub lies_later : {x : ListOf} {past : List Seen} {now later : Seen} {round : ℕ} {g : CallLog} → IsNoLess now later → LiesIn x past now round g
    → LiesIn x past later round g
lies_later {x} {past} {now} {later} {round} more lies =
    let same : start_of x past later round ≡ start_of x past now round = ap x.seen (get_or_default past round later now lies.begun) in record {
      begun = lies.begun;
      from = omega (arith, same, lies.from);
      order = lies.order;
      to = omega (arith, lies.to, start_later x past (round + 1) more);
      most = omega (arith, lies.most, x.rises more);
    }

-- law: and when one more round begins
pub lies_pushed : {x : ListOf} {past : List Seen} {now : Seen} {round : ℕ} {g : CallLog} → LiesIn x past now round g
    → LiesIn x (past ++ now ∷ []) now round g
lies_pushed {x} {past} {now} {round} lies = record {
  begun = omega (arith, lies.begun, length-append past (now ∷ []));
  from = omega (arith, lies.from, ap x.seen (get_pushed past now round));
  order = lies.order;
  to = omega (arith, lies.to, ap x.seen (get_pushed past now (round + 1)));
  most = lies.most;
}

-- law: a call in the round that began last, when its lane had seen no less than this
pub lies_new : (x : ListOf) (before : List Seen) {base : Seen} (p q : WorldPass) (notes : List PlacedEntry) (trace : Trace) (turns : List (ℕ × Turn)) → IsNoLess base (seen_by p)
    → IsNoLess (seen_by p) (seen_by q) → LiesIn x (before ++ base ∷ []) (seen_by q) (length before) (log_of p q notes trace turns)
lies_new x before {base} p q notes trace turns old new =
    let from : (x.span (log_of p q notes trace turns)).0 ≡ x.seen (seen_by p) = ap (λ n. n.0) (x.of_log p q notes trace turns) in
    let to : (x.span (log_of p q notes trace turns)).1 ≡ x.seen (seen_by q) = ap (λ n. n.1) (x.of_log p q notes trace turns) in
    record {
      begun = omega (arith, length-append before (base ∷ []));
      from = omega (arith, from, ap x.seen (get_or_push before base (seen_by q) (length before) refl), x.rises old);
      order = omega (arith, from, to, x.rises new);
      to = omega (arith, to, ap x.seen (get_or_past (before ++ base ∷ []) (length before + 1) (seen_by q) (omega (arith, length-append before (base ∷ [])))));
      most = omega (arith, to);
    }
