-- The order in which a script has its calls made, and what a number of entries of one list says of that order.
use Rattle.std.specs.Prelude.{ℕ, ◌≡◌, ◌+◌, ◌≤◌, ◌<◌, Bool, true, false, ◌&&◌, ◌||◌, nat_eq, nat_lt, List, [], ◌∷◌, ◌++◌, length, map, filter, take, drop, get_or}
use Rattle.std.specs.List.{AllByRecursion}
use Rattle.script_text.specs.declared.script.Call.{Call}
use Rattle.script_text.specs.declared.script.Round.{Round}
use Rattle.script_text.specs.declared.script.Script.{Script}
use Rattle.record_text.specs.declared.record.Label.{Label}

-- a call of a lane, with the number of its round
pub record CallInRound : Type 0 where
  pub round : ℕ
  pub call : Call

-- the calls that a lane makes in rounds that are numbered from here
abbrev pub calls_from : ℕ → ℕ → List Round → List CallInRound
calls_from lane round [] = []
calls_from lane round (r ∷ rs) =
    map (λ c. record { round = round; call = c.call }) (filter (λ c. nat_eq c.lane lane) r.calls) ++ calls_from lane (round + 1) rs

-- the calls that a lane makes, in their order
abbrev pub calls_of : Script → ℕ → List CallInRound
calls_of s lane = calls_from lane 0 s.rounds

-- the label is that of a call of the script
abbrev pub IsLabel : Script → Label → Type 0
IsLabel s l = l.call < length (calls_of s l.lane)

-- the round in which a label's call is made; past the last round where there is no such call
abbrev pub round_of : Script → Label → ℕ
round_of s l = get_or (map (λ c. c.round) (calls_of s l.lane)) l.call (length s.rounds)

-- whether a call is over before another begins: it is of an earlier round, or an earlier call of the same lane
abbrev pub is_before : Script → Label → Label → Bool
is_before s a b = nat_lt (round_of s a) (round_of s b) || (nat_eq a.lane b.lane && nat_lt a.call b.call)

-- two labels name the same call
abbrev pub is_label : Label → Label → Bool
is_label a b = nat_eq a.lane b.lane && nat_eq a.call b.call

-- a number of entries of a list is within a call's bounds: behind all that was over before the call, before all that began after it
pub record StandsWithin (s : Script) (c : Label) (n : ℕ) (labels : List Label) : Type 0 where
  pub small : n ≤ length labels
  pub before : AllByRecursion (λ x. is_before s c x ≡ false) (take n labels)
  pub behind : AllByRecursion (λ x. is_before s x c ≡ false) (drop n labels)

-- how many of these entries the call made
abbrev pub made_by : Label → List Label → ℕ
made_by c labels = length (filter (is_label c) labels)

-- within the call's bounds, at the moment at which the call has made so many entries of the list itself
pub record IsPoint (s : Script) (c : Label) (own n : ℕ) (labels : List Label) : Type 0 where
  pub within : StandsWithin s c n labels
  pub so_many : made_by c (take n labels) ≡ own

-- along a list no call stands behind one that began only after it was over
abbrev pub IsInOrder : Script → List Label → Type 0
IsInOrder s [] = Unit
IsInOrder s (x ∷ xs) = AllByRecursion (λ y. is_before s y x ≡ false) xs × IsInOrder s xs

-- numbers that never fall, from one number to another
abbrev pub NeverFall : ℕ → List ℕ → ℕ → Type 0
NeverFall from [] to = from ≤ to
NeverFall from (n ∷ ns) to = (from ≤ n) × NeverFall n ns to

-- whether a label comes before another in the order of lanes, and of calls in a lane
abbrev pub is_lower : Label → Label → Bool
is_lower a b = nat_lt a.lane b.lane || (nat_eq a.lane b.lane && nat_lt a.call b.call)

-- labels in their order, each once
abbrev pub AreSorted : List Label → Type 0
AreSorted [] = Unit
AreSorted (c ∷ cs) = AllByRecursion (λ other. is_lower c other ≡ true) cs × AreSorted cs

-- the labels of what hangs under one entry are those of calls, and stand in order
pub record AreUnder (s : Script) (labels : List Label) : Type 0 where
  pub calls : AllByRecursion (IsLabel s) labels
  pub sorted : AreSorted labels
