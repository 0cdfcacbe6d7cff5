-- Calls of handles in the one history.
use Rattle.std.specs.List.{AllByRecursion}
use Rattle.std.specs.Prelude.{ℕ, ◌≡◌, List, [], ◌∷◌, ◌++◌, length}
use Rattle.pass_names.specs.Passes.{Begins}
use Rattle.seq_timer.specs.declared.system.SystemEntry.{SystemEntry}
use Rattle.hr_timers.specs.Known.{HasEachPlace, HasEachShift}
use Rattle.answer_laws.specs.Between.{MakesBetween, MakesSome}
use Rattle.hulayban.specs.Systems.{HandleOf, IsOnly, SystemOf, history}

-- a call of a handle goes on in the one history, and makes these entries of timers and bases
abbrev pub MakesHere : SystemOf → HandleOf → HandleOf → List (ℕ × ℕ) → Type 0
MakesHere x old new made = MakesBetween (length x.timers.about.timers) old.timers.known new.timers.known made

abbrev pub GoesOnHere : SystemOf → HandleOf → HandleOf → Type 0
GoesOnHere x old new = MakesSome (length x.timers.about.timers) old.timers.known new.timers.known

-- ---- the calls of a handle, one behind the other

-- a call: the places of the entries that it made, and the handle behind it
pub record HandleCall : Type 0 where
  pub made : List (ℕ × ℕ)
  pub after : HandleOf

-- a handle, and its calls
pub record Life : Type 0 where
  pub begun : HandleOf
  pub calls : List HandleCall

-- each call goes on from what the handle had seen behind the one before
abbrev pub AreCallsFrom : SystemOf → HandleOf → List HandleCall → Type 0
AreCallsFrom x h [] = Unit
AreCallsFrom x h (c ∷ cs) = MakesHere x h c.after c.made × AreCallsFrom x c.after cs

abbrev pub IsLife : SystemOf → Life → Type 0
IsLife x l = AreCallsFrom x l.begun l.calls

-- the handle behind all of them
abbrev pub handle_behind : HandleOf → List HandleCall → HandleOf
handle_behind h [] = h
handle_behind h (c ∷ cs) = handle_behind c.after cs

abbrev pub last_handle : Life → HandleOf
last_handle l = handle_behind l.begun l.calls

-- the places of all entries that calls made
abbrev pub made_by_calls : List HandleCall → List (ℕ × ℕ)
made_by_calls [] = []
made_by_calls (c ∷ cs) = c.made ++ made_by_calls cs

abbrev pub made_in_lives : List Life → List (ℕ × ℕ)
made_in_lives [] = []
made_in_lives (l ∷ ls) = made_by_calls l.calls ++ made_in_lives ls

-- ---- lives in one history

-- each call begins and ends in this history, no earlier than the one before: what its handle had seen begins what it has seen behind the call, and that
-- begins the whole
abbrev pub StandInTurn : List SystemEntry → HandleOf → List HandleCall → Type 0
StandInTurn whole h [] = Begins (history h) whole
StandInTurn whole h (c ∷ cs) = Begins (history h) (history c.after) × StandInTurn whole c.after cs

-- Lives that begin where a first handle stood, which has taken them in. Their calls stand in what it has seen in the end, those of a life in their order. What
-- it then has made it had before, or it is a call's, each once; and where it is the only handle, that is each entry of each timer and base, once.
pub record AreInOneHistory (x : SystemOf) (old new : HandleOf) (lives : List Life) : Type 0 where
  pub begun : AllByRecursion (λ (l : Life). history l.begun ≡ history old) lives
  pub in_turn : AllByRecursion (λ (l : Life). StandInTurn (history new) l.begun l.calls) lives
  pub owns : new.timers.known.mine ≡ old.timers.known.mine ++ made_in_lives lives
  pub entries : IsOnly x new → HasEachPlace x.timers.about (record new.timers.known { mine = old.timers.known.mine ++ made_in_lives lives })
  pub shifts : IsOnly x new → HasEachShift x.timers.about (record new.timers.known { mine = old.timers.known.mine ++ made_in_lives lives })
