-- Pushes and pops of a history, of its beginnings, and of one that is a turn longer.
use Rattle.std.proofs.Common.{◌≡◌, ◌≤◌, ◌<◌, ℕ, ◌+◌, List, [], ◌∷◌, ◌++◌, length, drop, refl, ap, sym, ◌∙◌, subst, length-append, append_assoc, append-nil, arith}
use Rattle.std.specs.Prelude.{Some, slice_get}
use Rattle.signal_queue.specs.declared.signal.Signal.{Signal}
use Rattle.signal_queue.specs.declared.signal.Turn.{Turn}
use Rattle.signal_queue.specs.declared.signal.Turn.TheVariants.{Pushed, Popped}
use Rattle.signal_queue.specs.Turns.{AreTurns, popped, pushed, waiting_after}
use Rattle.pass_names.specs.Passes.{Begins}
use Rattle.pass_names.proofs.Passes.{begins_whole}

pub pushed-append : (xs ys : List Turn) → pushed (xs ++ ys) ≡ pushed xs ++ pushed ys
pushed-append [] ys = refl
pushed-append (Pushed s ∷ xs) ys = ap (λ l. s ∷ l) (pushed-append xs ys)
pushed-append (Popped s ∷ xs) ys = pushed-append xs ys

pub popped-append : (xs ys : List Turn) → popped (xs ++ ys) ≡ popped xs ++ popped ys
popped-append [] ys = refl
popped-append (Pushed s ∷ xs) ys = popped-append xs ys
popped-append (Popped s ∷ xs) ys = ap (λ l. s ∷ l) (popped-append xs ys)

pub whole : (room : ℕ) (waiting : List Signal) (turns : List Turn) → AreTurns room waiting turns
    → waiting ++ pushed turns ≡ popped turns ++ waiting_after waiting turns
whole room waiting [] are = append-nil waiting
whole room waiting (Pushed s ∷ ts) are = sym (append_assoc waiting (s ∷ []) (pushed ts)) ∙ whole room (waiting ++ s ∷ []) ts are.1
whole room [] (Popped s ∷ ts) are = absurd are
whole room (w ∷ waiting) (Popped s ∷ ts) are = ap (λ l. w ∷ l) (whole room waiting ts are.1) ∙ ap (λ x. x ∷ popped ts ++ waiting_after waiting ts) (sym are.0)

-- no more wait than there is room for
pub within_room : (room : ℕ) (waiting : List Signal) (turns : List Turn) → length waiting ≤ room → AreTurns room waiting turns
    → length (waiting_after waiting turns) ≤ room
within_room room waiting [] few are = few
within_room room waiting (Pushed s ∷ ts) few are = within_room room (waiting ++ s ∷ []) ts (omega (arith, are.0, length-append waiting (s ∷ []))) are.1
within_room room [] (Popped s ∷ ts) few are = absurd are
within_room room (w ∷ waiting) (Popped s ∷ ts) few are = within_room room waiting ts (omega (arith, few)) are.1

pub legal_first : (room : ℕ) (waiting : List Signal) (xs ys : List Turn) → AreTurns room waiting (xs ++ ys) → AreTurns room waiting xs
legal_first room waiting [] ys are = tt
legal_first room waiting (Pushed s ∷ xs) ys are = (are.0, legal_first room (waiting ++ s ∷ []) xs ys are.1)
legal_first room [] (Popped s ∷ xs) ys are = absurd are
legal_first room (w ∷ waiting) (Popped s ∷ xs) ys are = (are.0, legal_first room waiting xs ys are.1)

pub legal_begin : (room : ℕ) {xs log : List Turn} → Begins xs log → AreTurns room [] log → AreTurns room [] xs
legal_begin room {xs} b are = legal_first room [] xs b.rest (subst (AreTurns room []) b.whole are)

-- as many signals wait as were pushed and not popped
pub counted : (room : ℕ) (turns : List Turn) → AreTurns room [] turns → length (pushed turns) ≡ length (popped turns) + length (waiting_after [] turns)
counted room turns are = ap length (whole room [] turns are) ∙ length-append (popped turns) (waiting_after [] turns)

pub each_turn : (turns : List Turn) → length turns ≡ length (pushed turns) + length (popped turns)
each_turn [] = refl
each_turn (Pushed s ∷ ts) = omega (arith, each_turn ts)
each_turn (Popped s ∷ ts) = omega (arith, each_turn ts)

pub fewer_pushed : {xs log : List Turn} → Begins xs log → length (pushed xs) ≤ length (pushed log)
fewer_pushed {xs} {log} b = omega (arith, ap (λ l. length (pushed l)) b.whole, ap length (pushed-append xs b.rest), length-append (pushed xs) (pushed b.rest))

pub fewer_popped : {xs log : List Turn} → Begins xs log → length (popped xs) ≤ length (popped log)
fewer_popped {xs} {log} b = omega (arith, ap (λ l. length (popped l)) b.whole, ap length (popped-append xs b.rest), length-append (popped xs) (popped b.rest))

no_more : (xs ys : List Signal) → length (xs ++ ys) ≤ length xs → xs ++ ys ≡ xs
no_more xs [] h = append-nil xs
no_more xs (y ∷ ys) h = absurd (omega (arith, length-append xs (y ∷ ys)))

-- between a beginning with all pushes and the whole there is nothing but pops
pub pushed_between : {xs ys log : List Turn} → Begins xs ys → Begins ys log → pushed log ≡ pushed xs → pushed log ≡ pushed ys
pushed_between {xs} {ys} {log} a b all =
    let split : pushed log ≡ pushed ys ++ pushed b.rest = ap pushed b.whole ∙ pushed-append ys b.rest in
    let few : length (pushed ys ++ pushed b.rest) ≤ length (pushed ys) = omega (arith, ap length split, ap length all, fewer_pushed a) in
    split ∙ no_more (pushed ys) (pushed b.rest) few

pub popped_between : {xs ys log : List Turn} → Begins xs ys → Begins ys log → popped log ≡ popped xs → popped log ≡ popped ys
popped_between {xs} {ys} {log} a b all =
    let split : popped log ≡ popped ys ++ popped b.rest = ap popped b.whole ∙ popped-append ys b.rest in
    let few : length (popped ys ++ popped b.rest) ≤ length (popped ys) = omega (arith, ap length split, ap length all, fewer_popped a) in
    split ∙ no_more (popped ys) (popped b.rest) few

-- with no more pushes, no more wait
pub fewer_wait : (room : ℕ) {xs ys : List Turn} → Begins xs ys → AreTurns room [] ys → pushed ys ≡ pushed xs
    → length (waiting_after [] ys) ≤ length (waiting_after [] xs)
fewer_wait room {xs} {ys} b are same = omega (arith, counted room ys are, counted room xs (legal_begin room b are), fewer_popped b, ap length same)

-- who has seen all pushes knows how many wait where no more can
pub full_is_seen : {xs log : List Turn} (room most : ℕ) → Begins xs log → AreTurns room [] log → pushed log ≡ pushed xs
    → length (waiting_after [] xs) ≤ most → length (waiting_after [] log) ≡ most → length (waiting_after [] xs) ≡ most
full_is_seen room most b are same few full = omega (arith, fewer_wait room b are same, few, full)

-- who has seen all pops knows where none waits
pub none_is_seen : (room : ℕ) {xs log : List Turn} → Begins xs log → AreTurns room [] log → popped log ≡ popped xs
    → length (waiting_after [] log) ≡ 0 → length (waiting_after [] xs) ≡ 0
none_is_seen room {xs} {log} b are same none =
    omega (arith, counted room log are, counted room xs (legal_begin room b are), fewer_pushed b, ap length same, none)

-- who has seen all of both has seen the whole
pub all_is_seen : {xs log : List Turn} → Begins xs log → pushed log ≡ pushed xs → popped log ≡ popped xs → xs ≡ log
all_is_seen {xs} {log} b pushes pops = begins_whole b (omega (arith, each_turn xs, each_turn log, ap length pushes, ap length pops))

-- ---- one turn more

pub legal_push : (room : ℕ) (waiting : List Signal) (log : List Turn) (s : Signal) → AreTurns room waiting log → length (waiting_after waiting log) < room
    → AreTurns room waiting (log ++ Pushed s ∷ [])
legal_push room waiting [] s legal few = (few, tt)
legal_push room waiting (Pushed t ∷ log) s legal few = (legal.0, legal_push room (waiting ++ t ∷ []) log s legal.1 few)
legal_push room [] (Popped t ∷ log) s legal few = absurd legal
legal_push room (w ∷ waiting) (Popped t ∷ log) s legal few = (legal.0, legal_push room waiting log s legal.1 few)

pub waits_push : (waiting : List Signal) (log : List Turn) (s : Signal) → waiting_after waiting (log ++ Pushed s ∷ []) ≡ waiting_after waiting log ++ s ∷ []
waits_push waiting [] s = refl
waits_push waiting (Pushed t ∷ log) s = waits_push (waiting ++ t ∷ []) log s
waits_push waiting (Popped t ∷ log) s = waits_push (drop 1 waiting) log s

pub legal_pop : (room : ℕ) (waiting : List Signal) (log : List Turn) (s : Signal) (rest : List Signal) → AreTurns room waiting log
    → waiting_after waiting log ≡ s ∷ rest → AreTurns room waiting (log ++ Popped s ∷ [])
legal_pop room [] [] s rest legal e = cc
legal_pop room (w ∷ waiting) [] s rest legal e = (cc, tt)
legal_pop room waiting (Pushed t ∷ log) s rest legal e = (legal.0, legal_pop room (waiting ++ t ∷ []) log s rest legal.1 e)
legal_pop room [] (Popped t ∷ log) s rest legal e = absurd legal
legal_pop room (w ∷ waiting) (Popped t ∷ log) s rest legal e = (legal.0, legal_pop room waiting log s rest legal.1 e)

pub waits_pop : (waiting : List Signal) (log : List Turn) (s : Signal) (rest : List Signal) → waiting_after waiting log ≡ s ∷ rest
    → waiting_after waiting (log ++ Popped s ∷ []) ≡ rest
waits_pop waiting [] s rest e = ap (λ l. drop 1 l) e
waits_pop waiting (Pushed t ∷ log) s rest e = waits_pop (waiting ++ t ∷ []) log s rest e
waits_pop waiting (Popped t ∷ log) s rest e = waits_pop (drop 1 waiting) log s rest e

-- a pop is of the signal that waits longest
pub oldest : (room : ℕ) (waiting : List Signal) (before after : List Turn) (s : Signal) → AreTurns room waiting (before ++ Popped s ∷ after)
    → slice_get (waiting_after waiting before) 0 ≡ Some s
oldest room [] [] after s are = absurd are
oldest room (w ∷ waiting) [] after s are = ap Some (sym are.0)
oldest room waiting (Pushed t ∷ before) after s are = oldest room (waiting ++ t ∷ []) before after s are.1
oldest room [] (Popped t ∷ before) after s are = absurd are
oldest room (w ∷ waiting) (Popped t ∷ before) after s are = oldest room waiting before after s are.1
