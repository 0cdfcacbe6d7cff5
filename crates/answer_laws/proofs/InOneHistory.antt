-- Lives of handles stand in one history.
use Rattle.std.proofs.Common.{◌≡◌, ◌∙◌, ℕ, List, [], ◌∷◌, ◌++◌, map, refl, sym, ap, subst}
use Rattle.std.specs.List.{AllByRecursion}
use Rattle.std.proofs.lemmas.List.{append-nil, append_assoc}
use Rattle.pass_names.specs.Passes.{Begins}
use Rattle.pass_names.proofs.Passes.{begins_refl, begins_trans}
use Rattle.seq_timer.specs.declared.system.SystemEntry.{SystemEntry}
use Rattle.hr_timers.specs.Known.{HasEachPlace, HasEachShift}
use Rattle.hulayban.specs.Lanes.{RetiresEach, SplitsEach}
use Rattle.answer_laws.specs.Lives.{AreCallsFrom, AreInOneHistory, HandleCall, IsLife, Life, StandInTurn, last_handle, handle_behind, made_by_calls, made_in_lives}
use Rattle.hulayban.specs.Shares.{AreOfOneHistory, made_by_all}
use Rattle.hulayban.specs.Systems.{HandleOf, IsOnly, SystemOf, history}
use Rattle.hulayban.proofs.Shares.{all_share}

module _ (x : SystemOf) where
  -- what a handle has made behind all of its calls
  calls_made : (h : HandleOf) (cs : List HandleCall) → AreCallsFrom x h cs
      → (handle_behind h cs).timers.known.mine ≡ h.timers.known.mine ++ made_by_calls cs
  calls_made h [] are = sym (append-nil h.timers.known.mine)
  calls_made h (c ∷ cs) are = calls_made c.after cs are.1
      ∙ (ap (λ l. l ++ made_by_calls cs) are.0.mine ∙ append_assoc h.timers.known.mine c.made (made_by_calls cs))

  -- calls whose end begins the whole stand in it
  calls_stand : (whole : List SystemEntry) (h : HandleOf) (cs : List HandleCall) → AreCallsFrom x h cs → Begins (history (handle_behind h cs)) whole
      → StandInTurn whole h cs
  calls_stand whole h [] are last = last
  calls_stand whole h (c ∷ cs) are last = (are.0.seen, calls_stand whole c.after cs are.1 last)

  all_stand : (whole : List SystemEntry) (ls : List Life) → AllByRecursion (IsLife x) ls
      → AllByRecursion (λ (h : HandleOf). Begins (history h) whole) (map last_handle ls)
      → AllByRecursion (λ (l : Life). StandInTurn whole l.begun l.calls) ls
  all_stand whole [] are last = tt
  all_stand whole (l ∷ ls) are last = (calls_stand whole l.begun l.calls are.0 last.0, all_stand whole ls are.1 last.1)

  all_begun : (seen : List SystemEntry) (ls : List Life) → AllByRecursion (λ (h : HandleOf). history h ≡ seen) (map (λ (l : Life). l.begun) ls)
      → AllByRecursion (λ (l : Life). history l.begun ≡ seen) ls
  all_begun seen [] all = tt
  all_begun seen (l ∷ ls) all = (all.0, all_begun seen ls all.1)

  -- a handle that was split off has made nothing
  none_made : (old new : HandleOf) (ls : List Life) → SplitsEach x old (map (λ (l : Life). l.begun) ls) new
      → AllByRecursion (λ (l : Life). l.begun.timers.known.mine ≡ []) ls
  none_made old new [] splits = tt
  none_made old new (l ∷ ls) splits = (ap (λ k. k.mine) splits.2.timers.1, none_made old splits.0 ls splits.1)

  -- what all of them have made is what their calls made
  made_by_lives : (ls : List Life) → AllByRecursion (IsLife x) ls → AllByRecursion (λ (l : Life). l.begun.timers.known.mine ≡ []) ls
      → made_by_all (map last_handle ls) ≡ made_in_lives ls
  made_by_lives [] are none = refl
  made_by_lives (l ∷ ls) are none =
      ap (λ m. m ++ made_by_all (map last_handle ls)) (calls_made l.begun l.calls are.0 ∙ ap (λ m. m ++ made_by_calls l.calls) none.0)
      ∙ ap (λ m. made_by_calls l.calls ++ m) (made_by_lives ls are.1 none.1)

  -- law: they stand in one history
  pub lives_stand : (old mid new : HandleOf) (lives : List Life) → SplitsEach x old (map (λ (l : Life). l.begun) lives) mid
      → AllByRecursion (IsLife x) lives → RetiresEach x mid (map last_handle lives) new → AreInOneHistory x old new lives
  lives_stand old mid new lives splits are retires =
      let share = all_share x old mid new _ _ splits retires in
      let owns : new.timers.known.mine ≡ old.timers.known.mine ++ made_in_lives lives =
      share.owns ∙ ap (λ m. old.timers.known.mine ++ m) (made_by_lives lives are (none_made old mid lives splits)) in record {
        begun = all_begun (history old) lives share.first;
        in_turn = all_stand (history new) lives are share.last;
        owns = owns;
        entries = λ only. subst (λ m. HasEachPlace x.timers.about (record new.timers.known { mine = m })) owns (only.is.timers.knows.whole only.last);
        shifts = λ only. subst (λ m. HasEachShift x.timers.about (record new.timers.known { mine = m })) owns (only.is.timers.knows.shifts only.last);
      }
