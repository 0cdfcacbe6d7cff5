-- Handles that were split off a first one, and taken in again, are of one history.
use Rattle.std.proofs.Common.{◌≡◌, ◌∙◌, List, [], ◌∷◌, ◌++◌, ap, subst, sym}
use Rattle.std.specs.List.{AllByRecursion}
use Rattle.std.proofs.lemmas.List.{append-nil, append_assoc}
use Rattle.pass_names.specs.Passes.{Begins}
use Rattle.pass_names.proofs.Passes.{begins_refl, begins_trans}
use Rattle.hr_timers.specs.Known.{KnownOfTimers}
use Rattle.hulayban.specs.Lanes.{RetiresEach, SplitsEach}
use Rattle.hulayban.specs.Shares.{AreOfOneHistory, made_by_all}
use Rattle.hulayban.specs.Systems.{HandleOf, SystemOf, history}

module _ (x : SystemOf) where
  -- handles that were split off have seen what the first one had, which has made what it had
  record SplitsAlike (old new : HandleOf) (hs : List HandleOf) : Type 0 where
    pub seen : history new ≡ history old
    pub mine : new.timers.known.mine ≡ old.timers.known.mine
    pub each : AllByRecursion (λ (h : HandleOf). history h ≡ history old) hs

  splits_alike : (old new : HandleOf) (hs : List HandleOf) → SplitsEach x old hs new → SplitsAlike old new hs
  splits_alike old new [] same = record { seen = ap history same; mine = ap (λ (h : HandleOf). h.timers.known.mine) same; each = tt }
  splits_alike old new (h ∷ hs) splits =
      let rest = splits_alike old splits.0 hs splits.1 in record {
        seen = ap (λ (k : KnownOfTimers). k.seen) splits.2.timers.0 ∙ rest.seen;
        mine = ap (λ (k : KnownOfTimers). k.mine) splits.2.timers.0 ∙ rest.mine;
        each = (ap (λ (k : KnownOfTimers). k.seen) splits.2.timers.1 ∙ rest.seen, rest.each);
      }

  -- handles that were taken in have seen a beginning of what is then seen
  record RetiresWithin (old new : HandleOf) (hs : List HandleOf) : Type 0 where
    pub seen : Begins (history old) (history new)
    pub mine : new.timers.known.mine ≡ old.timers.known.mine ++ made_by_all hs
    pub each : AllByRecursion (λ (h : HandleOf). Begins (history h) (history new)) hs

  retires_within : (old new : HandleOf) (hs : List HandleOf) → RetiresEach x old hs new → RetiresWithin old new hs
  retires_within old new [] same = record {
    seen = subst (λ (h : HandleOf). Begins (history old) (history h)) (sym same) (begins_refl (history old));
    mine = ap (λ (h : HandleOf). h.timers.known.mine) same ∙ sym (append-nil old.timers.known.mine);
    each = tt;
  }
  retires_within old new (h ∷ hs) retires =
      let takes = retires.1.timers in
      let rest = retires_within retires.0 new hs retires.2 in record {
        seen = begins_trans takes.seen rest.seen;
        mine = rest.mine ∙ (ap (λ l. l ++ made_by_all hs) takes.mine ∙ append_assoc old.timers.known.mine h.timers.known.mine (made_by_all hs));
        each = (begins_trans takes.heard rest.seen, rest.each);
      }

  -- law: they are of one history
  pub all_share : (old mid new : HandleOf) (begun ended : List HandleOf) → SplitsEach x old begun mid → RetiresEach x mid ended new
      → AreOfOneHistory old new begun ended
  all_share old mid new begun ended splits retires =
      let one = splits_alike old mid begun splits in
      let all = retires_within mid new ended retires in record {
        first = one.each;
        last = all.each;
        goes_on = subst (λ l. Begins l (history new)) one.seen all.seen;
        owns = all.mine ∙ ap (λ l. l ++ made_by_all ended) one.mine;
      }
