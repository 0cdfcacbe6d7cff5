-- What a call did, by what was seen over less and over more of its time.
use Rattle.std.proofs.Common.{ℕ, ◌≡◌, ◌≤◌, le_refl, refl, ◌∙◌, Option, Some, None, List, [], ◌∷◌, arith, inl, inr}
use Rattle.std.proofs.Math.Logic.{⊎_elim}
use Rattle.ktime.specs.declared.mode.Mode.{Mode}
use Rattle.record_text.specs.declared.record.Armed.{Armed}
use Rattle.record_text.specs.declared.record.Armed.TheVariants as armings
use Rattle.timer_setting.specs.declared.arming.Wanted.{Wanted}
use Rattle.script_text.specs.declared.script.Callback.{Callback}
use Rattle.script_text.specs.declared.script.Callback.TheVariants as callbacks
use Rattle.script_text.specs.declared.script.Kind.{Kind}
use Rattle.script_text.specs.declared.script.Script.{Script}
use Rattle.script_text.specs.declared.script.Kind.TheVariants as kinds
use Rattle.run_history.specs.Actions.{Action}
use Rattle.run_history.specs.Deeds.{IsBody, IsCallback, StartsItself}
use Rattle.run_history.specs.Truths.{sight_of}
use Rattle.run_history.specs.ObjectCalls.{Arms, ArmsAs}
use Rattle.run_history.specs.Starts.{Arming, FindsOnLine, IsArming, IsSentByHeirs, IsSentOnByHeirs, HeirsLeadTo, SentTo, Sight, from_moment}
use Rattle.run_history.specs.Witnesses.{Fired, Witness}

-- the same is seen of the run, over at least as long a time
pub record IsWider (narrow wide : Sight) : Type 0 where
  pub heir : (n base : ℕ) → wide.heir n base ≡ narrow.heir n base
  pub stamp : (n timer : ℕ) → wide.stamp n timer ≡ narrow.stamp n timer
  pub first : wide.first ≤ narrow.first
  pub last : narrow.last ≤ wide.last

-- law: so from an earlier moment of the run to a later one
pub sight_wider : (w : Witness) {low from to high : ℕ} → low ≤ from → to ≤ high → IsWider (sight_of w from to) (sight_of w low high)
sight_wider w under over = record { heir = λ n base. refl; stamp = λ n timer. refl; first = under; last = over }

module _ (narrow wide : Sight) (is : IsWider narrow wide) where
  -- ---- the way of a start

  way_wider : {low from : ℕ} → low ≤ from → (base : ℕ) (heirs : List ℕ) (to at : ℕ) → HeirsLeadTo narrow from base heirs to at
      → HeirsLeadTo wide low base heirs to at
  way_wider under base [] to at way = (way.0, omega (arith, under, way.1), is.heir at base ∙ way.2)
  way_wider {low = low} {from = from} under base (heir ∷ heirs) to at way =
      (way.0, omega (arith, under, way.1), is.heir way.0 base ∙ way.2, way_wider {low = way.0} {from = way.0} (le_refl way.0) heir heirs to at way.3)

  abbrev finds_wider : {low from timer number base to : ℕ} → low ≤ from → FindsOnLine narrow timer from number base to
      → FindsOnLine wide timer low number base to
  finds_wider {timer = timer} {base = base} {to = to} under f = record {
    path = f.path;
    at = f.at;
    way = way_wider under base f.path to f.at f.way;
    no_later = omega (arith, f.no_later, is.last);
    before = omega (arith, is.stamp f.at timer, f.before);
  }

  on_wider : (timer low base : ℕ) (outs : List SentTo) (last : ℕ) → IsSentOnByHeirs narrow timer low base outs last
      → IsSentOnByHeirs wide timer low base outs last
  on_wider timer low base [] last sent = sent
  on_wider timer low base (out ∷ outs) last sent = (finds_wider (le_refl low) sent.0, sent.1, on_wider timer sent.0.at out.base outs last sent.2)

  sent_wider : (timer base : ℕ) (outs : List SentTo) (number last : ℕ) → IsSentByHeirs narrow timer base outs number last
      → IsSentByHeirs wide timer base outs number last
  sent_wider timer base [] number last sent = finds_wider is.first sent
  sent_wider timer base (out ∷ outs) number last sent = (finds_wider is.first sent.0, on_wider timer sent.0.at out.base outs last sent.1, sent.2)

  pub arming_wider : {timer limit base : ℕ} {a : Arming} → IsArming narrow timer limit base a → IsArming wide timer limit base a
  arming_wider arming = record { below = arming.below; next = arming.next; way = sent_wider _ _ _ _ _ arming.way }

  -- ---- calls on objects

  pub arms_wider : (limit timer : ℕ) (mode : Mode) (ns reading base : ℕ) (arm : Armed) (start : List Action)
      → Arms narrow limit timer mode ns reading base arm start → Arms wide limit timer mode ns reading base arm start
  arms_wider limit timer mode ns reading base armings.None start arms = arms
  arms_wider limit timer mode ns reading base (armings.Generation generation) start arms = (arms.0, arms.1, arms.2, arming_wider arms.3)
  arms_wider limit timer mode ns reading base armings.Unarmed start arms = arms

  pub as_wider : (limit timer : ℕ) (wanted : Option Wanted) (reading base : ℕ) (arm : Armed) (start : List Action)
      → ArmsAs narrow limit timer wanted reading base arm start → ArmsAs wide limit timer wanted reading base arm start
  as_wider limit timer None reading base arm start arms = arms
  as_wider limit timer (Some wanted) reading base arm start arms = arms_wider limit timer wanted.mode wanted.ns reading base arm start arms

-- ---- expiry runs

module _ (narrow wide : Sight) (is : IsWider narrow wide) where
  starts_wider : {limit base : ℕ} {f : Fired} {a : Arming} → StartsItself narrow limit base f a → StartsItself wide limit base f a
  starts_wider {f = f} starts =
      let later : IsWider (from_moment narrow starts.begun) (from_moment wide starts.begun) =
      record { heir = is.heir; stamp = is.stamp; first = le_refl starts.begun; last = is.last } in
      record {
        begun = starts.begun;
        from = omega (arith, is.first, starts.from);
        claimed = omega (arith, is.stamp starts.begun f.timer, starts.claimed);
        arming = arming_wider (from_moment narrow starts.begun) (from_moment wide starts.begun) later starts.arming;
      }

  callback_wider : (limit : ℕ) (callback : Callback) (reading : ℕ) (f : Fired) → IsCallback narrow limit callback reading f
      → IsCallback wide limit callback reading f
  callback_wider limit callbacks.Once reading f is = is
  callback_wider limit (callbacks.Every interval) reading f is = is
  callback_wider limit callbacks.Cancels reading f is = is
  callback_wider limit (callbacks.Starts ns base) reading f is =
      (⊎_elim (λ started. inl (started.0, started.1, starts_wider started.2)) (λ spent. inr spent) is.0, is.1)

  pub body_wider : (s : Script) (kind : Kind) (reading : ℕ) (f : Fired) → IsBody narrow s kind reading f → IsBody wide s kind reading f
  body_wider s (kinds.Raw context callback) reading f is = callback_wider s.limit callback reading f is
  body_wider s (kinds.Posix base) reading f is = is
  body_wider s (kinds.Fd base) reading f is = is
  body_wider s (kinds.Queued base) reading f is = is
  body_wider s (kinds.Sleeper base) reading f is = is
