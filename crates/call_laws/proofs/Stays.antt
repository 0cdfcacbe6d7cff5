-- What a pass has seen of timers and bases stays so in every run that goes on from there.
use Rattle.lane_notes.specs.Worlds.{opening_for}
use Rattle.std.proofs.Common.{◌≡◌, ℕ, List, [], length, sym, ap, ◌∙◌, subst}
use Rattle.base_row.specs.declared.view.Opening.{Opening}
use Rattle.hr_timers.specs.Known.{KnownOfTimers, MadeAt, timer_then}
use Rattle.hr_timers.specs.Ways.{standing_then}
use Rattle.hr_timers.proofs.Moments.{timer_after}
use Rattle.seq_timer.specs.Histories.{Holds}
use Rattle.seq_timer.specs.Steps.{Timer}
use Rattle.seq_timer.specs.Systems.{System, system_after}
use Rattle.seq_timer.specs.declared.observation.Observation.{Observation}
use Rattle.seq_timer.specs.declared.system.SystemEntry.{SystemEntry}
use Rattle.script_text.specs.declared.script.Script.{Script}
use Rattle.run_history.specs.Promises.{RunGoesOn}
use Rattle.run_history.specs.Runs.{Ending, IsJoined, witness_of}
use Rattle.run_history.specs.Truths.{Saw}
use Rattle.run_history.specs.Witnesses.{standing_along, system_along, timer_along}
use Rattle.run_history.proofs.PassState.{system_seen}
use Rattle.run_history.proofs.Promise.{seen_first}

module _ {s : Script} {o : Opening} (is : o ≡ opening_for s) {e : Ending} (joined : IsJoined s e) where
  module _ (seen : List SystemEntry) (goes : RunGoesOn seen e) where
    -- law: all timers and bases do, each timer and each base
    pub system_stays : system_along (witness_of s e) (length seen) ≡ system_after o.timers seen
    system_stays = system_seen (witness_of s e) seen goes.0 (seen_first seen joined goes) ∙ ap (λ (y : Opening). system_after y.timers seen) (sym is)

    pub timer_stays : (t : ℕ) → timer_along (witness_of s e) (length seen) t ≡ timer_then o seen t
    timer_stays t = ap (λ (u : System). u.timers t) system_stays

    pub standing_stays : (b : ℕ) → standing_along (witness_of s e) (length seen) b ≡ standing_then o seen b
    standing_stays b = ap (λ (u : System). (u.bases b).standing) system_stays

    -- law: so what held of them holds
    pub stays : (P : System → Type 0) → P (system_after o.timers seen) → P (system_along (witness_of s e) (length seen))
    stays P = subst P (sym system_stays)

  module _ {v w : KnownOfTimers} {t : ℕ} {at : List SystemEntry} (goes : RunGoesOn w.seen e) (made : MadeAt v w t at []) where
    -- law: a timer at a call's moment does, behind which the call made no entry of it, and so does what was observed of it
    pub timer_quiet : timer_along (witness_of s e) (length w.seen) t ≡ timer_then o at t
    timer_quiet = timer_stays w.seen goes t ∙ timer_after o v w t at [] made

    pub saw_quiet : (number : ℕ) (observation : Observation) → number ≡ (timer_then o at t).stamp → Holds (timer_then o at t) observation
        → Saw (witness_of s e) t number observation (length w.seen)
    saw_quiet number observation stamp holds =
        record { stamp = ap (λ (u : Timer). u.stamp) timer_quiet ∙ sym stamp; holds = subst (λ u. Holds u observation) (sym timer_quiet) holds }
