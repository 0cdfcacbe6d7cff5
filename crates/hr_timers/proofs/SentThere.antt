-- A timer that is sent off its base and lands on another was started.
use Rattle.std.proofs.Common.{◌≡◌, ℕ, ◌+◌, List, [], ◌∷◌, ◌++◌, length, length-append, append_assoc, arith, refl, ap, sym, ◌∙◌, subst, Bool}
use Rattle.pass_names.specs.Passes.{places}
use Rattle.pass_names.specs.SharedHistory.{LooksOn}
use Rattle.pass_names.proofs.Passes.{begins_trans}
use Rattle.pass_names.proofs.SharedHistory.{places-append}
use Rattle.seq_timer.specs.Events.{Asked}
use Rattle.seq_timer.specs.Histories as seq
use Rattle.seq_timer.specs.Steps.{Timer, after, placement_of}
use Rattle.seq_timer.specs.Systems.{entries_of}
use Rattle.seq_timer.specs.declared.event.EventBy.TheVariants as events
use Rattle.seq_timer.specs.declared.system.SystemEntry.{SystemEntry}
use Rattle.base_row.specs.declared.view.Opening.{Opening}
use Rattle.hr_timers.specs.Calls.{StartsTimer, entry_by}
use Rattle.hr_timers.specs.Carrying.{AddsCarried, Lands, SendsOff, landed_as}
use Rattle.hr_timers.specs.Known.{KnownOfTimers, MadeAt, timer_then}
use Rattle.hr_timers.specs.Ways.{asking, bits_of}
use Rattle.hr_timers.specs.declared.answer.StartAnswer.TheVariants as starts
use Rattle.hr_timers.specs.declared.once_answer.Landed.{Landed}

-- entries at a moment, looks that see nothing more of the timer, and entries behind
made_both : (v x y w : KnownOfTimers) (t : ℕ) (at : List SystemEntry) (xs ys : List seq.Entry) → MadeAt v x t at xs → LooksOn x y
    → entries_of t y.seen ≡ entries_of t x.seen → AddsCarried y w t ys → MadeAt v w t at (xs ++ ys)
made_both v x y w t at xs ys made looks same adds =
    let own = same ∙ made.own in record {
      from = made.from;
      seen = begins_trans made.seen (begins_trans looks.seen adds.seen);
      own = adds.own ∙ (ap (λ l. l ++ ys) own ∙ append_assoc (entries_of t at) xs ys);
      mine = adds.mine ∙ (ap (λ l. l ++ places t (length (entries_of t y.seen)) ys) (looks.mine ∙ made.mine)
          ∙ (append_assoc v.mine (places t (length (entries_of t at)) xs) (places t (length (entries_of t y.seen)) ys)
          ∙ ap (λ l. v.mine ++ l) (ap (λ k. places t (length (entries_of t at)) xs ++ places t k ys)
          (omega (arith, ap length own, length-append (entries_of t at) xs)) ∙ sym (places-append t (length (entries_of t at)) xs ys))));
      id = adds.id ∙ (looks.id ∙ made.id);
    }

-- law: what is told of the timer is what the start that waits answers
pub sent_there : (o : Opening) (v x y w : KnownOfTimers) (t : ℕ) (s : Timer) (was_armed : Bool) (asked : Asked) (l : Landed)
    → SendsOff o v x t asked.base s was_armed → LooksOn x y → entries_of t y.seen ≡ entries_of t x.seen → Lands o y w t s (asking asked s.base) l
    → StartsTimer o v w t asked (landed_as was_armed l)
sent_there o v x y w t s was_armed asked l sends looks same lands =
    let first : Timer = timer_then o sends.at t in
    let e = events.Start (asking asked s.base) in
    let out = entry_by first (events.Out s.base) in
    let becomes = sends.becomes in
    record {
      at = sends.at;
      sent = s.base ∷ [];
      last = s.base;
      on_way = (
        record {
          path = sends.found.path;
          at = sends.found.at;
          way = sends.found.way;
          seen = begins_trans sends.found.seen (begins_trans looks.seen lands.adds.seen);
          few = sends.found.few;
        },
        refl,
        tt,
      );
      made = subst (λ (z : Timer). MadeAt v w t sends.at (out ∷ entry_by z e ∷ [])) becomes
          (made_both v x y w t sends.at (out ∷ []) (entry_by s e ∷ []) sends.made looks same lands.adds);
      fits = (
        sends.still,
        sends.below,
        (λ i. starts.Started (sends.armed i) ((lands.generation ∙ ap (λ (z : Timer). z.stamp + 1) becomes) i) (lands.base i)
            (bits_of (lands.base i ∷ [])) ((lands.placement ∙ ap (λ (z : Timer). placement_of (after z e)) becomes) i)),
      );
      claims = lands.claims ∙ (looks.claims ∙ sends.claims);
    }
