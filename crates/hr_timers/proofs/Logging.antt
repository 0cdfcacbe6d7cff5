-- Calls whose receipts went to a sink.
use Rattle.std.proofs.Common.{◌≡◌, ℕ, ◌+◌, ◌<◌, ◌≤◌, List, [], ◌∷◌, ◌++◌, length, refl, ap, sym, ◌∙◌, subst, true, false, inl, inr, arith}
use Rattle.std.specs.Prelude.{Bool, Option, Some, None, unwrap_or, is_some, if◌then◌else◌}
use Rattle.pass_names.specs.Counts.{count, without_first}
use Rattle.pass_names.proofs.SharedHistory as shared
use Rattle.seq_timer.specs.Events.{Asked}
use Rattle.seq_timer.specs.Histories as seq
use Rattle.seq_timer.specs.Steps.{Timer}
use Rattle.seq_timer.specs.Tables.{timer_at}
use Rattle.ktime.specs.Readings.{ClockReading}
use Rattle.seq_timer.specs.declared.context.Context.{Context}
use Rattle.seq_timer.specs.declared.answer.ForwardAnswer.{ForwardAnswer}
use Rattle.seq_timer.specs.declared.answer.Finished.{Finished}
use Rattle.seq_timer.specs.declared.answer.CancelAnswer.{CancelAnswer}
use Rattle.seq_timer.specs.declared.answer.CancelAnswer.TheVariants as cancels
use Rattle.seq_timer.specs.declared.event.EventBy.TheVariants as events
use Rattle.seq_timer.specs.declared.event.Reply.TheVariants as replies
use Rattle.seq_timer.specs.Systems.{BaseContent, entries_of}
use Rattle.base_row.specs.declared.log.Receipt.{Receipt}
use Rattle.base_row.specs.declared.view.Claimed.{Claimed}
use Rattle.base_row.specs.declared.view.Opening.{Opening}
use Rattle.base_row.specs.declared.view.BaseView.{BaseView}
use Rattle.base_row.specs.Calls as rows
use Rattle.base_row.specs.Plays as plays
use Rattle.base_row.specs.Rules.{is_base_claim}
use Rattle.hr_timers.specs.declared.answer.StartAnswer.{StartAnswer}
use Rattle.hr_timers.specs.declared.answer.StartAnswer.TheVariants as starts
use Rattle.hr_timers.specs.declared.answer.ClaimAnswer.{ClaimAnswer}
use Rattle.hr_timers.specs.declared.answer.ClaimAnswer.TheVariants as claimings
use Rattle.hr_timers.specs.declared.numbers.ClaimNumbers.{ClaimNumbers}
use Rattle.hr_timers.specs.Known.{AddsBehind, KnownOfTimers, OnlySeesMore, claimed_as, count_of, timer_then}
use Rattle.hr_timers.specs.Calls.{StartFits, entry_by, start_entries}
use Rattle.hr_timers.specs.Ways.{IsWay, asking, most_to_start}
use Rattle.hr_timers.specs.Moves.{known_from}
use Rattle.hr_timers.proofs.Arriving.{arrive_least, arrive_some}
use Rattle.hr_timers.proofs.Keeping.{terms_kept}
use Rattle.hr_timers.proofs.Moments.{stamp_rises}
use Rattle.hr_timers.proofs.Ways.{sent_from, way_rises}
use Rattle.pass_names.proofs.Passes.{begins_trans}
use Rattle.pass_names.specs.Passes.{Begins, places}
use Rattle.seq_timer.specs.declared.system.SystemEntry.{SystemEntry}
use Rattle.hr_timers.specs.Logged.{CancelsLogged, ClaimsLogged, FinishesLogged, ForwardsLogged, HasRoomToStart, IsLogged, StartsLogged}
use Rattle.hr_timers.proofs.Making.{looks_on, looks_refl, made_before, made_then}
use Rattle.hr_timers.proofs.Standing.{claim_runs}

-- ---- the room for a start

pub room_to_start : (o : Opening) (u v : BaseView BaseContent) (t room base low : ℕ) → rows.AreFresh o.timers
    → plays.KnowsBases o v → t < length o.timers → OnlySeesMore u v → low ≤ base → HasRoomToStart o (rows.known_of u) t base room
    → (if is_some (rows.timer_seen o v t).running then 1 else most_to_start (rows.timer_seen o v t).terms low) ≤ room
room_to_start o u v t room base low fresh knows within looks below (inl most) =
    at (is_some (rows.timer_seen o v t).running)
  where
    terms : (rows.timer_seen o v t).terms ≡ (timer_at o.timers t).terms
    terms = terms_kept o v t

    at : (m : Bool) → (if m then 1 else most_to_start (rows.timer_seen o v t).terms low) ≤ room
    at true = omega (arith, arrive_some (timer_at o.timers t).terms base, most)
    at false = omega (
      arith,
      ap (λ k. most_to_start k low) terms,
      arrive_least (timer_at o.timers t).terms low base below,
      most,
    )
room_to_start o u v t room base low fresh knows within looks below (inr one) =
    let stands = subst (λ (l : List Claimed). 0 < count (is_base_claim t one.1.0 one.1.1) l) (sym looks.claims) one.1.2 in
    let runs = claim_runs o v fresh knows t one.1.0 one.1.1 within stands in
    subst (λ (r : Option ℕ). (if is_some r then 1 else most_to_start (rows.timer_seen o v t).terms low) ≤ room) (sym runs) (omega (arith, one.0))

module _ {A : Type 0} (put : A → Receipt → A) (o : Opening) where
  -- ---- looks before a call

  -- the base that is asked for was found on line by then, or another that is asked for then in its place
  pub starts_before : (u v : BaseView BaseContent) (w : KnownOfTimers) (t : ℕ) (asked : Asked) (base : ℕ) (path : List ℕ) (x : List SystemEntry)
      (a : StartAnswer) (s s' : A) → OnlySeesMore u v → IsWay o u.seen asked.base path base x → Begins x v.seen
      → StartsLogged put o (known_from v x) w t (asking asked base) a s s' → StartsLogged put o (rows.known_of u) w t asked a s s'
  starts_before u v w t asked base path x a s s' looks way early c =
      let r = c.starts in
      let from : Begins x r.at = r.made.from in
      record {
        starts = record {
          at = r.at;
          sent = r.sent;
          last = r.last;
          on_way = sent_from o w.seen t u.seen (timer_then o r.at t).stamp asked.base base
              (record { path = path; at = x; way = way; seen = begins_trans from r.made.seen; few = stamp_rises o x r.at t from })
              r.sent r.last r.on_way;
          made = record {
            from = begins_trans (way_rises o u.seen asked.base path base x way) from;
            seen = r.made.seen;
            own = r.made.own ∙ ap (λ es. entries_of t r.at ++ es) (entries_same (timer_then o r.at t) r.sent r.last a);
            mine = r.made.mine ∙ (λ i. looks.mine i ++ places t (length (entries_of t r.at)) (entries_same (timer_then o r.at t) r.sent r.last a i));
            id = r.made.id ∙ looks.id;
          };
          fits = fits_same (timer_then o r.at t) r.sent r.last a r.fits;
          claims = r.claims ∙ looks.claims;
        };
        logged = subst (λ es. IsLogged put o t r.at es s s') (entries_same (timer_then o r.at t) r.sent r.last a) c.logged;
      }
    where
      entries_same : (x : Timer) (sent : List ℕ) (last : ℕ) (b : StartAnswer) → start_entries x (asking asked base) sent last b ≡ start_entries x asked sent last b
      entries_same x sent last (starts.Started was_armed generation to outs placement) = refl
      entries_same x sent last (starts.Spent n) = refl

      fits_same : (x : Timer) (sent : List ℕ) (last : ℕ) (b : StartAnswer) → StartFits x (asking asked base) sent last b → StartFits x asked sent last b
      fits_same x sent last (starts.Started was_armed generation to outs placement) fits = fits
      fits_same x sent last (starts.Spent n) fits = fits

  pub cancels_before : (u v : BaseView BaseContent) (w : KnownOfTimers) (t : ℕ) (a : CancelAnswer) (s s' : A) → OnlySeesMore u v
      → CancelsLogged put o (rows.known_of v) w t a s s' → CancelsLogged put o (rows.known_of u) w t a s s'
  cancels_before u v w t a s s' looks c =
      let r = c.cancels in record {
        cancels = record { at = r.at; made = made_before u v w t r.at _ looks r.made; fits = r.fits; claims = r.claims ∙ looks.claims };
        logged = c.logged;
      }

  pub claims_before : (u v : BaseView BaseContent) (w : KnownOfTimers) (x : Context) (base : ℕ) (reading : ClockReading) (a : ClaimAnswer) (s s' : A)
      → OnlySeesMore u v → ClaimsLogged put o (rows.known_of v) w x base reading a s s' → ClaimsLogged put o (rows.known_of u) w x base reading a s s'
  claims_before u v w x base reading claimings.NoneDue s s' looks c = record {
    claims = (shared.looks_trans (rows.known_of u) (rows.known_of v) w (looks_on u v looks) c.claims.0, c.claims.1);
    logged = c.logged;
  }
  claims_before u v w x base reading (claimings.BaseBusy t g) s s' looks c = record {
    claims = (shared.looks_trans (rows.known_of u) (rows.known_of v) w (looks_on u v looks) c.claims.0, c.claims.1);
    logged = c.logged;
  }
  claims_before u v w x base reading (claimings.Claimed n) s s' looks c =
      let r = c.claims in record {
        claims = record {
          at = r.at;
          made = made_before u v w n.timer r.at _ looks r.made;
          context = r.context;
          idle = r.idle;
          next = r.next;
          first = r.first;
          within = r.within;
          armed = r.armed;
          there = r.there;
          number = r.number;
          fresh = subst (λ (l : List Claimed). count_of n l ≡ 0) looks.claims r.fresh;
          claims = r.claims ∙ ap (λ (l : List Claimed). l ++ claimed_as n ∷ []) looks.claims;
        };
        logged = c.logged;
      }

  pub forwards_before : (u v : BaseView BaseContent) (w : KnownOfTimers) (n : ClaimNumbers) (reading : ClockReading) (interval : ℕ) (a : ForwardAnswer)
      (s s' : A) → OnlySeesMore u v → ForwardsLogged put o (rows.known_of v) w n reading interval a s s'
      → ForwardsLogged put o (rows.known_of u) w n reading interval a s s'
  forwards_before u v w n reading interval a s s' looks c =
      let r = c.forwards in record {
        forwards = record {
          at = r.at;
          made = made_before u v w n.timer r.at _ looks r.made;
          runs = r.runs;
          base = r.base;
          fits = r.fits;
          claims = r.claims ∙ looks.claims;
        };
        logged = c.logged;
      }

  pub finishes_before : (u v : BaseView BaseContent) (w : KnownOfTimers) (n : ClaimNumbers) (restart : Bool) (a : Finished) (s s' : A)
      → OnlySeesMore u v → FinishesLogged put o (rows.known_of v) w n restart a s s'
      → FinishesLogged put o (rows.known_of u) w n restart a s s'
  finishes_before u v w n restart a s s' looks c =
      let r = c.finishes in record {
        finishes = record {
          at = r.at;
          made = made_before u v w n.timer r.at _ looks r.made;
          runs = r.runs;
          base = r.base;
          number = r.number;
          rearmed = r.rearmed;
          claims = r.claims ∙ ap (without_first (is_base_claim n.timer n.generation n.base)) looks.claims;
        };
        logged = c.logged;
      }

  -- ---- entries

  -- a cancel of this generation
  pub cancels_one : (v w : BaseView BaseContent) (t g n : ℕ) (s s' : A) → (timer_then o v.seen t).armed ≡ Some g
      → (timer_then o v.seen t).running ≡ None → (timer_then o v.seen t).moving ≡ false → n ≡ (timer_then o v.seen t).stamp + 1
      → AddsBehind v w t (entry_by (timer_then o v.seen t) events.Cancel ∷ []) → w.claims ≡ v.claims
      → IsLogged put o t v.seen (entry_by (timer_then o v.seen t) events.Cancel ∷ []) s s'
      → CancelsLogged put o (rows.known_of v) (rows.known_of w) t (cancels.Cancelled g n) s s'
  cancels_one v w t g n s s' armed idle still number adds claims logged =
      let one : seq.Entry → Type 0 = λ e. IsLogged put o t v.seen (e ∷ []) s s' in
      let is : entry_by (timer_then o v.seen t) events.Cancel ≡ record { event = events.Cancel; reply = replies.Cancel g } =
      ap (λ (x : Option ℕ). record { event = events.Cancel; reply = replies.Cancel (unwrap_or x 0) }) armed in record {
        cancels = record {
          at = v.seen;
          made = made_then v v w t _ (looks_refl v) (subst (λ e. AddsBehind v w t (e ∷ [])) is adds);
          fits = (armed, idle, still, number);
          claims = claims;
        };
        logged = subst one is logged;
      }
