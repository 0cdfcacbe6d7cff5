-- A timer that is sent from base to base, and started on one that is on line.
use Rattle.std.proofs.Common.{◌≡◌, ℕ, ◌+◌, ◌<◌, ◌≤◌, ◌^◌, List, [], ◌∷◌, refl, ap, sym, ◌∙◌, subst, arith}
use Rattle.std.specs.Prelude.{IfSome, Option, Some, None, length}
use Rattle.seq_timer.specs.Tables.{timer_at}
use Rattle.hr_timers.proofs.Keeping.{terms_kept}
use Rattle.std.proofs.lemmas.Bool.Decides.{nat_tests}
use Rattle.pass_names.proofs.Passes.{begins_refl, begins_trans}
use Rattle.pass_names.proofs.SharedHistory.{looks_extends}
use Rattle.seq_timer.specs.Calls.{entries_along, step_all}
use Rattle.seq_timer.specs.Events.{Asked, Event}
use Rattle.seq_timer.specs.Histories as seq
use Rattle.seq_timer.specs.Steps.{Timer, after}
use Rattle.seq_timer.specs.Systems.{AreSystemSteps, BaseContent, entries_of, first_system}
use Rattle.seq_timer.specs.declared.context.Terms.{Terms}
use Rattle.seq_timer.specs.declared.event.EventBy.TheVariants as events
use Rattle.seq_timer.specs.declared.system.SystemEntry.{SystemEntry}
use Rattle.base_row.specs.declared.log.Receipt.{Receipt}
use Rattle.base_row.specs.declared.view.BaseView.{BaseView}
use Rattle.base_row.specs.declared.view.Opening.{Opening}
use Rattle.base_row.specs.Calls as rows
use Rattle.base_row.specs.Logs.{all_pushed, receipts_of}
use Rattle.base_row.proofs.Calling.{seen_same}
use Rattle.hr_timers.specs.declared.moving.Arrival.{Arrival}
use Rattle.hr_timers.specs.Calls.{entry_by}
use Rattle.hr_timers.specs.Known.{AddsBehind, OnlySeesMore, timer_then}
use Rattle.hr_timers.specs.Logged.{IsLogged}
use Rattle.hr_timers.specs.Moves.{Arrives, StartsBy, arrival_of}
use Rattle.hr_timers.specs.Ways.{IsSentOn, asking, last_of, most_to_arrive, standing_then, start_on}
use Rattle.hr_timers.proofs.Making.{adds_both, looks_on}
use Rattle.hr_timers.proofs.Moments.{stamp_rises}
use Rattle.hr_timers.proofs.Ways.{finds_here, heir_found, sent_from}

-- ---- room

pub arrive_some : (terms : Terms) (base : ℕ) → 0 < most_to_arrive terms base
arrive_some terms base = grind (arith, nat_tests)

pub arrive_least : (terms : Terms) (low high : ℕ) → low ≤ high → most_to_arrive terms low ≤ most_to_arrive terms high
arrive_least terms low high below = grind (arith, nat_tests)

pub arrive_less : (terms : Terms) (low high : ℕ) → low < high → 0 < terms.reach → most_to_arrive terms low + 1 ≤ most_to_arrive terms high
arrive_less terms low high below reach = grind (arith, nat_tests)

pub arrive_most : (terms : Terms) (base : ℕ) → base < 64 → most_to_arrive terms base ≤ 64
arrive_most terms base few = grind (arith, nat_tests)

-- where a base is off line, a timer has a reach
pub reach_of : (o : Opening) (v : BaseView BaseContent) (t : ℕ) (x : Timer) (r : Option ℕ) (heir : ℕ) → x ≡ rows.timer_seen o v t → r ≡ Some heir
    → IfSome r (λ h. (k : ℕ) → k < length o.timers → 0 < (timer_at o.timers k).terms.reach) → t < length o.timers → 0 < x.terms.reach
reach_of o v t x r heir is some reach inside =
    subst (λ (k : Terms). 0 < k.reach) (sym (ap (λ (y : Timer). y.terms) is ∙ terms_kept o v t))
    (subst (λ q. IfSome q (λ h. (k : ℕ) → k < length o.timers → 0 < (timer_at o.timers k).terms.reach)) some reach t inside)

module _ {A : Type 0} (put : A → Receipt → A) (o : Opening) where
  -- receipts of an entry, and of those behind it
  pub logged_more : (t : ℕ) (x y : List SystemEntry) (e : seq.Entry) (es : List seq.Entry) (s s' s'' : A)
      → (timer_then o y t).stamp ≡ (timer_then o x t).stamp + 1
      → IsLogged put o t x (e ∷ []) s s' → IsLogged put o t y es s' s'' → IsLogged put o t x (e ∷ es) s s''
  logged_more t x y e es s s' s'' is first second = second ∙ (λ i. all_pushed put (first i) (receipts_of t (is i) es))

  -- looks before, which show nothing of the timer
  pub arrives_before : (u v w : BaseView BaseContent) (t : ℕ) (asked : Asked) (a : Arrival) (s s' : A) → OnlySeesMore u v
      → entries_of t v.seen ≡ entries_of t u.seen → Arrives put o v w t asked a s s' → Arrives put o u w t asked a s s'
  arrives_before u v w t asked a s s' looks steady r =
      let same : rows.timer_seen o v t ≡ rows.timer_seen o u t = seen_same o u v t steady in
      let last = last_of asked.base r.outs in
      let by : List Event = start_on asked r.outs last in record {
        outs = r.outs;
        falls = r.falls;
        way = λ low before on. subst (λ (x : Timer). IsSentOn o w.seen t low x.stamp asked.base r.outs last) same
            (r.way low (begins_trans before looks.seen) on);
        told = subst (λ (x : Timer). a ≡ arrival_of (step_all x by) r.outs last) same r.told;
        adds = subst (λ (x : Timer). AddsBehind u w t (entries_along x by)) same
            (looks_extends entries_of (rows.known_of u) (rows.known_of v) (rows.known_of w) t _ (looks_on u v looks) steady r.adds);
        logged = subst (λ (x : Timer). s' ≡ all_pushed put s (receipts_of t x.stamp (entries_along x by))) same r.logged;
      }

  -- the timer is started where it was brought
  pub arrives_here : (v w : BaseView BaseContent) (t : ℕ) (asked : Asked) (a : Arrival) (s s' : A)
      → a ≡ arrival_of (after (rows.timer_seen o v t) (events.Start asked)) [] asked.base
      → AddsBehind v w t (entry_by (rows.timer_seen o v t) (events.Start asked) ∷ [])
      → IsLogged put o t v.seen (entry_by (rows.timer_seen o v t) (events.Start asked) ∷ []) s s' → Arrives put o v w t asked a s s'
  arrives_here v w t asked a s s' told adds logged =
      record { outs = []; falls = tt; way = λ low before on. refl; told = told; adds = adds; logged = logged }

  module _ (v w x : BaseView BaseContent) (t : ℕ) (asked : Asked) (to : ℕ) (a a' : Arrival) (s s' s'' : A)
      (sent : rows.timer_seen o w t ≡ after (rows.timer_seen o v t) (events.Out to))
      (adds : AddsBehind v w t (entry_by (rows.timer_seen o v t) (events.Out to) ∷ []))
      (logged : IsLogged put o t v.seen (entry_by (rows.timer_seen o v t) (events.Out to) ∷ []) s s')
      (r : Arrives put o w x t (asking asked to) a s' s'') (is : a' ≡ record a { outs = 2 ^ to + a.outs }) where
    abbrev last : ℕ
    last = last_of to r.outs

    abbrev by : List Event
    by = start_on asked r.outs last

    told_sent : a' ≡ arrival_of (step_all (rows.timer_seen o v t) (events.Out to ∷ by)) (to ∷ r.outs) last
    told_sent = is ∙ (ap (λ (b : Arrival). record b { outs = 2 ^ to + b.outs }) r.told
        ∙ ap (λ (y : Timer). arrival_of (step_all y by) (to ∷ r.outs) last) sent)

    adds_sent : AddsBehind v x t (entries_along (rows.timer_seen o v t) (events.Out to ∷ by))
    adds_sent = adds_both v w x t (entry_by (rows.timer_seen o v t) (events.Out to) ∷ []) (entries_along (after (rows.timer_seen o v t) (events.Out to)) by) adds
        (subst (λ (y : Timer). AddsBehind w x t (entries_along y by)) sent r.adds)

    logged_sent : IsLogged put o t v.seen (entries_along (rows.timer_seen o v t) (events.Out to ∷ by)) s s''
    logged_sent = logged_more t v.seen w.seen (entry_by (rows.timer_seen o v t) (events.Out to))
        (entries_along (after (rows.timer_seen o v t) (events.Out to)) by) s s' s'' (ap (λ (y : Timer). y.stamp) sent) logged
        (subst (λ (y : Timer). IsLogged put o t w.seen (entries_along y by) s' s'') sent r.logged)

    -- the timer is sent on, from a base that is off line to its heir, and goes on from there
    pub arrives_on : AreSystemSteps o.bases (length o.timers) (first_system o.timers) v.seen → to < asked.base
        → (standing_then o v.seen asked.base).heir ≡ Some to → Arrives put o v x t asked a' s s''
    arrives_on steps down off = record {
      outs = to ∷ r.outs;
      falls = (down, r.falls);
      way = λ low before on.
          let found = heir_found o low v.seen steps before asked.base to on off in (
            record {
              path = to ∷ [];
              at = found.0;
              way = found.1;
              seen = begins_trans found.2 (begins_trans adds.seen r.adds.seen);
              few = stamp_rises o found.0 v.seen t found.2;
            },
            refl,
            subst (λ n. IsSentOn o x.seen t found.0 n to r.outs last) (ap (λ (y : Timer). y.stamp) sent)
                (r.way found.0 (begins_trans found.2 adds.seen) found.1.2.1.stood),
          );
      told = told_sent;
      adds = adds_sent;
      logged = logged_sent;
    }

    -- the timer is sent to the base that is asked for, and goes on from there
    pub starts_moved : asked.base ≡ to → StartsBy put o v x t asked a' s s''
    starts_moved here = record {
      sent = to ∷ r.outs;
      last = last;
      on_way = λ low before on.
          let same : (standing_then o low to).heir ≡ None = ap (λ b. (standing_then o low b).heir) (sym here) ∙ on in (
            record {
              path = [];
              at = low;
              way = (here, record { from = begins_refl low; stood = on });
              seen = begins_trans before (begins_trans adds.seen r.adds.seen);
              few = stamp_rises o low v.seen t before;
            },
            subst (λ n. IsSentOn o x.seen t low n to r.outs last) (ap (λ (y : Timer). y.stamp) sent) (r.way low (begins_trans before adds.seen) same),
            r.falls,
          );
      told = told_sent;
      adds = adds_sent;
      logged = logged_sent;
    }

  -- the timer is started where it is
  pub starts_here : (v w : BaseView BaseContent) (t : ℕ) (asked : Asked) (a : Arrival) (s s' : A)
      → a ≡ arrival_of (after (rows.timer_seen o v t) (events.Start asked)) [] asked.base
      → AddsBehind v w t (entry_by (rows.timer_seen o v t) (events.Start asked) ∷ [])
      → IsLogged put o t v.seen (entry_by (rows.timer_seen o v t) (events.Start asked) ∷ []) s s' → StartsBy put o v w t asked a s s'
  starts_here v w t asked a s s' told adds logged = record {
    sent = [];
    last = asked.base;
    on_way = λ low before on. finds_here o w.seen t low (rows.timer_seen o v t).stamp asked.base (begins_trans before adds.seen)
        (stamp_rises o low v.seen t before) on;
    told = told;
    adds = adds;
    logged = logged;
  }

  -- the heir is asked for in place of a base that is off line
  pub starts_heir : (v w : BaseView BaseContent) (t : ℕ) (asked : Asked) (heir : ℕ) (a : Arrival) (s s' : A)
      → AreSystemSteps o.bases (length o.timers) (first_system o.timers) v.seen → (standing_then o v.seen asked.base).heir ≡ Some heir
      → StartsBy put o v w t (asking asked heir) a s s' → StartsBy put o v w t asked a s s'
  starts_heir v w t asked heir a s s' steps off r = record {
    sent = r.sent;
    last = r.last;
    on_way = λ low before on.
        let found = heir_found o low v.seen steps before asked.base heir on off in
        sent_from o w.seen t low (rows.timer_seen o v t).stamp asked.base heir
        (record {
          path = heir ∷ [];
          at = found.0;
          way = found.1;
          seen = begins_trans found.2 r.adds.seen;
          few = stamp_rises o found.0 v.seen t found.2;
        })
        r.sent r.last (r.on_way found.0 found.2 found.1.2.1.stood);
    told = r.told;
    adds = r.adds;
    logged = r.logged;
  }
