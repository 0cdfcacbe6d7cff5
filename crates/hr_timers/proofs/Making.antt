-- Entries and looks of a call, at one moment of the history of all timers.
use Rattle.std.proofs.Common.{◌≡◌, ℕ, ◌<◌, List, [], ◌∷◌, ◌++◌, length, length-append, append_assoc, arith, refl, ap, sym, ◌∙◌, subst, true, false}
use Rattle.std.specs.Prelude.{Bool, Option, Some, None, if◌then◌else◌}
use Rattle.std.proofs.lemmas.Bool.{true≢false}
use Rattle.pass_names.specs.Passes.{places}
use Rattle.pass_names.specs.SharedHistory.{LooksOn}
use Rattle.pass_names.proofs.Passes.{begins_refl, begins_trans}
use Rattle.pass_names.proofs.SharedHistory.{extends_looks, places-append}
use Rattle.seq_timer.specs.Events.{Event}
use Rattle.seq_timer.specs.Effects.{effect}
use Rattle.seq_timer.specs.declared.system.SystemEntry.{SystemEntry}
use Rattle.seq_timer.specs.Histories as seq
use Rattle.seq_timer.specs.Steps.{Timer, after}
use Rattle.seq_timer.specs.Systems.{BaseContent, IsOn, changed, entries_of}
use Rattle.seq_timer.proofs.Effects.{IsSent, by_effect}
use Rattle.base_row.specs.declared.view.HeldContent.{HeldContent}
use Rattle.base_row.specs.declared.view.Opening.{Opening}
use Rattle.base_row.specs.declared.view.BaseView.{BaseView}
use Rattle.base_row.specs.Calls as rows
use Rattle.base_row.specs.Plays.{carried_by, carry_after}
use Rattle.base_row.proofs.Calling.{extends_appended, looks_freed, seen_after}
use Rattle.hr_timers.specs.Known.{AddsBehind, KnownOfTimers, OnlySeesMore, MadeAt}
use Rattle.hr_timers.specs.Calls.{entry_by}
use Rattle.hr_timers.proofs.Locks.{locks_got, locks_missed, locks_refl, locks_seen, locks_trans}

-- ---- looks

pub looks_refl : (v : BaseView BaseContent) → OnlySeesMore v v
looks_refl v =
    record { seen = begins_refl v.seen; mine = refl; id = refl; claims = refl; carry = refl; locks = locks_refl v.takes v.met }

pub looks_trans : (u v w : BaseView BaseContent) → OnlySeesMore u v → OnlySeesMore v w → OnlySeesMore u w
looks_trans u v w a b = record {
  seen = begins_trans a.seen b.seen;
  mine = b.mine ∙ a.mine;
  id = b.id ∙ a.id;
  claims = b.claims ∙ a.claims;
  carry = b.carry ∙ a.carry;
  locks = locks_trans a.locks b.locks;
}

pub looks_seen : (v w : BaseView BaseContent) → rows.SeesFurther v w → OnlySeesMore v w
looks_seen v w s = record {
  seen = s.seen;
  mine = ap (λ (y : BaseView BaseContent). y.mine) s.rest;
  id = ap (λ (y : BaseView BaseContent). y.id) s.rest;
  claims = ap (λ (y : BaseView BaseContent). y.claims) s.rest;
  carry = ap (λ (y : BaseView BaseContent). y.carry) s.rest;
  locks = locks_seen v w s;
}

pub looks_locked : (base : ℕ) (v w : BaseView BaseContent) (h : HeldContent BaseContent) → rows.GetsBase base v w h → OnlySeesMore v w
looks_locked base v w h l = record {
  seen = l.seen;
  mine = ap (λ (y : BaseView BaseContent). y.mine) l.rest;
  id = ap (λ (y : BaseView BaseContent). y.id) l.rest;
  claims = ap (λ (y : BaseView BaseContent). y.claims) l.rest;
  carry = ap (λ (y : BaseView BaseContent). y.carry) l.rest;
  locks = locks_got base v w h l;
}

pub looks_missed : (base : ℕ) (v w : BaseView BaseContent) → rows.MissesBase base v w → OnlySeesMore v w
looks_missed base v w m =
    let rest = m.waits.rest in
    record {
      seen = m.waits.seen;
      mine = ap (λ (y : BaseView BaseContent). y.mine) rest;
      id = ap (λ (y : BaseView BaseContent). y.id) rest;
      claims = ap (λ (y : BaseView BaseContent). y.claims) rest;
      carry = ap (λ (y : BaseView BaseContent). y.carry) rest;
      locks = locks_missed base v w m;
    }

pub looks_on : (v w : BaseView BaseContent) → OnlySeesMore v w → LooksOn (rows.known_of v) (rows.known_of w)
looks_on v w l = record { seen = l.seen; mine = l.mine; id = l.id; claims = l.claims }

-- ---- entries

-- entries, and entries behind them
pub adds_both : (u v w : BaseView BaseContent) (t : ℕ) (xs ys : List seq.Entry) → AddsBehind u v t xs → AddsBehind v w t ys → AddsBehind u w t (xs ++ ys)
adds_both u v w t xs ys a b = record {
  seen = begins_trans a.seen b.seen;
  own = b.own ∙ (ap (λ l. l ++ ys) a.own ∙ append_assoc (entries_of t u.seen) xs ys);
  mine = b.mine ∙ (ap (λ l. l ++ places t (length (entries_of t v.seen)) ys) a.mine
      ∙ (append_assoc u.mine (places t (length (entries_of t u.seen)) xs) (places t (length (entries_of t v.seen)) ys)
      ∙ ap (λ l. u.mine ++ l) (ap (λ k. places t (length (entries_of t u.seen)) xs ++ places t k ys)
      (omega (arith, ap length a.own, length-append (entries_of t u.seen) xs)) ∙ sym (places-append t (length (entries_of t u.seen)) xs ys))));
  id = b.id ∙ a.id;
}

-- looks, and then entries behind what was seen of the timer
pub made_then : (u v w : BaseView BaseContent) (t : ℕ) (es : List seq.Entry) → OnlySeesMore u v → AddsBehind v w t es
    → MadeAt (rows.known_of u) (rows.known_of w) t v.seen es
made_then u v w t es first adds = record {
  from = first.seen;
  seen = adds.seen;
  own = adds.own;
  mine = adds.mine ∙ ap (λ l. l ++ places t (length (entries_of t v.seen)) es) first.mine;
  id = adds.id ∙ first.id;
}

-- looks before a call
pub made_before : (u v : BaseView BaseContent) (w : KnownOfTimers) (t : ℕ) (x : List SystemEntry) (es : List seq.Entry) → OnlySeesMore u v
    → MadeAt (rows.known_of v) w t x es → MadeAt (rows.known_of u) w t x es
made_before u v w t x es first made = record {
  from = begins_trans first.seen made.from;
  seen = made.seen;
  own = made.own;
  mine = made.mine ∙ ap (λ l. l ++ places t (length (entries_of t x)) es) first.mine;
  id = made.id ∙ first.id;
}

-- a pass that carries nothing carries nothing after an event that leaves its timer on a base
pub carry_stays : (id b : ℕ) (t : Timer) (event : Event) (carry : Option ℕ) → IsOn b (after t event) → carry ≡ None → carry_after id t event carry ≡ None
carry_stays id b t event carry on none = by_sent (effect t event).sent (by_effect t event).sent
  where
    either_way : (was is : Bool) → (if is then carry else if was then None else carry) ≡ None
    either_way was true = none
    either_way true false = refl
    either_way false false = none

    by_sent : (sent : Option ℕ) → IsSent sent t (after t event) → carried_by sent id t (after t event) carry ≡ None
    by_sent None is = either_way t.moving (after t event).moving
    by_sent (Some base) is = absurd (true≢false (sym is.1 ∙ on.still))

pub same_place : (h g : HeldContent BaseContent) → Some h ≡ Some g → h.base ≡ g.base
same_place h g e = let t : h ≡ g = cc in ap (λ (x : HeldContent BaseContent). x.base) t

-- an entry that leaves its timer on the held base, which is then let go
pub extends_freed : (o : Opening) → rows.AreFresh o.timers → (h g : HeldContent BaseContent) (t : ℕ) (event : Event) (v w x : BaseView BaseContent)
    → t < length o.timers → rows.Appended o h t event v w → w.held ≡ Some g
    → IsOn h.base (after (rows.timer_seen o v t) event) → rows.LetsGo o g w x → AddsBehind v x t (entry_by (rows.timer_seen o v t) event ∷ [])
extends_freed o fresh h g t event v w x inside told held on free =
    let here : h.base ≡ g.base = same_place
    (record { base = h.base; word = h.word; content = changed t (rows.timer_seen o v t) event h.content }) g
    (sym (ap (λ (y : BaseView BaseContent). y.held) told.rest) ∙ held) in
    let on' : IsOn g.base (rows.timer_seen o w t) =
    subst (λ (y : Timer). IsOn g.base y) (sym (seen_after o fresh h t event v w told))
    (subst (λ b. IsOn b (after (rows.timer_seen o v t) event)) here on) in
    extends_looks entries_of (rows.known_of v) (rows.known_of w) (rows.known_of x) t (entry_by (rows.timer_seen o v t) event ∷ [])
    (extends_appended o fresh h t event v w told) (looks_freed o g w x free) (free.own t inside on')
