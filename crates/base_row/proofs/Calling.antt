-- What calls on a row say, in the words of their callers.
use Rattle.std.proofs.Common.{◌≡◌, ℕ, ◌+◌, ◌-◌, ◌^◌, ◌<◌, ◌≤◌, ⊎_elim, List, [], ◌∷◌, ◌++◌, length, true, inr, refl, ap, sym, ◌∙◌, subst, arith}
use Rattle.std.proofs.Common.{if◌then◌else◌}
use Rattle.std.specs.Prelude.{slice_index, Option, Some, None, MatchOption}
use Rattle.std.proofs.lemmas.Bool.{eq-eqb}
use Rattle.pass_names.specs.Names.{IsLast}
use Rattle.pass_names.specs.Passes.{Begins}
use Rattle.pass_names.specs.SharedHistory.{ExtendsBy, Known, LooksOn, MeetWith, TakesIn}
use Rattle.pass_names.proofs.Passes.{begins_trans, begins_more}
use Rattle.seq_timer.specs.Events.{Asked}
use Rattle.seq_timer.specs.Events.{Event}
use Rattle.seq_timer.specs.declared.system.SystemEntry.{SystemEntry}
use Rattle.seq_timer.specs.declared.system.SystemEntry.TheVariants as entries
use Rattle.seq_timer.specs.declared.event.EventBy.TheVariants.{Start}
use Rattle.seq_timer.specs.Steps.{Timer, after}
use Rattle.seq_timer.specs.Tables.{timer_at}
use Rattle.seq_timer.specs.Histories as seq
use Rattle.seq_timer.specs.Systems.{BaseContent, entries_of, first_system}
use Rattle.seq_timer.proofs.Limits.{stamp-after_all}
use Rattle.seq_timer.proofs.Systems.{after_entries-entries_of, entries_of-append}
use Rattle.base_row.specs.declared.view.Claimed.{Claimed}
use Rattle.base_row.specs.declared.view.HeldContent.{HeldContent}
use Rattle.base_row.specs.declared.view.Opening.{Opening}
use Rattle.base_row.specs.declared.view.BaseView.{BaseView}
use Rattle.base_row.specs.Rules.{takes_at, base_seen, timer_seen}
use Rattle.base_row.specs.Plays.{SeatState, GotBase, KnowsOwn, Lost, carried_slots, entry_in}
use Rattle.base_row.specs.Calls.{Absorbs, Appended, AreFresh, LearnsFrom, LetsGo, GetsBase, MayAppend}
use Rattle.base_row.specs.Calls.{MissesBase, SeesFurther, Waits, known_of, own_entry}
use Rattle.base_row.proofs.Stable.{steady_trans}

-- ---- takes

pub locks_caught : (o : Opening) (b : ℕ) (v w : BaseView BaseContent) (h : HeldContent BaseContent)
    → GotBase o b (v, []) (w, carried_slots (Some h)) h → GetsBase b v w h
locks_caught o b v w h c = record {
  at = c.at;
  number = c.number;
  rest = ap (λ (m : SeatState). m.0) c.rest;
  word = c.word;
  newer = c.newer;
  apart = c.apart;
  seen = c.seen;
  steady = c.steady;
}

pub misses_lost : (o : Opening) (b : ℕ) (v w : BaseView BaseContent) → Lost o b (v, []) (w, []) → MissesBase b v w
misses_lost o b v w l =
    let is = ap (λ (m : SeatState). m.0) l.rest in record {
      waits = record {
        rest = is ∙ (λ i. record v {
          seen = w.seen;
          heard = ap (λ (x : BaseView BaseContent). x.heard)
              (sym is) i;
          met = w.met;
        });
        newer = l.newer;
        apart = l.apart;
        seen = l.seen;
        steady = l.steady;
      };
      missed = l.missed;
    }

pub locks_or_misses : (o : Opening) (b : ℕ) (v w : BaseView BaseContent) (r : Option (HeldContent BaseContent))
    → MatchOption r (Lost o b (v, []) (w, [])) (λ h. GotBase o b (v, []) (w, carried_slots (Some h)) h)
    → MatchOption r (MissesBase b v w) (λ h. GetsBase b v w h)
locks_or_misses o b v w None l = misses_lost o b v w l
locks_or_misses o b v w (Some h) c = locks_caught o b v w h c

-- a take after looks
pub locks_after : (b : ℕ) (u v w : BaseView BaseContent) (h : HeldContent BaseContent) → Waits b u v → GetsBase b v w h → GetsBase b u w h
locks_after b u v w h waits locks = record {
  at = locks.at;
  number = locks.number;
  rest = locks.rest ∙ ap (λ (x : BaseView BaseContent). record x {
    seen = w.seen;
    heard = [];
    held = Some h;
    takes = x.takes ++
        (b, locks.number) ∷ [];
    met = w.met;
  }) waits.rest;
  word = locks.word;
  newer = omega (arith, waits.newer, locks.newer);
  apart = λ c n. locks.apart c n ∙ waits.apart c n;
  seen = begins_trans waits.seen locks.seen;
  steady = steady_trans waits.steady locks.steady (ap (λ (x : BaseView BaseContent). x.carry) waits.rest) (ap (λ (x : BaseView BaseContent). x.id) waits.rest);
}

pub waits_after : (b : ℕ) (u v w : BaseView BaseContent) → Waits b u v → Waits b v w → Waits b u w
waits_after b u v w first second = record {
  rest = second.rest ∙ ap (λ (x : BaseView BaseContent). record x { seen = w.seen; heard = w.heard; met = w.met }) first.rest;
  newer = omega (arith, first.newer, second.newer);
  apart = λ c n. second.apart c n ∙ first.apart c n;
  seen = begins_trans first.seen second.seen;
  steady = steady_trans first.steady second.steady (ap (λ (x : BaseView BaseContent). x.carry) first.rest) (ap (λ (x : BaseView BaseContent). x.id) first.rest);
}

-- the last pass misses no base that may still be taken
pub last_misses_none : (o : Opening) (b : ℕ) (v w : BaseView BaseContent) → MissesBase b v w → w.opening ≡ o → KnowsOwn w → IsLast v.id
    → b < o.bases → 2 ^ 64 - 2 ≤ slice_index w.met b
last_misses_none o b v w misses about knows last inside =
    let is = misses.waits.rest in
    ⊎_elim
    (λ t.
    let mine : takes_at b t.0 w ≡ takes_at b t.0 v = ap (λ (x : BaseView BaseContent). takes_at b t.0 x) is in
    let last' : IsLast w.id = subst (λ (x : BaseView BaseContent). IsLast x.id) (sym is) last in
    absurd (omega (
      arith,
      mine,
      t.1,
      t.2,
      knows.all_takes last' b t.0 (omega (arith, ap (λ (x : Opening). x.bases) about, inside))
          (omega (arith, t.2)) (omega (arith, t.3)),
    )))
    (λ far. far)
    misses.missed

-- ---- what is known

-- a pass that has seen more, and is else as one with the same name, places and claims
looks_as : (v x w : BaseView BaseContent) → w ≡ x → known_of v ≡ known_of (record x { seen = v.seen }) → Begins v.seen w.seen
    → LooksOn (known_of v) (known_of w)
looks_as v x w is same seen =
    let all = ap (λ (y : BaseView BaseContent). known_of (record y { seen = v.seen })) is ∙ sym same in record {
      seen = seen;
      mine = ap (λ (k : Known SystemEntry Claimed). k.mine) all;
      id = ap (λ (k : Known SystemEntry Claimed). k.id) all;
      claims = ap (λ (k : Known SystemEntry Claimed). k.claims) all;
    }

pub looks_locks : (b : ℕ) (v w : BaseView BaseContent) (h : HeldContent BaseContent) → GetsBase b v w h → LooksOn (known_of v) (known_of w)
looks_locks b v w h l = looks_as v _ w l.rest refl l.seen

pub looks_waits : (b : ℕ) (v w : BaseView BaseContent) → Waits b v w → LooksOn (known_of v) (known_of w)
looks_waits b v w l = looks_as v _ w l.rest refl l.seen

pub looks_sees : (v w : BaseView BaseContent) → SeesFurther v w → LooksOn (known_of v) (known_of w)
looks_sees v w l = looks_as v _ w l.rest refl l.seen

pub looks_freed : (o : Opening) (h : HeldContent BaseContent) (v w : BaseView BaseContent) → LetsGo o h v w → LooksOn (known_of v) (known_of w)
looks_freed o h v w l = looks_as v _ w l.rest refl l.seen

looks_hears : (v u w : BaseView BaseContent) → LearnsFrom v u w → LooksOn (known_of v) (known_of w)
looks_hears v u w l = looks_as v _ w l.rest refl l.seen

pub takes_in : (v u w : BaseView BaseContent) → Absorbs v u w → TakesIn (known_of v) (known_of u) (known_of w)
takes_in v u w a = record {
  seen = a.seen;
  heard = a.heard;
  mine = ap (λ (x : BaseView BaseContent). x.mine) a.rest;
  id = ap (λ (x : BaseView BaseContent). x.id) a.rest;
  claims = ap (λ (x : BaseView BaseContent). x.claims) a.rest;
}

pub meet_with : (a b new_a new_b : BaseView BaseContent) → LearnsFrom b a new_b → LearnsFrom a new_b new_a
    → MeetWith (known_of a) (known_of b) (known_of new_a) (known_of new_b)
meet_with a b new_a new_b second first = record {
  first = looks_hears a new_b new_a first;
  second = looks_hears b a new_b second;
  first_heard = begins_trans second.seen first.heard;
  second_heard = second.heard;
  one = first.heard;
}

-- ---- an entry

-- a timer's stamp is how many entries of it were seen
pub stamp_seen : (o : Opening) → AreFresh o.timers → (v : BaseView BaseContent) (t : ℕ) → (timer_seen o v t).stamp ≡ length (entries_of t v.seen)
stamp_seen o fresh v t =
    omega (
      arith,
      ap (λ (x : Timer). x.stamp) (after_entries-entries_of (first_system o.timers) t v.seen),
      stamp-after_all
          (timer_at o.timers t) (entries_of t v.seen),
      (fresh.each t).stamp,
    )

after_all-push : (t : Timer) (es : List seq.Entry) (e : seq.Entry) → seq.after_all t (es ++ e ∷ []) ≡ after (seq.after_all t es) e.event
after_all-push t [] e = refl
after_all-push t (x ∷ xs) e = after_all-push (after t x.event) xs e

module _ (o : Opening) (fresh : AreFresh o.timers) (h : HeldContent BaseContent) (t : ℕ) (event : Event) (v w : BaseView BaseContent)
    (told : Appended o h t event v w) where
  pub extends_appended : ExtendsBy entries_of (known_of v) (known_of w) t (own_entry o v t event ∷ [])
  extends_appended =
      let e = entry_in o v t event in
      let seen : w.seen ≡ told.before ++ entries.Timer e ∷ [] = ap (λ (x : BaseView BaseContent). x.seen) told.rest in
      let one : entries_of t (entries.Timer e ∷ []) ≡ own_entry o v t event ∷ [] = ap (λ b. if b then own_entry o v t event ∷ [] else []) (eq-eqb t t refl) in
      record {
        seen = subst (λ l. Begins v.seen l) (sym seen) (begins_trans told.seen (begins_more told.before (entries.Timer e ∷ [])));
        own = ap (entries_of t) seen ∙ (entries_of-append t told.before (entries.Timer e ∷ [])
            ∙ (ap (λ l. l ++ entries_of t (entries.Timer e ∷ [])) told.own ∙ ap (λ l. entries_of t v.seen ++ l) one));
        mine = ap (λ (x : BaseView BaseContent). x.mine) told.rest ∙ ap (λ n. v.mine ++ (t, n + 1) ∷ []) (stamp_seen o fresh v t);
        id = ap (λ (x : BaseView BaseContent). x.id) told.rest;
      }

  -- the timer after the entry, as the pass has then seen it
  pub seen_after : timer_seen o w t ≡ after (timer_seen o v t) event
  unfolding extends_appended
  seen_after =
      let first : Timer = timer_at o.timers t in
      let e = own_entry o v t event in
      after_entries-entries_of (first_system o.timers) t w.seen ∙ (ap (seq.after_all first) extends_appended.own
      ∙ (after_all-push first (entries_of t v.seen) e ∙ ap (λ x. after x event) (sym (after_entries-entries_of (first_system o.timers) t v.seen))))

-- a timer of which nothing more was seen is as it was
pub seen_same : (o : Opening) (v w : BaseView BaseContent) (t : ℕ) → entries_of t w.seen ≡ entries_of t v.seen → timer_seen o w t ≡ timer_seen o v t
seen_same o v w t own = after_entries-entries_of (first_system o.timers) t w.seen
    ∙ (ap (seq.after_all (timer_at o.timers t)) own ∙ sym (after_entries-entries_of (first_system o.timers) t v.seen))

-- a timer on the move may be started by who carries it, on the base that it was sent to
pub may_start : (o : Opening) (v : BaseView BaseContent) (h : HeldContent BaseContent) (t : ℕ) (asked : Asked)
    → h.content.standing.heir ≡ None → h.content ≡ base_seen o v h.base → t < length o.timers
    → v.held ≡ Some h → v.carry ≡ Some t → (timer_seen o v t).moving ≡ true
    → asked.base ≡ (timer_seen o v t).base → (timer_seen o v t).base ≡ h.base
    → MayAppend o v h t (Start asked)
may_start o v h t asked online whole inside held carry moves here there = record {
  may = record {
    held = held;
    allowed = record {
      within = inside;
      needs = (inr here, inr moves);
      reply = refl;
      base = record {
        needs = tt;
        online = λ is. subst (λ q. (base_seen o v q).standing.heir ≡ None) (sym there)
            (subst (λ (x : BaseContent). x.standing.heir ≡ None) whole online);
        heir = λ moves. tt;
      };
    };
    base = there;
    carries = λ m. carry;
  };
  own = tt;
}
