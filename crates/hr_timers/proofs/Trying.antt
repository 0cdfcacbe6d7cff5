-- Calls that try each lock once, from their first look on.
use Rattle.std.proofs.Common.{◌≡◌, ℕ, ◌+◌, ◌-◌, ◌^◌, ◌<◌, ◌≤◌, List, [], ◌∷◌, ◌++◌, length, Some, None, Bool, slice_index, inl, inr, refl, ap, sym, ◌∙◌, subst}
use Rattle.std.specs.Prelude.{MatchBool, MatchResult, Result, Ok, Err}
use Rattle.std.proofs.Math.Logic.{⊎_elim}
use Rattle.pass_names.specs.Counts.{count}
use Rattle.pass_names.specs.Passes.{Begins, is_place, places}
use Rattle.pass_names.specs.Names.{IsLast}
use Rattle.pass_names.proofs.Passes.{begins_trans}
use Rattle.pass_names.proofs.SharedHistory as shared
use Rattle.pass_names.proofs.SharedHistory.{extends_looks}
use Rattle.seq_timer.specs.Events.{Asked, Event}
use Rattle.seq_timer.specs.Histories as seq
use Rattle.seq_timer.specs.Steps.{Timer, after}
use Rattle.seq_timer.specs.declared.event.EventBy.TheVariants.{Out}
use Rattle.seq_timer.specs.Systems.{BaseContent, IsOn, changed, entries_of, system_after}
use Rattle.seq_timer.specs.declared.system.SystemEntry.{SystemEntry}
use Rattle.base_row.specs.declared.view.BaseView.{BaseView}
use Rattle.base_row.specs.declared.view.HeldContent.{HeldContent}
use Rattle.base_row.specs.declared.view.Opening.{Opening}
use Rattle.base_row.specs.Calls as rows
use Rattle.base_row.proofs.Calling.{extends_appended, seen_after}
use Rattle.hr_timers.specs.declared.answer.NowAnswer.TheVariants as nows
use Rattle.hr_timers.specs.declared.once_answer.HereAnswer.{HereAnswer}
use Rattle.hr_timers.specs.declared.once_answer.HereAnswer.TheVariants as heres
use Rattle.hr_timers.specs.declared.once_answer.Miss.{Miss}
use Rattle.hr_timers.specs.declared.once_answer.Miss.TheVariants as misses
use Rattle.hr_timers.specs.declared.once_answer.Unsent.{Unsent}
use Rattle.hr_timers.specs.declared.once_answer.Unsent.TheVariants as unsents
use Rattle.hr_timers.specs.Calls.{LooksAt, entry_by}
use Rattle.hr_timers.specs.declared.moving_once.Sent.{Sent}
use Rattle.hr_timers.specs.Carriers.{IsCarrying}
use Rattle.hr_timers.specs.Carrying.{HeldUnsentFits, SendsOff, UnsentFits}
use Rattle.hr_timers.specs.Known.{AddsBehind, HoldsTimer, IsAtRest, KnowsTimers, OnlySeesMore, PassOf, pass_of, timer_then}
use Rattle.hr_timers.specs.Moves.{known_from}
use Rattle.hr_timers.specs.Once.{HeldHereFits, HeldMissFits, HereFits, IsContended, LeadsQueueIn, IsLastMiss, MissFits, NeedsMove, SaysFirst}
use Rattle.hr_timers.specs.Ways.{Finds, IsWay, asking}
use Rattle.hr_timers.proofs.Last.{not_moved, not_moving}
use Rattle.hr_timers.proofs.Logging.{starts_before}
use Rattle.hr_timers.proofs.Making.{looks_on, looks_trans, same_place}
use Rattle.hr_timers.proofs.Moments.{stamp_rises}
use Rattle.hr_timers.proofs.TriedNow.{looks_at_before, now_from}
use Rattle.hr_timers.proofs.Ways.{sent_from, way_rises}

-- ---- a lock that was missed

-- looks before it that took no lock and met none
pub contended_before : (p m q : rows.BasePassOf) (b : ℕ) → OnlySeesMore p.knows m.knows → m.knows.takes ≡ p.knows.takes → m.knows.met ≡ p.knows.met
    → IsContended (pass_of m) (pass_of q) b → IsContended (pass_of p) (pass_of q) b
contended_before p m q b looks takes met lost = record {
  looks = shared.looks_trans (rows.known_of p.knows) (rows.known_of m.knows) (rows.known_of q.knows) (looks_on p.knows m.knows looks) lost.looks;
  missed = ⊎_elim
      (λ e. inl (e.0, subst (λ (ts : List (ℕ × ℕ)). count (is_place b e.0) ts ≡ 0) takes e.1, subst (λ (ms : List ℕ). slice_index ms b < e.0 + e.0) met e.2, e.3))
      (λ e. inr e)
      lost.missed;
  takes = lost.takes ∙ takes;
}

pub miss_before : (o : Opening) (p m q : rows.BasePassOf) (t : ℕ) (a : Miss) → OnlySeesMore p.knows m.knows → m.knows.takes ≡ p.knows.takes
    → m.knows.met ≡ p.knows.met → MissFits o (pass_of m) (pass_of q) t a → MissFits o (pass_of p) (pass_of q) t a
miss_before o p m q t (misses.Contended b) looks takes met lost = (
  contended_before p m q b looks takes met lost.0,
  record { at = lost.1.at; looks = looks_at_before p.knows m.knows (rows.known_of q.knows) lost.1.at looks lost.1.looks; base = lost.1.base },
)
miss_before o p m q t (misses.Moving b) looks takes met was =
    record { at = was.at; looks = looks_at_before p.knows m.knows (rows.known_of q.knows) was.at looks was.looks; moving = was.moving; base = was.base }
miss_before o p m q t (misses.Moved a b) looks takes met was = record {
  at = was.at;
  looks = looks_at_before p.knows m.knows (rows.known_of q.knows) was.at looks was.looks;
  base = was.base;
  later = was.later;
  goes_on = was.goes_on;
  seen = was.seen;
  base_later = was.base_later;
  apart = was.apart;
}

-- a look that found the timer on this base, and a miss of its lock
pub miss_contended : (o : Opening) (p l m : rows.BasePassOf) (t base : ℕ) → OnlySeesMore p.knows l.knows → l.knows.takes ≡ p.knows.takes
    → l.knows.met ≡ p.knows.met → OnlySeesMore l.knows m.knows → (timer_then o l.knows.seen t).base ≡ base → IsContended (pass_of l) (pass_of m) base
    → MissFits o (pass_of p) (pass_of m) t (misses.Contended base)
miss_contended o p l m t base first takes met second on lost = (
  contended_before p l m base first takes met lost,
  record {
    at = l.knows.seen;
    looks = record { looks = looks_on p.knows m.knows (looks_trans p.knows l.knows m.knows first second); from = first.seen; seen = second.seen };
    base = on;
  },
)

-- a look that found the timer on this base, a look by which its lock was got, and why the timer wasn't held then
pub miss_from : (o : Opening) (p l m q : rows.BasePassOf) (t base : ℕ) (a : Miss) → OnlySeesMore p.knows l.knows → OnlySeesMore l.knows m.knows
    → (timer_then o l.knows.seen t).base ≡ base → HeldMissFits o (pass_of m) (pass_of q) t base a → MissFits o (pass_of p) (pass_of q) t a
miss_from o p l m q t base (misses.Contended b) first second on fits = absurd fits
miss_from o p l m q t base (misses.Moving b) first second on fits = now_from o p l m q t base (nows.Moving b) first second on fits
miss_from o p l m q t base (misses.Moved a b) first second on fits = now_from o p l m q t base (nows.Moved a b) first second on fits

-- the last pass is told of a lock that is taken no more, and of nothing else
pub last_miss : (o : Opening) (p q : PassOf) (t : ℕ) (m : Miss) → KnowsTimers o p.known → KnowsTimers o q.known → IsLast p.known.id → t < length o.timers
    → MissFits o p q t m → ((b : ℕ) → m ≡ misses.Contended b → 2 ^ 64 - 2 ≤ slice_index q.met b) → IsLastMiss q.met m
last_miss o p q t (misses.Contended b) before after last inside fits full = full b refl
last_miss o p q t (misses.Moving b) before after last inside fits full = not_moving o p q t b before after last inside fits
last_miss o p q t (misses.Moved a b) before after last inside fits full = not_moved o p q t a b before after last inside fits

-- ---- the first of a queue

pub says_first : (o : Opening) (x : List SystemEntry) (t : ℕ) (s : Timer) (c : BaseContent) (first : Bool) → timer_then o x t ≡ s
    → (system_after o.timers x).bases s.base ≡ c → MatchBool first (LeadsQueueIn c.content s t) (LeadsQueueIn c.content s t → ⊥) → SaysFirst o x t first
says_first o x t s c first is has said =
    subst (λ (y : Timer). MatchBool first (LeadsQueueIn ((system_after o.timers x).bases y.base).content y t)
    (LeadsQueueIn ((system_after o.timers x).bases y.base).content y t → ⊥)) (sym is)
    (subst (λ (d : BaseContent). MatchBool first (LeadsQueueIn d.content s t) (LeadsQueueIn d.content s t → ⊥)) (sym has) said)

-- ---- an entry on a held base, which is then let go

-- the base is held then, and has the timer
pub holds_after : (r : rows.BaseRowOf) (h g : HeldContent BaseContent) (t : ℕ) (event : Event) (p q : rows.BasePassOf) → rows.AreFresh r.about.timers
    → t < length r.about.timers → h.base < r.about.bases → rows.IsBasePassOf r q → rows.Appended r.about h t event p.knows q.knows → q.knows.held ≡ Some g
    → q.knows.carry ≡ None → IsOn h.base (after (rows.timer_seen r.about p.knows t) event) → HoldsTimer r q g t
holds_after r h g t event p q fresh inside within row told held free on =
    let here : h.base ≡ g.base = same_place
    (record { base = h.base; word = h.word; content = changed t (rows.timer_seen r.about p.knows t) event h.content }) g
    (sym (ap (λ (y : BaseView BaseContent). y.held) told.rest) ∙ held) in
    record {
      holds = record { row = row; within = subst (λ b. b < r.about.bases) here within; held = held; free = free };
      within = inside;
      on = subst (λ b. IsOn b (rows.timer_seen r.about q.knows t)) here
          (subst (λ (y : Timer). IsOn h.base y) (sym (seen_after r.about fresh h t event p.knows q.knows told)) on);
    }

pub adds_left : (o : Opening) (h : HeldContent BaseContent) (t : ℕ) (event : Event) (v w x : BaseView BaseContent) → rows.AreFresh o.timers
    → rows.Appended o h t event v w → OnlySeesMore w x → entries_of t x.seen ≡ entries_of t w.seen
    → AddsBehind v x t (entry_by (rows.timer_seen o v t) event ∷ [])
adds_left o h t event v w x fresh told looks own = extends_looks entries_of (rows.known_of v) (rows.known_of w) (rows.known_of x) t
    (entry_by (rows.timer_seen o v t) event ∷ []) (extends_appended o fresh h t event v w told) (looks_on w x looks) own

-- a look that sees nothing more of the timer, and entries behind
pub adds_before : (u v w : BaseView BaseContent) (t : ℕ) (es : List seq.Entry) → OnlySeesMore u v → entries_of t v.seen ≡ entries_of t u.seen
    → AddsBehind v w t es → AddsBehind u w t es
adds_before u v w t es looks same adds = record {
  seen = begins_trans looks.seen adds.seen;
  own = adds.own ∙ ap (λ l. l ++ es) same;
  mine = adds.mine ∙ (λ i. looks.mine i ++ places t (length (same i)) es);
  id = adds.id ∙ looks.id;
}

-- ---- starts and sends

module _ (o : Opening) (p m q : rows.BasePassOf) (t asked base : ℕ) (path : List ℕ) (x : List SystemEntry) (looks : OnlySeesMore p.knows m.knows)
    (way : IsWay o p.knows.seen asked path base x) (early : Begins x m.knows.seen) where
  -- a look behind the way to the base that was found
  found_looks : (at : List SystemEntry) → LooksAt (known_from m.knows x) (rows.known_of q.knows) at
      → LooksAt (rows.known_of p.knows) (rows.known_of q.knows) at
  found_looks at r =
      let rises = way_rises o p.knows.seen asked path base x way in record {
        looks = record {
          seen = begins_trans rises r.looks.seen;
          mine = r.looks.mine ∙ looks.mine;
          id = r.looks.id ∙ looks.id;
          claims = r.looks.claims ∙ looks.claims;
        };
        from = begins_trans rises r.from;
        seen = r.seen;
      }

  finds_before : (n to : ℕ) (at : List SystemEntry) → Begins x at → Begins at q.knows.seen → (timer_then o at t).stamp ≡ n
      → Finds o q.knows.seen t x n base to → Finds o q.knows.seen t p.knows.seen n asked to
  finds_before n to at from seen stamp f = sent_from o q.knows.seen t p.knows.seen n asked base
      (record { path = path; at = x; way = way; seen = begins_trans from seen; few = subst (λ k. (timer_then o x t).stamp ≤ k) stamp (stamp_rises o x at t from) })
      [] to f

  moves_before : (b : ℕ) → NeedsMove o (known_from m.knows x) (rows.known_of q.knows) t base b → NeedsMove o (rows.known_of p.knows) (rows.known_of q.knows) t asked b
  moves_before b r = record {
    at = r.at;
    looks = found_looks r.at r.looks;
    base = r.base;
    moves = ⊎_elim
        (λ e. inl (e.0, finds_before (timer_then o r.at t).stamp e.0 r.at r.looks.from r.looks.seen refl e.1, e.2))
        (λ e. inr e)
        r.moves;
  }

  pub unsent_before : (a : Unsent) → HeldUnsentFits o (known_from m.knows x) (rows.known_of q.knows) t base a → UnsentFits o (pass_of p) (pass_of q) t asked a
  unsent_before (unsents.Missed a) r = absurd r
  unsent_before (unsents.Spent n) r = record { at = r.at; looks = found_looks r.at r.looks; limit = r.limit; stamp = r.stamp }
  unsent_before (unsents.Stays b) r = record {
    at = r.at;
    looks = found_looks r.at r.looks;
    base = r.base;
    to = r.to;
    found = finds_before (timer_then o r.at t).stamp r.to r.at r.looks.from r.looks.seen refl r.found;
    stays = r.stays;
  }

  pub sends_before : (s : Timer) (was_armed : Bool) → SendsOff o (known_from m.knows x) (rows.known_of q.knows) t base s was_armed
      → SendsOff o (rows.known_of p.knows) (rows.known_of q.knows) t asked s was_armed
  sends_before s was_armed r = record {
    at = r.at;
    found = finds_before (timer_then o r.at t).stamp s.base r.at r.made.from r.made.seen refl r.found;
    made = record {
      from = begins_trans (way_rises o p.knows.seen asked path base x way) r.made.from;
      seen = r.made.seen;
      own = r.made.own;
      mine = r.made.mine ∙ ap (λ l. l ++ places t (length (entries_of t r.at)) (entry_by (timer_then o r.at t) (Out s.base) ∷ [])) looks.mine;
      id = r.made.id ∙ looks.id;
    };
    below = r.below;
    still = r.still;
    moves = r.moves;
    becomes = r.becomes;
    armed = r.armed;
    claims = r.claims ∙ looks.claims;
  }

  pub sent_before : (row : rows.BaseRowOf) (r : Result Sent Unsent) → MatchResult r (λ k. IsCarrying row q t k.state) (λ u. IsAtRest row q)
      → MatchResult r (λ k. SendsOff o (known_from m.knows x) (rows.known_of q.knows) t base k.state k.was_armed)
      (λ u. HeldUnsentFits o (known_from m.knows x) (rows.known_of q.knows) t base u)
      → MatchResult r (λ k. IsCarrying row q t k.state × SendsOff o (rows.known_of p.knows) (rows.known_of q.knows) t asked k.state k.was_armed)
      (λ u. IsAtRest row q × UnsentFits o (pass_of p) (pass_of q) t asked u)
  sent_before row (Ok k) stands sends = (stands, sends_before k.state k.was_armed sends)
  sent_before row (Err u) stands sends = (stands, unsent_before u sends)

pub here_before : (o : Opening) (p m q : rows.BasePassOf) (t : ℕ) (asked : Asked) (base : ℕ) (path : List ℕ) (x : List SystemEntry) (a : HereAnswer)
    → OnlySeesMore p.knows m.knows → IsWay o p.knows.seen asked.base path base x → Begins x m.knows.seen
    → HeldHereFits o (known_from m.knows x) (rows.known_of q.knows) t (asking asked base) a → HereFits o (pass_of p) (pass_of q) t asked a
here_before o p m q t asked base path x (heres.Tried a first) looks way early r = (
  (starts_before {A = Unit {0}} (λ s receipt. s) o p.knows m.knows (rows.known_of q.knows) t asked base path x a tt tt looks way early
      (record { starts = r.0; logged = refl })).starts,
  r.1,
)
here_before o p m q t asked base path x (heres.Elsewhere b) looks way early r = moves_before o p m q t asked.base base path x looks way early b r
here_before o p m q t asked base path x (heres.Missed a) looks way early r = absurd r
