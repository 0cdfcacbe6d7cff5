-- What calls on timers make stands between what their pass had seen before and after.
use Rattle.std.proofs.Common.{◌≡◌, ◌≤◌, ℕ, zero, suc, ◌+◌, List, [], ◌∷◌, ◌++◌, Bool, length, arith, refl, sym, ap, ◌∙◌, subst, inl, inr}
use Rattle.std.specs.List.{AllByRecursion}
use Rattle.std.proofs.lemmas.List.{append-nil, append_assoc, length-append}
use Rattle.ktime.specs.Readings.{ClockReading}
use Rattle.pass_names.specs.Passes.{Begins, places}
use Rattle.pass_names.specs.SharedHistory.{LooksOn}
use Rattle.pass_names.proofs.Passes.{begins_length, begins_refl, begins_trans}
use Rattle.seq_timer.specs.Histories as seq
use Rattle.seq_timer.specs.Systems.{entries_of, shifts_of}
use Rattle.seq_timer.specs.declared.context.Context.{Context}
use Rattle.seq_timer.specs.declared.standing.BaseEvent.{BaseEvent}
use Rattle.seq_timer.specs.declared.system.SystemEntry.{SystemEntry}
use Rattle.seq_timer.proofs.Systems.{shifts_of-append}
use Rattle.base_row.specs.declared.log.Receipt.{Receipt}
use Rattle.base_row.specs.declared.view.Opening.{Opening}
use Rattle.base_row.proofs.Begun.{entries_of-begins}
use Rattle.hr_timers.specs.Calls.{NowFits}
use Rattle.hr_timers.specs.Expiring.{Expires, Turn, Turns}
use Rattle.hr_timers.specs.Handlers.{Meaning}
use Rattle.hr_timers.specs.Known.{KnownOfTimers, MadeAt, PassOf}
use Rattle.hr_timers.specs.Moves.{AreMoved, EndFits, Evacuates, GoesOffline, OfflineFits, OnlineFits, ShiftsBase}
use Rattle.hr_timers.specs.declared.answer.NowAnswer.{NowAnswer}
use Rattle.hr_timers.specs.declared.answer.NowAnswer.TheVariants as nows
use Rattle.hr_timers.specs.declared.answer.OfflineAnswer.{OfflineAnswer}
use Rattle.hr_timers.specs.declared.answer.OfflineAnswer.TheVariants as offs
use Rattle.hr_timers.specs.declared.answer.OnlineAnswer.{OnlineAnswer}
use Rattle.hr_timers.specs.declared.answer.OnlineAnswer.TheVariants as ons
use Rattle.hr_timers.specs.declared.expiry.ExpireAnswer.{ExpireAnswer}
use Rattle.hr_timers.specs.declared.expiry.ExpireAnswer.TheVariants as expiries
use Rattle.answer_laws.specs.Between.{FunctionsMakeBetween, MakesBetween, MakesSome, StandsBetween}

-- of each base the entries that a history begins with begin its own
shifts_of-begins : (b : ℕ) (part log : List SystemEntry) → Begins part log → Begins (shifts_of b part) (shifts_of b log)
shifts_of-begins b part log on = record { rest = shifts_of b on.rest; whole = ap (shifts_of b) on.whole ∙ shifts_of-append b part on.rest }

module _ (timers : ℕ) where
  -- what stands between two histories stands between an earlier and a later one
  wider : (u v w z : List SystemEntry) → Begins u v → Begins w z → (p : ℕ × ℕ) → StandsBetween timers v w p → StandsBetween timers u z p
  wider u v w z low high p (inl is) = inl (
    omega (arith, is.0, begins_length (entries_of-begins p.0 u v low)),
    omega (arith, is.1, begins_length (entries_of-begins p.0 w z high)),
  )
  wider u v w z low high p (inr is) = inr (
    is.0,
    is.1,
    (
      omega (arith, is.2.0, begins_length (shifts_of-begins is.0 u v low)),
      omega (arith, is.2.1, begins_length (shifts_of-begins is.0 w z high)),
    ),
  )

  -- places along two lists
  both : (u v w : List SystemEntry) → Begins u v → Begins v w → (ps qs : List (ℕ × ℕ)) → AllByRecursion (StandsBetween timers u v) ps
      → AllByRecursion (StandsBetween timers v w) qs → AllByRecursion (StandsBetween timers u w) (ps ++ qs)
  both u v w low high [] [] first second = tt
  both u v w low high [] (q ∷ qs) first second = (wider u v w w low (begins_refl w) q second.0, both u v w low high [] qs tt second.1)
  both u v w low high (p ∷ ps) qs first second = (wider u u v w (begins_refl u) high p first.0, both u v w low high ps qs first.1 second)

  -- law: one call behind the other
  pub and_then : {u v w : KnownOfTimers} → MakesSome timers u v → MakesSome timers v w → MakesSome timers u w
  and_then {u} {v} {w} a b = (
    a.0 ++ b.0,
    record {
      seen = begins_trans a.1.seen b.1.seen;
      id = b.1.id ∙ a.1.id;
      mine = b.1.mine ∙ (ap (λ l. l ++ b.0) a.1.mine ∙ append_assoc u.mine a.0 b.0);
      each = both u.seen v.seen w.seen a.1.seen b.1.seen a.0 b.0 a.1.each b.1.each;
    },
  )

  -- law: a look makes nothing
  pub looked : {v w : KnownOfTimers} → LooksOn v w → MakesSome timers v w
  looked {v} on = ([], record { seen = on.seen; id = on.id; mine = on.mine ∙ sym (append-nil v.mine); each = tt })

  pub same : {v w : KnownOfTimers} → w ≡ v → MakesSome timers v w
  same {v} is = subst (MakesSome timers v) (sym is) (looked (record { seen = begins_refl v.seen; mine = refl; id = refl; claims = refl }))

  -- the entries of a timer with numbers past those that were seen before
  numbered : (v w : List SystemEntry) (t n : ℕ) (es : List seq.Entry) → length (entries_of t v) ≤ n → n + length es ≤ length (entries_of t w)
      → AllByRecursion (StandsBetween timers v w) (places t n es)
  numbered v w t n [] from to = tt
  numbered v w t n (e ∷ es) from to =
      (inl (omega (arith, from), omega (arith, to)), numbered v w t (n + 1) es (omega (arith, from)) (omega (arith, to)))

  -- law: entries that were made at a moment of a call
  pub made_at : {v w : KnownOfTimers} {t : ℕ} {x : List SystemEntry} {es : List seq.Entry} → MadeAt v w t x es → MakesSome timers v w
  made_at {v} {w} {t} {x} {es} made = (
    places t (length (entries_of t x)) es,
    record {
      seen = begins_trans made.from made.seen;
      id = made.id;
      mine = made.mine;
      each = numbered v.seen w.seen t (length (entries_of t x)) es (begins_length (entries_of-begins t v.seen x made.from))
          (omega (arith, ap length made.own, length-append (entries_of t x) es));
    },
  )

module _ (o : Opening) where
  abbrev Makes : KnownOfTimers → KnownOfTimers → Type 0
  Makes v w = MakesSome (length o.timers) v w

  -- a base's entry
  shifted : {v w : KnownOfTimers} {base : ℕ} {event : BaseEvent} → ShiftsBase o v w base event → Makes v w
  shifted {v} {w} {base} {event} s = (
    _,
    record {
      seen = s.seen;
      id = s.id;
      mine = s.mine;
      each = (inr (base, refl, (omega arith, omega (arith, ap length s.own, length-append (shifts_of base v.seen) (event ∷ [])))), tt);
    },
  )

  -- law: a cancel that waits for nobody
  pub now_makes : (p q : PassOf) (t : ℕ) (a : NowAnswer) → NowFits o p q t a → Makes p.known q.known
  now_makes p q t (nows.Tried a) is = made_at (length o.timers) is.made
  now_makes p q t (nows.Contended b) is = looked (length o.timers) is.1.looks.looks
  now_makes p q t (nows.Moving b) is = looked (length o.timers) is.looks.looks
  now_makes p q t (nows.Moved a b) is = looked (length o.timers) is.looks.looks

  -- law: a base taken on line
  pub online_makes : (v w : KnownOfTimers) (base : ℕ) (a : OnlineAnswer) → OnlineFits o v w base a → Makes v w
  online_makes v w base (ons.Online n) is = shifted is.0
  online_makes v w base (ons.AlreadyOnline n) is = looked (length o.timers) is.0

  module _ {A : Type 0} (put : A → Receipt → A) (base heir : ℕ) (reading : ClockReading) where
    moved : (v : KnownOfTimers) (ts : List ℕ) (w : KnownOfTimers) (s s' : A) → AreMoved put o base heir reading v ts w s s' → Makes v w
    moved v [] w s s' is = same (length o.timers) is.0
    moved v (t ∷ ts) w s s' is = and_then (length o.timers) (made_at (length o.timers) is.2.made) (moved is.0 ts w is.1 s' is.3)

    last_turn : (v w : KnownOfTimers) (goes_on : Bool) (n : ℕ) (a : OfflineAnswer) (s s' : A) → EndFits put o base heir reading v w goes_on n a s s'
        → Makes v w
    last_turn v w goes_on n (offs.Busy m t g) s s' is = looked (length o.timers) is.1.0.looks
    last_turn v w goes_on n (offs.Offline m stamp) s s' is = shifted is.1.0
    last_turn v w goes_on n (offs.More m) s s' is = looked (length o.timers) is.1.1.0.looks
    last_turn v w goes_on n (offs.Spent m t stamp) s s' is = looked (length o.timers) is.1.0.looks
    last_turn v w goes_on n (offs.AlreadyOffline m) s s' is = absurd is
    last_turn v w goes_on n (offs.HeirOffline m) s s' is = absurd is
    last_turn v w goes_on n (offs.BaseSpent m) s s' is = absurd is

    went : (v w : KnownOfTimers) (budget : ℕ) (a : OfflineAnswer) (s s' : A) → GoesOffline put o base heir reading v w budget a s s' → Makes v w
    went v w budget a s s' is =
        let e = is.evacuates in
        and_then (length o.timers) (looked (length o.timers) is.looks)
        (and_then (length o.timers) (moved is.begins e.timers e.mid s e.between e.moves) (last_turn e.mid w _ (length e.timers) a e.between s' e.last))

    -- law: a base taken off line
    pub offline_makes : (v w : KnownOfTimers) (budget : ℕ) (a : OfflineAnswer) (s s' : A) → OfflineFits put o base heir reading v w budget a s s'
        → Makes v w
    offline_makes v w budget (offs.AlreadyOffline n) s s' is = looked (length o.timers) is.0.looks
    offline_makes v w budget (offs.HeirOffline n) s s' is = looked (length o.timers) is.0.looks
    offline_makes v w budget (offs.BaseSpent n) s s' is = looked (length o.timers) is.0.looks
    offline_makes v w budget (offs.Busy n t g) s s' is = went v w budget (offs.Busy n t g) s s' is
    offline_makes v w budget (offs.Offline n stamp) s s' is = went v w budget (offs.Offline n stamp) s s' is
    offline_makes v w budget (offs.More n) s s' is = went v w budget (offs.More n) s s' is
    offline_makes v w budget (offs.Spent n t stamp) s s' is = went v w budget (offs.Spent n t stamp) s s' is

  -- an expiry run, each of whose functions makes its entries between
  module _ {A : Type 0} (m : Meaning A) (functions : FunctionsMakeBetween m o) (x : Context) (base : ℕ) (reading : ClockReading) where
    turn_makes : (k : KnownOfTimers) (h : A) (log : List Receipt) (k' : KnownOfTimers) (h' : A) (log' : List Receipt)
        → Turn m o x base reading k h log k' h' log' → Makes k k'
    turn_makes k h log k' h' log' turn =
        let did = functions h h' turn.claimed turn.ran.done turn.claim reading turn.ran.restart turn.ran.did in
        and_then (length o.timers) (made_at (length o.timers) turn.claims.made)
        (and_then (length o.timers) did (made_at (length o.timers) turn.ran.finishes.made))

    turns_make : (n : ℕ) (k : KnownOfTimers) (h : A) (log : List Receipt) (k' : KnownOfTimers) (h' : A) (log' : List Receipt)
        → Turns m o x base reading n k h log k' h' log' → Makes k k'
    turns_make zero k h log k' h' log' turns = same (length o.timers) turns.0
    turns_make (suc n) k h log k' h' log' turns =
        and_then (length o.timers) (turns_make n k h log turns.0 turns.1 turns.2 turns.3) (turn_makes turns.0 turns.1 turns.2 k' h' log' turns.4)

    -- law: so does the run
    pub run_makes : (budget : ℕ) (k : KnownOfTimers) (h : A) (log : List Receipt) (k' : KnownOfTimers) (h' : A) (log' : List Receipt) (a : ExpireAnswer)
        → Expires m o x base reading budget k h log k' h' log' a → Makes k k'
    run_makes budget k h log k' h' log' (expiries.More fired) is = turns_make fired k h log k' h' log' is.1
    run_makes budget k h log k' h' log' (expiries.Done fired) is =
        and_then (length o.timers) (turns_make fired k h log is.1.0 h' log' is.1.1) (looked (length o.timers) is.1.2.0)
    run_makes budget k h log k' h' log' (expiries.BaseBusy fired t g) is =
        and_then (length o.timers) (turns_make fired k h log is.1.0 h' log' is.1.1) (looked (length o.timers) is.1.2.0)
