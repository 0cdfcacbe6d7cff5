-- Turns of taking a base off line.
use Rattle.std.proofs.Common.{◌≡◌, ℕ, ◌+◌, ◌<◌, ◌≤◌, List, [], ◌∷◌, ◌++◌, length, refl, ap, sym, ◌∙◌, subst, true, false, inl, inr, arith}
use Rattle.std.specs.Prelude.{Bool, Option, Some, None, is_some, ◌&&◌, nat_eq, nat_lt, if◌then◌else◌}
use Rattle.std.proofs.lemmas.Bool.{true≢false}
use Rattle.std.proofs.lemmas.Bool.Decides.{nat_tests}
use Rattle.ktime.specs.Readings.{ClockReading}
use Rattle.seq_timer.specs.Halves.{running_on}
use Rattle.seq_timer.specs.Steps.{Timer, Needs}
use Rattle.pass_names.specs.Passes.{Begins, places}
use Rattle.pass_names.proofs.Passes.{begins_more, begins_trans}
use Rattle.seq_timer.specs.Halves.{generation_in}
use Rattle.seq_timer.specs.Histories as seq
use Rattle.seq_timer.specs.Systems.{AreSystemSteps, BaseContent, entries_of, first_system, system_after}
use Rattle.seq_timer.specs.declared.system.SystemEntry.{SystemEntry}
use Rattle.seq_timer.specs.declared.system.SystemEntry.TheVariants as entries
use Rattle.seq_timer.proofs.Agreement.{agrees}
use Rattle.seq_timer.proofs.Systems.{steps_part}
use Rattle.base_row.specs.Logs.{all_pushed, receipts_of}
use Rattle.base_row.proofs.Placed.{none_runs}
use Rattle.hr_timers.proofs.Moments.{timer_own}
use Rattle.seq_timer.specs.Tables.{in_context, is_armed_on, is_context, no_timer, runs_on, timer_at}
use Rattle.seq_timer.specs.declared.context.Context.{Context}
use Rattle.seq_timer.specs.declared.context.Terms.{Terms}
use Rattle.seq_timer.specs.declared.event.EventBy.TheVariants as events
use Rattle.base_row.specs.declared.log.Receipt.{Receipt}
use Rattle.base_row.specs.declared.view.BaseView.{BaseView}
use Rattle.base_row.specs.declared.view.Opening.{Opening}
use Rattle.base_row.specs.Calls as rows
use Rattle.base_row.specs.Plays.{Steady}
use Rattle.hr_timers.specs.Known.{AddsBehind, KnownOfTimers, OnlySeesMore, timer_then}
use Rattle.hr_timers.specs.Logged.{IsLogged}
use Rattle.pass_names.specs.SharedHistory.{LooksOn}
use Rattle.hr_timers.specs.declared.answer.OfflineAnswer.{OfflineAnswer}
use Rattle.hr_timers.specs.declared.answer.OfflineAnswer.TheVariants as offs
use Rattle.hr_timers.specs.declared.answer.OnlineAnswer.{OnlineAnswer}
use Rattle.hr_timers.specs.declared.answer.OnlineAnswer.TheVariants as ons
use Rattle.hr_timers.specs.declared.evacuating.Turn.{Turn}
use Rattle.hr_timers.specs.declared.evacuating.Turn.TheVariants as turns
use Rattle.hr_timers.specs.Moves.{AreMoved, EndFits, Evacuates, GoesOffline, IsFront, IsSamePass, RunsFirst, RunsFirstIn, KeepsBases, MayGoOffline, MovesTimer, OfflineFits, OnlineFits, OnlyLooks, RunsNone, StandsBehind, TakesOffline}
use Rattle.hr_timers.specs.Moves.{TurnFits, evacuations_end, move_entries}
use Rattle.seq_timer.specs.Contents.{Content, front_of, running_in}
use Rattle.seq_timer.specs.declared.context.Context.TheVariants as contexts
use Rattle.seq_timer.proofs.Contents.{seen_own}
use Rattle.base_row.specs.declared.view.HeldContent.{HeldContent}
use Rattle.base_row.specs.Plays.{KnowsBases}
use Rattle.base_row.proofs.Placed.{tells_running}
use Rattle.hr_timers.proofs.Keeping.{keeps_trans, terms_kept}
use Rattle.hr_timers.proofs.Making.{looks_on, looks_seen, looks_trans}

pub only_looks : {A : Type 0} (u v w : BaseView BaseContent) (s : A) → OnlySeesMore u v → Steady u v → OnlySeesMore v w
    → KeepsBases (rows.known_of v) (rows.known_of w) → OnlyLooks (rows.known_of u) (rows.known_of w) s s
only_looks u v w s first steady second keeps = record {
  looks = looks_on u w (looks_trans u v w first second);
  keeps = keeps_trans u v w steady.shifts keeps first.id;
  sink = refl;
}

-- two loads show nothing more of any base
pub keeps_loads : (u v w : BaseView BaseContent) → rows.SeesFurther u v → Steady u v → Steady v w → KeepsBases (rows.known_of u) (rows.known_of w)
keeps_loads u v w sees first second = keeps_trans u v w first.shifts second.shifts (looks_seen u v sees).id

-- a function that runs in a context runs
pub runs_in_any : (base g : ℕ) (x : Context) (t : Timer) → running_on base (if is_context x t.declared.context then t else no_timer) ≡ Some g
    → running_on base t ≡ Some g
runs_in_any base g x t is = at (is_context x t.declared.context) is
  where
    none_here : (b : Bool) → (if b then None else None) ≡ Some g → ⊥
    none_here true e = cc
    none_here false e = cc

    at : (b : Bool) → running_on base (if b then t else no_timer) ≡ Some g → running_on base t ≡ Some g
    at true e = e
    at false e = absurd (none_here (nat_eq 0 base) e)

-- which function runs on a base that was let go
pub left_first : (o : Opening) (w : BaseView BaseContent) (c : Content) (base t g : ℕ)
    → ((x : Context) → running_in x c ≡ None → (u : ℕ) → runs_on base (in_context x (rows.timer_seen o w) u) ≡ false)
    → ((x : Context) (u n : ℕ) → running_in x c ≡ Some (u, n) → running_on base (in_context x (rows.timer_seen o w) u) ≡ Some n)
    → RunsFirstIn c (t, g) → (running_on base (rows.timer_seen o w t) ≡ Some g) × RunsFirst o w.seen base t g
left_first o w c base t g idle busy (inl hard) =
    (runs_in_any base g contexts.Hard (rows.timer_seen o w t) (busy contexts.Hard t g hard), inl (busy contexts.Hard t g hard))
left_first o w c base t g idle busy (inr soft) = (
  runs_in_any base g contexts.Soft (rows.timer_seen o w t) (busy contexts.Soft t g soft.1),
  inr (idle contexts.Hard soft.0, busy contexts.Soft t g soft.1),
)

-- the timer at its front is the next to be moved
pub front_left : (o : Opening) (w : BaseView BaseContent) (base t : ℕ) (b : BaseContent) → rows.base_seen o w base ≡ b
    → (expires : ℕ) × (front_of b.content ≡ Some (expires, t)) → IsFront o w.seen base t
front_left o w base t b is front = (front.0, ap (λ (x : BaseContent). front_of x.content) is ∙ front.1)

-- an armed timer of a base where no function runs isn't running
pub armed_idle : (base : ℕ) (t : Timer) → is_armed_on base t ≡ true → runs_on base t ≡ false → t.running ≡ None
armed_idle base t armed idle = by_running t.running (grind (arith, nat_tests)) idle
  where
    by_running : (r : Option ℕ) → nat_eq t.base base ≡ true → (is_some r && nat_eq t.base base) ≡ false → r ≡ None
    by_running None here off = refl
    by_running (Some g) here off = absurd (true≢false (sym here ∙ off))

-- a timer with a reach that is armed on a base may be sent to one of a lower number, unless it has as many entries as its limit and its reach allow
pub may_move : (base heir : ℕ) (t : Timer) → is_armed_on base t ≡ true → t.running ≡ None → heir < base → base < 64 → 0 < t.terms.reach
    → t.stamp < t.terms.limit + t.terms.reach → Needs t (events.Out heir)
may_move base heir t armed idle down few reach room = (
  ap is_some idle,
  (λ same. below_itself (omega (arith, same, at_base, down))),
  grind (arith, nat_tests),
)
  where
    at_base : t.base ≡ base
    at_base = grind (arith, nat_tests)

    below_itself : base < base → ⊥
    below_itself less = omega (arith, less)

-- on a held base where no function of either context runs, none runs
pub held_idle : (o : Opening) (v : BaseView BaseContent) (h : HeldContent BaseContent) → rows.AreFresh o.timers
    → KnowsBases o v → v.held ≡ Some h → ((x : Context) → running_in x h.content.content ≡ None) → (t : ℕ)
    → runs_on h.base (rows.timer_seen o v t) ≡ false
held_idle o v h fresh knows held none t =
    let own = rows.timer_seen o v t in
    subst (λ (y : Timer). runs_on h.base y ≡ false) (seen_own own)
    ((tells_running o v fresh knows h held own.declared.context None (sym (none own.declared.context))).idle t)

-- so the timer that stands first may be moved, unless it is spent
pub may_turn : (o : Opening) (v : BaseView BaseContent) (h : HeldContent BaseContent) (t heir : ℕ) (x : Timer) → x ≡ rows.timer_seen o v t
    → is_armed_on h.base (rows.timer_seen o v t) ≡ true → runs_on h.base (rows.timer_seen o v t) ≡ false → heir < h.base → h.base < 64
    → 0 < (timer_at o.timers t).terms.reach → x.stamp < x.terms.limit + x.terms.reach → Needs x (events.Out heir)
may_turn o v h t heir x is armed idle down few reach room =
    let own = rows.timer_seen o v t in
    subst (λ y. Needs y (events.Out heir)) (sym is) (may_move h.base heir own armed (armed_idle h.base own armed idle) down few
    (subst (λ (k : Terms). 0 < k.reach) (sym (terms_kept o v t)) reach)
    (subst (λ (y : Timer). y.stamp < y.terms.limit + y.terms.reach) is room))

-- where a base has no running function after a history of fresh timers, none runs there
pub idle_then : (o : Opening) (x : List SystemEntry) (base : ℕ) → rows.AreFresh o.timers → AreSystemSteps o.bases (length o.timers) (first_system o.timers) x
    → ((c : Context) → running_in c ((system_after o.timers x).bases base).content ≡ None) → RunsNone o x base
idle_then o x base fresh steps none t =
    let u = timer_then o x t in
    let c = u.declared.context in
    subst (λ (y : Timer). runs_on base y ≡ false) (seen_own u) (none_runs (in_context c (timer_then o x) t).running
    (nat_eq (in_context c (timer_then o x) t).base base)
    (sym ((((agrees o.bases o.timers x fresh.each steps).contents base).each c).running t) ∙ ap (generation_in t) (none c)))

-- a beginning of a history of timers is one
steps_begin : (o : Opening) (x y : List SystemEntry) → Begins x y → AreSystemSteps o.bases (length o.timers) (first_system o.timers) y
    → AreSystemSteps o.bases (length o.timers) (first_system o.timers) x
steps_begin o x y begins steps = steps_part o.bases (length o.timers) (first_system o.timers) x begins.rest
    (subst (AreSystemSteps o.bases (length o.timers) (first_system o.timers)) begins.whole steps)

-- a timer is what its own entries make it
timer_by : (o : Opening) (x y : List SystemEntry) (t : ℕ) → entries_of t x ≡ entries_of t y → timer_then o x t ≡ timer_then o y t
timer_by o x y t same = timer_own o x t ∙ (ap (seq.after_all (timer_at o.timers t)) same ∙ sym (timer_own o y t))

-- and after it was let go
pub left_idle : (o : Opening) (w : BaseView BaseContent) (base : ℕ)
    → ((x : Context) (t : ℕ) → runs_on base (in_context x (rows.timer_seen o w) t) ≡ false) → RunsNone o w.seen base
left_idle o w base none t = let own = rows.timer_seen o w t in
    subst (λ (y : Timer). runs_on base y ≡ false) (seen_own own) (none own.declared.context t)

-- what a timer that is spent has
pub spent_then : (o : Opening) (v : BaseView BaseContent) (t n : ℕ) → (rows.timer_seen o v t).terms.limit + (rows.timer_seen o v t).terms.reach ≤ n
    → evacuations_end o t ≤ n
spent_then o v t n most = subst (λ (k : Terms). k.limit + k.reach ≤ n) (terms_kept o v t) most

module _ {A : Type 0} (put : A → Receipt → A) (o : Opening) (base heir : ℕ) (reading : ClockReading) where
  -- a timer was moved, after looks: it was so at the place of its Out as it was when its base was locked
  pub moves_after : (u v w : BaseView BaseContent) (t : ℕ) (x : Timer) (h : HeldContent BaseContent) (s s' : A) → OnlySeesMore u v → Steady u v
      → x ≡ rows.timer_seen o v t → rows.AreFresh o.timers → KnowsBases o w → h.base ≡ base
      → ((y : Context) → running_in y h.content.content ≡ None) → is_armed_on base (rows.timer_seen o v t) ≡ true
      → (expires : ℕ) × (front_of h.content.content ≡ Some (expires, t)) → AddsBehind v w t (move_entries x heir reading)
      → StandsBehind o (rows.known_of v) (rows.known_of w) t h → KeepsBases (rows.known_of v) (rows.known_of w) → w.claims ≡ v.claims
      → IsLogged put o t v.seen (move_entries x heir reading) s s'
      → MovesTimer put o base heir reading (rows.known_of u) (rows.known_of w) t s s'
  moves_after u v w t x h s s' looks steady is fresh knows here idle armed front adds place keeps claims logged =
      let at = place.at in
      let same : timer_then o at t ≡ rows.timer_seen o v t = timer_by o at v.seen t place.own in
      let now : x ≡ timer_then o at t = is ∙ sym same in
      let content = subst (λ b. (system_after o.timers at).bases b ≡ h.content) here place.base in
      let seen = begins_trans (begins_more at (entries.Timer place.next.0 ∷ [])) place.next.2 in
      record {
        at = at;
        next = place.next;
        idle = idle_then o at base fresh (steps_begin o at w.seen seen knows.allowed)
            (λ y. ap (λ (b : BaseContent). running_in y b.content) content ∙ idle y);
        armed = ap (is_armed_on base) same ∙ armed;
        front = (front.0, ap (λ (b : BaseContent). front_of b.content) content ∙ front.1);
        made = record {
          from = begins_trans looks.seen place.from;
          seen = seen;
          own = adds.own ∙ (λ i. sym place.own i ++ move_entries (now i) heir reading);
          mine = adds.mine ∙ (λ i. looks.mine i ++ places t (length (sym place.own i)) (move_entries (now i) heir reading));
          id = adds.id ∙ looks.id;
        };
        keeps = keeps_trans u v w steady.shifts keeps looks.id;
        claims = claims ∙ looks.claims;
        logged = logged ∙ (λ i. all_pushed put s (receipts_of t (sym same i).stamp (move_entries (now i) heir reading)));
      }

  -- the whole call, where the base might go off line
  pub goes_offline : (v x w : KnownOfTimers) (budget : ℕ) (a : OfflineAnswer) (s s' : A) → MayGoOffline o base heir v → LooksOn v x → KeepsBases v x
      → Evacuates put o base heir reading x w budget a s s' → OfflineFits put o base heir reading v w budget a s s'
  goes_offline v x w budget (offs.Busy n t g) s s' may looks keeps told = record { may = may; begins = x; looks = looks; keeps = keeps; evacuates = told }
  goes_offline v x w budget (offs.Offline n stamp) s s' may looks keeps told =
      record { may = may; begins = x; looks = looks; keeps = keeps; evacuates = told }
  goes_offline v x w budget (offs.More n) s s' may looks keeps told = record { may = may; begins = x; looks = looks; keeps = keeps; evacuates = told }
  goes_offline v x w budget (offs.Spent n t stamp) s s' may looks keeps told =
      record { may = may; begins = x; looks = looks; keeps = keeps; evacuates = told }
  goes_offline v x w budget (offs.AlreadyOffline n) s s' may looks keeps told = absurd told.last
  goes_offline v x w budget (offs.HeirOffline n) s s' may looks keeps told = absurd told.last
  goes_offline v x w budget (offs.BaseSpent n) s s' may looks keeps told = absurd told.last

  -- one more timer was moved
  pub moved_then : (v : KnownOfTimers) (ts : List ℕ) (x w : KnownOfTimers) (t : ℕ) (s r s' : A) → AreMoved put o base heir reading v ts x s r
      → MovesTimer put o base heir reading x w t r s' → AreMoved put o base heir reading v (ts ++ t ∷ []) w s s'
  moved_then v [] x w t s r s' moves more = (
    w,
    s',
    subst (λ k. MovesTimer put o base heir reading k w t s s') moves.0 (subst (λ k. MovesTimer put o base heir reading x w t k s') moves.1 more),
    (refl, refl),
  )
  moved_then v (u ∷ us) x w t s r s' moves more = (moves.0, moves.1, moves.2, moved_then moves.0 us x w t moves.1 r s' moves.3 more)

-- ---- the pass stays the same

module _ {A : Type 0} (put : A → Receipt → A) (o : Opening) (base heir : ℕ) (reading : ClockReading) where
  same_after : (u v w : KnownOfTimers) → IsSamePass u v → IsSamePass v w → IsSamePass u w
  same_after u v w first second = record { id = second.id ∙ first.id; claims = second.claims ∙ first.claims }

  same_looks : (v w : KnownOfTimers) → LooksOn v w → IsSamePass v w
  same_looks v w l = record { id = l.id; claims = l.claims }

  same_moves : (v : KnownOfTimers) (ts : List ℕ) (w : KnownOfTimers) (s s' : A) → AreMoved put o base heir reading v ts w s s' → IsSamePass v w
  same_moves v [] w s s' m = record { id = ap (λ (k : KnownOfTimers). k.id) m.0; claims = ap (λ (k : KnownOfTimers). k.claims) m.0 }
  same_moves v (t ∷ ts) w s s' m =
      same_after v m.0 w (record { id = m.2.made.id; claims = m.2.claims }) (same_moves m.0 ts w m.1 s' m.3)

  same_end : (v w : KnownOfTimers) (goes_on : Bool) (moved : ℕ) (a : OfflineAnswer) (s s' : A) → EndFits put o base heir reading v w goes_on moved a s s'
      → IsSamePass v w
  same_end v w goes_on moved (offs.Busy n t g) s s' e = same_looks v w e.1.0.looks
  same_end v w goes_on moved (offs.Offline n stamp) s s' e = record { id = e.1.0.id; claims = e.1.0.claims }
  same_end v w goes_on moved (offs.More n) s s' e = same_looks v w e.1.1.0.looks
  same_end v w goes_on moved (offs.Spent n t stamp) s s' e = same_looks v w e.1.0.looks
  same_end v w goes_on moved (offs.AlreadyOffline n) s s' e = absurd e
  same_end v w goes_on moved (offs.HeirOffline n) s s' e = absurd e
  same_end v w goes_on moved (offs.BaseSpent n) s s' e = absurd e

  same_goes : (v w : KnownOfTimers) (budget : ℕ) (a : OfflineAnswer) (s s' : A) → GoesOffline put o base heir reading v w budget a s s' → IsSamePass v w
  same_goes v w budget a s s' r =
      let e = r.evacuates in
      same_after v r.begins w (same_looks v r.begins r.looks) (same_after r.begins e.mid w (same_moves r.begins e.timers e.mid s e.between e.moves)
      (same_end e.mid w (nat_lt (length e.timers) budget) (length e.timers) a e.between s' e.last))

  pub same_offline : (v w : KnownOfTimers) (budget : ℕ) (a : OfflineAnswer) (s s' : A) → OfflineFits put o base heir reading v w budget a s s'
      → IsSamePass v w
  same_offline v w budget (offs.AlreadyOffline n) s s' f = same_looks v w f.0.looks
  same_offline v w budget (offs.HeirOffline n) s s' f = same_looks v w f.0.looks
  same_offline v w budget (offs.BaseSpent n) s s' f = same_looks v w f.0.looks
  same_offline v w budget (offs.Busy n t g) s s' f = same_goes v w budget (offs.Busy n t g) s s' f
  same_offline v w budget (offs.Offline n stamp) s s' f = same_goes v w budget (offs.Offline n stamp) s s' f
  same_offline v w budget (offs.More n) s s' f = same_goes v w budget (offs.More n) s s' f
  same_offline v w budget (offs.Spent n t stamp) s s' f = same_goes v w budget (offs.Spent n t stamp) s s' f

pub same_online : (o : Opening) (v w : KnownOfTimers) (base : ℕ) (a : OnlineAnswer) → OnlineFits o v w base a → IsSamePass v w
same_online o v w base (ons.Online n) f = record { id = f.0.id; claims = f.0.claims }
same_online o v w base (ons.AlreadyOnline n) f = record { id = f.0.id; claims = f.0.claims }

-- ---- with no sink

module _ {A : Type 0} (put : A → Receipt → A) (o : Opening) (base heir : ℕ) (reading : ClockReading) where
  -- what becomes of a sink that keeps nothing
  abbrev none : Unit {0} → Receipt → Unit {0}
  none s receipt = s

  forget_looks : (v w : KnownOfTimers) (s s' : A) → OnlyLooks v w s s' → OnlyLooks {A = Unit {0}} v w tt tt
  forget_looks v w s s' l = record { looks = l.looks; keeps = l.keeps; sink = refl }

  forget_turn : (v w : KnownOfTimers) (goes_on : Bool) (r : Turn) (s s' : A) → TurnFits put o base heir reading v w goes_on r s s'
      → TurnFits none o base heir reading v w goes_on r tt tt
  forget_turn v w goes_on (turns.Busy t g) s s' f = (forget_looks v w s s' f.0, f.1, f.2)
  forget_turn v w goes_on (turns.Off n) s s' f = (f.0, f.1, f.2, refl)
  forget_turn v w goes_on (turns.Left t) s s' f = (forget_looks v w s s' f.0, f.1, f.2, f.3, f.4)
  forget_turn v w goes_on (turns.Spent t n) s s' f = (forget_looks v w s s' f.0, f.1, f.2, f.3, f.4, f.5, f.6)
  forget_turn v w goes_on (turns.Moved t) s s' f = (forget_move v w t s s' f.0, f.1)
    where
      forget_move : (v w : KnownOfTimers) (t : ℕ) (s s' : A) → MovesTimer put o base heir reading v w t s s' → MovesTimer none o base heir reading v w t tt tt
      forget_move v w t s s' m = record { at = m.at; next = m.next; idle = m.idle; armed = m.armed; front = m.front; made = m.made; keeps = m.keeps; claims = m.claims; logged = refl }

  forget_moves : (v : KnownOfTimers) (ts : List ℕ) (w : KnownOfTimers) (s s' : A) → AreMoved put o base heir reading v ts w s s'
      → AreMoved none o base heir reading v ts w tt tt
  forget_moves v [] w s s' m = (m.0, refl)
  forget_moves v (t ∷ ts) w s s' m = (m.0, tt, (forget_turn v m.0 true (turns.Moved t) s m.1 (m.2, refl)).0, forget_moves m.0 ts w m.1 s' m.3)

  forget_end : (v w : KnownOfTimers) (goes_on : Bool) (moved : ℕ) (a : OfflineAnswer) (s s' : A) → EndFits put o base heir reading v w goes_on moved a s s'
      → EndFits none o base heir reading v w goes_on moved a tt tt
  forget_end v w goes_on moved (offs.Busy n t g) s s' e = (e.0, forget_turn v w goes_on (turns.Busy t g) s s' e.1)
  forget_end v w goes_on moved (offs.Offline n stamp) s s' e = (e.0, forget_turn v w goes_on (turns.Off stamp) s s' e.1)
  forget_end v w goes_on moved (offs.More n) s s' e = (e.0, (e.1.0, forget_turn v w goes_on (turns.Left e.1.0) s s' e.1.1))
  forget_end v w goes_on moved (offs.Spent n t stamp) s s' e = (e.0, forget_turn v w goes_on (turns.Spent t stamp) s s' e.1)
  forget_end v w goes_on moved (offs.AlreadyOffline n) s s' e = e
  forget_end v w goes_on moved (offs.HeirOffline n) s s' e = e
  forget_end v w goes_on moved (offs.BaseSpent n) s s' e = e

  forget_goes : (v w : KnownOfTimers) (budget : ℕ) (a : OfflineAnswer) (s s' : A) → GoesOffline put o base heir reading v w budget a s s'
      → GoesOffline none o base heir reading v w budget a tt tt
  forget_goes v w budget a s s' r =
      let e = r.evacuates in record {
        may = r.may;
        begins = r.begins;
        looks = r.looks;
        keeps = r.keeps;
        evacuates = record {
          timers = e.timers;
          mid = e.mid;
          between = tt;
          moves = forget_moves r.begins e.timers e.mid s e.between e.moves;
          few = e.few;
          last = forget_end e.mid w (nat_lt (length e.timers) budget) (length e.timers) a e.between s' e.last;
        };
      }

  pub forget : (v w : KnownOfTimers) (budget : ℕ) (a : OfflineAnswer) (s s' : A) → OfflineFits put o base heir reading v w budget a s s'
      → TakesOffline o base heir reading v w budget a
  forget v w budget (offs.AlreadyOffline n) s s' f = (forget_looks v w s s' f.0, f.1, f.2)
  forget v w budget (offs.HeirOffline n) s s' f = (forget_looks v w s s' f.0, f.1, f.2, f.3)
  forget v w budget (offs.BaseSpent n) s s' f = (forget_looks v w s s' f.0, f.1, f.2, f.3, f.4)
  forget v w budget (offs.Busy n t g) s s' f = forget_goes v w budget (offs.Busy n t g) s s' f
  forget v w budget (offs.Offline n stamp) s s' f = forget_goes v w budget (offs.Offline n stamp) s s' f
  forget v w budget (offs.More n) s s' f = forget_goes v w budget (offs.More n) s s' f
  forget v w budget (offs.Spent n t stamp) s s' f = forget_goes v w budget (offs.Spent n t stamp) s s' f
