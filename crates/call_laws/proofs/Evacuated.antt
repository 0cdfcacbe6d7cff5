-- Timers that a call moved off a base, one after the other, as a part of the call.
use Rattle.std.proofs.lemmas.Bool.{cases_lt}
use Rattle.std.proofs.Common.{⊎_elim}
use Rattle.std.proofs.Common.{ne_eqb}
use Rattle.call_laws.proofs.Parts.{part_as}
use Rattle.hr_timers.specs.Moves.{IsFront, IsNextOf}
use Rattle.call_laws.proofs.Noted.{entered_on, notes_of}
use Rattle.call_laws.proofs.Stays.{system_stays, timer_stays}
use Rattle.call_laws.proofs.Parts.{part_logged}
use Rattle.run_history.specs.Actions.{Action, Entered}
use Rattle.std.proofs.Common.{◌≡◌, ◌<◌, ◌≤◌, ℕ, ◌+◌, ◌-◌, Bool, true, false, ◌&&◌, not, is_some, nat_eq, List, [], ◌∷◌, ◌++◌, length, take, map, arith, refl, sym, ap, ◌∙◌, subst}
use Rattle.std.specs.List.{AllByRecursion}
use Rattle.std.specs.Prelude.{flat_map, if◌then◌else◌}
use Rattle.std.proofs.Math.Seq.{take-append_seam}
use Rattle.std.proofs.lemmas.Bool.{true≢false}
use Rattle.std.proofs.lemmas.List.{append_assoc, append-nil, get_or-map, length-append}
use Rattle.std.proofs.lemmas.Grind.{flat_map-append}
use Rattle.script_text.proofs.Lists.{All-append}
use Rattle.ktime.specs.Readings.{ClockReading}
use Rattle.seq_timer.specs.Histories as seq
use Rattle.seq_timer.specs.Moves.{move_events}
use Rattle.ktime.specs.declared.mode.Mode.TheVariants as modes
use Rattle.seq_timer.specs.Events.{stamped}
use Rattle.seq_timer.specs.declared.event.Reply.TheVariants as replies
use Rattle.record_text.specs.declared.record.Entry.{Entry}
use Rattle.seq_timer.specs.Steps.{Timer, after, opening, placement_of, reply_to}
use Rattle.seq_timer.specs.Calls.{asked_for, step_all}
use Rattle.seq_timer.specs.Contents.{front_of}
use Rattle.seq_timer.specs.Systems.{AreSystemSteps, System, after_entry, after_one, entries_of, first_system, openings, system_after}
use Rattle.seq_timer.specs.Tables.{is_armed_on, no_declared, no_timer, runs_on, timer_at}
use Rattle.seq_timer.specs.declared.event.EventBy.TheVariants as events
use Rattle.seq_timer.specs.declared.system.SystemEntry.{SystemEntry}
use Rattle.seq_timer.specs.declared.system.SystemEntry.TheVariants as entries
use Rattle.seq_timer.proofs.Agreement.{all_fresh}
use Rattle.seq_timer.proofs.Limits.{stamp-after}
use Rattle.seq_timer.proofs.Systems.{after_entries-append, entries_of-append, timer_here}
use Rattle.base_row.specs.Logs.{LogOf, kept, receipts_of}
use Rattle.base_row.specs.declared.log.Receipt.{Receipt}
use Rattle.pass_names.proofs.Passes.{begins_length}
use Rattle.base_row.proofs.Logging.{all_kept}
use Rattle.hr_timers.specs.Known.{KnownOfTimers, timer_then}
use Rattle.hr_timers.specs.Moves.{AreMoved, MovesTimer, move_entries}
use Rattle.hr_timers.proofs.Moments.{timer_own}
use Rattle.script_text.specs.Declarations.{declared_of, declareds_of, terms_of}
use Rattle.script_text.specs.declared.script.Call.{Call}
use Rattle.script_text.specs.declared.script.Script.{Script}
use Rattle.run_history.specs.Deeds.{KeepsExpiries, evacuates}
use Rattle.run_history.specs.Truths.{LeftInTurn, WasNextOff}
use Rattle.run_history.specs.Histories.{history_of, lines_of_timer, timer_after}
use Rattle.run_history.specs.Promises.{RunGoesOn}
use Rattle.run_history.specs.Receipts.{PlacedEntry}
use Rattle.run_history.specs.Runs.{Ending, IsJoined, witness_of}
use Rattle.run_history.specs.Witnesses.{Evacuation, TimersList, Witness, timer_along}
use Rattle.run_history.proofs.OwnHistories.{entries_on, history_shown, own_entry}
use Rattle.lane_notes.specs.Called.{LaneOf}
use Rattle.lane_notes.specs.Worlds.{WorldOf}
use Rattle.call_laws.proofs.CallKept.{opened_timers}
use Rattle.call_laws.proofs.Entering.{stamp_counts}
use Rattle.lane_notes.proofs.Kept.{IsNextCall}
use Rattle.lane_notes.proofs.SeenMore.{begins_same, goes_before}
use Rattle.call_laws.proofs.Parts.{ClockHas, IsPart, part_at, part_none}
use Rattle.timer_objects.specs.Known.{ObjectsPass}

-- ---- timers that are there

-- a timer that isn't there has no entries
none_past : (bases many t : ℕ) (w : System) (es : List SystemEntry) → many ≤ t → AreSystemSteps bases many w es → entries_of t es ≡ []
none_past bases many t w [] past steps = refl
none_past bases many t w (entries.Base c ∷ es) past steps = none_past bases many t (after_one w (entries.Base c)) es past steps.1
none_past bases many t w (entries.Rise k ∷ es) past steps = none_past bases many t w es past steps.1
none_past bases many t w (entries.Timer e ∷ es) past steps =
    ap (λ b. if b then record { event = e.event; reply = e.reply } ∷ entries_of t es else entries_of t es)
    (ne_eqb e.timer t (λ is. omega (arith, is, past, steps.0.within))) ∙ none_past bases many t (after_one w (entries.Timer e)) es past steps.1

front_none : {X : Type 0} (xs ys : List X) → xs ++ ys ≡ [] → xs ≡ []
front_none [] ys none = refl
front_none (x ∷ xs) ys none = absurd (cc)

-- the first of three that hold
first_of : (a b c : Bool) → (a && b && c) ≡ true → a ≡ true
first_of true b c is = refl
first_of false b c is = absurd (cc)

module _ {s : Script} {x : WorldOf} {l : LaneOf} {call : Call} (next : IsNextCall s x l call) (e : Ending) (joined : IsJoined s e) where
  -- law: an armed timer is there
  pub armed_there : (seen : List SystemEntry) → RunGoesOn seen e → (base t : ℕ) → is_armed_on base (timer_then x.timers.about seen t) ≡ true
      → t < length (declareds_of s)
  armed_there seen goes base t armed = ⊎_elim (λ less. less) (λ past.
      let u = timer_then x.timers.about seen t in
      let none = none_past s.bases (length (declareds_of s)) t (first_system (openings (declareds_of s) (terms_of s))) e.order past joined.history in
      let of_seen = front_none (entries_of t seen) (entries_of t goes.0) (sym (entries_of-append t seen goes.0) ∙ ap (entries_of t) (sym goes.1) ∙ none) in
      absurd (true≢false (sym (first_of (is_some u.armed) (not u.moving) (nat_eq u.base base) armed)
      ∙ ap (λ (y : Timer). is_some y.armed) (timer_own x.timers.about seen t)
      ∙ ap (λ es. is_some (seq.after_all (timer_at x.timers.about.timers t) es).armed) of_seen
      ∙ ap (λ ts. is_some (timer_at ts t).armed) (opened_timers next) ∙ ap is_some (all_fresh (declareds_of s) (terms_of s) t).armed)))
      (cases_lt t (length (declareds_of s)))

  -- law: it is, by its own lines, what a pass has seen of it
  pub own_timer : (seen : List SystemEntry) → RunGoesOn seen e → (t : ℕ) → t < length (declareds_of s)
      → timer_after s e.run t (timer_then x.timers.about seen t).stamp ≡ timer_then x.timers.about seen t
  own_timer seen goes t there =
      let w = witness_of s e in
      let whole : history_of e.run t ≡ entries_of t seen ++ entries_of t goes.0 =
      sym (entries_on w.run.clock t w.moves ∙ ap (map (own_entry w.run.clock)) (joined.one.all (TimersList t))
      ∙ history_shown w.run.clock t 0 (lines_of_timer w.run t)) ∙ ap (entries_of t) (joined.entries ∙ goes.1) ∙ entries_of-append t seen goes.0 in
      let first : timer_at x.timers.about.timers t ≡ opening (declared_of s t) (terms_of s) =
      ap (λ ts. timer_at ts t) (opened_timers next)
      ∙ get_or-map (λ d. opening d (terms_of s)) (declareds_of s) t no_declared no_timer there in
      ap (λ n. timer_after s e.run t n) (stamp_counts x.timers.about (declareds_of s) (terms_of s) seen t (opened_timers next))
      ∙ ap (λ es. seq.after_all (opening (declared_of s t) (terms_of s)) (take (length (entries_of t seen)) es)) whole
      ∙ ap (seq.after_all (opening (declared_of s t) (terms_of s))) (take-append_seam (entries_of t seen) (entries_of t goes.0))
      ∙ ap (λ u. seq.after_all u (entries_of t seen)) (sym first) ∙ sym (timer_own x.timers.about seen t)

-- ---- one timer

-- how a timer is moved
abbrev pub evacuation : ℕ → ClockReading → ℕ → Timer → Evacuation
evacuation heir reading t u =
    record { timer = t; before = u.stamp; ns = u.soft; slack = u.expires - u.soft; placement = placement_of (step_all u (move_events u heir reading)) }

-- its entries are what the call did
move_shown : (heir : ℕ) (reading : ClockReading) (t : ℕ) (u : Timer) → is_some u.armed ≡ true
    → entered_on t u.stamp (move_entries u heir reading) ≡ flat_map (evacuates heir reading.stamp) (evacuation heir reading t u ∷ [])
move_shown heir reading t u on =
    let asked = asked_for modes.Keep u.soft (u.expires - u.soft) heir reading in
    let start : Entry = record { event = stamped (events.Start asked); reply = reply_to (after u (events.Out heir)) (events.Start asked) } in
    let shown : Bool → ℕ → List Action = λ b n.
    Entered t (u.stamp + 1) (record { event = events.Out heir; reply = replies.Out b }) ∷ Entered t n start ∷ [] in
    ap (λ b. shown b (u.stamp + 1 + 1)) on ∙ ap (shown true) (omega arith)

-- ---- whose turn it was

-- law: a timer that a pass saw to be the next one of a base is that in the run
pub front_seen : {s : Script} {x : WorldOf} {l : LaneOf} {call : Call} (next : IsNextCall s x l call) (e : Ending) (joined : IsJoined s e)
    (seen : List SystemEntry) → RunGoesOn seen e → (base t : ℕ) → IsFront x.timers.about seen base t → WasNextOff (witness_of s e) base t (length seen)
front_seen next e joined seen goes base t front =
    (front.0, ap (λ (u : System). front_of (u.bases base).content) (system_stays next.world.timers joined seen goes) ∙ front.1)

-- law: what was so between two moments was so between two that are further apart
pub left_wider : (w : Witness) (base : ℕ) {low first last high : ℕ} → low ≤ first → last ≤ high → (ys : List Evacuation)
    → AllByRecursion (LeftInTurn w first last base) ys → AllByRecursion (LeftInTurn w low high base) ys
left_wider w base le more [] all = tt
left_wider w base le more (y ∷ ys) all =
    let l = all.0 in (
      record {
        at = l.at;
        from = omega (arith, le, l.from);
        to = omega (arith, l.to, more);
        stamp = l.stamp;
        next = l.next;
        idle = l.idle;
        front = l.front;
      },
      left_wider w base le more ys all.1,
    )

module _ {s : Script} {x : WorldOf} {l : LaneOf} {call : Call} (next : IsNextCall s x l call) (base heir : ℕ) (reading : ClockReading) (p : ObjectsPass) where
  -- these timers were moved in turn, as a part of a call, the receipts in the log
  pub record MovedAll (v w : KnownOfTimers) (ts : List ℕ) (old new : LogOf Receipt) : Type 0 where
    pub moved : List Evacuation
    pub many : length moved ≡ length ts
    pub log : List Receipt
    pub adds : new.receipts ≡ old.receipts ++ log
    pub notes : List PlacedEntry
    pub part : IsPart s (ClockHas reading) l.label v p w p (flat_map (evacuates heir reading.stamp) moved) notes (notes_of l.label log [])
    pub keeps : (e : Ending) → IsJoined s e → RunGoesOn w.seen e
        → AllByRecursion (λ y. KeepsExpiries base (timer_after s e.run y.timer y.before) y) moved
    pub turns : (e : Ending) → IsJoined s e → RunGoesOn w.seen e → AllByRecursion (LeftInTurn (witness_of s e) (length v.seen) (length w.seen) base) moved

  -- a timer whose entry is the next in the run has one more entry behind it
  behind_it : (t : ℕ) (at : List SystemEntry) {seen : List SystemEntry} → IsNextOf t at seen → (e : Ending) → IsJoined s e → RunGoesOn seen e
      → (timer_along (witness_of s e) (length at + 1) t).stamp ≡ (timer_then x.timers.about at t).stamp + 1
  behind_it t at is e joined goes =
      let o = x.timers.about in
      let y : List SystemEntry = at ++ entries.Timer is.0 ∷ [] in
      let w = system_after o.timers at in
      let stays = timer_stays next.world.timers joined y (goes_before is.2 goes) t in
      let longer : length at + 1 ≡ length y = sym (length-append at (entries.Timer is.0 ∷ [])) in
      let more : timer_then o y t ≡ after (timer_then o at t) is.0.event =
      ap (λ (u : System). u.timers t) (after_entries-append (first_system o.timers) at (entries.Timer is.0 ∷ []))
      ∙ subst (λ k. (after_entry w is.0).timers k ≡ after (w.timers k) is.0.event) is.1 (timer_here w is.0) in
      ap (λ n. (timer_along (witness_of s e) n t).stamp) longer ∙ (ap (λ (u : Timer). u.stamp) (stays ∙ more) ∙ (stamp-after (timer_then o at t) is.0.event).0)

  -- law: one timer
  one_moved : {v w : KnownOfTimers} (t : ℕ) (old new : LogOf Receipt) → MovesTimer kept x.timers.about base heir reading v w t old new
      → MovedAll v w (t ∷ []) old new
  one_moved t old new moves =
      let u = timer_then x.timers.about moves.at t in
      let es = move_entries u heir reading in
      let part = part_at {IsSo = ClockHas reading} x.timers.about {p = p} (opened_timers next) moves.made
      (λ clock has. (refl, (ap (λ r. events.Start (asked_for modes.Keep u.soft (u.expires - u.soft) heir r)) has, tt))) in
      record {
        moved = evacuation heir reading t u ∷ [];
        many = refl;
        log = receipts_of t u.stamp es;
        adds = ap (λ (k : LogOf Receipt). k.receipts) moves.logged ∙ all_kept old (receipts_of t u.stamp es);
        notes = part.0;
        part = part_as (move_shown heir reading t u (first_of (is_some u.armed) (not u.moving) (nat_eq u.base base) moves.armed)) part.1;
        keeps = λ e joined goes.
            let on = goes_before moves.made.seen goes in
            let same = own_timer next e joined moves.at on t (armed_there next e joined moves.at on base t moves.armed) in
            (subst (λ z. KeepsExpiries base z (evacuation heir reading t u)) (sym same) (record { armed = moves.armed; soft = refl; slack = refl }), tt);
        turns = λ e joined goes.
            let on = goes_before moves.made.seen goes in (
              record {
                at = length moves.at;
                from = begins_length moves.made.from;
                to = begins_length moves.made.seen;
                stamp = ap (λ (z : Timer). z.stamp) (timer_stays next.world.timers joined moves.at on t);
                next = behind_it t moves.at moves.next e joined goes;
                idle = λ u. ap (runs_on base) (timer_stays next.world.timers joined moves.at on u) ∙ moves.idle u;
                front = front_seen next e joined moves.at on base t moves.front;
              },
              tt,
            );
      }

  -- law: timers one after the other
  pub all_moved : (ts : List ℕ) {v w : KnownOfTimers} (old new : LogOf Receipt) → AreMoved kept x.timers.about base heir reading v ts w old new
      → MovedAll v w ts old new
  all_moved [] old new moves = record {
    moved = [];
    many = refl;
    log = [];
    adds = ap (λ (k : LogOf Receipt). k.receipts) moves.1 ∙ sym (append-nil old.receipts);
    notes = [];
    part = part_none (begins_same (ap (λ (k : KnownOfTimers). k.seen) moves.0)) (ap (λ (k : KnownOfTimers). k.mine) moves.0);
    keeps = λ e joined goes. tt;
    turns = λ e joined goes. tt;
  }
  all_moved (t ∷ ts) old new moves =
      let one = one_moved t old moves.1 moves.2 in
      let rest = all_moved ts moves.1 new moves.3 in
      record {
        moved = one.moved ++ rest.moved;
        many = omega (arith, rest.many, one.many, length-append one.moved rest.moved);
        log = one.log ++ rest.log;
        adds = rest.adds ∙ ap (λ rs. rs ++ rest.log) one.adds ∙ append_assoc old.receipts one.log rest.log;
        notes = one.notes ++ rest.notes;
        part = rw (flat_map-append (evacuates heir reading.stamp) one.moved rest.moved) (part_logged one.log rest.log [] [] one.part rest.part);
        keeps = λ e joined goes. All-append _ one.moved rest.moved
            (one.keeps e joined (goes_before rest.part.enters.seen goes)) (rest.keeps e joined goes);
        turns = λ e joined goes. All-append _ one.moved rest.moved
            (left_wider (witness_of s e) base (omega arith) (begins_length rest.part.enters.seen) one.moved
            (one.turns e joined (goes_before rest.part.enters.seen goes)))
            (left_wider (witness_of s e) base (begins_length one.part.enters.seen) (omega arith) rest.moved (rest.turns e joined goes));
      }
