-- Small witnesses, given by lists: short words for them, facts of all numbers by the places of lists, and timers that are not there.
use Rattle.std.proofs.Common.{◌≡◌, ◌≤◌, le_refl, ℕ, ◌+◌, zero, suc, Bool, true, false, ◌&&◌, not, is_some, nat_eq, nat_le, nat_lt, None, Option, Some, MatchOption, List, [], ◌∷◌, ◌++◌, if◌then◌else◌, filter, flat_map, length, map, take, get_or, arith, refl, sym, ap, ◌∙◌, subst, inl}
use Rattle.std.specs.List.{AllByRecursion, list_all}
use Rattle.std.proofs.lemmas.Bool.{and_parts, eqb-true, true≢false}
use Rattle.std.proofs.lemmas.List.{get_or_past, length-map, take-map}
use Rattle.ktime.specs.declared.mode.Mode.{Mode}
use Rattle.ktime.specs.declared.timespec.TimeSpec.{TimeSpec}
use Rattle.ktime.specs.declared.clock_id.ClockId.{ClockId}
use Rattle.ktime.specs.declared.clock_id.ClockId.TheVariants as clocks
use Rattle.seq_timer.specs.declared.context.Context.{Context}
use Rattle.seq_timer.specs.declared.context.Context.TheVariants as contexts
use Rattle.seq_timer.specs.Histories.{after_all}
use Rattle.seq_timer.specs.Steps.{Needs, Timer, opening, reply_to}
use Rattle.seq_timer.specs.Effects.{NeedsOfBases, effect, is_start}
use Rattle.seq_timer.specs.Systems.{BeginsInTurn, entries_of, first_system, IsSystemStep, System, next_on, openings}
use Rattle.seq_timer.specs.Tables.{in_context, is_kept_on, IsStopped, no_timer, runs_on, seen_in, timer_at}
use Rattle.seq_timer.specs.declared.system.TimerEntry.{TimerEntry}
use Rattle.seq_timer.proofs.Systems.{after_entries-entries_of}
use Rattle.record_text.specs.declared.record.ClockLine.{ClockLine}
use Rattle.seq_timer.specs.declared.event.Restarted.TheVariants as restarts
use Rattle.record_text.specs.declared.record.Armed.{Armed}
use Rattle.record_text.specs.declared.record.Armed.TheVariants as armings
use Rattle.record_text.specs.declared.record.Entry.{Entry}
use Rattle.record_text.specs.declared.record.ObjectEntry.{ObjectEntry}
use Rattle.record_text.specs.declared.record.ObjectEntry.TheVariants as object_entries
use Rattle.record_text.specs.declared.record.SettimeReply.TheVariants as settings
use Rattle.record_text.specs.declared.record.RunRecord.{RunRecord}
use Rattle.script_text.specs.declared.script.Kind.{Kind}
use Rattle.script_text.specs.declared.script.LaneCall.{LaneCall}
use Rattle.script_text.specs.declared.script.Round.{Round}
use Rattle.script_text.specs.declared.script.Script.{Script}
use Rattle.run_history.specs.Actions.{Action, also, Began, Entered, Made}
use Rattle.run_history.specs.Histories.{reading_at}
use Rattle.script_text.specs.Declarations.{base_of, declared_as, declareds_of, terms_of}
use Rattle.run_history.specs.Order.{calls_from}
use Rattle.run_history.specs.Starts.{Arming, FindsOnLine, first_number, from_moment, IsArming, IsJustBefore, IsSentByHeirs, Sight}
use Rattle.run_history.specs.Deeds.{fires}
use Rattle.run_history.specs.ObjectCalls.{AreValidFor, Arms, HasBegun, MakesAnew, nanoseconds_of}
use Rattle.timer_setting.specs.Arguments.{mode_by}
use Rattle.run_history.specs.Truths.{IsDone}
use Rattle.run_history.specs.Witnesses.{Witness, entries_in, entry_of_move, Fired, is_owner, Move, moves_on, OfBase, OfRise, OfTimer, Owner, owner_of, RunLists, Shown, system_along, timer_along, TimersList, Trace}
use Rattle.run_history.specs.Receipts.{move_at}
use Rattle.run_history.specs.Signals.{SignalLine, pop_counter, push_counter}
use Rattle.run_history.proofs.OwnHistories.{entries_on, own_entry}
use Rattle.run_cases.proofs.Tests.{all_true, le, lt, other}

-- ---- a witness by lists

-- how many of these are the list
abbrev pub times : Owner → List Owner → ℕ
times o os = length (filter (λ x. is_owner x o) os)

-- the moves of a record, where the entries of its lists follow one another so; these were before
abbrev pub moves_in : RunLists → List Owner → List Owner → List Move
moves_in l done [] = []
moves_in l done (o ∷ os) = move_at l o (times o done) ∷ moves_in l (o ∷ done) os

-- the lists of a run without signals
abbrev pub quiet : RunRecord → RunLists
quiet r = record { run = r; signals = λ k. [] }

-- the same of these
abbrev pub moves_by : RunRecord → List Owner → List Owner → List Move
moves_by r done os = moves_in (quiet r) done os

-- the same, where all entries are timers'
abbrev pub timers_moves : RunRecord → List ℕ → List Move
timers_moves r order = moves_by r [] (map TimersList order)

-- what a call did with this reading, from one moment to another
abbrev pub did : ℕ → List Action → ℕ → ℕ → Trace
did reading actions first last = record { at = reading; fired = []; moved = []; actions = actions; first = first; last = last }

-- what an expiry run did
abbrev pub ran : ℕ → ℕ → List Fired → ℕ → ℕ → Trace
ran base reading each first last =
    record { at = reading; fired = each; moved = []; actions = flat_map (fires base reading) each; first = first; last = last }

-- what a call did in a turn of an object that had so many entries: these things, and then its entry of the object
abbrev pub turn_of : ℕ → ℕ → List Action → ObjectEntry → List Action
turn_of i stamp these entry = Began i stamp ∷ these ++ Made i (stamp + 1) entry ∷ []

-- a callback that did these things, and by which the timer wasn't armed again
abbrev pub fired : ℕ → ℕ → List Action → ℕ → Bool → Fired
fired claim generation body finish restart =
    record { timer = 0; claim = claim; generation = generation; body = body; finish = finish; restart = restart; restarted = restarts.No }

-- these signals were pushed, and popped
abbrev pub queue_of : Script → List SignalLine → List SignalLine → ℕ → List SignalLine
queue_of s pushed popped k = if nat_eq k (push_counter s) then pushed else if nat_eq k (pop_counter s) then popped else []

-- the witness of a script and a record, where these signals were pushed, and popped, entries of lists follow one another so, and each lane's calls did these
-- things
abbrev pub witness_queued : Script → RunRecord → List SignalLine → List SignalLine → List Owner → List (List Trace) → Witness
witness_queued s r pushed popped order traces = record {
  script = s;
  run = r;
  moves = moves_in (record { run = r; signals = queue_of s pushed popped }) [] order;
  signals = queue_of s pushed popped;
  traces = λ c. get_or (get_or traces c.lane []) c.call (did 0 [] 0 0);
}

-- the same without signals
abbrev pub witness_along : Script → RunRecord → List Owner → List (List Trace) → Witness
witness_along s r order traces = witness_queued s r [] [] order traces

-- the same, where all entries are timers'
abbrev pub witness_by : Script → RunRecord → List ℕ → List (List Trace) → Witness
witness_by s r order traces = witness_along s r (map TimersList order) traces

-- a start with one entry, of this number, which puts the timer on a base with these expiries
abbrev pub armed_as : ℕ → ℕ → ℕ → ℕ → Arming
armed_as number base soft expires = record {
  outs = [];
  number = number;
  asked = base;
  placement = record { base = base; clock = clocks.Monotonic; soft = soft; expires = expires };
  was_armed = false;
}

-- the same on base 0, without a slack
abbrev pub armed_by : ℕ → ℕ → Arming
armed_by number expires = armed_as number 0 expires expires

-- pairs, whose types say what stands in them
pub two : {A B : Type 0} → A → B → A × B
two a b = (a, b)

pub three : {A B C : Type 0} → A → B → C → A × B × C
three a b c = (a, b, c)

-- a base that is on line at the call's first moment, before the timer has its entry of this number, is found there
pub on_line : {sight : Sight} {timer number base to : ℕ} → base ≡ to → sight.heir sight.first base ≡ None → nat_le sight.first sight.last ≡ true
    → nat_lt (sight.stamp sight.first timer) number ≡ true → FindsOnLine sight timer sight.first number base to
on_line {sight} same on ends early = record {
  path = [];
  at = sight.first;
  way = (same, le_refl sight.first, on);
  no_later = le ends;
  before = lt early;
}

-- a start that makes one entry, on the base that is asked for, is made so
pub stays : {sight : Sight} {timer limit base : ℕ} {a : Arming} → nat_le a.number limit ≡ true → a.outs ≡ [] → base ≡ a.asked
    → sight.heir sight.first base ≡ None → nat_le sight.first sight.last ≡ true → nat_lt (sight.stamp sight.first timer) a.number ≡ true
    → IsArming sight timer limit base a
stays {sight} {timer} {limit} {base} {a} below none same on ends early = record {
  below = subst (λ outs. first_number outs a.number ≤ limit) (sym none) (le below);
  next = subst (λ outs. IsJustBefore outs a.number) (sym none) tt;
  way = subst (λ outs. IsSentByHeirs sight timer base outs a.number a.asked) (sym none) (on_line same on ends early);
}

-- a call on an object begins its turn by its first move
abbrev pub begins : {sight : Sight} {timer stamp : ℕ} → nat_lt (stamp + stamp) (sight.turns (sight.first + 1) timer) ≡ true → HasBegun sight timer stamp
begins {sight} begun = record { begun = sight.first + 1; from = omega arith; turn = lt begun }

-- the sight of a call from behind its first move on
abbrev pub behind_first : Sight → Sight
behind_first sight = from_moment sight (sight.first + 1)

-- a call on an object that found its timer idle, starts it by this entry, and makes this entry of its object
pub armed_anew : {sight : Sight} {limit timer reading ns : ℕ} {kind : Kind} {mode : Mode} {entry : Entry} (of_object : Armed → ObjectEntry)
    (stamp number : ℕ) → nat_lt (stamp + stamp) (sight.turns (sight.first + 1) timer) ≡ true
    → Arms (behind_first sight) limit timer mode ns reading (base_of kind) (armings.Generation number) (Entered timer number entry ∷ [])
    → MakesAnew sight limit kind timer (Some (record { mode = mode; ns = ns })) reading of_object
    (turn_of timer stamp (Entered timer number entry ∷ []) (of_object (armings.Generation number)))
armed_anew {timer = timer} {entry = entry} of_object stamp number begun arms = record {
  cancel = None;
  arm = armings.Generation number;
  start = Entered timer number entry ∷ [];
  stamp = stamp;
  turn = begins begun;
  arms = arms;
  done = refl;
}

-- a settime that did
pub set_anew : {sight : Sight} {limit timer flags reading : ℕ} {kind : Kind} {value interval : TimeSpec} {entry : Entry} (stamp number : ℕ)
    → nat_lt (stamp + stamp) (sight.turns (sight.first + 1) timer) ≡ true → AreValidFor kind flags value interval
    → Arms (behind_first sight) limit timer (mode_by flags) (nanoseconds_of value) reading (base_of kind) (armings.Generation number)
    (Entered timer number entry ∷ [])
    → MakesAnew sight limit kind timer (Some (record { mode = mode_by flags; ns = nanoseconds_of value })) reading
    (λ arm. object_entries.Settime flags (nanoseconds_of value) (nanoseconds_of interval) reading arm (settings.Old 0 0))
    (turn_of timer stamp (Entered timer number entry ∷ [])
    (object_entries.Settime flags (nanoseconds_of value) (nanoseconds_of interval) reading (armings.Generation number) (settings.Old 0 0)))
    × AreValidFor kind flags value interval
set_anew {flags = flags} {reading = reading} {value = value} {interval = interval} stamp number begun valid arms = (
  armed_anew (λ arm. object_entries.Settime flags (nanoseconds_of value) (nanoseconds_of interval) reading arm (settings.Old 0 0)) stamp number begun arms,
  valid,
)

-- whether a start, if it is one, finds its base on line
abbrev pub finds : Bool → Option ℕ → Bool
finds starts heir = if starts then not (is_some heir) else true

finds_pass : (starts : Bool) (heir : Option ℕ) → finds starts heir ≡ true → starts ≡ true → heir ≡ None
finds_pass true None e is = refl
finds_pass true (Some heir) e is = absurd (cc)
finds_pass false heir e is = absurd (true≢false (sym is))

-- whether a timer that is sent on, if it is on the move, goes to the heir of its base
abbrev pub follows : Bool → Option ℕ → Option ℕ → Bool
follows false sent heir = true
follows true None heir = true
follows true (Some base) None = false
follows true (Some base) (Some heir) = nat_eq heir base

follows_pass : (moving : Bool) (sent heir : Option ℕ) → follows moving sent heir ≡ true → moving ≡ true
    → MatchOption sent (Unit {0}) (λ base. heir ≡ Some base)
follows_pass false sent heir e is = absurd (true≢false (sym is))
follows_pass true None heir e is = tt
follows_pass true (Some base) None e is = absurd (true≢false (sym e))
follows_pass true (Some base) (Some heir) e is = ap (λ b. Some b) (eqb-true heir base e)

-- an entry of a timer may come next
pub step : {bases count : ℕ} {w : System} {e : TimerEntry}
    → (nat_lt e.timer count && (finds (is_start (effect (w.timers e.timer) e.event)) (w.bases (w.timers e.timer).base).standing.heir
    && follows (w.timers e.timer).moving (effect (w.timers e.timer) e.event).sent (w.bases (w.timers e.timer).base).standing.heir)) ≡ true
    → Needs (w.timers e.timer) e.event → e.reply ≡ reply_to (w.timers e.timer) e.event
    → NeedsOfBases (BeginsInTurn (w.bases (w.timers e.timer).base) e.timer (w.timers e.timer)) bases (effect (w.timers e.timer) e.event).function
    (effect (w.timers e.timer) e.event).sent
    → IsSystemStep bases count w e
step {w = w} {e = e} there needs reply base =
    let b = w.bases (w.timers e.timer).base in
    let starts = is_start (effect (w.timers e.timer) e.event) in
    let moving = (w.timers e.timer).moving in
    let sent = (effect (w.timers e.timer) e.event).sent in
    let parts = and_parts (nat_lt e.timer _) (finds starts b.standing.heir && follows moving sent b.standing.heir) there in
    let both = and_parts (finds starts b.standing.heir) (follows moving sent b.standing.heir) parts.1 in
    record {
      within = lt parts.0;
      needs = needs;
      reply = reply;
      base = record { needs = base; online = finds_pass starts b.standing.heir both.0; heir = follows_pass moving sent b.standing.heir both.1 };
    }

-- ---- facts of all numbers

-- a fact of each place of a list, the first place being numbered so
abbrev pub Along : {X : Type 0} → (ℕ → Type 0) → ℕ → List X → Type 0
Along P n [] = Unit
Along P n (x ∷ xs) = P n × Along P (n + 1) xs

-- of each number, by the places of a list and what lies past it
pub everywhere : {X : Type 0} (P : ℕ → Type 0) (xs : List X) → Along P 0 xs → ((n : ℕ) → length xs ≤ n → P n) → (n : ℕ) → P n
everywhere P xs along past n = subst P (none n) (from 0 xs along (λ k more. past k (omega (arith, more))) n)
  where
    none : (n : ℕ) → 0 + n ≡ n
    none n = omega arith

    here : (b : ℕ) → b ≡ b + 0
    here b = omega arith

    shift : (b n : ℕ) → b + 1 + n ≡ b + suc n
    shift b n = omega arith

    from : {X : Type 0} (b : ℕ) (xs : List X) → Along P b xs → ((n : ℕ) → b + length xs ≤ n → P n) → (n : ℕ) → P (b + n)
    from b [] along past n = past (b + n) (omega arith)
    from b (x ∷ xs) along past zero = subst P (here b) along.0
    from b (x ∷ xs) along past (suc n) = subst P (shift b n) (from (b + 1) xs along.1 (λ k more. past k (omega (arith, more))) n)

-- of each list of a table
pub each_list : {X : Type 0} (P : List X → Type 0) (table : List (List X)) → P [] → AllByRecursion P table → (n : ℕ) → P (get_or table n [])
each_list P [] none all n = none
each_list P (xs ∷ table) none all zero = all.0
each_list P (xs ∷ table) none all (suc n) = each_list P table none all.1 n

-- moves of other lists are none of this one
pub none_on : (o : Owner) (ms : List Move) → AllByRecursion (λ m. is_owner (owner_of m.shown) o ≡ false) ms → moves_on o ms ≡ []
none_on o [] none = refl
none_on o (m ∷ ms) none = ap (λ b. also b m (moves_on o ms)) none.0 ∙ none_on o ms none.1

none_of : (lane : ℕ) (cs : List LaneCall) → AllByRecursion (λ c. nat_eq c.lane lane ≡ false) cs → filter (λ c. nat_eq c.lane lane) cs ≡ []
none_of lane [] none = refl
none_of lane (c ∷ cs) none = ap (λ b. if b then c ∷ filter (λ c. nat_eq c.lane lane) cs else filter (λ c. nat_eq c.lane lane) cs) none.0
    ∙ none_of lane cs none.1

-- a lane that no call is of has none
pub no_calls : (lane round : ℕ) (rs : List Round) → AllByRecursion (λ r. AllByRecursion (λ c. nat_eq c.lane lane ≡ false) r.calls) rs
    → calls_from lane round rs ≡ []
no_calls lane round [] none = refl
no_calls lane round (r ∷ rs) none =
    ap (λ (cs : List LaneCall). map (λ c. record { round = round; call = c.call }) cs ++ calls_from lane (round + 1) rs) (none_of lane r.calls none.0)
    ∙ no_calls lane (round + 1) rs none.1

-- ---- where nothing is left to do

-- what is shown is of a timer below this number, or of a base or a counter
abbrev pub is_timer_below : ℕ → Shown → Bool
is_timer_below n (OfTimer t entry) = nat_lt t n
is_timer_below n (OfBase b event) = true
is_timer_below n (OfRise k) = true

no_timers_past : (n t : ℕ) (shown : Shown) → n ≤ t → is_timer_below n shown ≡ true → is_owner (owner_of shown) (TimersList t) ≡ false
no_timers_past n t (OfTimer u entry) past less = other u n t less past
no_timers_past n t (OfBase b event) past less = refl
no_timers_past n t (OfRise k) past less = refl

-- a timer that isn't there has no entry
none_at : (clock : List ClockLine) (t n : ℕ) (ms : List Move) → AllByRecursion (λ m. is_owner (owner_of m.shown) (TimersList t) ≡ false) ms
    → entries_of t (take n (map (entry_of_move clock) ms)) ≡ []
none_at clock t n ms none =
    ap (entries_of t) (take-map (entry_of_move clock) n ms) ∙ entries_on clock t (take n ms)
    ∙ ap (map (own_entry clock)) (none_on (TimersList t) (take n ms) (each_taken n ms none))
  where
    each_taken : (n : ℕ) (ms : List Move) → AllByRecursion (λ m. is_owner (owner_of m.shown) (TimersList t) ≡ false) ms
        → AllByRecursion (λ m. is_owner (owner_of m.shown) (TimersList t) ≡ false) (take n ms)
    each_taken zero [] none = tt
    each_taken (suc n) [] none = tt
    each_taken zero (m ∷ ms) none = tt
    each_taken (suc n) (m ∷ ms) none = (none.0, each_taken n ms none.1)

absent_then : (w : Witness) (n t : ℕ) → list_all (λ m. is_timer_below (length w.script.timers) m.shown) w.moves ≡ true → length w.script.timers ≤ t
    → timer_along w n t ≡ no_timer
absent_then w n t there past =
    let opened = openings (declareds_of w.script) (terms_of w.script) in
    after_entries-entries_of (first_system opened) t (take n (entries_in w))
    ∙ ap (after_all (timer_at opened t)) (none_at w.run.clock t n w.moves
    (all_true (λ m. is_owner (owner_of m.shown) (TimersList t) ≡ false) (λ m. is_timer_below (length w.script.timers) m.shown)
    (λ m less. no_timers_past (length w.script.timers) t m.shown past less) w.moves there))
    ∙ get_or_past opened t no_timer (subst (λ k. k ≤ t) (sym (length-map (declareds_of w.script) (λ declared. opening declared (terms_of w.script))
    ∙ length-map w.script.timers declared_as)) past)

-- what is said of no timer, and of none that is there, is said of none
pub none_along : (w : Witness) (n : ℕ) (f : Timer → Bool) → f no_timer ≡ false
    → list_all (λ m. is_timer_below (length w.script.timers) m.shown) w.moves ≡ true
    → Along (λ t. f (timer_along w n t) ≡ false) 0 w.script.timers → (t : ℕ) → f (timer_along w n t) ≡ false
none_along w n f none there each =
    everywhere (λ t. f (timer_along w n t) ≡ false) w.script.timers each (λ t past. ap f (absent_then w n t there past) ∙ none)

no_timer_seen : (x : Context) → seen_in x no_timer ≡ no_timer
no_timer_seen contexts.Hard = refl
no_timer_seen contexts.Soft = refl

-- what is said of no timer, and of none that is there, as a context sees them, is said of none
pub none_then : (w : Witness) (x : Context) (n : ℕ) (f : Timer → Bool) → f no_timer ≡ false
    → list_all (λ m. is_timer_below (length w.script.timers) m.shown) w.moves ≡ true
    → Along (λ t. f (in_context x (timer_along w n) t) ≡ false) 0 w.script.timers → (t : ℕ) → f (in_context x (timer_along w n) t) ≡ false
none_then w x n f none there each = everywhere (λ t. f (in_context x (timer_along w n) t) ≡ false) w.script.timers each
    (λ t past. ap (λ timer. f (seen_in x timer)) (absent_then w n t there past) ∙ ap f (no_timer_seen x) ∙ none)

-- nothing is left to do on a base, where no function of a timer that is there runs, none comes first, and the base is stopped
pub stopped_by : (w : Witness) (x : Context) (reading base n : ℕ) → list_all (λ m. is_timer_below (length w.script.timers) m.shown) w.moves ≡ true
    → next_on x ((system_along w n).bases base) (reading_at w.run.clock reading) ≡ None
    → Along (λ t. runs_on base (in_context x (timer_along w n) t) ≡ false) 0 w.script.timers
    → ((clock : ClockId) → IsStopped (in_context x (timer_along w n)) base (reading_at w.run.clock reading) clock) → IsDone w x reading base n
stopped_by w x reading base n there first free stopped =
    record { free = none_then w x n (runs_on base) refl there free; first = first; stopped = stopped }

-- the same, where no timer that is there is kept on the base
pub done_by : (w : Witness) (x : Context) (reading base n : ℕ) → list_all (λ m. is_timer_below (length w.script.timers) m.shown) w.moves ≡ true
    → next_on x ((system_along w n).bases base) (reading_at w.run.clock reading) ≡ None
    → Along (λ t. runs_on base (in_context x (timer_along w n) t) ≡ false) 0 w.script.timers
    → ((clock : ClockId) → Along (λ t. is_kept_on base clock (in_context x (timer_along w n) t) ≡ false) 0 w.script.timers)
    → IsDone w x reading base n
done_by w x reading base n there first free kept = stopped_by w x reading base n there first free
    (λ clock. inl (none_then w x n (is_kept_on base clock) refl there (kept clock)))
