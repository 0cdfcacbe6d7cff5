-- What holds of what passes have seen is carried to passes that have seen more.
use Rattle.std.specs.List.{AllByRecursion, slice_get}
use Rattle.run_history.specs.Signals.{pop_counter, push_counter}
use Rattle.signal_queue.specs.Turns.{popped, pushed}
use Rattle.signal_queue.specs.declared.signal.Turn.{Turn}
use Rattle.signal_queue.specs.declared.signal.Turn.TheVariants.{Popped, Pushed}
use Rattle.std.proofs.Common.{ℕ, ◌+◌, ◌≡◌, ◌≤◌, Some, List, [], ◌∷◌, length, map, take, arith, refl, sym, ap, ◌∙◌, subst, ◌++◌}
use Rattle.clock_cell.specs.Views.{reading_after, writes}
use Rattle.pass_names.specs.Passes.{Begins, entries}
use Rattle.run_history.specs.Witnesses.{Owner, TimersList}
use Rattle.run_history.specs.Fits.{Seen}
use Rattle.run_history.specs.Receipts as receipts
use Rattle.run_history.specs.Runs.{CallLog, Ending}
use Rattle.run_history.specs.Histories.{ShowsReading}
use Rattle.timer_objects.specs.Known.{seen_of}
use Rattle.lane_notes.specs.declared.lane.WorldPass.{WorldPass}
use Rattle.std.proofs.lemmas.List.{take-append-le, append-nil, append_assoc}
use Rattle.std.proofs.lemmas.Option.{slice_get_within}
use Rattle.run_history.proofs.Known.{made_goes_on}
use Rattle.run_history.proofs.Lists.{at_left}
use Rattle.lane_notes.specs.Rounds.{BeginsRound, HasSplit, LeftOf, TakesInPass}
use Rattle.lane_notes.specs.declared.lane.Lane.{Lane}
use Rattle.pass_names.proofs.Passes.{begins_length, begins_trans}
use Rattle.seq_timer.specs.declared.system.SystemEntry.{SystemEntry}
use Rattle.run_history.proofs.Owners.{count-append}
use Rattle.lane_notes.specs.Runs.{ObjectMove}
use Rattle.signal_queue.specs.Rules.{turns}
use Rattle.script_text.specs.declared.script.Script.{Script}
use Rattle.lane_notes.proofs.PartLists.{each_weaker}
use Rattle.lane_notes.proofs.Kept.{AreTurnsOf, IsTurnSeen, signal_at, seen_by, SeesOn, FollowsObject, Follows, NoteKind, NoteOf, IsNoteSeen, StandAt, EntryNotes, LookNotes, ObjectNotes, SkipNotes, BaseNotes, WriteNotes}

-- a lane has seen no less
pub record IsNoLess (before after : Seen) : Type 0 where
  pub clock : before.clock ≤ after.clock
  pub moves : before.moves ≤ after.moves

-- ---- passes that have seen more than others

-- law: a run that goes on from what was seen goes on from what was seen before
pub goes_before : {A : Type 0} {xs ys all : List A} → Begins xs ys → (later : List A) × (all ≡ ys ++ later) → (later : List A) × (all ≡ xs ++ later)
goes_before {xs = xs} begins on = (begins.rest ++ on.0, on.1 ∙ ap (λ zs. zs ++ on.0) begins.whole ∙ append_assoc xs begins.rest on.0)

-- a list has no fewer entries where more was seen
pub count_begins : (o : Owner) {xs ys : List SystemEntry} → Begins xs ys → receipts.count_owned o xs ≤ receipts.count_owned o ys
count_begins o {xs} begins = omega (arith, ap (receipts.count_owned o) begins.whole, count-append o xs begins.rest)

-- an equal list begins with it
pub begins_same : {A : Type 0} {xs ys : List A} → ys ≡ xs → Begins xs ys
begins_same {xs = xs} same = record { rest = []; whole = same ∙ sym (append-nil xs) }

-- an item of a list stands in each that begins with it
pub stands_on : {X : Type 0} {xs ys : List X} (i : ℕ) {x : X} → Begins xs ys → slice_get xs i ≡ Some x → slice_get ys i ≡ Some x
stands_on {xs = xs} i {x} begins at = ap (λ zs. slice_get zs i) begins.whole ∙ at_left xs begins.rest i x at

-- of each list what was seen goes on
pub record SeesMore (p q : WorldPass) : Type 0 where
  pub timers : Begins p.timers.known.seen q.timers.known.seen
  pub clock : Begins (writes p.clock.knows) (writes q.clock.knows)
  pub objects : (i : ℕ) → Begins (seen_of p.objects i) (seen_of q.objects i)
  pub signals : Begins (turns p.signals.knows) (turns q.signals.knows)

-- ---- which have seen more

-- where they have seen the same
more_equal : {p q : WorldPass} → q.timers.known.seen ≡ p.timers.known.seen → q.objects.knows.pass.seen ≡ p.objects.knows.pass.seen
    → q.clock.knows.pass.seen ≡ p.clock.knows.pass.seen → q.signals.knows.pass.seen ≡ p.signals.knows.pass.seen → SeesMore p q
more_equal timers objects clock signals = record {
  timers = begins_same timers;
  clock = begins_same (ap (λ seen. entries 0 seen) clock);
  objects = λ i. begins_same (ap (λ seen. entries i seen) objects);
  signals = begins_same (ap (λ seen. entries 0 seen) signals);
}

pub more_same : {p : WorldPass} → SeesMore p p
more_same = more_equal refl refl refl refl

-- twice more
pub more_trans : {p q r : WorldPass} → SeesMore p q → SeesMore q r → SeesMore p r
more_trans one two = record {
  timers = begins_trans one.timers two.timers;
  clock = begins_trans one.clock two.clock;
  objects = λ i. begins_trans (one.objects i) (two.objects i);
  signals = begins_trans one.signals two.signals;
}

-- a lane's passes after a call
pub more_called : {p q : WorldPass} → SeesOn p q → SeesMore p q
more_called sees = record { timers = sees.timers; clock = sees.clock; objects = λ i. sees.objects.each i; signals = sees.signals }

-- passes that others were split off, as the first lane begins a round by them
pub more_split : {p q : WorldPass} → HasSplit p q → SeesMore p q
more_split split = more_equal split.timers.0 split.objects.0 split.clock.0 split.signals.0

-- a lane's passes at the begin of a round
pub more_begun : {p : WorldPass} {left : LeftOf} {lane : Lane} → BeginsRound p left lane → SeesMore p lane.pass
more_begun begins = more_equal begins.timers.0 begins.objects.0 begins.clock.0 begins.signals.0

-- law: passes that have taken in others have seen more than before
pub more_taken : {p other q : WorldPass} → TakesInPass p other q → SeesMore p q
more_taken takes = record {
  timers = takes.timers.seen;
  clock = takes.clock.seen.each 0;
  objects = λ i. takes.objects.seen.each i;
  signals = takes.signals.seen.each 0;
}

-- and than those have that they took in
pub more_heard : {p other q : WorldPass} → TakesInPass p other q → SeesMore other q
more_heard takes = record {
  timers = takes.timers.heard;
  clock = takes.clock.heard.each 0;
  objects = λ i. takes.objects.heard.each i;
  signals = takes.signals.heard.each 0;
}

-- ---- what follows of it

-- law: so they have seen no less
pub no_less : {p q : WorldPass} → SeesMore p q → IsNoLess (seen_by p) (seen_by q)
no_less more = record { clock = begins_length more.clock; moves = begins_length more.timers }

-- law: a run that goes on from what the ones have seen goes on from what the others have, of an object and of all
pub follows_object : {e : Ending} {i : ℕ} {xs ys : List ObjectMove} → Begins xs ys → FollowsObject e i ys → FollowsObject e i xs
follows_object begins its = record { history = its.history; goes_on = begins_trans begins its.goes_on; lines = its.lines }

pub follows_less : {p q : WorldPass} {e : Ending} → SeesMore p q → Follows q e → Follows p e
follows_less more follows = record {
  few = follows.few;
  timers = goes_before more.timers follows.timers;
  clock = goes_before more.clock follows.clock;
  objects = λ i. follows_object (more.objects i) (follows.objects i);
}

-- ---- what stands in what was seen

-- law: a call's receipts
pub stand_later : {p q : WorldPass} {log : CallLog} → SeesMore p q → StandAt p log → StandAt q log
stand_later {log = log} more stand = record {
  rise = stand.rise;
  below = stand.below;
  made = (made_goes_on _ _ more.timers.rest log.moves.0 log.moves.1 log.notes more.timers.whole
      (record { rise = stand.rise; below = stand.below; made = stand.made })).made;
  shows = λ e follows. stand.shows e (follows_less more follows);
}

-- law: pushes and pops keep their numbers as more is seen
signal_later : {s : Script} {xs ys : List Turn} (b : Begins xs ys) (x : ℕ × Turn) → IsTurnSeen s xs x → signal_at s xs x ≡ signal_at s ys x
signal_later {s = s} {xs = xs} {ys = ys} b (place, turn) is = by_turn turn
  where
    same : take place xs ≡ take place ys
    same = let less = slice_get_within xs place turn is.there in
        sym (ap (take place) b.whole ∙ take-append-le place xs b.rest (omega (arith, less)))

    by_turn : (t : Turn) → signal_at s xs (place, t) ≡ signal_at s ys (place, t)
    by_turn (Pushed signal) = ap (λ zs. (push_counter s, (length (pushed zs) + 1, signal))) same
    by_turn (Popped signal) = ap (λ zs. (pop_counter s, (length (popped zs) + 1, signal))) same

pub signals_later : (s : Script) {xs ys : List Turn} → Begins xs ys → (ts : List (ℕ × Turn)) → AllByRecursion (IsTurnSeen s xs) ts
    → map (signal_at s xs) ts ≡ map (signal_at s ys) ts
signals_later s b [] each = refl
signals_later s b (x ∷ ts) each = λ i. signal_later {s = s} b x each.0 i ∷ signals_later s b ts each.1 i

-- law: and its pushes and pops
pub turned_later : {s : Script} {p q : WorldPass} {log : CallLog} → SeesMore p q → AreTurnsOf s p log → AreTurnsOf s q log
turned_later {s = s} {log = log} more turned = record {
  rise = turned.rise;
  each = each_weaker log.turns (λ x is. record { there = stands_on x.0 more.signals is.there; of = is.of }) turned.each;
  are = turned.are ∙ signals_later s more.signals log.turns turned.each;
}

-- law: what a note is of
pub seen_later : (k : NoteKind) {p q : WorldPass} (log : CallLog) (n : NoteOf k) → SeesMore p q → IsNoteSeen k p log n → IsNoteSeen k q log n
seen_later EntryNotes log n more is = tt
seen_later LookNotes log n more is = (is.0, omega (arith, is.1, count_begins (TimersList n.timer) more.timers))
seen_later ObjectNotes log n more is = record {
  before = is.before;
  number = is.number;
  step = is.step;
  there = stands_on is.before (more.objects n.object) is.there;
  shows = λ e on. is.shows e (goes_before more.clock on);
}
seen_later BaseNotes log n more is = tt
seen_later SkipNotes log n more is = (is.0, omega (arith, is.1, begins_length (more.objects n.object)))
seen_later WriteNotes {p = p} {q = q} log n more is =
    let inside = slice_get_within (writes p.clock.knows) is.before n.line.write is.there in
    let same : take n.stamp (writes q.clock.knows) ≡ take n.stamp (writes p.clock.knows) =
    ap (take n.stamp) more.clock.whole ∙ take-append-le n.stamp (writes p.clock.knows) more.clock.rest (omega (arith, inside, is.number)) in record {
      before = is.before;
      number = is.number;
      inside = is.inside;
      there = stands_on is.before more.clock is.there;
      shows = subst (λ ws. ShowsReading n.line (reading_after ws)) (sym same) is.shows;
    }
