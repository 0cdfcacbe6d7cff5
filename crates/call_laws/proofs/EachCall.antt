-- Each call is kept, of whatever kind; first the looks at an object: the overrun of a POSIX timer, its setting, and whether a descriptor is ready.
use Rattle.call_laws.proofs.CallKept.{clock_left, reading_of_seen}
use Rattle.call_laws.proofs.Expired.{keeps_expire}
use Rattle.call_laws.proofs.Noted.{with_done-joins}
use Rattle.call_laws.proofs.OffLine.{keeps_offline, keeps_online}
use Rattle.call_laws.proofs.RearmedCalls.{keeps_accept, keeps_read, keeps_gettime-fd}
use Rattle.call_laws.proofs.Settimes.{keeps_settime}
use Rattle.call_laws.proofs.Sleeps.{keeps_interrupt, keeps_sleep, keeps_slept}
use Rattle.call_laws.proofs.Sights.{keeps_seen}
use Rattle.call_laws.proofs.TimerCalls.{keeps_cancel, keeps_start}
use Rattle.call_laws.proofs.Turns.{next_begun, turn_plain, turn_read}
use Rattle.call_laws.proofs.Writing.{keeps_write}
use Rattle.clock_cell.specs.Views.{writes}
use Rattle.ktime.specs.Readings.{ClockReading}
use Rattle.lane_notes.proofs.Declared.{declared_over, over_of}
use Rattle.lane_notes.proofs.Kept.{IsNextCall, KeepsCall, KeepsTurn}
use Rattle.lane_notes.proofs.PartLists.{no_notes-joins}
use Rattle.lane_notes.specs.Called.{Called, CalledThen, CallsReading, lane_caller, LaneOf, CallsObject, ReadsClockFirst, gettime_told}
use Rattle.lane_notes.specs.Worlds.{WorldOf}
use Rattle.posix_timer.specs.States.{PosixTimer, setting_of}
use Rattle.record_text.specs.declared.record.Answer.TheVariants as answers
use Rattle.record_text.specs.declared.record.Answer.{Answer}
use Rattle.run_history.specs.Calls.{IsPosix, reads_clock}
use Rattle.run_history.specs.Histories.{reading_at}
use Rattle.script_text.specs.Declarations.{kind_of}
use Rattle.script_text.specs.declared.script.Call.TheVariants as calls
use Rattle.script_text.specs.declared.script.Call.{Call}
use Rattle.script_text.specs.declared.script.Kind.TheVariants as kinds
use Rattle.script_text.specs.declared.script.Kind.{Kind}
use Rattle.script_text.specs.declared.script.Script.{Script}
use Rattle.std.proofs.Common.{[], length, sym, subst, ◌≡◌, ℕ, refl, ap, ◌∙◌, true, Some}
use Rattle.std.proofs.lemmas.Bool.{true≢false}
use Rattle.timer_fd.specs.States.{is_readable}
use Rattle.timer_objects.specs.Calls.{Caller, Gettimes, IsPosixKind, LooksAtObject, posix_in}
use Rattle.timer_objects.specs.declared.object.Object.TheVariants as objects
use Rattle.timer_objects.specs.declared.object.Object.{Object}
use Rattle.timer_objects.specs.declared.answers.Gettime.TheVariants as gettimes
use Rattle.timer_objects.specs.declared.answers.Gettime.{Gettime}
use Rattle.timer_objects.specs.declared.object.Kind as object_kind
use Rattle.timer_objects.specs.declared.object.Kind.TheVariants as over
use Rattle.call_laws.proofs.ObjectLooks.{fd_looked, keeps_look, posix_found}
use Rattle.call_laws.proofs.Sigwait.{keeps_sigwait}

-- ---- looks at objects

-- law: a lane keeps a look at an overrun
pub keeps_overrun : {s : Script} {x : WorldOf} {l m : LaneOf} {a : Answer} {timer : ℕ} → IsNextCall s x l (calls.Overrun timer)
    → CalledThen x l (calls.Overrun timer) a m → KeepsCall s l (calls.Overrun timer) a m
keeps_overrun {s = s} {l = l} {m = m} {timer = timer} next called =
    let c = called.1 in
    let found = called.0 in
    subst (λ a. KeepsCall s l (calls.Overrun timer) a m) (sym c.tells)
    (keeps_look m next (answers.Overrun found.overrun found.stamp) c.looks.2 (clock_left c.clock) c.signals
    (c.notes ∙ no_notes-joins l.notes ∙ sym (with_done-joins l.notes l.label [] [])) (λ e. refl) (λ e follows point is. (
      point,
      ap (λ (u : PosixTimer). u.overrun) (sym (posix_found s e.run timer found.stamp (kind_of s timer) is c.looks.3)) ∙ sym c.looks.4,
    )))

-- law: a lane keeps a look at whether a descriptor is ready
pub keeps_readable : {s : Script} {x : WorldOf} {l m : LaneOf} {a : Answer} {timer : ℕ} → IsNextCall s x l (calls.Readable timer)
    → CalledThen x l (calls.Readable timer) a m → KeepsCall s l (calls.Readable timer) a m
keeps_readable {s = s} {l = l} {m = m} {timer = timer} next called =
    let c = called.1 in
    let found = called.0 in
    let ws = writes m.pass.clock.knows in
    subst (λ a. KeepsCall s l (calls.Readable timer) a m) (sym c.does.1)
    (keeps_look m next (answers.Readable found.ready c.reading.stamp found.stamp) c.does.0.1 (clock_left c.reads.same) c.signals
    c.notes (λ e. (refl, c.reads.count)) (λ e follows point is. (
      point,
      ap (λ u. is_readable u (reading_at e.run.clock (length ws))) (sym (fd_looked s e.run timer found.stamp (kind_of s timer) is))
          ∙ ap (is_readable c.does.0.0) (reading_of_seen e ws follows.clock ∙ sym c.reads.shows) ∙ sym c.does.0.2,
    )))

-- the setting of a POSIX timer was told, which is in the object that was looked at
keeps_setting : {s : Script} {x : WorldOf} {l m : LaneOf} {a : Answer} {timer left interval stamp : ℕ} {Does : Caller → Caller → ClockReading → Type 0}
    → IsNextCall s x l (calls.Gettime timer) → IsPosix (kind_of s timer) → (c : CallsObject x l m a Does) (object : Object) (t : PosixTimer)
    → posix_in object ≡ Some t → LooksAtObject (lane_caller l.pass [] []) (lane_caller m.pass c.log c.object_log) timer object stamp
    → record { left = left; interval = interval } ≡ setting_of t c.reading → a ≡ answers.LeftAt left interval c.reading.stamp stamp
    → KeepsCall s l (calls.Gettime timer) a m
keeps_setting {s = s} {l = l} {m = m} {timer = timer} {left = left} {interval = interval} {stamp = stamp} next kind c object t has looks is_set told =
    let ws = writes m.pass.clock.knows in
    subst (λ b. KeepsCall s l (calls.Gettime timer) b m) (sym told)
    (keeps_look m next (answers.LeftAt left interval c.reading.stamp stamp) looks (clock_left c.reads.same) c.signals c.notes
    (λ e. (refl, (kind, c.reads.count)))
    (λ e follows point is. (
      point,
      ap (λ u. setting_of u (reading_at e.run.clock (length ws))) (sym (posix_found s e.run timer stamp (kind_of s timer) is has))
          ∙ ap (setting_of t) (reading_of_seen e ws follows.clock ∙ sym c.reads.shows) ∙ sym is_set,
    )))

-- law: a lane keeps a gettime of a POSIX timer, whether its signals are queued or not
keeps_gettime-posix : {s : Script} {x : WorldOf} {l m : LaneOf} {a : Answer} {timer : ℕ} (k : object_kind.Kind) → IsPosixKind k
    → IsNextCall s x l (calls.Gettime timer) → IsPosix (kind_of s timer) → (g : Gettime)
    → CallsObject x l m a (λ old new reading. Gettimes x.objects x.timers.about old new timer reading k g × (a ≡ gettime_told k reading.stamp g))
    → KeepsCall s l (calls.Gettime timer) a m
keeps_gettime-posix over.Posix posix next kind (gettimes.Left left interval stamp) c =
    keeps_setting next kind c (objects.Posix c.does.0.0) c.does.0.0 refl c.does.0.1 c.does.0.2 c.does.1
keeps_gettime-posix over.Queued posix next kind (gettimes.Left left interval stamp) c =
    keeps_setting next kind c (objects.Queued c.does.0.0) c.does.0.0.timer refl c.does.0.1 c.does.0.2 c.does.1
keeps_gettime-posix over.Posix posix next kind (gettimes.Spent stamp) c = absurd c.does.0
keeps_gettime-posix over.Queued posix next kind (gettimes.Spent stamp) c = absurd c.does.0
keeps_gettime-posix k posix next kind g c = absurd posix

-- ---- each call

-- law: a lane keeps a gettime
pub keeps_gettime : {s : Script} {x : WorldOf} {l m : LaneOf} {a : Answer} {timer : ℕ} → IsNextCall s x l (calls.Gettime timer)
    → CalledThen x l (calls.Gettime timer) a m → KeepsCall s l (calls.Gettime timer) a m
keeps_gettime {s = s} {x = x} {l = l} {m = m} {a = a} {timer = timer} next called =
    by_kind (kind_of s timer) refl (subst CallsFor (declared_over s x timer next.world) called.1)
  where
    CallsFor : object_kind.Kind → Type 0
    CallsFor k = CallsObject x l m a (λ old new reading. Gettimes x.objects x.timers.about old new timer reading k called.0
        × (a ≡ gettime_told k reading.stamp called.0))

    by_kind : (k : Kind) → kind_of s timer ≡ k → CallsFor (over_of k) → KeepsCall s l (calls.Gettime timer) a m
    by_kind (kinds.Raw context callback) is c = absurd c.does.0
    by_kind (kinds.Posix base) is c = keeps_gettime-posix over.Posix tt next (subst IsPosix (sym is) tt) called.0 c
    by_kind (kinds.Fd base) is c = keeps_gettime-fd next is called.0 c
    by_kind (kinds.Queued base) is c = keeps_gettime-posix over.Queued tt next (subst IsPosix (sym is) tt) called.0 c
    by_kind (kinds.Sleeper base) is c = absurd c.does.0

-- law: a call by a reading that was taken is kept by itself
keeps_then : {s : Script} {x : WorldOf} {l m : LaneOf} {call : Call} {a : Answer} → ReadsClockFirst call → IsNextCall s x l call → CalledThen x l call a m
    → KeepsCall s l call a m × (m.pass.clock ≡ l.pass.clock)
keeps_then {call = calls.Start timer request} takes next c = (keeps_start next c, c.reads.same)
keeps_then {call = calls.Expire context base budget} takes next c = (keeps_expire next c, c.reads.same)
keeps_then {call = calls.Settime timer flags value interval} takes next c = (keeps_settime next c, c.2.reads.same)
keeps_then {call = calls.Gettime timer} takes next c = (keeps_gettime next c, c.1.reads.same)
keeps_then {call = calls.Accept timer} takes next c = (keeps_accept next c, c.2.reads.same)
keeps_then {call = calls.Read timer len} takes next c = (keeps_read next c, c.2.reads.same)
keeps_then {call = calls.Readable timer} takes next c = (keeps_readable next c, c.1.reads.same)
keeps_then {call = calls.Sleep timer flags time} takes next c = (keeps_sleep next c, c.2.reads.same)
keeps_then {call = calls.Interrupt timer} takes next c = (keeps_interrupt next c, c.2.reads.same)
keeps_then {call = calls.Sigwait} takes next c = (keeps_sigwait next c, c.reads.same)
keeps_then {call = calls.Offline base heir budget} takes next c = (keeps_offline next c, c.reads.same)
keeps_then {call = calls.Clock write} takes next c = absurd takes
keeps_then {call = calls.Cancel timer} takes next c = absurd (true≢false (sym takes))
keeps_then {call = calls.Peek timer} takes next c = absurd (true≢false (sym takes))
keeps_then {call = calls.Overrun timer} takes next c = absurd (true≢false (sym takes))
keeps_then {call = calls.Slept timer} takes next c = absurd (true≢false (sym takes))
keeps_then {call = calls.Online base} takes next c = absurd (true≢false (sym takes))

keeps_reading : {s : Script} {x : WorldOf} {l m : LaneOf} {call : Call} {a : Answer} → ReadsClockFirst call → reads_clock call ≡ true → IsNextCall s x l call
    → CallsReading x l m call a → KeepsTurn s l call a m
keeps_reading takes reads next c =
    let kept = keeps_then takes (next_begun c.reads next) c.called in turn_read c.reads reads kept.1 kept.0

-- law: a lane keeps each call in its turn
pub keeps_call : (s : Script) (x : WorldOf) (l m : LaneOf) (call : Call) (a : Answer) → IsNextCall s x l call → Called x l call a m → KeepsTurn s l call a m
keeps_call s x l m (calls.Cancel timer) a next c = turn_plain refl (keeps_cancel next c)
keeps_call s x l m (calls.Peek timer) a next c =
    turn_plain refl (subst (λ a. KeepsCall s l (calls.Peek timer) a m) (sym c.2) (keeps_seen next _ c.1 (λ e. refl) (λ e saw. saw)))
keeps_call s x l m (calls.Overrun timer) a next c = turn_plain refl (keeps_overrun next c)
keeps_call s x l m (calls.Slept timer) a next c = turn_plain refl (keeps_slept next c)
keeps_call s x l m (calls.Online base) a next c = turn_plain refl (keeps_online next c)
keeps_call s x l m (calls.Clock write) a next c = keeps_write next c
keeps_call s x l m call a next c = keeps_reading refl refl next c
