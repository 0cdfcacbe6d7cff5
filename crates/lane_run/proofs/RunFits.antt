-- A run of lanes leaves a record that fits its script, and shows all that its last passes have seen.
use Rattle.std.proofs.Common.{[], ◌+◌, arith, length, sym, subst, ◌≡◌, ◌<◌, ◌≤◌, ap, ◌∙◌}
use Rattle.std.specs.Prelude.{IfOk, Ok, Result}
use Rattle.std.specs.declared.alloc.AllocError.{AllocError}
use Rattle.lane_run.proofs.Mains.{main_last}
use Rattle.lane_notes.specs.Rounds.{IsMain}
use Rattle.std.proofs.lemmas.List.{length-map}
use Rattle.clock_cell.specs.Views.{writes}
use Rattle.lane_notes.specs.Records.{record_from}
use Rattle.record_text.specs.declared.record.RunRecord.{RunRecord}
use Rattle.run_history.specs.Fits.{Fits}
use Rattle.run_history.proofs.Run.{run_fits, shows}
use Rattle.script_text.specs.Scripts.{IsInRange}
use Rattle.script_text.specs.declared.script.Script.{Script}
use Rattle.lane_notes.proofs.Left.{AreLastOf, AreLastPasses, ending_of}
use Rattle.lane_notes.specs.Runs.{MakesRun, ShowsAllSeen}
use Rattle.lane_notes.specs.Worlds.{AreFirst, decl_of, IsWorldOf, WorldOf}
use Rattle.lane_notes.specs.declared.lane.WorldPass.{WorldPass}
use Rattle.record_laws.proofs.ClockLines.{clock_writes}
use Rattle.record_laws.proofs.Ended.{is_ending, is_run}
use Rattle.round_laws.proofs.LeftByRounds.{left_by_rounds}
use Rattle.lane_run.proofs.Making.{whole_of}
use Rattle.record_laws.proofs.ObjectLines.{object_lines_show}
use Rattle.record_laws.proofs.Signalled.{signals}
use Rattle.ordered_clock.proofs.Moments.{rises}
use Rattle.ordered_signals.specs.Places.{pops_seen, pops_told, pushes_seen, pushes_told}
use Rattle.pass_names.proofs.SharedHistory.{looks_trans}
use Rattle.round_laws.proofs.Settled.{before_looks, left_later, only_hears, only_looks, only_settles, rounds_later}
use Rattle.record_laws.proofs.BaseLines.{shows_shifts}
use Rattle.record_laws.proofs.SeenThere.{same_entries, same_shifts}
use Rattle.call_laws.proofs.EachCall.{keeps_call}

-- ---- the run

-- what a run's record is: it fits the script, and shows all that was seen
pub record IsWholeRecord (s : Script) (r : RunRecord) (q : WorldPass) : Type 0 where
  pub fits : Fits s r
  pub shows : ShowsAllSeen r q

-- so is the record of a run from the first passes on
of_run : (s : Script) (x : WorldOf) (p : WorldPass) (r : RunRecord) (q : WorldPass) → IsInRange s → IsWorldOf s x → AreFirst x p → IsMain x q []
    → MakesRun x s p r q → IsWholeRecord s r q
of_run s x p r q range world first main run =
    let whole = whole_of s x range world in
    let made = left_by_rounds s x p run.before run.left (keeps_call s x) world range whole first run.rounds in
    let w = before_looks run.settled q in
    let settled = only_settles run.settles in
    let heard = only_hears run.heard in
    let looked = only_looks run.settled run.looks in
    let left = left_later looked (left_later heard (left_later settled made.2)) in
    let rounds = rounds_later looked (rounds_later heard (rounds_later settled made.3)) in
    let timers = looks_trans run.settled.timers.known run.queued.timers.known q.timers.known run.heard.timers run.looks.timers in
    let ended : AreLastPasses s x q = record { range = range; world = world; whole = whole; passes = main.pass; last = main_last main } in
    let still : AreLastPasses s x w = record {
      range = range;
      world = world;
      whole = whole;
      passes = record {
        timers = run.of.pass.timers;
        objects = main.pass.objects;
        clock = main.pass.clock;
        known = main.pass.known;
        heard = main.pass.heard;
        signals = main.pass.signals;
        queue = main.pass.queue;
      };
      last = record {
        timers = (main_last run.of).timers;
        objects = (main_last main).objects;
        clock = (main_last main).clock;
        signals = (main_last main).signals;
        unclaimed = (main_last run.of).unclaimed;
      };
    } in
    let of : AreLastOf s x w = record {
      of = still;
      told = run.settles.all ∙ ap (λ c. length (writes c.knows)) (sym (run.looks.clock ∙ run.heard.clock));
      no_more = λ i less. omega (
        arith,
        run.looks.no_more i (subst (λ n. i < n) (sym (ap length world.decls ∙ length-map s.timers decl_of)) less),
        rises (i + 1) run.heard.timers.seen,
      );
      pushes = subst (λ u. pushes_told x.timers.about run.settled.timers.known.seen ≤ pushes_seen u.knows) (sym run.looks.signals) run.heard.pushes;
      pops = subst (λ u. pops_told x.timers.about run.settled.timers.known.seen ≤ pops_seen u.knows) (sym run.looks.signals) run.heard.pops;
    } in
    let record_is = record_from s.version run.shows.sorted s.bases (length s.timers) run.left.answers in
    let e = ending_of record_is w (signals of left) made.0 made.1 in
    let ends = is_ending of left run.shows.in_order run.left.answers made.1 rounds in
    subst (λ y. IsWholeRecord s y q) (sym run.shows.shows) (record {
      fits = run_fits s record_is (is_run of left run.shows.in_order run.left.answers made.1 rounds);
      shows = record {
        clock = clock_writes of left run.shows.in_order;
        timers = λ t. shows s e ends t ∙ sym (same_entries still ended timers.seen timers.mine t);
        bases = λ b. shows_shifts s e ends b ∙ sym (same_shifts still ended timers.seen timers.mine b);
        objects = object_lines_show of left run.shows.in_order run.left.answers made.1;
      };
    })

-- law: so is the record of a run that wanted no memory
pub run_recorded : (s : Script) (x : WorldOf) (p : WorldPass) (r : RunRecord) (q : WorldPass) → IsInRange s → IsWorldOf s x → AreFirst x p
    → IsMain x q [] → {made : Result RunRecord AllocError} → made ≡ Ok r → IfOk made (λ k. MakesRun x s p k q) → IsWholeRecord s r q
run_recorded s x p r q range world first main ok makes =
    of_run s x p r q range world first main (subst (λ (k : Result RunRecord AllocError). IfOk k (λ y. MakesRun x s p y q)) ok makes)
