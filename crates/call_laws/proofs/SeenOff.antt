-- Bases that a pass has seen off line, and on line, were so in the run; so the way of a start is one of the run.
use Rattle.lane_notes.specs.Worlds.{opening_for}
use Rattle.call_laws.proofs.Starts.{outs_of, sent_on}
use Rattle.call_laws.proofs.Stays.{standing_stays, timer_stays}
use Rattle.std.proofs.Common.{◌≡◌, ℕ, ◌+◌, List, [], ◌∷◌, length, ap, arith, ◌∙◌}
use Rattle.seq_timer.specs.Steps.{Timer, after}
use Rattle.seq_timer.specs.declared.event.EventBy.TheVariants as events
use Rattle.seq_timer.specs.declared.standing.Standing.{Standing}
use Rattle.seq_timer.specs.declared.system.SystemEntry.{SystemEntry}
use Rattle.base_row.specs.declared.view.Opening.{Opening}
use Rattle.hr_timers.specs.Ways.{Falls, Finds, IsSentBy, IsSentOn, IsWay}
use Rattle.hr_timers.proofs.Ways.{way_rises}
use Rattle.pass_names.specs.Passes.{Begins}
use Rattle.pass_names.proofs.Passes.{begins_length, begins_trans}
use Rattle.script_text.specs.declared.script.Script.{Script}
use Rattle.run_history.specs.Promises.{RunGoesOn}
use Rattle.run_history.specs.Runs.{witness_of, Ending, IsJoined}
use Rattle.run_history.specs.Starts.{BasesFall, FindsOnLine, HeirsLeadTo, IsSentByHeirs, IsSentOnByHeirs, Sight}
use Rattle.run_history.specs.Truths.{sight_of}
use Rattle.lane_notes.proofs.SeenMore.{goes_before}

-- in a run that goes on from what a pass has seen by the end of a call, from a moment of the call on
module _ (s : Script) (o : Opening) (is : o ≡ opening_for s) (e : Ending) (joined : IsJoined s e) (first high : List SystemEntry) (goes : RunGoesOn high e)
    (t : ℕ) where
  abbrev sight : Sight
  sight = sight_of (witness_of s e) (length first) (length high)

  way_seen : (low : List SystemEntry) (a : ℕ) (path : List ℕ) (b : ℕ) (at : List SystemEntry) → Begins at high → IsWay o low a path b at
      → HeirsLeadTo sight (length low) a path b (length at)
  way_seen low a [] b at seen way =
      (way.0, begins_length way.1.from, ap (λ (y : Standing). y.heir) (standing_stays is joined at (goes_before seen goes) a) ∙ way.1.stood)
  way_seen low a (c ∷ cs) b at seen way =
      let x = way.0 in
      let here = begins_trans (way_rises o x c cs b at way.2) seen in (
        length x,
        begins_length way.1.from,
        ap (λ (y : Standing). y.heir) (standing_stays is joined x (goes_before here goes) a) ∙ way.1.stood,
        way_seen x c cs b at seen way.2,
      )

  abbrev finds_seen : (low : List SystemEntry) (n a b : ℕ) → Finds o high t low n a b → FindsOnLine sight t (length low) (n + 1) a b
  finds_seen low n a b f = record {
    path = f.path;
    at = length f.at;
    way = way_seen low a f.path b f.at f.seen f.way;
    no_later = begins_length f.seen;
    before = omega (arith, f.few, ap (λ (y : Timer). y.stamp) (timer_stays is joined f.at (goes_before f.seen goes) t));
  }

  on_seen : (u : Timer) (low : List SystemEntry) (a : ℕ) (bs : List ℕ) (last : ℕ) → IsSentOn o high t low u.stamp a bs last
      → IsSentOnByHeirs sight t (length low) a (outs_of u bs) last
  on_seen u low a [] last sent = sent
  on_seen u low a (b ∷ bs) last sent =
      (finds_seen low u.stamp a b sent.0, sent.1, on_seen (after u (events.Out b)) sent.0.at b bs last sent.2)

  falls_seen : (u : Timer) (a : ℕ) (bs : List ℕ) → Falls a bs → BasesFall a (outs_of u bs)
  falls_seen u a [] falls = tt
  falls_seen u a (b ∷ bs) falls = (falls.0, falls_seen (after u (events.Out b)) b bs falls.1)

  -- law: the bases that a start was sent to were found on line in the run, each before the entry that names it
  pub sent_seen : (u : Timer) (a : ℕ) (sent : List ℕ) (last : ℕ) → IsSentBy o high t first u.stamp a sent last
      → IsSentByHeirs sight t a (outs_of u sent) ((sent_on u sent).stamp + 1) last
  sent_seen u a [] last sent = finds_seen first u.stamp a last sent
  sent_seen u a (b ∷ bs) last sent = (
    finds_seen first u.stamp a b sent.0,
    on_seen (after u (events.Out b)) sent.0.at b bs last sent.1,
    falls_seen (after u (events.Out b)) b bs sent.2,
  )
