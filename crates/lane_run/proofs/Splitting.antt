-- Lanes that get passes of their own, one after another.
use Rattle.std.proofs.Common.{◌≡◌, ◌<◌, ◌+◌, ◌-◌, ℕ, suc, true, false, List, [], ◌∷◌, ◌++◌, length, map, get_or, refl, sym, ap, ◌∙◌, subst, arith}
use Rattle.std.specs.Prelude.{All}
use Rattle.std.proofs.lemmas.List.{append_assoc, map-append}
use Rattle.std.proofs.lemmas.List.Elements.{All-push}
use Rattle.record_text.specs.declared.record.Label.{Label}
use Rattle.script_text.specs.declared.script.Round.{Round}
use Rattle.lane_notes.specs.Notes.{no_notes}
use Rattle.lane_notes.specs.declared.lane.Lane.{Lane}
use Rattle.lane_notes.specs.declared.lane.WorldPass.{WorldPass}
use Rattle.lane_notes.specs.Rounds.{BeginsRound, HasSplit, IsLaneOf, IsMain, LeftOf, as_index, calling_from, has_calls}
use Rattle.lane_notes.specs.Worlds.{WorldOf}
use Rattle.lane_run.proofs.Mains.{lane_new, main_split, SplitsLane}
use Rattle.run_history.specs.Actions.{also}

-- the numbers of lanes
abbrev pub lane_names : List Lane → List ℕ
lane_names lanes = map (λ l. l.label.lane) lanes

-- of the numbers below this one, the lanes behind the first that have calls in a round have passes of their own
pub record SplitsSoFar (x : WorldOf) (r : Round) (p : WorldPass) (left : LeftOf) (number : ℕ) (q : WorldPass) (made : List Lane) : Type 0 where
  pub main : IsMain x q made
  pub split : HasSplit p q
  pub lanes : All (λ (l : Lane). IsLaneOf x l) made
  pub begins : All (λ (l : Lane). BeginsRound p left l) made
  pub behind : 0 < number
  pub names : (n : ℕ) → number + n ≡ length left.answers
      → lane_names made ++ calling_from r number n ≡ calling_from r 1 (length left.answers - 1)

pub splits_none : {x : WorldOf} {r : Round} {p : WorldPass} {left : LeftOf} → IsMain x p [] → SplitsSoFar x r p left 1 p []
splits_none {r = r} is = record {
  main = is;
  split = record { timers = (refl, refl); objects = (refl, refl); clock = (refl, refl); signals = (refl, refl) };
  lanes = λ k d h. absurd (omega (arith, h));
  begins = λ k d h. absurd (omega (arith, h));
  behind = omega arith;
  names = λ n all. ap (calling_from r 1) (omega (arith, all));
}

-- a lane that was just made with passes that were just split off
pub record IsFresh (left : LeftOf) (number : ℕ) (lane : Lane) : Type 0 where
  pub label : lane.label ≡ record { lane = number; call = as_index (length (get_or left.answers number [])) }
  pub notes : lane.notes ≡ no_notes
  pub answers : lane.answers.items ≡ []

-- past a lane without calls
pub splits_past : {x : WorldOf} {r : Round} {p : WorldPass} {left : LeftOf} {i : ℕ} {q : WorldPass} {lanes : List Lane}
    → has_calls r i ≡ false → SplitsSoFar x r p left i q lanes → SplitsSoFar x r p left (i + 1) q lanes
splits_past {r = r} {left = left} {i = i} {lanes = lanes} none so_far = record {
  main = so_far.main;
  split = so_far.split;
  lanes = so_far.lanes;
  begins = so_far.begins;
  behind = omega arith;
  names = λ n all. subst (λ b. lane_names lanes ++ also b i (calling_from r (i + 1) n) ≡ calling_from r 1 (length left.answers - 1)) none
      (so_far.names (suc n) (omega (arith, all)));
}

-- with one more
pub splits_more : {x : WorldOf} {r : Round} {p : WorldPass} {left : LeftOf} {i : ℕ} {m q : WorldPass} {lanes : List Lane} (lane : Lane)
    → i < length left.answers → has_calls r i ≡ true → SplitsLane x m q lane → IsFresh left i lane → SplitsSoFar x r p left i m lanes
    → SplitsSoFar x r p left (i + 1) q (lanes ++ lane ∷ [])
splits_more {x} {r} {p} {left} {i} {lanes = lanes} lane here calls split fresh so_far =
    let s = split.splits in record {
      main = main_split lane so_far.main split;
      split = record {
        timers = (ap (λ k. k.seen) s.timers ∙ so_far.split.timers.0, ap (λ k. k.mine) s.timers ∙ so_far.split.timers.1);
        objects = (ap (λ k. k.pass.seen) s.objects ∙ so_far.split.objects.0, ap (λ k. k.pass.mine) s.objects ∙ so_far.split.objects.1);
        clock = (ap (λ k. k.pass.seen) s.clock ∙ so_far.split.clock.0, ap (λ k. k.pass.mine) s.clock ∙ so_far.split.clock.1);
        signals = (ap (λ k. k.pass.seen) s.signals ∙ so_far.split.signals.0, ap (λ k. k.pass.mine) s.signals ∙ so_far.split.signals.1);
      };
      lanes = All-push (λ (l : Lane). IsLaneOf x l) lanes lane so_far.lanes
          (lane_new (subst (λ n. 0 < n) (sym (ap (λ (l : Label). l.lane) fresh.label)) so_far.behind) split);
      behind = omega arith;
      begins = All-push (λ (l : Lane). BeginsRound p left l) lanes lane so_far.begins (record {
        within = subst (λ n. n < length left.answers) (sym (ap (λ (l : Label). l.lane) fresh.label)) here;
        call = ap (λ (l : Label). l.call) fresh.label
            ∙ sym (ap (λ (l : Label). as_index (length (get_or left.answers l.lane []))) fresh.label);
        timers = (ap (λ k. k.seen) s.timers_new ∙ so_far.split.timers.0, ap (λ k. k.mine) s.timers_new);
        objects = (ap (λ k. k.pass.seen) s.objects_new ∙ so_far.split.objects.0, ap (λ k. k.pass.mine) s.objects_new);
        clock = (ap (λ k. k.pass.seen) s.clock_new ∙ so_far.split.clock.0, ap (λ k. k.pass.mine) s.clock_new);
        signals = (ap (λ k. k.pass.seen) s.signals_new ∙ so_far.split.signals.0, ap (λ k. k.pass.mine) s.signals_new);
        notes = fresh.notes;
        answers = fresh.answers;
      });
      names = λ n all. ap (λ ns. ns ++ calling_from r (i + 1) n)
          (map-append (λ (l : Lane). l.label.lane) lanes (lane ∷ []) ∙ ap (λ (l : Label). lane_names lanes ++ l.lane ∷ []) fresh.label)
          ∙ append_assoc (lane_names lanes) (i ∷ []) (calling_from r (i + 1) n)
          ∙ subst (λ b. lane_names lanes ++ also b i (calling_from r (i + 1) n) ≡ calling_from r 1 (length left.answers - 1)) calls
          (so_far.names (suc n) (omega (arith, all)));
    }
