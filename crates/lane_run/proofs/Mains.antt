-- The first passes answer for the lanes' passes of each kind, while these are split off and until they are taken in.
use Rattle.lane_notes.specs.Rounds.{LeadsFor}
use Rattle.std.proofs.Common.{◌≡◌, ℕ, suc, ◌<◌, List, [], ◌∷◌, ◌++◌, length, map, get_or, refl, ap, sym, ◌∙◌, subst, arith}
use Rattle.std.proofs.lemmas.List.{append-nil, map-append}
use Rattle.pass_names.specs.declared.PassId.{PassId}
use Rattle.pass_names.specs.Names.{AnswersFor, Covers, after_retire, after_split, child_of}
use Rattle.pass_names.proofs.Covering.{covers_answers, covers_last, covers_none, covers_retire, covers_split}
use Rattle.hr_timers.specs.Known.{KnownOfTimers}
use Rattle.script_text.specs.declared.script.Round.{Round}
use Rattle.lane_notes.specs.declared.lane.Lane.{Lane}
use Rattle.lane_notes.specs.declared.lane.WorldPass.{WorldPass}
use Rattle.lane_notes.specs.Rounds.{CanRun, IsLaneOf, IsMain, RunsLane, TakesInPass}
use Rattle.lane_notes.specs.Worlds.{AnswerFor, AreFirst, AreLast, ArePassesOf, KeepPasses, SplitsPass, WorldOf}

-- ---- of one kind of pass; `id_of` is the lane's

module _ (id_of : Lane → PassId) where
  abbrev names : List Lane → List (List ℕ)
  names lanes = map (λ x. (id_of x).name) lanes

  names_push : (lanes : List Lane) (lane : Lane) → names (lanes ++ lane ∷ []) ≡ names lanes ++ (id_of lane).name ∷ []
  names_push lanes lane = map-append (λ x. (id_of x).name) lanes (lane ∷ [])

  leads_push : {l m : PassId} (lanes : List Lane) (lane : Lane) → m ≡ after_split l → id_of lane ≡ child_of l → LeadsFor l (names lanes)
      → LeadsFor m (names (lanes ++ lane ∷ []))
  leads_push {l} {m} lanes lane splitter child leads = (
    ap (λ (i : PassId). i.name) splitter ∙ leads.0,
    subst (Covers m) (sym (names_push lanes lane)) (covers_split l m (id_of lane) (names lanes) splitter child leads.1),
  )

  answers_pop : {l : PassId} (lanes : List Lane) (lane : Lane) → LeadsFor l (names (lanes ++ lane ∷ [])) → AnswersFor l (id_of lane)
  answers_pop {l} lanes lane leads = covers_answers l (id_of lane) (names lanes) [] (subst (Covers l) (names_push lanes lane) leads.1)

  leads_pop : {l m : PassId} (lanes : List Lane) (lane : Lane) → (id_of lane).split ≡ [] → m ≡ after_retire l (id_of lane)
      → LeadsFor l (names (lanes ++ lane ∷ [])) → LeadsFor m (names lanes)
  leads_pop {l} {m} lanes lane alone retired leads = (
    ap (λ (i : PassId). i.name) retired ∙ leads.0,
    subst (Covers m) (append-nil (names lanes))
        (covers_retire l (id_of lane) m (names lanes) [] alone retired (subst (Covers l) (names_push lanes lane) leads.1)),
  )

  names_same : (old new : List Lane) → length new ≡ length old → ((k : ℕ) (d : Lane) → k < length old → id_of (get_or new k d) ≡ id_of (get_or old k d))
      → names old ≡ names new
  names_same [] [] len each = refl
  names_same (x ∷ xs) (y ∷ ys) len each =
      ap (λ (n : PassId). n.name ∷ names xs) (sym (each 0 x (omega arith)))
      ∙ ap (λ ns. (id_of y).name ∷ ns) (names_same xs ys (omega arith) (λ k d h. each (suc k) d (omega arith)))
  names_same [] (y ∷ ys) len each = absurd (omega arith)
  names_same (x ∷ xs) [] len each = absurd (omega arith)

  leads_same : {l m : PassId} (old new : List Lane) → m ≡ l → length new ≡ length old
      → ((k : ℕ) (d : Lane) → k < length old → id_of (get_or new k d) ≡ id_of (get_or old k d)) → LeadsFor l (names old) → LeadsFor m (names new)
  leads_same {l} {m} old new same len each leads =
      subst (LeadsFor m) (names_same old new len each) (subst (λ i. LeadsFor i (names old)) (sym same) leads)

-- ---- of each kind

-- passes were split off for a lane
pub record SplitsLane (x : WorldOf) (p q : WorldPass) (lane : Lane) : Type 0 where
  pub pass : ArePassesOf x q
  pub of : ArePassesOf x lane.pass
  pub splits : SplitsPass p q lane.pass

-- these are the lane's
pub splits_lane : {x : WorldOf} {p q new : WorldPass} (lane : Lane) → lane.pass ≡ new → ArePassesOf x q × ArePassesOf x new → SplitsPass p q new
    → SplitsLane x p q lane
splits_lane {x} {p} {q} lane same passes splits = record {
  pass = passes.0;
  of = subst (ArePassesOf x) (sym same) passes.1;
  splits = subst (SplitsPass p q) (sym same) splits;
}

pub main_split : {x : WorldOf} {p q : WorldPass} {lanes : List Lane} (lane : Lane) → IsMain x p lanes → SplitsLane x p q lane
    → IsMain x q (lanes ++ lane ∷ [])
main_split {lanes = lanes} lane is split = let s = split.splits in record {
  pass = split.pass;
  unclaimed = ap (λ k. k.claims) s.timers ∙ is.unclaimed;
  timers = leads_push (λ l. l.pass.timers.known.id) lanes lane (ap (λ k. k.id) s.timers) (ap (λ k. k.id) s.timers_new) is.timers;
  objects = leads_push (λ l. l.pass.objects.knows.pass.id) lanes lane (ap (λ k. k.pass.id) s.objects) (ap (λ k. k.pass.id) s.objects_new) is.objects;
  clock = leads_push (λ l. l.pass.clock.knows.pass.id) lanes lane (ap (λ k. k.pass.id) s.clock) (ap (λ k. k.pass.id) s.clock_new) is.clock;
  signals = leads_push (λ l. l.pass.signals.knows.pass.id) lanes lane (ap (λ k. k.pass.id) s.signals) (ap (λ k. k.pass.id) s.signals_new) is.signals;
}

-- a lane with passes that were just split off
pub lane_new : {x : WorldOf} {p q : WorldPass} {lane : Lane} → 0 < lane.label.lane → SplitsLane x p q lane → IsLaneOf x lane
lane_new behind split = record {
  behind = behind;
  pass = split.of;
  unclaimed = ap (λ k. k.claims) split.splits.timers_new;
  timers = ap (λ k. k.id.split) split.splits.timers_new;
  objects = ap (λ k. k.pass.id.split) split.splits.objects_new;
  clock = ap (λ k. k.pass.id.split) split.splits.clock_new;
  signals = ap (λ k. k.pass.id.split) split.splits.signals_new;
}

pub answers_last : {x : WorldOf} {p : WorldPass} (lanes : List Lane) (lane : Lane) → IsMain x p (lanes ++ lane ∷ []) → AnswerFor p lane.pass
answers_last lanes lane is = record {
  timers = answers_pop (λ l. l.pass.timers.known.id) lanes lane is.timers;
  objects = answers_pop (λ l. l.pass.objects.knows.pass.id) lanes lane is.objects;
  clock = answers_pop (λ l. l.pass.clock.knows.pass.id) lanes lane is.clock;
  signals = answers_pop (λ l. l.pass.signals.knows.pass.id) lanes lane is.signals;
}

pub main_takes : {x : WorldOf} {p q : WorldPass} (lanes : List Lane) {lane : Lane} → IsMain x p (lanes ++ lane ∷ []) → IsLaneOf x lane
    → ArePassesOf x q → TakesInPass p lane.pass q → IsMain x q lanes
main_takes lanes {lane} is of pass takes = record {
  pass = pass;
  unclaimed = takes.timers.claims ∙ ap (λ cs. cs ++ lane.pass.timers.known.claims) is.unclaimed ∙ of.unclaimed;
  timers = leads_pop (λ l. l.pass.timers.known.id) lanes lane of.timers takes.timers.id is.timers;
  objects = leads_pop (λ l. l.pass.objects.knows.pass.id) lanes lane of.objects takes.objects.id is.objects;
  clock = leads_pop (λ l. l.pass.clock.knows.pass.id) lanes lane of.clock takes.clock.id is.clock;
  signals = leads_pop (λ l. l.pass.signals.knows.pass.id) lanes lane of.signals takes.signals.id is.signals;
}

pub main_last : {x : WorldOf} {p : WorldPass} → IsMain x p [] → AreLast p
main_last is = record {
  timers = covers_last _ is.timers.0 is.timers.1;
  objects = covers_last _ is.objects.0 is.objects.1;
  clock = covers_last _ is.clock.0 is.clock.1;
  signals = covers_last _ is.signals.0 is.signals.1;
  unclaimed = is.unclaimed;
}

-- the passes that a world is made with answer for no others
pub main_first : {x : WorldOf} {p : WorldPass} → ArePassesOf x p → AreFirst x p → IsMain x p []
main_first {p = p} pass first = record {
  pass = pass;
  unclaimed = ap (λ (k : KnownOfTimers). k.claims) first.timers;
  timers = none (ap (λ (k : KnownOfTimers). k.id.name) first.timers) (ap (λ (k : KnownOfTimers). k.id.split) first.timers);
  objects = none (ap (λ v. v.pass.id.name) first.objects) (ap (λ v. v.pass.id.split) first.objects);
  clock = none (ap (λ v. v.pass.id.name) first.clock) (ap (λ v. v.pass.id.split) first.clock);
  signals = none (ap (λ v. v.id.name) first.signals) (ap (λ v. v.id.split) first.signals);
}
  where
    none : {l : PassId} → l.name ≡ [] → l.split ≡ [] → LeadsFor l []
    none {l} name alone = (name, covers_none l alone)

-- the first passes, and lanes, that have run
pub main_ran : {x : WorldOf} {p q : WorldPass} (old new : List Lane) → ArePassesOf x q → KeepPasses p q → length new ≡ length old
    → ((k : ℕ) (d : Lane) → k < length old → KeepPasses (get_or old k d).pass (get_or new k d).pass) → IsMain x p old → IsMain x q new
main_ran {p = p} {q = q} old new pass keeps len each is = record {
  pass = pass;
  unclaimed = keeps.claims ∙ is.unclaimed;
  timers = leads_same (λ l. l.pass.timers.known.id) old new keeps.timers len (λ k d h. (each k d h).timers) is.timers;
  objects = leads_same (λ l. l.pass.objects.knows.pass.id) old new keeps.objects len (λ k d h. (each k d h).objects) is.objects;
  clock = leads_same (λ l. l.pass.clock.knows.pass.id) old new keeps.clock len (λ k d h. (each k d h).clock) is.clock;
  signals = leads_same (λ l. l.pass.signals.knows.pass.id) old new keeps.signals len (λ k d h. (each k d h).signals) is.signals;
}

-- a lane behind the first that has run
pub lane_ran : {x : WorldOf} {r : Round} {old new : Lane} → RunsLane x r old new → IsLaneOf x old → IsLaneOf x new
lane_ran ran is = record {
  behind = subst (λ n. 0 < n) (sym ran.name) is.behind;
  pass = ran.pass;
  unclaimed = ran.keeps.claims ∙ is.unclaimed;
  timers = ap (λ (l : PassId). l.split) ran.keeps.timers ∙ is.timers;
  objects = ap (λ (l : PassId). l.split) ran.keeps.objects ∙ is.objects;
  clock = ap (λ (l : PassId). l.split) ran.keeps.clock ∙ is.clock;
  signals = ap (λ (l : PassId). l.split) ran.keeps.signals ∙ is.signals;
}

-- who can make calls: the first lane with the first passes, and each lane behind it
pub first_can : {x : WorldOf} {lanes : List Lane} (first : Lane) {p : WorldPass} → first.pass ≡ p → IsMain x p lanes → CanRun x first
first_can {x} first same is = record {
  pass = subst (ArePassesOf x) (sym same) is.pass;
  first = λ here. ap (λ (q : WorldPass). q.timers.known.id.name) same ∙ is.timers.0;
}

pub lane_can : {x : WorldOf} {l : Lane} → IsLaneOf x l → CanRun x l
lane_can is = record { pass = is.pass; first = λ here. absurd (omega (arith, is.behind, here)) }
