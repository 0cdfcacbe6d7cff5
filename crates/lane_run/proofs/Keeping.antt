-- What passes keep while a lane calls.
use Rattle.std.proofs.Common.{refl, ◌∙◌}
use Rattle.lane_notes.specs.declared.lane.WorldPass.{WorldPass}
use Rattle.lane_notes.specs.Worlds.{KeepPasses}

pub keep_refl : {p : WorldPass} → KeepPasses p p
keep_refl = record { timers = refl; claims = refl; objects = refl; clock = refl; signals = refl }

pub keep_trans : {p q r : WorldPass} → KeepPasses p q → KeepPasses q r → KeepPasses p r
keep_trans a b = record {
  timers = b.timers ∙ a.timers;
  claims = b.claims ∙ a.claims;
  objects = b.objects ∙ a.objects;
  clock = b.clock ∙ a.clock;
  signals = b.signals ∙ a.signals;
}
