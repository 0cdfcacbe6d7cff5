use Rattle.std.proofs.Common.{ap, sym, ◌∙◌, ◌∷◌, ◌++◌, ◌≡◌}
use Rattle.timer_setting.specs.Phases.{clock_by, expiry_by, is_expiry_of, phase_by}
use Rattle.timer_setting.specs.StepTables.{after_calls}
use Rattle.timer_setting.specs.declared.trigger_answer.TriggerAnswer.{TriggerAnswer}
use Rattle.timer_setting.specs.declared.trigger_answer.TriggerAnswer.TheVariants as triggers
use Rattle.timer_setting.specs.declared.answers.SleepAnswer.TheVariants.{Asleep}
use Rattle.timer_setting.specs.declared.object_call.ObjectCall.TheVariants as calls
use Rattle.timer_setting.specs.declared.object_call.ObjectReply.{ObjectReply}
use Rattle.timer_setting.specs.declared.object_call.ObjectReply.TheVariants as replies
use Rattle.sleeper.specs.Histories.{SleeperEntry}
use Rattle.sleeper.specs.States.{sleeper_opening}
use Rattle.sleeper.specs.Steps.{sleeper_step, sleeper_table}
use Rattle.sleeper.proofs.Expiries.{counted_is, expiry_reached, same_clock, same_phase}
use Rattle.sleeper.proofs.Sleeps.{expiry_armed, parts}
use Rattle.sleeper.proofs.laws.no_sleep_ends_early.Goals as goal

abbrev trigger_in : ObjectReply → TriggerAnswer
trigger_in (replies.Trigger answer) = answer
trigger_in reply = triggers.Stale

pub returns : goal.returns
returns c = λ clock base limit before middle after call generation reading legal none.
    let s0 = sleeper_opening clock base limit in
    let sleep : SleeperEntry = record { call = calls.Sleep call; reply = replies.Sleep Asleep } in
    let last : SleeperEntry = record { call = calls.Trigger generation reading; reply = replies.Trigger triggers.Counted } in
    let cut0 = parts s0 before (sleep ∷ (middle ++ last ∷ after)) legal in
    let s1 = after_calls sleeper_table s0 before in
    let s2 = sleeper_step s1 (calls.Sleep call) in
    let cut2 = parts s2 middle (last ∷ after) cut0.1.2 in
    let s3 = after_calls sleeper_table s2 middle in
    let is = counted_is (is_expiry_of s3.phase generation reading) (ap trigger_in cut2.1.1) in
    let same = same_phase s2 middle cut2.0 none (expiry_armed s3.phase generation reading is) in
    let phase : s3.phase ≡ phase_by clock call.flags call.time call.reading call.arm =
    same ∙ ap (λ d. phase_by d call.flags call.time call.reading call.arm) (same_clock s0 before) in
    expiry_reached call.arm (clock_by clock call.flags) (expiry_by clock call.flags call.time call.reading) generation reading
    (ap (λ p. is_expiry_of p generation reading) (sym phase) ∙ is)
