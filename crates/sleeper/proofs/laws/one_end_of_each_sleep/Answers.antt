use Rattle.std.proofs.Common.{arith, refl, ap, sym, ◌∙◌, ◌∷◌, ◌++◌}
use Rattle.timer_setting.specs.StepTables.{after_calls}
use Rattle.sleeper.specs.Histories.{begins_sleep}
use Rattle.sleeper.specs.States.{sleeper_opening}
use Rattle.sleeper.specs.Steps.{sleeper_step, sleeper_table}
use Rattle.sleeper.proofs.Sleeps.{all_balance, balances, begins, one, parts}
use Rattle.sleeper.proofs.laws.one_end_of_each_sleep.Goals as goal

pub returns-clause-between : goal.returns-clause-between
returns-clause-between c = λ clock base limit before middle after sleep next legal is again none.
    let s0 = sleeper_opening clock base limit in
    let cut0 = parts s0 before (sleep ∷ (middle ++ next ∷ after)) legal in
    let s1 = after_calls sleeper_table s0 before in
    let tied1 = (all_balance s0 before cut0.0 refl).tied in
    let begun1 = begins s1 sleep.call cut0.1.0 (ap begins_sleep (sym cut0.1.1) ∙ is) in
    let s2 = sleeper_step s1 sleep.call in
    let tied2 = (balances s1 sleep.call cut0.1.0 tied1).tied in
    let cut2 = parts s2 middle (next ∷ after) cut0.1.2 in
    let s3 = after_calls sleeper_table s2 middle in
    let begun3 = begins s3 next.call cut2.1.0 (ap begins_sleep (sym cut2.1.1) ∙ again) in
    omega (arith, (all_balance s2 middle cut2.0 tied2).sum, none, ap one begun1.one, ap one begun3.none)

pub returns-clause-last : goal.returns-clause-last
returns-clause-last c = λ clock base limit before after sleep legal is none.
    let s0 = sleeper_opening clock base limit in
    let cut0 = parts s0 before (sleep ∷ after) legal in
    let s1 = after_calls sleeper_table s0 before in
    let tied1 = (all_balance s0 before cut0.0 refl).tied in
    let begun1 = begins s1 sleep.call cut0.1.0 (ap begins_sleep (sym cut0.1.1) ∙ is) in
    let tied2 = (balances s1 sleep.call cut0.1.0 tied1).tied in
    omega (arith, (all_balance (sleeper_step s1 sleep.call) after cut0.1.2 tied2).sum, none, ap one begun1.one)
