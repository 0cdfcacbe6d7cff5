use Rattle.lane_run.proofs.Mains.{main_first, main_last}
use Rattle.lane_run.proofs.RunFits.{run_recorded}
use Rattle.lane_run.proofs.running.run.Goals as goal

pub run_rounds-main-requires-clause-main : goal.run_rounds-main-requires-clause-main
run_rounds-main-requires-clause-main g c = λ κs outlives. main_first c.requires.pass c.requires.first

pub close-requires-clause-last : goal.close-requires-clause-last
close-requires-clause-last g c = main_last c.run_rounds-main.ensures.main

pub returns-in-Ok-clause-last : goal.returns-in-Ok-clause-last
returns-in-Ok-clause-last g c = main_last c.run_rounds-main.ensures.main

pub returns-in-Ok-clause-fits : goal.returns-in-Ok-clause-fits
returns-in-Ok-clause-fits g c =
    (run_recorded c.args.script.now c.args.world c.args.pass c.in-Ok.shown c.run_rounds-main.result.0 c.requires.range c.requires.world c.requires.first
    c.run_rounds-main.ensures.main c.in-Ok.is c.run_rounds-main.ensures.run).fits

pub returns-in-Ok-clause-histories : goal.returns-in-Ok-clause-histories
returns-in-Ok-clause-histories g c =
    (run_recorded c.args.script.now c.args.world c.args.pass c.in-Ok.shown c.run_rounds-main.result.0 c.requires.range c.requires.world c.requires.first
    c.run_rounds-main.ensures.main c.in-Ok.is c.run_rounds-main.ensures.run).shows
