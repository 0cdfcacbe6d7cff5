use Rattle.hr_timers.proofs.Turning.{forget}
use Rattle.hr_timers.proofs.timers.Timers.offline.Goals as goal

pub returns-clause-fits : goal.returns-clause-fits
returns-clause-fits g c = forget (λ s receipt. s) c.args.self.now.about c.args.base c.args.heir c.args.reading c.args.pass.now.known
    c.offline_logged.new.pass.known c.args.budget c.offline_logged.result _ _ c.offline_logged.ensures.fits
