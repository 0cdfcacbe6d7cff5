use Rattle.pass_names.specs.Names.{first_pass_id}
use Rattle.pass_names.proofs.Names.{answers_split}
use Rattle.hr_timers.proofs.OneClaim.{last_again}
use Rattle.shared_timer_uses.proofs.tests.retire.Goals as goal

pub retire-requires-clause-answers : goal.retire-requires-clause-answers
retire-requires-clause-answers c = answers_split first_pass_id c.args.main.now.known.id c.args.other.known.id c.requires.first c.requires.child

pub returns-clause-last : goal.returns-clause-last
returns-clause-last c =
    last_again c.retire.new.main.known.id c.args.main.now.known.id c.args.other.known.id c.retire.ensures.retires.id c.requires.first c.requires.child
