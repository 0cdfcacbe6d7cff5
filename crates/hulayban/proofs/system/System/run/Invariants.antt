use Rattle.hulayban.specs.Systems.{handle_name}
use Rattle.hulayban.proofs.system.System.run.Given as goal

abbrev pub ghosts-run_at : goal.ghosts-run_at
ghosts-run_at g a = record { system = a.system.now; name = handle_name a.me }
