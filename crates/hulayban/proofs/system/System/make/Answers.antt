use Rattle.std.proofs.Common.{rules}
use Rattle.hulayban.proofs.Whole.{as_many, none_asked, whole_of}
use Rattle.hulayban.proofs.system.System.make.Goals as goal

pub invariant_of-system : goal.invariant_of-system
invariant_of-system c =
    (whole_of c.args.bases c.args.declared.now c.args.terms _ c.requires.range (search rules), as_many c.args.declared.now _ _ (search rules) (search rules), none_asked c.args.declared.now _ (search rules))
