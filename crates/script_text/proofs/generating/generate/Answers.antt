use Rattle.std.proofs.Common.{sym, subst}
use Rattle.std.proofs.lemmas.Result.{IfOk-weaker}
use Rattle.script_text.specs.Generator.{generated}
use Rattle.script_text.specs.Scripts.{Reads}
use Rattle.script_text.proofs.GeneratedReads.{generated_reads}
use Rattle.script_text.proofs.generating.generate.Goals as goal

pub returns-clause-reads : goal.returns-clause-reads
returns-clause-reads c =
    let reads = generated_reads c.args.seed c.args.lanes c.args.calls c.requires.lanes.0 c.requires.lanes.1 c.requires.calls in
    let g = generated c.args.seed c.args.lanes c.args.calls in
    IfOk-weaker c.write_script.result _ (λ v. Reads v.items g) (λ v is. subst (λ bytes. Reads bytes g) (sym is) reads) c.write_script.ensures

pub returns-clause-range : goal.returns-clause-range
returns-clause-range c =
    (generated_reads c.args.seed c.args.lanes c.args.calls c.requires.lanes.0 c.requires.lanes.1 c.requires.calls).ranges
