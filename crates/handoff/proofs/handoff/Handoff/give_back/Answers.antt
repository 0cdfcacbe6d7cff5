use Rattle.std.proofs.Common.{◌≡◌, ◌∙◌, None, Some, sym}
use Rattle.handoff.specs.declared.rule.Part.TheVariants.{Works}
use Rattle.handoff.proofs.handoff.Handoff.give_back.Goals as goal

pub unreachable-requires : goal.unreachable-requires
unreachable-requires g c =
    let v = c.requires.worker.0 in
    let e : None ≡ Some c.in-Some.field-0 = sym (c.exchange.ensures.slot (Works v) None c.requires.worker.1.0).1 ∙ c.in-Some.is in
    cc

pub put_back-requires : goal.put_back-requires
put_back-requires g c =
    let v = c.requires.worker.0 in record {
      worker = (v, (c.args.value, (c.requires.worker.1.1, (c.exchange.ensures.slot (Works v) None c.requires.worker.1.0).0)));
    }
