use Rattle.std.proofs.Common.{◌≡◌, ◌∙◌, None, Some, sym}
use Rattle.handoff.specs.declared.rule.Part.TheVariants.{Idle}
use Rattle.handoff.proofs.handoff.Handoff.give.Goals as goal

pub unreachable-requires : goal.unreachable-requires
unreachable-requires g c =
    let e : None ≡ Some c.in-Some.field-0 = sym (c.exchange.ensures.slot Idle None c.requires.giver).1 ∙ c.in-Some.is in
    cc

pub put-requires : goal.put-requires
put-requires g c = record { giver = (c.args.value, (c.requires.can, (c.exchange.ensures.slot Idle None c.requires.giver).0)) }

pub returns : goal.returns
returns g c = record { given = c.put.ensures.given c.args.value (c.exchange.ensures.slot Idle None c.requires.giver).0 }
