use Rattle.std.proofs.Common.{List, [], ◌∷◌, ◌++◌, ap, ◌∙◌, append_assoc}
use Rattle.base_row.specs.declared.log.Receipt.{Receipt}
use Rattle.hr_timers.specs.Known.{timer_then}
use Rattle.hr_timers.specs.Expiring.{claim_receipt, finish_receipt}
use Rattle.hr_timers.proofs.ExpiryTurns.{claim_noted, has_claim, turn_keeps}
use Rattle.hr_timers.proofs.expiry.turn.Goals as goal

pub run-requires-clause-claim : goal.run-requires-clause-claim
run-requires-clause-claim g c = has_claim c.args.timers.now.about c.args.pass.now.known c.claim_in_logged.new.pass.known c.args.context c.args.base
    c.args.reading c.in-Claimed.claim c.in-Claimed.ensures.claims.claims

pub returns-in-Claimed-clause-keeps : goal.returns-in-Claimed-clause-keeps
returns-in-Claimed-clause-keeps g c =
    turn_keeps g.H.Handler.meaning c.args.timers.now.about c.args.context c.args.base c.args.reading c.args.pass.now.known c.args.handler.now
    c.run.new.pass.known c.run.new.handler c.in-Claimed.claim c.claim_in_logged.new.pass.known c.in-Claimed.ensures.claims.claims c.run.ensures.ran.0

pub returns-in-Claimed-clause-nexts : goal.returns-in-Claimed-clause-nexts
returns-in-Claimed-clause-nexts g c =
    let told = c.in-Claimed.ensures.claims in
    let log = c.args.log.now in
    let mid = c.claim_in_logged.new.sink in
    let claim = c.in-Claimed.claim in
    let ran = c.run.ensures.ran.0 in
    let one = claim_receipt c.args.reading claim ∷ [] in
    let two = finish_receipt claim ran.restart (timer_then c.args.timers.now.about ran.finishes.at claim.timer) ∷ [] in
    record {
      claim = claim;
      claimed = c.claim_in_logged.new.pass.known;
      claims = told.claims;
      ran = ran;
      receipts = c.run.ensures.ran.1
          ∙ (ap (λ (l : List Receipt). l ++ two) (claim_noted c.args.timers.now.about c.args.pass.now.known c.claim_in_logged.new.pass.known c.args.context
          c.args.base c.args.reading c.in-Claimed.claim log mid told) ∙ append_assoc log.receipts one two);
    }
