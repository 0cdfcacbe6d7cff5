use Rattle.std.proofs.Common.{◌≡◌, ◌+◌, ap, subst, ◌∙◌}
use Rattle.std.specs.Prelude.{OnOk}
use Rattle.seq_timer.specs.Systems.{updated}
use Rattle.trace_check.specs.Checkers.{HoldsKnowledge}
use Rattle.trace_check.specs.Knowledge.{claim_of, entered_there, is_inside, known_entered, with_claim, with_outer}
use Rattle.trace_check.specs.Traced.{context_at}
use Rattle.trace_check.proofs.checker.Checker.learn_entry.Goals as goal

pub returns : goal.returns
returns c = λ k now h.
    let t = c.args.timer in
    let site = c.args.site in
    let claimed = c.in_ok-note_claim.ensures k h in
    let outer = c.in_ok-note_outer.ensures _ claimed in
    let taken = c.in_ok-note_on.ensures _ outer in
    let noted = c.note.ensures _ taken in
    let known : c.known-known.result ≡ k.timers t = c.known-known.ensures ∙ h.timers t in
    let there : c.known_on-there.result ≡ k.processors site.processor = c.known_on-there.ensures ∙ h.processors site.processor in
    let line : c.context_at-line.result ≡ context_at site.context (k.timers t).told =
    c.context_at-line.ensures ∙ ap (λ kn. context_at site.context kn.told) known in
    let claim : c.claim.result ≡ claim_of k.count site (k.timers t) =
    c.claim.ensures ∙ ap (λ n. claim_of n site c.known-known.result) h.count ∙ ap (λ kn. claim_of k.count site kn) known in
    let processor : c.entered.result ≡ entered_there t (context_at site.context (k.timers t).told) (k.processors site.processor) =
    c.entered.ensures ∙ ap (λ l. entered_there t l c.known_on-there.result) line
    ∙ ap (λ p. entered_there t (context_at site.context (k.timers t).told) p) there in
    let entered : c.entered-2.result ≡ known_entered site (is_inside (k.processors site.processor)) (k.timers t) =
    c.entered-2.ensures ∙ ap (λ b. known_entered site b c.known-known.result) (c.is_inside.ensures ∙ ap (λ p. is_inside p) there)
    ∙ ap (λ kn. known_entered site (is_inside (k.processors site.processor)) kn) known in
    subst (λ e. OnOk c.note.result (HoldsKnowledge c.note.new.self (record {
      timers = updated (with_outer (k.processors site.processor).loose k.timers) t e;
      processors = updated k.processors site.processor (entered_there t (context_at site.context (k.timers t).told) (k.processors site.processor));
      claims = with_claim (claim_of k.count site (k.timers t)) k.claims;
      count = k.count + 1;
    }))) entered
    (subst (λ p. OnOk c.note.result (HoldsKnowledge c.note.new.self (record {
      timers = updated (with_outer (k.processors site.processor).loose k.timers) t c.entered-2.result;
      processors = updated k.processors site.processor p;
      claims = with_claim (claim_of k.count site (k.timers t)) k.claims;
      count = k.count + 1;
    }))) processor
    (subst (λ q. OnOk c.note.result (HoldsKnowledge c.note.new.self (record {
      timers = updated (with_outer (k.processors site.processor).loose k.timers) t c.entered-2.result;
      processors = updated k.processors site.processor c.entered.result;
      claims = with_claim q k.claims;
      count = k.count + 1;
    }))) claim
    (subst (λ p. OnOk c.note.result (HoldsKnowledge c.note.new.self (record {
      timers = updated (with_outer p.loose k.timers) t c.entered-2.result;
      processors = updated k.processors site.processor c.entered.result;
      claims = with_claim c.claim.result k.claims;
      count = k.count + 1;
    }))) there noted)))
