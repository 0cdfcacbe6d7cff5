use Rattle.std.proofs.Common.{◌≡◌, ◌∙◌, ℕ, rules, refl, subst}
use Rattle.hr_timers.proofs.ExpiryEnds.{expires_of, run_leaves}
use Rattle.hr_timers.specs.Expiring.{Expires}
use Rattle.timer_objects.specs.QueuedFirings.{IsSameQueuedLoan, QueuedFiring}
use Rattle.hulayban.proofs.Hands.{loan_same, loan_trans, served_loan, served_runs}
use Rattle.hulayban.specs.Runs.{RunsServed, hand_of}
use Rattle.hulayban.specs.Serving.{functions}
use Rattle.hulayban.specs.Systems.{SystemOf}
use Rattle.hulayban.specs.declared.serving.Served.{Served}
use Rattle.hulayban.proofs.serving.serve.Goals as goal

pub returns-clause-runs : goal.returns-clause-runs
returns-clause-runs g c =
    let m = g.H.Handler.meaning in
    let ran = c.expire_in in
    let done = ran.new.handler in
    let about = c.system.inside.timers.about in
    let lent : done.firing.ghost_name ≡ _ =
    run_leaves _ _ _ (λ (h h' : Served _). h'.firing.ghost_name ≡ h.firing.ghost_name) (λ h. refl) (λ h i j a b. b ∙ a)
    (λ h h' v w n restart did. did.lent_still) _ _ _ _ _ _ _ _ _ _ ran.ensures.expires in
    let kept : done.own.ghost_name ≡ _ =
    run_leaves _ _ _ (λ (h h' : Served _). h'.own.ghost_name ≡ h.own.ghost_name) (λ h. refl) (λ h i j a b. b ∙ a)
    (λ h h' v w n restart did. did.kept_still) _ _ _ _ _ _ _ _ _ _ ran.ensures.expires in
    let loan : IsSameQueuedLoan c.args.lent.now done.firing.now =
    run_leaves _ _ _ (λ (h h' : Served _). IsSameQueuedLoan h.firing.now h'.firing.now) (λ h. loan_same h.firing.now)
    (λ h i j a b. loan_trans h.firing.now i.firing.now j.firing.now a b)
    (λ h h' v w n restart did. served_loan m about h.firing.now h'.firing.now h.own.now h'.own.now v w n c.args.run.reading restart _ _ _ _ _ did)
    _ _ _ _ _ _ _ _ _ _ ran.ensures.expires in
    let inner : Expires (functions m) about c.args.run.context c.args.run.base c.args.run.reading c.into.result c.args.pass.now.known
    (hand_of c.args.lent.now c.args.own.now) c.args.log.now.receipts ran.new.pass.known (hand_of done.firing.now done.own.now) ran.new.log.receipts ran.result =
    expires_of _ (functions m) (λ (h : Served _). hand_of h.firing.now h.own.now) _ _
    (λ h h' v w n restart did. served_runs m about h.firing.now h'.firing.now h.own.now h'.own.now v w n c.args.run.reading restart _ _ _ _ _ did)
    _ _ _ _ _ _ _ _ _ _ ran.ensures.expires in
    let budget_is : c.into.result ≡ c.args.run.budget = search rules in
    let it : RunsServed m c.args.system.now.timers.about c.args.run c.args.pass.now.known c.args.lent.now c.args.own.now c.args.log.now.receipts ran.new.pass.known
    done.firing.now done.own.now ran.new.log.receipts ran.result = record {
      expires = subst (λ (x : SystemOf). Expires (functions m) x.timers.about c.args.run.context c.args.run.base c.args.run.reading c.args.run.budget
          c.args.pass.now.known (hand_of c.args.lent.now c.args.own.now) c.args.log.now.receipts ran.new.pass.known (hand_of done.firing.now done.own.now)
          ran.new.log.receipts ran.result) c.system.view_is
          (subst (λ (budget : ℕ). Expires (functions m) about c.args.run.context c.args.run.base c.args.run.reading budget c.args.pass.now.known
          (hand_of c.args.lent.now c.args.own.now) c.args.log.now.receipts ran.new.pass.known (hand_of done.firing.now done.own.now) ran.new.log.receipts ran.result)
          budget_is inner);
      loan = loan;
      keeps = ran.ensures.keeps;
    } in
    let as_left : (f : QueuedFiring) (own : g.row.H.Denot) → done.firing.now ≡ f → done.own.now ≡ own → RunsServed m c.args.system.now.timers.about c.args.run
    c.args.pass.now.known c.args.lent.now c.args.own.now c.args.log.now.receipts ran.new.pass.known f own ran.new.log.receipts ran.result = λ f own e d.
    subst (λ (f : QueuedFiring). RunsServed m c.args.system.now.timers.about c.args.run c.args.pass.now.known c.args.lent.now c.args.own.now
    c.args.log.now.receipts ran.new.pass.known f own ran.new.log.receipts ran.result) e
    (subst (λ (own : g.row.H.Denot). RunsServed m c.args.system.now.timers.about c.args.run c.args.pass.now.known c.args.lent.now c.args.own.now
    c.args.log.now.receipts ran.new.pass.known done.firing.now own ran.new.log.receipts ran.result) d it) in
    as_left _ _ (search rules) (search rules)
