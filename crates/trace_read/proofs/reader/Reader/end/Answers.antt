use Rattle.std.proofs.Common.{◌≡◌, ◌||◌, ◌∙◌, [], sym, ap, subst, None, Some}
use Rattle.trace_read.specs.declared.verdict.Verdict.TheVariants as verdicts
use Rattle.trace_read.specs.Lines.{verdict_at_end, event_told, has_timer_event, known_after, line_verdict, verdict_or}
use Rattle.trace_read.specs.Tallies.{IsTallyOf}
use Rattle.trace_text.specs.Reading.{event_line}
use Rattle.trace_read.proofs.Lines.{of_line, onto_both, tallied_of_line}
use Rattle.trace_read.proofs.reader.Reader.end.Goals as goal

pub returns-in-Some : goal.returns-in-Some
returns-in-Some c = λ answer told stands.
    let k = stands.known in
    let line = event_line c.args.self.now.begun.items in
    let judged_is = c.in_ok-verdict.ensures.answer k stands.past stands.holds stands.events stands.tallies in
    let is : line_verdict c.args.self.now.number k line ≡ Some c.in-Some.verdict = sym judged_is.0 ∙ c.in-Some.is in
    let last = verdict_at_end (c.args.self.now.timed || has_timer_event (event_told line)) (known_after k line).count in
    (stands.answers [] ∙ ap (λ v. verdict_or v last) is, tallied_of_line c.in-Some.verdict _ _ (of_line c.args.self.now.number k line c.in-Some.verdict is))

pub returns-then-self : goal.returns-then-self
returns-then-self c = λ answer told stands.
    let k = stands.known in
    let line = event_line c.args.self.now.begun.items in
    let timed = c.args.self.now.timed || has_timer_event (event_told line) in
    let judged_is = c.in_ok-verdict.ensures.answer k stands.past stands.holds stands.events stands.tallies in
    let taken = judged_is.1 c.in_default.is in
    let none : line_verdict c.args.self.now.number k line ≡ None = sym judged_is.0 ∙ c.in_default.is in
    let count = (known_after k line).count in (
      stands.answers [] ∙ ap (λ v. verdict_or v (verdict_at_end timed count)) none ∙ ap (λ b. verdict_at_end b count) (sym taken.timed ∙ c.if-self.true)
          ∙ ap (λ n. verdicts.Fits n) (sym taken.events),
      subst (λ past. IsTallyOf c.judge.new.self.tally past) (sym (stands.tells [] ∙ onto_both stands.past (event_told line) [])) taken.tallies,
    )

pub returns-else-self : goal.returns-else-self
returns-else-self c = λ answer told stands.
    let k = stands.known in
    let line = event_line c.args.self.now.begun.items in
    let timed = c.args.self.now.timed || has_timer_event (event_told line) in
    let judged_is = c.in_ok-verdict.ensures.answer k stands.past stands.holds stands.events stands.tallies in
    let taken = judged_is.1 c.in_default.is in
    let none : line_verdict c.args.self.now.number k line ≡ None = sym judged_is.0 ∙ c.in_default.is in
    let count = (known_after k line).count in (
      stands.answers [] ∙ ap (λ v. verdict_or v (verdict_at_end timed count)) none ∙ ap (λ b. verdict_at_end b count) (sym taken.timed ∙ c.if-self.false),
      tt,
    )
