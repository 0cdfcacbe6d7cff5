use Rattle.std.proofs.Common.{◌≡◌, ◌+◌, ◌∷◌, ◌∙◌, ◌||◌, sym, ap, None, Some, [], arith}
use Rattle.trace_read.specs.Lines.{event_told, events_in, has_timer_event, judged, known_after, line_verdict, lines_from, verdict_or}
use Rattle.trace_read.specs.Tallies.{onto_past}
use Rattle.trace_text.specs.Reading.{event_line}
use Rattle.trace_read.proofs.Lines.{of_line, onto_both}
use Rattle.trace_read.proofs.reader.Reader.end_line.Goals as goal

pub returns-in-Some : goal.returns-in-Some
returns-in-Some c = λ answer told stands.
    let k = stands.known in
    let line = event_line c.args.self.now.begun.items in
    let judged_is = c.in_ok-verdict.ensures.answer k stands.past stands.holds stands.events stands.tallies in
    let is : line_verdict c.args.self.now.number k line ≡ Some c.in-Some.verdict = sym judged_is.0 ∙ c.in-Some.is in
    let timed = c.args.self.now.timed || has_timer_event (event_told line) in (
      of_line c.args.self.now.number k line c.in-Some.verdict is,
      λ rest. stands.answers (10 ∷ rest)
          ∙ ap (λ v. verdict_or v (judged (c.args.self.now.number + 1) (known_after k line) timed (lines_from [] rest))) is,
    )

pub returns : goal.returns
returns c = λ answer told stands.
    let k = stands.known in
    let line = event_line c.args.self.now.begun.items in
    let timed = c.args.self.now.timed || has_timer_event (event_told line) in
    let judged_is = c.in_ok-verdict.ensures.answer k stands.past stands.holds stands.events stands.tallies in
    let taken = judged_is.1 c.in_default.is in
    let none : line_verdict c.args.self.now.number k line ≡ None = sym judged_is.0 ∙ c.in_default.is in
    let next : c.judge.new.self.number + 1 ≡ c.args.self.now.number + 1 = omega (arith, c.in_ok-verdict.ensures.number) in
    record {
      known = known_after k line;
      holds = taken.holds;
      events = taken.events;
      answers = λ rest. stands.answers (10 ∷ rest)
          ∙ ap (λ v. verdict_or v (judged (c.args.self.now.number + 1) (known_after k line) timed (lines_from [] rest))) none
          ∙ ap (λ n. judged n (known_after k line) timed (lines_from [] rest)) (sym next)
          ∙ ap (λ b. judged (c.judge.new.self.number + 1) (known_after k line) b (lines_from [] rest)) (sym taken.timed)
          ∙ ap (λ begun. judged (c.judge.new.self.number + 1) (known_after k line) c.judge.new.self.timed (lines_from begun rest)) (sym c.clear.ensures.items);
      past = onto_past stands.past (event_told line);
      tallies = taken.tallies;
      tells = λ rest. stands.tells (10 ∷ rest) ∙ onto_both stands.past (event_told line) (events_in (lines_from [] rest))
          ∙ ap (λ begun. onto_past (onto_past stands.past (event_told line)) (events_in (lines_from begun rest))) (sym c.clear.ensures.items);
    }
