use Rattle.std.proofs.Common.{rules, ◌+◌, ℕ, Result, Ok, Err, sym, ap, ◌∙◌, arith}
use Rattle.script_text.specs.declared.refusal.Cause.{Cause}
use Rattle.script_text.specs.declared.refusal.Cause.TheVariants as causes
use Rattle.script_text.specs.declared.refusal.Refused.{Refused}
use Rattle.script_text.specs.declared.script.Script.{Script}
use Rattle.script_text.proofs.Loop.{line_skipped, line_refused, line_taken, lines_end_early, lines_end}
use Rattle.script_text.proofs.reading.parsing.read_lines.Goals as goal

refused_at : Cause → ℕ → Result Script Refused
refused_at cause n = Err (record { line = n + 1; cause = cause })

pub loop-line-preserved-then-is_skipped : goal.loop-line-preserved-then-is_skipped
loop-line-preserved-then-is_skipped c = record {
  number = omega (arith, c.loop-line.invariant.number);
  so_far = line_skipped (λ p. p.now) c.args.lines.now c.loop-line.line-index c.loop-line.draft _ c.loop-line.invariant.so_far _ c.loop-line-test.true
      (sym c.is_skipped.ensures ∙ c.if-is_skipped.true);
  room = c.loop-line.invariant.room;
}

pub returns-in-Err : goal.returns-in-Err
unfolding refused_at
returns-in-Err c =
    ap (refused_at c.in-Err.cause) c.loop-line.invariant.number
    ∙ line_refused (λ p. p.now) c.args.lines.now c.loop-line.line-index c.loop-line.draft _
    c.loop-line.invariant.so_far _ c.in-Err.cause c.loop-line-test.true
    (sym c.is_skipped.ensures ∙ c.if-is_skipped.false) (search rules)

pub loop-line-preserved : goal.loop-line-preserved
loop-line-preserved c = record {
  number = omega (arith, c.loop-line.invariant.number);
  so_far = line_taken (λ p. p.now) c.args.lines.now c.loop-line.line-index c.loop-line.draft _
      c.loop-line.invariant.so_far _ _ c.loop-line-test.true
      (sym c.is_skipped.ensures ∙ c.if-is_skipped.false) (search rules);
  room = search rules;
}

pub returns-then-draft-lt4 : goal.returns-then-draft-lt4
unfolding refused_at
returns-then-draft-lt4 c =
    ap (refused_at causes.Unfinished) c.loop-line.invariant.number
    ∙ lines_end_early (λ p. p.now) c.args.lines.now c.loop-line.line-index c.loop-line.draft _
    c.loop-line.invariant.so_far c.loop-line-test.false c.if-draft-lt4.true

pub returns : goal.returns
returns c = ap (λ (s : Script). Ok s) c.in_ok-script.ensures
    ∙ lines_end (λ p. p.now) c.args.lines.now c.loop-line.line-index c.loop-line.draft _
    c.loop-line.invariant.so_far c.loop-line-test.false c.if-draft-lt4.false
