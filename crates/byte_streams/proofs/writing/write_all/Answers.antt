use Rattle.std.proofs.Common.{rules, ◌∙◌}
use Rattle.byte_streams.proofs.writing.write_all.Goals as goal
use Rattle.byte_streams.proofs.Streams.{Adds-more}

pub loop-at-preserved : goal.loop-at-preserved
loop-at-preserved g c = record {
  front = Adds-more _ _ _ c.args.text.now c.loop-at.at c.in_ok-at.field-0 c.loop-at.invariant.front c.in_ok-at.ensures.bytes;
  calm = c.in_ok-at.ensures.cause.ok ∙ c.loop-at.invariant.calm;
  within = search rules;
}
