use Rattle.std.proofs.Common.{◌+◌, ◌*◌, string_bytes}
use Rattle.script_text.specs.Generator.{turn, drawn_turns}
use Rattle.script_text.specs.Scripts.{round_lines}
use Rattle.script_text.proofs.Generated.{draws_more, lines_of_calls, no_draws, turns_more, written_more}
use Rattle.script_text.proofs.generating.write_round.Goals as goal

pub loop-i-init : goal.loop-i-init
loop-i-init c = record {
  text = c.in_ok-push_str.ensures.bytes;
  now = no_draws (3 * c.args.lanes) c.args.x;
  small = c.requires.small;
}

pub loop-i-preserved : goal.loop-i-preserved
loop-i-preserved c =
    let i = c.loop-i.i in
    let x = c.loop-i.now in
    let lanes = c.args.lanes in
    let so_far = c.loop-i.invariant in record {
      text = written_more (string_bytes c.args.out.now) (string_bytes c.loop-i.out) (string_bytes c.write_turn.new.out)
          (round_lines (record { calls = drawn_turns c.args.x lanes i })) (lines_of_calls (turn x lanes))
          (round_lines (record { calls = drawn_turns c.args.x lanes (i + 1) })) so_far.text c.in_ok-now.ensures.text
          (turns_more c.args.x lanes i x so_far.now);
      now = draws_more (3 * lanes) i c.args.x x c.in_ok-now.now so_far.now c.in_ok-now.ensures.next.0;
      small = c.in_ok-now.ensures.next.1;
    }
