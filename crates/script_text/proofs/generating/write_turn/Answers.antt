use Rattle.std.proofs.Common.{[], ◌∷◌, ◌++◌, ◌+◌, string_bytes, sym, ap, ◌∙◌}
use Rattle.std.proofs.lemmas.List.{append-nil}
use Rattle.script_text.specs.declared.script.Call.{Call}
use Rattle.script_text.specs.Generator.{drawn_call, lines_bytes, turn}
use Rattle.script_text.specs.CallLines.{call_line}
use Rattle.script_text.proofs.Generated.{drawn, lines_of_calls, number_at_start, turn_more, written_more}
use Rattle.script_text.proofs.generating.write_turn.Goals as goal

pub loop-lane-init : goal.loop-lane-init
loop-lane-init c = record {
  text = sym (append-nil (string_bytes c.args.out.now));
  now = sym (number_at_start c.args.x);
  small = c.requires.small;
}

pub loop-lane-preserved : goal.loop-lane-preserved
loop-lane-preserved c =
    let i = c.loop-lane.lane in
    let so_far = c.loop-lane.invariant in
    let draws = drawn c.args.x c.loop-lane.now c.next-a.result c.next-b.result c.next-now.result i so_far.now c.next-a.ensures.next c.next-b.ensures.next
    c.next-now.ensures.next in
    record {
      text = written_more (string_bytes c.args.out.now) (string_bytes c.loop-lane.out) (string_bytes c.write_call.new.out)
          (lines_of_calls (turn c.args.x i)) (call_line i (drawn_call c.args.x i).call ∷ []) (lines_of_calls (turn c.args.x (i + 1))) so_far.text
          (c.in_ok-write_call.ensures ∙ ap (λ (call : Call). string_bytes c.loop-lane.out ++ lines_bytes (call_line i call ∷ [])) draws.call)
          (turn_more c.args.x i);
      now = draws.now;
      small = c.next-now.ensures.small;
    }
