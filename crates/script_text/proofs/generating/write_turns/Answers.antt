use Rattle.std.proofs.Common.{◌≤◌, ◌+◌, ◌-◌, ◌*◌, ◌++◌, min, string_bytes, refl, sym, ap, ◌∙◌, append_assoc, arith, ℕ, List}
use Rattle.std.specs.List.{flat_map, range_with_len}
use Rattle.std.proofs.lemmas.List.{append-nil}
use Rattle.script_text.specs.declared.form.Line.{Line}
use Rattle.script_text.specs.Generator.{clock_round, four_turns, lines_bytes, drawn_turns}
use Rattle.script_text.specs.Scripts.{round_lines}
use Rattle.script_text.proofs.Generated.{four_draws_more, four_turns_more, no_draws, written_more}
use Rattle.script_text.proofs.generating.write_turns.Goals as goal

pub loop-i-init : goal.loop-i-init
loop-i-init c = record {
  text = sym (append-nil (string_bytes c.args.out.now));
  now = λ few. no_draws (3 * c.args.lanes) c.args.seed;
  small = omega (arith, c.requires.seed);
}

pub loop-i-preserved : goal.loop-i-preserved
loop-i-preserved c =
    let i = c.loop-i.i in
    let x = c.loop-i.x in
    let seed = c.args.seed in
    let lanes = c.args.lanes in
    let count = c.args.calls in
    let so_far = c.loop-i.invariant in
    let before : 4 * i ≤ count = omega (arith, c.loop-i-test.true) in
    let here = so_far.now before in
    let done = flat_map round_lines (flat_map (four_turns seed lanes count) (range_with_len 0 i)) in
    let last : List Line = round_lines (record { calls = drawn_turns x lanes (min 4 (count - 4 * i)) }) in
    let clock = written_more (string_bytes c.args.out.now) (string_bytes c.loop-i.out) (string_bytes c.write_clock_round.new.out) done
    (round_lines clock_round) (done ++ round_lines clock_round) so_far.text c.in_ok-write_clock_round.ensures refl in
    record {
      text = written_more (string_bytes c.args.out.now) (string_bytes c.write_clock_round.new.out) (string_bytes c.write_round.new.out)
          (done ++ round_lines clock_round) last (flat_map round_lines (flat_map (four_turns seed lanes count) (range_with_len 0 (i + 1)))) clock
          (c.in_ok-x.ensures.text
          ∙ ap (λ (k : ℕ). string_bytes c.write_clock_round.new.out ++ lines_bytes (round_lines (record { calls = drawn_turns x lanes k }))) c.min.ensures)
          (four_turns_more seed lanes count i x here ∙ sym (append_assoc done (round_lines clock_round) last));
      now = four_draws_more lanes i count c.min.result seed x c.in_ok-x.x c.min.ensures here c.in_ok-x.ensures.next.0;
      small = c.in_ok-x.ensures.next.1;
    }
