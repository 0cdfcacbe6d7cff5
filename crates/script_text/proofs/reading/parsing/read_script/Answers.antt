use Rattle.std.proofs.Common.{arith, sym, subst, ◌≡◌, map, ◌==◌}
use Rattle.std.specs.List.{slice_split}
use Rattle.script_text.proofs.Tails.{few_lines}
use Rattle.script_text.proofs.reading.parsing.read_script.Goals as goal

pub read_lines-requires : goal.read_lines-requires
read_lines-requires c =
    let parts = subst (λ ps. map (λ p. p.now) ps ≡ slice_split (λ b. b == 10) c.args.bytes.now) (sym c.deref.ensures.value) c.in_ok-parts.ensures in
    omega (
      arith,
      few_lines (λ p. p.now) c.without_empty_tail.result.now c.deref.result.now c.args.bytes.now c.without_empty_tail.ensures parts,
      c.if-bytes-gt-MOST_BYTES.false,
    )
